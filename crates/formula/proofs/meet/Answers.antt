use native.Mathlib.Omega.{arith}
use Rattle.formula.proofs.Checking.{meets-short, meets-wrong, meets_on}
use Rattle.formula.proofs.meet.Goals as goal
use Rattle.formula.proofs.meet.Goals.{then-token-eq0-via-then-token-eq0, then-token-eq0-via-else-token-eq0+then-tokens-token}

pub returns-then-token-eq0 : goal.returns-then-token-eq0
returns-then-token-eq0 c =
    elim c.then-token-eq0.branch [
      | then-token-eq0-via-then-token-eq0 w ↦ meets-short _ _ _ w.if-token-eq0.true
      | then-token-eq0-via-else-token-eq0+then-tokens-token w ↦
          meets-wrong _ _ _ (omega (arith, w.if-token-eq0.false)) c.requires w.if-tokens-token.true
    ]

pub returns : goal.returns
returns c = meets_on _ _ _ (omega arith) c.requires c.if-tokens-token.false
