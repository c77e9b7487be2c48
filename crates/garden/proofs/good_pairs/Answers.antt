use Rattle.std.proofs.Common.{sym, ◌∙◌}
use Rattle.words.proofs.Theorems.Tests.{tests}
use Rattle.words.proofs.Theorems.Parts.{part-all}
use Rattle.garden.proofs.Theorems.Pairs.{good-step}
use Rattle.garden.proofs.Commands.{pairs-left}
use Rattle.garden.proofs.good_pairs.Goals as goal
use Rattle.garden.proofs.good_pairs.Goals.{then-kind-gt1-via-then-kind-gt1, then-kind-gt1-via-else-kind-gt1+then-not-symbol}

pub returns-then-kind-gt1 : goal.returns-then-kind-gt1
returns-then-kind-gt1 c =
    let l = c.loop-rest in
    let ws = l.rest.now in
    elim c.then-kind-gt1.branch [
      | then-kind-gt1-via-then-kind-gt1 w ↦ search (tests, ← l.invariant, good-step ws 0 c.in-len2-up.len_at_least, w.if-kind-gt1.true)
      | then-kind-gt1-via-else-kind-gt1+then-not-symbol w ↦
          search (tests, ← l.invariant, good-step ws 0 c.in-len2-up.len_at_least, w.if-kind-gt1.false, sym w.symbol.ensures ∙ w.if-not-symbol.true)
    ]

pub loop-rest-preserved : goal.loop-rest-preserved
loop-rest-preserved c =
    let l = c.loop-rest in
    let ws = l.rest.now in
    rw (part-all ws 2) (search (tests, ← l.invariant, good-step ws 0 c.in-len2-up.len_at_least, c.if-kind-gt1.false, sym c.symbol.ensures ∙ c.if-not-symbol.false))

pub returns : goal.returns
returns c = c.is_empty.ensures ∙ pairs-left c.loop-rest.rest.now c.in_default.len_below ∙ c.loop-rest.invariant
