use Rattle.std.proofs.Common.{◌≡◌, Err, rules, arith, sym, ◌∙◌}
use Rattle.words.specs.Code.{code}
use Rattle.words.proofs.Theorems.Faults.{code-some}
use Rattle.desk.specs.Code.{asked_over}
use Rattle.desk.proofs.Laws.{ground-passed, tried-fault, fit-tokens, tried-walk}
use Rattle.desk.proofs.Theorems.Promises.{walk-goes}
use Rattle.desk.proofs.parse_one.Goals as goal

pub returns-in_err-allowed : goal.returns-in_err-allowed
returns-in_err-allowed c =
    let g = c.args.ground.now in
    let q = asked_over g c.args.tokens.now in
    let y = c.in_err-allowed.field-0.0 in
    let e : c.from_residual.result ≡ Err (record { why = y; place = 0; passes = 0 }) = search rules in
    let f = c.in_err-allowed.ensures.number ∙ sym (ground-passed q.provable q.logic q.rules q.nodes q.edges g.rules g.tables _) in
    rw e (tried-fault q _ _ (code y) _ f λ z. absurd (omega (arith, z, code-some y)))

pub returns : goal.returns
returns c =
    let g = c.args.ground.now in
    let q = asked_over g c.args.tokens.now in
    let w = c.in_ok-allowed.ensures.few in
    tried-walk _ _ _ _ c.walk.ensures (walk-goes q _ _ (fit-tokens q g.rules g.tables w.0 w.1))
