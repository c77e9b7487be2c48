use Rattle.std.proofs.Common.{◌≡◌, Err, rules, arith}
use Rattle.words.specs.Code.{code}
use Rattle.words.proofs.Theorems.Faults.{code-some}
use Rattle.desk.specs.Code.{asked}
use Rattle.desk.proofs.Laws.{ground-first, tried-fault}
use Rattle.desk.proofs.attempt.Goals as goal

pub returns-in_err-ground : goal.returns-in_err-ground
returns-in_err-ground c =
    let a = c.args in
    let q = asked a.codes a.rules.now a.nodes.now a.edges.now a.tokens.now in
    let y = c.in_err-ground.field-0.0 in
    let e : c.from_residual.result ≡ Err (record { why = y; place = 0; passes = 0 }) = search rules in
    let some : code y ≡ 0 → ⊥ = λ z. absurd (omega (arith, z, code-some y)) in
    rw e (tried-fault q _ _ (code y) _ (ground-first _ _ _ _ _ _ (code y) c.in_err-ground.ensures.number some) some)
