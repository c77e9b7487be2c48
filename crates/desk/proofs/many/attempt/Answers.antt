use Rattle.std.proofs.Common.{◌≡◌, Err, refl, arith, rules, sym}
use Rattle.words.specs.Code.{code}
use Rattle.words.specs.declared.Refusal.TheVariants.{WrongSize}
use Rattle.words.proofs.Theorems.Faults.{code-some}
use Rattle.desk.specs.Code.{asked_many, lent_many}
use Rattle.desk.proofs.Laws.{ground-first, grounds}
use Rattle.desk.proofs.Whole.{are-cut, cut-first, tried-refused, ground-place}
use Rattle.desk.proofs.many.attempt.Goals as goal

pub returns-in_err-ground : goal.returns-in_err-ground
returns-in_err-ground c =
    let a = c.args in
    let q = asked_many a.codes a.rules.now a.nodes.now a.edges.now a.statements.now in
    let s = lent_many a.frames.now a.list.now a.work.now a.answers.now a.index.now in
    let y = c.in_err-ground.field-0.0 in
    let e : c.from_residual.result ≡ Err (record { why = y; place = 0 }) = search rules in
    let n = c.in_err-ground.ensures.number in
    let some : code y ≡ 0 → ⊥ = λ z. absurd (omega (arith, z, code-some y)) in
    rw e (tried-refused q _ s _ _ refl refl (code y) 0 (ground-first _ _ _ _ _ _ (code y) n some) some (ground-place _ _ _ _ _ (code y) n _))

pub returns-in_err-count : goal.returns-in_err-count
returns-in_err-count c =
    let a = c.args in
    let q = asked_many a.codes a.rules.now a.nodes.now a.edges.now a.statements.now in
    let s = lent_many a.frames.now a.list.now a.work.now a.answers.now a.index.now in
    let g = grounds _ _ _ _ _ (sym c.in_ok-ground.ensures.number) in
    let k = c.in_err-count.field-0.0 in
    let w = are-cut a.statements.now c.count_lists.ensures k c.in_err-count.was in
    let e : c.from_residual-in_err-count.result ≡ Err (record { why = WrongSize; place = k.0 }) = search rules in
    rw e (tried-refused q _ s _ _ refl refl 22 _ (cut-first q s g.0 g.1 w.0) (λ e. absurd (omega arith)) w.1)
