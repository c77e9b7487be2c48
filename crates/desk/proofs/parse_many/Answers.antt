use Rattle.std.proofs.Common.{◌≡◌, length, rules, ◌∙◌, sym, ap}
use Rattle.words.specs.Lent.{zeros}
use Rattle.desk.specs.Batch.{batch_gives}
use Rattle.desk.specs.Code.{asked_many, lent_many}
use Rattle.desk.proofs.Whole.{rest-zeros, batch-whole}
use Rattle.desk.proofs.parse_many.Goals as goal

pub returns : goal.returns
returns c =
    let a = c.args in
    let q = asked_many a.codes a.rules.now a.nodes.now a.edges.now a.statements.now in
    let s = lent_many a.frames.now a.list.now a.work.now a.answers.now a.index.now in
    let z = rest-zeros q a.allowance s in
    let t = c.attempt-tried in
    let f : c.fill.new.self ≡ zeros (length t.new.frames) = search rules in
    let w : c.fill-2.new.self ≡ zeros (length t.new.work) = search rules in
    let i : c.fill-3.new.self ≡ zeros (length t.new.index) = search rules in
    batch-whole s (batch_gives q a.allowance s) c.from-b.result _ _ _ _ _ _ _ (rw (← c.from-b.ensures) at t.ensures)
    (z.0 ∙ sym (f ∙ ap zeros t.auto.frames)) (z.1 ∙ sym (w ∙ ap zeros t.auto.work)) (z.2 ∙ sym (i ∙ ap zeros t.auto.index))
    c.clear_from.ensures c.clear_from-2.ensures
