use Rattle.walk.proofs.Parts.{goal-bare, converted-ends, converted-pops}
use Rattle.walk.proofs.leaf.converted.Goals as goal

pub returns-in-Goal : goal.returns-in-Goal
returns-in-Goal c =
    let a = c.args in
    converted-ends a.g.now.book.rules.now a.g.now.edges.now a.tokens.now a.p a.list.now a.work.now a.t.0
    (goal-bare a.p.wish c.in-Goal.field-0 c.in-Goal.is) c.finish.ensures

pub returns-in-Frame : goal.returns-in-Frame
returns-in-Frame c =
    let a = c.args in
    converted-pops a.g.now.book.rules.now a.g.now.edges.now a.tokens.now a.p a.list.now a.work.now a.t.0
    c.in-Frame.top c.in-Frame.is (rw c.popped.ensures at c.step.ensures)
