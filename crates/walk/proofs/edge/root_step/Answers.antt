use Rattle.walk.proofs.Parts.{step-root}
use Rattle.walk.proofs.edge.root_step.Goals as goal

pub returns : goal.returns
returns c =
    let a = c.args in
    step-root a.g.now.book.rules.now a.g.now.edges.now a.p.room a.t.0 a.p.at a.list.now a.work.now c.step.ensures
