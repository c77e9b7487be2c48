use Rattle.walk.proofs.Laws.{wants-goal, wants-edge}
use Rattle.walk.proofs.wanted.wanted.Goals as goal

pub returns-in-Goal : goal.returns-in-Goal
returns-in-Goal c =
    let a = c.args in
    rw c.eq.ensures (wants-goal a.g.now.edges.now a.wish a.t.0 c.in-Goal.goal c.in-Goal.is)

pub returns-in-Frame : goal.returns-in-Frame
returns-in-Frame c =
    let a = c.args in
    rw c.is_some.ensures (wants-edge a.g.now.edges.now a.wish a.t.0 c.in-Frame.top c.in-Frame.is (rw c.slot_key.ensures at c.row_of.ensures))
