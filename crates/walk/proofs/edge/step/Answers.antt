use Rattle.walk.proofs.Parts.{step-none, step_row, slim-row}
use Rattle.walk.proofs.edge.step.Goals as goal

pub returns-in-None : goal.returns-in-None
returns-in-None c =
    let a = c.args in
    step-none a.g.now.book.rules.now a.g.now.edges.now a.p.room a.from.0 a.t.0 a.p.at a.list.now a.work.now (rw c.slot_key.ensures at c.row_of.ensures) c.in-None.is

pub follow-requires : goal.follow-requires
follow-requires c =
    let f = slim-row c.args.g.now.fit c.args.from.0 1 c.args.t.0 (rw c.slot_key.ensures at c.row_of.ensures) c.in-Some.row c.in-Some.is in
    (f.0, f.1, c.requires)

pub returns-in-Some : goal.returns-in-Some
returns-in-Some c =
    let a = c.args in
    step_row a.g.now.book.rules.now a.g.now.edges.now a.p.room a.from.0 a.t.0 a.p.at a.list.now a.work.now (rw c.slot_key.ensures at c.row_of.ensures)
    c.in-Some.row c.in-Some.is c.follow.ensures
