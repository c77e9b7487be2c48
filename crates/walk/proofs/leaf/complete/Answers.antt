use Rattle.walk.proofs.Parts.{pop-none, pop-row, slim-row}
use Rattle.walk.proofs.leaf.complete.Goals as goal

pub returns-in_default-row_of : goal.returns-in_default-row_of
returns-in_default-row_of c =
    let a = c.args in
    pop-none a.g.now.book.rules.now a.g.now.edges.now a.tokens.now a.p a.list.now a.work.now a.t.0
    c.in-Frame.top c.in-Frame.is (rw c.slot_key.ensures at c.row_of.ensures) c.in_default-row_of.is c.unwanted-closed.ensures

pub follow-requires : goal.follow-requires
follow-requires c =
    let f = slim-row c.args.g.now.fit c.in-Frame.top.0 1 c.args.t.0 (rw c.slot_key.ensures at c.row_of.ensures) c.in-Some.row c.in-Some.is in
    (f.0, f.1, rw c.popped.ensures c.requires.inside)

pub returns : goal.returns
returns c =
    let a = c.args in
    pop-row a.g.now.book.rules.now a.g.now.edges.now a.tokens.now a.p a.list.now a.work.now a.t.0
    c.in-Frame.top c.in-Frame.is (rw c.slot_key.ensures at c.row_of.ensures) c.in-Some.row c.in-Some.is (rw c.popped.ensures at c.follow.ensures)
