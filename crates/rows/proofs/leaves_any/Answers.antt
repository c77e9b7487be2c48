use borrow.Author.Tests.{le-ltb}
use Rattle.rows.proofs.Laws.{bare-past, bare-by}
use Rattle.rows.proofs.leaves_any.Goals as goal

pub returns-then-row-edges : goal.returns-then-row-edges
returns-then-row-edges c =
    let ws = c.args.edges.now in
    let p = c.place_of-row in
    rw (c.eq.ensures, c.key_of.ensures, c.row_at.ensures)
    (bare-by c.args.from.0 ws p.result (rw c.lowest.ensures at p.ensures) c.requires c.if-row-edges.true)

pub returns-else-row-edges : goal.returns-else-row-edges
returns-else-row-edges c =
    let p = c.place_of-row in
    let past = bare-past c.args.from.0 c.args.edges.now p.result (rw c.lowest.ensures at p.ensures) c.requires c.if-row-edges.false in
    rw (le-ltb _ _ c.if-row-edges.false, past)
