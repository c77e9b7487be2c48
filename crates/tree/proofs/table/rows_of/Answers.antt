use Rattle.tree.specs.Code.{edges_in}
use Rattle.tree.proofs.Laws.{rows-many}
use Rattle.tree.proofs.table.rows_of.Goals as goal

pub overflow_sub-result : goal.overflow_sub-result
overflow_sub-result c =
    let m = rows-many c.args.n.0 (edges_in c.args.c.edges c.args.edges.now) c.requires.0.order in
    rw (c.first_row-first.ensures, c.first_row.ensures) m.0

pub returns : goal.returns
returns c =
    let m = rows-many c.args.n.0 (edges_in c.args.c.edges c.args.edges.now) c.requires.0.order in
    rw (c.first_row-first.ensures, c.first_row.ensures) m.1
