use mathlib.Core.Path.{ap}
use Rattle.rows.specs.Rows.{edge_of}
use Rattle.rows.specs.Code.{row_at}
use Rattle.walk.specs.Code.{at_node}
use Rattle.walk.proofs.Parts.{follow-bare}
use Rattle.walk.proofs.edge.follow.Goals as goal

pub returns : goal.returns
returns c =
    let a = c.args in
    follow-bare a.g.now.book.rules.now a.p.room (edge_of (row_at a.g.now.edges.now a.row)) a.p.at a.list.now a.work.now c.has_reduces.ensures c.if-has_reduces.false
    (ap (at_node a.p.at) c.end_of.ensures) c.requires.2
