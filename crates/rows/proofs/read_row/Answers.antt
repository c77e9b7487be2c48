use Rattle.rows.proofs.Theorems.Lookup.{row_at-length}
use Rattle.rows.proofs.read_row.Goals as goal

pub read_edge-requires : goal.read_edge-requires
read_edge-requires c =
    rw c.row_at.ensures (row_at-length c.args.edges.now c.args.row c.requires.0, c.requires.1)

pub returns : goal.returns
returns c = rw c.row_at.ensures at c.read_edge.ensures
