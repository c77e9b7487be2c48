use Prim.Native.Nat.{◌*◌}
use mathlib.Core.Path.{◌∙◌}
use Rattle.rows.proofs.Laws.{put-row}
use Rattle.rows.proofs.write_edge.Goals as goal

pub returns : goal.returns
returns c =
    put-row c.args.edges.now c.write_row.new.row (16 * c.args.row)
    ∙ rw c.write_row.ensures
