use Prim.Native.Nat.{◌*◌}
use native.Mathlib.Omega.{arith}
use lib.ListN.{get_or, drop}
use Rattle.rows.specs.Rows.{edge_of}
use Rattle.rows.specs.Code.{row_at}
use Rattle.rows.proofs.Theorems.Fair.{reduces-length}
use Rattle.rows.proofs.Laws.{word_at}
use Rattle.rows.proofs.has_reduces.Goals as goal

pub returns : goal.returns
unfolding edge_of
returns c =
    let ws = c.args.edges.now in
    let row = row_at ws c.args.row in
    rw (reduces-length (get_or row 4 0) (drop 5 row), word_at ws (16 * c.args.row) 4 (omega arith))
