use mathlib.Core.Path.{sym}
use Prim.Native.Nat.{◌*◌}
use native.Mathlib.Omega.{arith}
use Rattle.rows.specs.Rows.{edge_of}
use Rattle.rows.proofs.Laws.{word_at}
use Rattle.rows.proofs.end_of.Goals as goal

pub returns : goal.returns
unfolding edge_of
returns c =
    sym (word_at c.args.edges.now (16 * c.args.row) 3 (omega arith))
