use Prim.Native.Nat.{◌≤◌, ◌+◌, ◌*◌, ◌-◌}
use mathlib.Core.Path.{◌≡◌}
use lib.ListN.{length, take}
use Rattle.rows.specs.Rows.{row_words}
use Rattle.rows.specs.Code.{edge_is}
use Rattle.rows.proofs.write_row.Given as goal

abbrev pub invariant-loop-k : goal.invariant-loop-k
invariant-loop-k l = (l.k ≤ 5) × (length l.row ≡ 16) × (take (5 + 2 * l.k) l.row ≡ take (5 + 2 * l.k) (row_words (edge_is l.e)))

abbrev pub decreases-loop-k : goal.decreases-loop-k
decreases-loop-k l = 5 - l.k
