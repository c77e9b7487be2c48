use mathlib.Core.Path.{◌≡◌}
use Prim.Native.Nat.{◌≤◌, ◌-◌}
use lib.ListN.{length}
use Rattle.rows.specs.Code.{cleared}
use Rattle.rows.proofs.clear_last.Given as goal

abbrev pub invariant-loop-row : goal.invariant-loop-row
invariant-loop-row l = (l.row ≤ l.count) × (length l.edges ≡ length l.initial.edges) × (l.edges ≡ cleared l.initial.edges l.row)

abbrev pub decreases-loop-row : goal.decreases-loop-row
decreases-loop-row l = l.count - l.row
