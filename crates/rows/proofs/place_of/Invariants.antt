use Prim.Native.Nat.{◌≤◌, ◌-◌, ◌/◌}
use lib.ListN.{length}
use Rattle.rows.specs.Rows.{edges_of}
use Rattle.rows.specs.Code.{place_of}
use Rattle.rows.proofs.place_of.Given as goal

abbrev pub invariant-loop-low : goal.invariant-loop-low
invariant-loop-low l = (l.low ≤ place_of l.key.from.0 l.key.kind l.key.symbol.0 (edges_of l.edges)) × (place_of l.key.from.0 l.key.kind l.key.symbol.0 (edges_of l.edges) ≤ l.high) × (l.high ≤ length l.edges / 16)

abbrev pub decreases-loop-low : goal.decreases-loop-low
decreases-loop-low l = l.high - l.low
