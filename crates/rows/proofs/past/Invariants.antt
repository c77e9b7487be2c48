use Prim.Native.Nat.{◌≤◌}
use Rattle.rows.specs.Rows.{edges_of}
use Rattle.rows.specs.Code.{place_of}
use Rattle.rows.proofs.past.Given as goal

abbrev pub invariant-loop-i : goal.invariant-loop-i
invariant-loop-i l = l.i ≤ place_of l.fn.from.0 l.kind 0 (edges_of l.edges)
