use Prim.Native.Nat.{◌-◌}
use mathlib.Core.Path.{◌≡◌}
use Rattle.rows.specs.Rows.{good_pairs}
use Rattle.rows.proofs.check.good_pairs.Given as goal

abbrev pub invariant-loop-k : goal.invariant-loop-k
invariant-loop-k l = good_pairs l.rules l.row (5 - l.k) l.k ≡ good_pairs l.rules l.row 5 0
