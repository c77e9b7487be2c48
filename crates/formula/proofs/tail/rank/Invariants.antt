use Prim.Native.Nat.{◌+◌, ◌-◌}
use mathlib.Core.Path.{◌≡◌}
use lib.ListN.{drop}
use Rattle.formula.specs.TailCode.{entries_of, rank}
use Rattle.formula.proofs.tail.rank.Given as goal

abbrev pub invariant-loop-i : goal.invariant-loop-i
invariant-loop-i l = l.i + rank (l.place - l.i) (drop l.i (entries_of l.entries)) ≡ rank l.place (entries_of l.entries)
