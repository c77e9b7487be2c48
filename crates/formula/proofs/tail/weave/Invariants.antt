use Prim.Native.Nat.{◌≤◌}
use mathlib.Core.Path.{◌≡◌}
use lib.ListN.{length, drop}
use Rattle.formula.specs.TailCode.{entries_of}
use Rattle.formula.proofs.Weaving.{first_place, woven_to}
use Rattle.formula.proofs.tail.weave.Given as goal

abbrev pub invariant-loop-last : goal.invariant-loop-last
invariant-loop-last l = (l.last ≤ length l.entries) × (l.end ≤ l.len) × (length l.list ≡ length l.initial.list)
    × (l.end ≡ first_place (drop l.last (entries_of l.entries)) l.len)
    × (l.list ≡ woven_to l.initial.list (entries_of l.entries) l.len (length l.entries) l.end l.last)
