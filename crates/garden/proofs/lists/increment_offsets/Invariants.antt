use Rattle.std.proofs.Common.{◌≡◌}
use Rattle.garden.proofs.Carried.{Raised}
use Rattle.garden.proofs.lists.increment_offsets.Given as goal

abbrev pub invariant-loop-k : goal.invariant-loop-k
invariant-loop-k l = (l.count ≡ l.fn.list.count) × Raised l.fn.list l.k l.items
