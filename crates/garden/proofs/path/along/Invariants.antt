use Rattle.std.proofs.Common.{length}
use Rattle.garden.proofs.Paths.{Walks}
use Rattle.garden.proofs.path.along.Given as goal

abbrev pub invariant-loop-pair : goal.invariant-loop-pair
invariant-loop-pair l = Walks l.c l.edges l.rest l.initial.s l.s l.left

abbrev pub decreases-loop-pair : goal.decreases-loop-pair
decreases-loop-pair l = length l.left
