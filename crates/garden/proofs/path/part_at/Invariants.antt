use Rattle.std.proofs.Common.{length}
use Rattle.garden.proofs.Paths.{Parts}
use Rattle.garden.proofs.path.part_at.Given as goal

abbrev pub invariant-loop-p : goal.invariant-loop-p
invariant-loop-p l = Parts l.c l.edges l.prefix l.shadow l.node.0 l.ps l.qs

abbrev pub decreases-loop-p : goal.decreases-loop-p
decreases-loop-p l = length l.ps
