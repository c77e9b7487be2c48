use Rattle.std.proofs.Common.{◌≡◌, length}
use Rattle.garden.specs.Garden.{good_pairs}
use Rattle.garden.proofs.good_pairs.Given as goal

abbrev pub invariant-loop-rest : goal.invariant-loop-rest
invariant-loop-rest l = good_pairs l.rest ≡ good_pairs l.ws

abbrev pub decreases-loop-rest : goal.decreases-loop-rest
decreases-loop-rest l = length l.rest
