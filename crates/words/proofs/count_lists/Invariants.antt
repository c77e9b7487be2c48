use Rattle.std.proofs.Common.{length}
use Rattle.words.proofs.Counting.{Counting}
use Rattle.words.proofs.count_lists.Given as goal

abbrev pub invariant-loop-size : goal.invariant-loop-size
invariant-loop-size l = Counting l.ws l.n l.rest

abbrev pub decreases-loop-size : goal.decreases-loop-size
decreases-loop-size l = length l.rest
