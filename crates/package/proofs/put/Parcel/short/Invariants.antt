use Rattle.std.proofs.Common.{length}
use Rattle.package.proofs.Writing.{Shortness}
use Rattle.package.proofs.put.Parcel.short.Given as goal

abbrev pub invariant-loop-count : goal.invariant-loop-count
invariant-loop-count l = Shortness l.self.statements.now l.rest

abbrev pub decreases-loop-count : goal.decreases-loop-count
decreases-loop-count l = length l.rest
