use Rattle.std.proofs.Common.{length}
use Rattle.package.proofs.Writing.{PutStatements}
use Rattle.package.proofs.put.Parcel.put_statements.Given as goal

abbrev pub invariant-loop-count : goal.invariant-loop-count
invariant-loop-count l = PutStatements l.self.statements.now l.rest l.to l.next l.initial.to

abbrev pub decreases-loop-count : goal.decreases-loop-count
decreases-loop-count l = length l.rest
