use Rattle.package.proofs.Writing.{PutRules}
use Rattle.package.proofs.put.Parcel.put_rules.Given as goal

abbrev pub invariant-loop-rest : goal.invariant-loop-rest
invariant-loop-rest l = PutRules l.self.rules.now l.rest-iterator.words.now l.to l.next l.initial.to
