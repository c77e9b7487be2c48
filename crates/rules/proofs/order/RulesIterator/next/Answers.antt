use Rattle.std.proofs.Common.{rules, refl}
use Rattle.rules.proofs.TakenOff.{taken}
use Rattle.rules.proofs.order.RulesIterator.next.Goals as goal

pub rest_of-self-requires : goal.rest_of-self-requires
rest_of-self-requires c = (taken _ _ c.args.self.now.good (search rules)).rule

pub invariant_of-self : goal.invariant_of-self
invariant_of-self c = let t = taken _ _ c.args.self.now.good (search rules) in record { good = (t.after.0, rw c.rest_of-self.ensures t.after.1) }

pub returns-clause-steps : goal.returns-clause-steps
returns-clause-steps c = let t = taken _ _ c.args.self.now.good (search rules) in (t.words, t.rule, refl, refl, refl, c.rest_of-self.ensures)
