use Rattle.std.proofs.Common.{arith}
use Rattle.rules.proofs.order.each.Goals as goal

pub invariant_of-result : goal.invariant_of-result
invariant_of-result c = record { good = (omega arith, c.requires) }
