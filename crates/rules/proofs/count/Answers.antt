use Rattle.std.proofs.Common.{arith}
use Rattle.std.proofs.lemmas.Iterator.Consumers.{count_from_yields_List}
use Rattle.rules.proofs.Theorems.Words.{rules-most}
use Rattle.words.specs.Limits.{most_rules}
use Rattle.rules.proofs.TakenOff.{yields_rules}
use Rattle.rules.proofs.count.Goals as goal

pub overflow_cast-result : goal.overflow_cast-result
overflow_cast-result c = record { fits = omega (arith, rules-most most_rules c.args.rules.now, (rw (c.each.ensures.0, c.each.ensures.1) at (count_from_yields_List _ _ c.count.ensures.ran (yields_rules c.each.result)))) }

pub returns : goal.returns
returns c = rw (c.each.ensures.0, c.each.ensures.1) at (count_from_yields_List _ _ c.count.ensures.ran (yields_rules c.each.result))
