use Rattle.std.proofs.Common.{rules, arith}
use Rattle.words.proofs.Counting.{counting-start, counting-on, counting-cut, counting-end}
use Rattle.words.proofs.count_lists.Goals as goal

pub loop-size-init : goal.loop-size-init
loop-size-init c = counting-start c.args.ws.now

pub returns-in_default-split_at_checked : goal.returns-in_default-split_at_checked
returns-in_default-split_at_checked c = counting-cut c.args.ws.now c.loop-size.n c.in-Some.size.now c.in-Some.after.now (search rules) (search rules)

pub overflow_add-n : goal.overflow_add-n
overflow_add-n c = omega (arith, c.loop-size.invariant.few)

pub loop-size-preserved : goal.loop-size-preserved
loop-size-preserved c = search (rules, counting-on c.args.ws.now c.loop-size.n c.in-Some.size.now c.in-Some.after.now (search rules) (search rules))

pub returns : goal.returns
returns c = counting-end c.args.ws.now c.loop-size.n c.loop-size.rest.now c.loop-size.invariant (search rules)
