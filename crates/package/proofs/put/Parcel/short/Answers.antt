use Rattle.std.proofs.Common.{arith, rules, length-drop}
use Rattle.words.proofs.Theorems.Parts.{part-all}
use Rattle.package.proofs.Writing.{short-start, short-inside, short_on, short-over, short-end}
use Rattle.package.proofs.put.Parcel.short.Goals as goal

pub loop-count-init : goal.loop-count-init
loop-count-init c = short-start c.args.self.statements.now c.args.self.whole

pub returns-then-count-gt-MOST_WRITTEN : goal.returns-then-count-gt-MOST_WRITTEN
returns-then-count-gt-MOST_WRITTEN c =
    short-over c.args.self.statements.now c.loop-count.rest.now c.in-Some.count.now c.in-Some.after.now c.loop-count.invariant (search rules) c.if-count-gt-MOST_WRITTEN.true

pub slice_bounds-rest-count : goal.slice_bounds-rest-count
slice_bounds-rest-count c =
    short-inside c.args.self.statements.now c.loop-count.rest.now c.in-Some.count.now c.in-Some.after.now c.loop-count.invariant (search rules)

pub slice_bounds-rest-start : goal.slice_bounds-rest-start
slice_bounds-rest-start c =
    short-inside c.args.self.statements.now c.loop-count.rest.now c.in-Some.count.now c.in-Some.after.now c.loop-count.invariant (search rules)

pub loop-count-smaller : goal.loop-count-smaller
loop-count-smaller c =
    rw (part-all c.in-Some.after.now c.in-Some.count.now) (omega (arith, c.in-Some.ensures.cases.1, length-drop c.in-Some.count.now c.in-Some.after.now))

pub loop-count-preserved : goal.loop-count-preserved
loop-count-preserved c =
    rw (part-all c.in-Some.after.now c.in-Some.count.now)
    (short_on c.args.self.statements.now c.loop-count.rest.now c.in-Some.count.now c.in-Some.after.now c.loop-count.invariant (search rules) c.if-count-gt-MOST_WRITTEN.false)

pub returns : goal.returns
returns c = short-end c.args.self.statements.now c.loop-count.rest.now c.loop-count.invariant (search rules)
