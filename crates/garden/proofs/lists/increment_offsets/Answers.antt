use Rattle.std.proofs.Common.{◌≡◌, rules, length, refl}
use Rattle.garden.proofs.Carried.{raised-none, raised-more, raises-not, raises-all}
use Rattle.garden.proofs.lists.increment_offsets.Goals as goal

pub loop-k-init : goal.loop-k-init
loop-k-init c =
    let l : length c.args.list.items ≡ 5 = search rules in
    (refl, raised-none c.args.list l)

pub returns-then-d-ge-MOST_OFFSET : goal.returns-then-d-ge-MOST_OFFSET
returns-then-d-ge-MOST_OFFSET c =
    let l = c.loop-k in
    raises-not c.args.list l.k l.items l.invariant.1 c.loop-k-test.true c.if-d-ge-MOST_OFFSET.true

pub loop-k-preserved : goal.loop-k-preserved
loop-k-preserved c =
    let l = c.loop-k in
    (refl, raised-more c.args.list l.k l.items l.invariant.1 c.loop-k-test.true c.if-d-ge-MOST_OFFSET.false)

pub returns : goal.returns
returns c =
    let l = c.loop-k in
    raises-all c.args.list l.k l.items l.invariant.1 c.loop-k-test.false
