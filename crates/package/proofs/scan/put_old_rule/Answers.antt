use Rattle.std.proofs.Common.{◌≡◌, ◌+◌, ◌*◌, ◌≤◌, arith, length}
use Rattle.package.proofs.Renewing.{old-body, old-start, item_at, item-here, old-more, old-end}
use Rattle.package.proofs.scan.put_old_rule.Goals as goal

pub split_at-requires : goal.split_at-requires
split_at-requires c = (old-body c.args.body.now c.requires.0).0

pub loop-item-init : goal.loop-item-init
loop-item-init c = old-start c.copy_words.new.to (c.args.at + 2) c.args.body.now c.requires.0

pub put_item-v-requires : goal.put_item-v-requires
put_item-v-requires c =
    let o = c.loop-item.invariant in
    (omega (arith, o.few, o.inside, c.requires.1, c.requires.2), omega (arith, o.slots, o.inside, c.requires.1))

pub overflow_add-next-in-loop-item : goal.overflow_add-next-in-loop-item
overflow_add-next-in-loop-item c =
    let o = c.loop-item.invariant in
    omega (arith, o.few, o.inside, c.requires.1, c.requires.2)

pub loop-item-preserved : goal.loop-item-preserved
loop-item-preserved c =
    let l = c.loop-item in
    let a = c.args in
    let k = l.item-index in
    let s = c.split_at in
    let next : 8 + 8 * k + 8 ≡ 8 + 8 * (k + 1) = omega arith in
    let inside : 8 + 8 * k + 8 ≤ length a.body.now = omega (arith, c.as_chunks.ensures.front_len, s.ensures.back_len, c.loop-item-test.true) in
    let here = item-here a.body.now s.result.1.now c.as_chunks.result.0.now k s.ensures.back c.as_chunks.ensures.front (omega (arith, c.as_chunks.ensures.front_len, c.loop-item-test.true)) in
    rw (← next) (old-more c.copy_words.new.to (a.at + 2) a.body.now l.to c.put_item-v.new.to l.next l.v c.put_item-v.result (item_at k) l.invariant
    inside (rw here at c.put_item-v.ensures) c.put_item-v.auto.to)

pub returns : goal.returns
returns c =
    let l = c.loop-item in
    let a = c.args in
    let b = old-body a.body.now c.requires.0 in
    old-end a.to.now c.copy_words.new.to a.at a.body.now l.to l.next l.v (item_at l.item-index) c.requires.0 c.copy_words.auto.to
    (rw c.split_at.ensures.front at c.copy_words.ensures) l.invariant (omega (arith, b.1, c.as_chunks.ensures.front_len, c.split_at.ensures.back_len, c.loop-item-test.false))
