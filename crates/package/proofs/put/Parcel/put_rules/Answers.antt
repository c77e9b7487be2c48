use Rattle.std.proofs.Common.{take, length-take-le, arith, sym}
use Rattle.rules.specs.Rules.{size_of}
use Rattle.package.specs.Package.{one_rule, record_bytes}
use Rattle.package.proofs.Pasting.{room-in, pasted-in}
use Rattle.package.proofs.Writing.{RuleHere, rules-start, rule-here, rule-more, rules-done}
use Rattle.package.proofs.put.Parcel.put_rules.Goals as goal
use Rattle.package.proofs.put.Parcel.put_rules.Goals.{In-Some}

pub loop-rest-init : goal.loop-rest-init
loop-rest-init c =
    rw (c.into_iter-rest-iterator.ensures.into_iter_gives, c.each-rest-items.ensures.0)
    (rules-start c.args.self.rules.now c.args.to.now c.requires c.args.self.good)

here : (c : In-Some) → RuleHere c.in-Some.rest.now c.loop-rest.to c.loop-rest.next
here c =
    let s = c.in-Some.ensures.steps in
    rw s.3 (rule-here c.args.self.rules.now _ c.loop-rest.to c.loop-rest.next c.args.to.now c.loop-rest.invariant s.0)

pub size_of-requires : goal.size_of-requires
size_of-requires c = (here (goal.at.size_of-requires c).In-Some).two

pub slice_bounds-rule-end : goal.slice_bounds-rule-end
slice_bounds-rule-end c =
    let h = here (goal.at.slice_bounds-rule-end c).In-Some in
    sym (length-take-le c.size_of.result c.in-Some.rest.now (rw c.size_of.ensures h.fits))

pub slice_bounds-put_record-count : goal.slice_bounds-put_record-count
slice_bounds-put_record-count c = omega (arith, (here (goal.at.slice_bounds-put_record-count c).In-Some).room)

pub slice_bounds-put_record-start : goal.slice_bounds-put_record-start
slice_bounds-put_record-start c = omega (arith, (here (goal.at.slice_bounds-put_record-start c).In-Some).room)

pub put_record-next-requires : goal.put_record-next-requires
put_record-next-requires c =
    let l = c.loop-rest in
    let rest = c.in-Some.rest.now in
    let h = here (goal.at.put_record-next-requires c).In-Some in
    rw c.size_of.ensures (room-in l.to l.next (record_bytes one_rule (take (size_of rest) rest)) h.room, h.small)

pub loop-rest-preserved : goal.loop-rest-preserved
loop-rest-preserved c =
    let l = c.loop-rest in
    let s = c.in-Some.ensures.steps in
    let rest = l.rest-iterator.words.now in
    let bs = record_bytes one_rule (take (size_of rest) rest) in
    let e = rw (c.size_of.ensures, s.3) at c.put_record-next.ensures in
    rw s.5
    (rule-more c.args.self.rules.now rest l.to l.next c.args.to.now l.invariant s.0 _ _ (omega (arith, e.0)) (pasted-in l.to l.next bs c.put_record-next.new.to e.1))

pub returns : goal.returns
returns c =
    let l = c.loop-rest in
    let d = rules-done c.args.self.rules.now _ l.to l.next c.args.to.now l.invariant (omega (arith, c.in-None.ensures.steps)) in
    (omega (arith, d.0), d.1)
