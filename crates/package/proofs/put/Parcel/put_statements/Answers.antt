use Rattle.std.proofs.Common.{◌≤◌, length, take, arith, rules}
use Rattle.package.specs.Package.{statement, most_written, record_bytes}
use Rattle.package.specs.Code.{Room}
use Rattle.package.proofs.Pasting.{room-in, pasted-in}
use Rattle.package.proofs.Writing.{statements-start, statement-inside, statement-room, statement-more, statements-done}
use Rattle.package.proofs.put.Parcel.put_statements.Goals as goal
use Rattle.package.proofs.put.Parcel.put_statements.Goals.{In-Some}

pub loop-count-init : goal.loop-count-init
loop-count-init c = statements-start c.args.self.statements.now c.args.to.now c.requires.0 c.args.self.whole c.requires.1

pub split_at-requires : goal.split_at-requires
split_at-requires c =
    let l = c.loop-count in
    statement-inside c.args.self.statements.now l.rest.now c.in-Some.count.now c.in-Some.after.now l.to l.next c.args.to.now l.invariant (search rules)

-- there is room for the statement, and it is short
room : (c : In-Some) → let n = c.in-Some.count.now in let after = c.in-Some.after.now in
    Room c.loop-count.to c.loop-count.next (record_bytes statement (take n after)) × (length (take n after) ≤ most_written)
room c =
    let l = c.loop-count in
    statement-room c.args.self.statements.now l.rest.now c.in-Some.count.now c.in-Some.after.now l.to l.next c.args.to.now l.invariant (search rules)

pub slice_bounds-put_record-count : goal.slice_bounds-put_record-count
slice_bounds-put_record-count c = omega (arith, (room (goal.at.slice_bounds-put_record-count c).In-Some).0)

pub slice_bounds-put_record-start : goal.slice_bounds-put_record-start
slice_bounds-put_record-start c = omega (arith, (room (goal.at.slice_bounds-put_record-start c).In-Some).0)

pub put_record-next-requires : goal.put_record-next-requires
put_record-next-requires c =
    let r = room (goal.at.put_record-next-requires c).In-Some in
    let l = c.loop-count in
    rw c.split_at.ensures.front (room-in l.to l.next (record_bytes statement (take c.in-Some.count.now c.in-Some.after.now)) r.0, r.1)

pub loop-count-smaller : goal.loop-count-smaller
loop-count-smaller c = omega (arith, c.in-Some.ensures.cases.1, c.split_at.ensures.back_len)

pub loop-count-preserved : goal.loop-count-preserved
loop-count-preserved c =
    let l = c.loop-count in
    let bs = record_bytes statement (take c.in-Some.count.now c.in-Some.after.now) in
    let e = rw c.split_at.ensures.front at c.put_record-next.ensures in
    rw c.split_at.ensures.back
    (statement-more c.args.self.statements.now l.rest.now c.in-Some.count.now c.in-Some.after.now l.to l.next c.args.to.now l.invariant (search rules)
    _ _ (omega (arith, e.0)) (pasted-in l.to l.next bs c.put_record-next.new.to e.1))

pub returns : goal.returns
returns c =
    let l = c.loop-count in
    let d = statements-done c.args.self.statements.now l.rest.now l.to l.next c.args.to.now l.invariant (search rules) in
    (omega (arith, d.0), d.1)
