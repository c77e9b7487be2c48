use Rattle.std.proofs.Common.{ap, ◌∙◌, rules, arith, List, ℕ, drop}
use denote.Ref.{Bor}
use Rattle.std.proofs.lemmas.Result.{err_from_is_err_and}
use Rattle.package.specs.Package.{record_demands}
use Rattle.package.specs.Code.{kind_number, last_number}
use Rattle.package.proofs.Ranks.{goes-on, at-last}
use Rattle.package.proofs.Reading.{found_ok, found_err, Next, found-next, body-short, underway, underway-small, underway-more, underway-refused, underway-left, underway-done}
use Rattle.package.proofs.scan.scan.Goals as goal
use Rattle.package.proofs.scan.scan.Goals.{In_ok-record}

pub loop-last-init : goal.loop-last-init
loop-last-init c =
    let a = c.args in
    let e = c.new-reader.ensures in
    record { same = ap (λ (b : Bor (List ℕ)). b.now) e.0; underway = rw e.1 (underway a.bytes.now a.rules.now a.statements.now) }

pub returns-in_err-record : goal.returns-in_err-record
returns-in_err-record c =
    let l = c.loop-last in
    let p = err_from_is_err_and c.from_residual.result c.from_residual.ensures.1 in
    let y = c.in_err-record.field-0.0 in
    let e = c.in_err-record.ensures in
    let rest = drop l.reader.at l.reader.bytes.now in
    let f = found_err (record_demands (last_number l.last) rest) rest c.next_after.result y l.k _ _ c.next_after.ensures e.cases e.variant (λ d q. search rules) in
    rw (p.1, p.2)
    (underway-refused c.args.bytes.now l.contents l.reader.at (last_number l.last) l.k l.rules l.statements y l.invariant.underway
    (goes-on l.last c.loop-last-test.ensures) (rw l.invariant.same at f))

-- the record that is found
next : (c : In_ok-record) → Next c.args.bytes.now c.loop-last.reader.at (last_number c.loop-last.last) (kind_number c.in_ok-record.record.kind) c.in_ok-record.record.size
next c =
    let l = c.loop-last in
    found-next c.args.bytes.now l.reader.bytes.now l.reader.at (last_number l.last) c.in_ok-record.record l.invariant.same
    (found_ok (record_demands (last_number l.last) (drop l.reader.at l.reader.bytes.now)) (drop l.reader.at l.reader.bytes.now) c.next_after.result c.map_err.result c.in_ok-record.record _ c.next_after.ensures c.in_ok-record.was c.map_err.ensures.cases c.map_err.ensures.variant)

pub overflow_add-start : goal.overflow_add-start
overflow_add-start c = let n = next (goal.at.overflow_add-start c).In_ok-record in omega (arith, n.head, n.end)

pub overflow_add-end : goal.overflow_add-end
overflow_add-end c = let n = next (goal.at.overflow_add-end c).In_ok-record in omega (arith, n.end)

pub slice_bounds-take_record-count : goal.slice_bounds-take_record-count
slice_bounds-take_record-count c = let n = next (goal.at.slice_bounds-take_record-count c).In_ok-record in omega (arith, n.head)

pub slice_bounds-take_record-start : goal.slice_bounds-take_record-start
slice_bounds-take_record-start c = let n = next (goal.at.slice_bounds-take_record-start c).In_ok-record in omega (arith, n.head)

pub slice_bounds-take_record-end : goal.slice_bounds-take_record-end
slice_bounds-take_record-end c = let n = next (goal.at.slice_bounds-take_record-end c).In_ok-record in n.end

pub take_record-contents-requires : goal.take_record-contents-requires
take_record-contents-requires c =
    let n = next (goal.at.take_record-contents-requires c).In_ok-record in
    let bs = c.args.bytes.now in
    let l = c.loop-last in (
      underway-small bs l.contents l.reader.at (last_number l.last) l.k l.rules l.statements l.invariant.underway (search rules),
      body-short bs l.reader.at (last_number l.last) (kind_number c.in_ok-record.record.kind) c.in_ok-record.record.size n (λ i. omega (arith, c.type_inv.bytes i)),
      rw n.body n.body-sized,
    )

pub loop-last-smaller : goal.loop-last-smaller
loop-last-smaller c = let n = next (goal.at.loop-last-smaller c).In_ok-record in omega (arith, n.head, n.end, c.moved-reader.ensures.1)

pub loop-last-preserved : goal.loop-last-preserved
loop-last-preserved c =
    let l = c.loop-last in
    let e = c.moved-reader.ensures in
    record {
      same = ap (λ (b : Bor (List ℕ)). b.now) e.0 ∙ l.invariant.same;
      underway = rw e.1 (underway-more c.args.bytes.now l.contents l.reader.at (last_number l.last) l.k l.rules l.statements (kind_number c.in_ok-record.record.kind) c.in_ok-record.record.size
          c.take_record-contents.result c.take_record-contents.new.rules c.take_record-contents.new.statements l.invariant.underway
          (goes-on l.last c.loop-last-test.ensures) (next (goal.at.loop-last-preserved c).In_ok-record) c.take_record-contents.ensures);
    }

pub returns-then-reader-bytes : goal.returns-then-reader-bytes
returns-then-reader-bytes c =
    let l = c.loop-last in
    underway-left c.args.bytes.now l.contents l.reader.at (last_number l.last) l.k l.rules l.statements l.invariant.underway
    (at-last l.last c.loop-last-test.ensures) c.if-reader-bytes.true

pub returns : goal.returns
returns c =
    let l = c.loop-last in
    underway-done c.args.bytes.now l.contents l.reader.at (last_number l.last) l.k l.rules l.statements l.invariant.underway
    (at-last l.last c.loop-last-test.ensures) c.if-reader-bytes.false
