use Rattle.std.proofs.Common.{sym, ◌∙◌, drop}
use Rattle.std.proofs.lemmas.Result.{err_from_is_err_and}
use Rattle.package.specs.Code.{kind_number, last_number}
use Rattle.package.proofs.Heads.{next-refused, next-ordered, next-disordered}
use Rattle.package.proofs.reader.Reader.next_after.Goals as goal

pub returns-in_err-record : goal.returns-in_err-record
returns-in_err-record c =
    let r = c.args.self in
    let p = err_from_is_err_and c.from_residual.result c.from_residual.ensures.1 in
    rw (p.1, p.2) (next-refused (drop r.at r.bytes.now) (last_number c.args.last) c.in_err-record.field-0.0 c.in_err-record.ensures)

pub returns-then-not-in_order : goal.returns-then-not-in_order
returns-then-not-in_order c =
    let r = c.args.self in
    let f = c.in_ok-record.ensures in
    next-disordered (drop r.at r.bytes.now) (last_number c.args.last) (kind_number c.in_ok-record.record.kind) f.0 f.1 (sym c.if-not-in_order.true ∙ c.in_order.ensures)

pub returns : goal.returns
returns c =
    let r = c.args.self in
    let f = c.in_ok-record.ensures in
    (next-ordered (drop r.at r.bytes.now) (last_number c.args.last) (kind_number c.in_ok-record.record.kind) f.0 f.1 (sym c.if-not-in_order.false ∙ c.in_order.ensures), f.1, f.2)
