use Rattle.std.proofs.Common.{length, arith}
use Rattle.std.proofs.lemmas.Result.{err_from_is_err_and}
use Rattle.package.proofs.Theorems.Writes.{Fine}
use Rattle.package.proofs.Weighing.{fine, composed-refused, composed-written}
use Rattle.package.proofs.compose.Goals as goal
use Rattle.package.proofs.compose.Goals.{In_ok-length}

pub returns-in_err-length : goal.returns-in_err-length
returns-in_err-length c =
    let a = c.args in
    let p = err_from_is_err_and c.from_residual.result c.from_residual.ensures.1 in
    rw (p.1, p.2) (composed-refused a.codes.provable.0 a.codes.logic.0 a.rules.now a.statements.now a.bytes.now c.in_err-length.field-0.0 c.in_err-length.ensures)

-- nothing is refused
goes : (c : In_ok-length) → let a = c.args in Fine a.codes.provable.0 a.codes.logic.0 a.rules.now a.statements.now (length a.bytes.now)
goes c =
    let a = c.args in
    fine a.codes.provable.0 a.codes.logic.0 a.rules.now a.statements.now (length a.bytes.now) c.in_ok-length.length c.in_ok-length.ensures

pub invariant_of-parcel : goal.invariant_of-parcel
invariant_of-parcel c = let f = goes (goal.at.invariant_of-parcel c).In_ok-length in record { good = f.good; whole = f.words }

pub put-requires : goal.put-requires
put-requires c = let f = goes (goal.at.put-requires c).In_ok-length in (omega (arith, f.fits), f.brief)

pub returns : goal.returns
returns c =
    let a = c.args in
    composed-written a.codes.provable.0 a.codes.logic.0 a.rules.now a.statements.now a.bytes.now c.put.new.to c.in_ok-length.length c.in_ok-length.ensures
    (goes (goal.at.returns c).In_ok-length) c.put.ensures
