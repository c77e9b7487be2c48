use native.Mathlib.Omega.{arith}
use Rattle.std.proofs.lemmas.Result.{err_from_is_err_and}
use Rattle.formula.proofs.Reducing.{sized_of, gives-none, gives-done}
use Rattle.formula.proofs.reduce.Goals as goal

pub measure-requires : goal.measure-requires
measure-requires c = sized_of _ _ _ _ c.requires

pub returns-in_err-fit : goal.returns-in_err-fit
returns-in_err-fit c =
    let p = err_from_is_err_and c.from_residual.result c.from_residual.ensures.1 in
    rw (p.1, p.2) (gives-none _ _ _ _ _ _ _ c.requires _ _ _ c.in_err-fit.ensures)

pub insert-requires : goal.insert-requires
insert-requires c =
    let d = c.in_ok-fit.ensures.sized in
    (d.2, omega (arith, d.1, d.0.fits, c.requires.lent))

pub returns : goal.returns
returns c = gives-done _ _ _ _ _ _ _ c.requires _ _ c.in_ok-fit.fit c.in_ok-fit.ensures c.insert.ensures c.insert.auto.s
