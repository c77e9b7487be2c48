use lib.ListN.{length-map}
use mathlib.Core.Path.{◌≡◌, refl, sym, ◌∙◌}
use native.Mathlib.Omega.{arith}
use borrow.Author.Rules.{rules}
use Rattle.std.proofs.lemmas.Result.{err_from_is_err_and}
use mathlib.Core.List.{map}
use lib.ListN.{length}
use Rattle.rows.specs.Code.{reduce_is}
use Rattle.formula.proofs.Weaving.{plan-on, plan-none, plan-end}
use Rattle.formula.proofs.tail.plan.Goals as goal

pub loop-k-init : goal.loop-k-init
loop-k-init c = (refl, refl, c.requires.0, refl)

pub measure-requires : goal.measure-requires
measure-requires c = c.loop-k.invariant.2

pub returns-in_err-fit : goal.returns-in_err-fit
returns-in_err-fit c =
    let p = err_from_is_err_and c.from_residual.result c.from_residual.ensures.1 in
    let l = c.loop-k in
    rw (p.1, p.2, ← l.invariant.3) (plan-none _ _ c.args.reduces.now l.k _ c.loop-k-test.true _ _ _ _ _ _ _ c.in_err-fit.ensures)

pub put-requires : goal.put-requires
put-requires c =
    let l = c.loop-k in
    let d = c.in_ok-fit.ensures.sized in
    (omega arith, omega arith, omega (arith, d.2, l.invariant.2.fits, l.invariant.2.words))

pub loop-k-preserved : goal.loop-k-preserved
loop-k-preserved c =
    let l = c.loop-k in (
      search rules,
      search rules,
      c.in_ok-fit.ensures.sized.0,
      rw c.put.ensures
          (sym (plan-on _ _ c.args.reduces.now l.k _ c.loop-k-test.true _ _ _ _ c.in_ok-fit.fit c.in_ok-fit.ensures) ∙ l.invariant.3),
    )

pub returns : goal.returns
returns c =
    let l = c.loop-k in
    let e : l.k ≡ length c.args.reduces.now = omega arith in
    record {
      outcome = rw e at (sym (plan-end _ _ (map reduce_is c.args.reduces.now) l.k _ _ (omega (arith, e, length-map c.args.reduces.now reduce_is))) ∙ l.invariant.3);
      sized = l.invariant.2;
    }
