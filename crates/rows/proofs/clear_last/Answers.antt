use mathlib.Core.Path.{◌≡◌, refl, ◌∙◌}
use native.Mathlib.Omega.{arith}
use lib.ListN.{length-set}
use Rattle.rows.proofs.Theorems.Put.{cleared-none, cleared_more}
use Rattle.rows.proofs.clear_last.Goals as goal

pub loop-row-init : goal.loop-row-init
loop-row-init c = (omega arith, refl, cleared-none c.args.edges.now)

pub loop-row-preserved : goal.loop-row-preserved
loop-row-preserved c =
    let l = c.loop-row in
    (omega (arith, c.loop-row-test.true), length-set l.edges _ 0 ∙ l.invariant.1, rw l.invariant.2 (cleared_more c.args.edges.now c.args.count l.row c.requires.0 c.loop-row-test.true c.requires.1))

pub returns : goal.returns
returns c =
    let l = c.loop-row in
    let e : l.row ≡ c.args.count = omega (arith, l.invariant.0, c.loop-row-test.false) in
    rw (← e) l.invariant.2
