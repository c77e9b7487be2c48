use Rattle.rows.specs.Code.{reduces_are}
use Rattle.std.proofs.lemmas.Result.{err_from_is_err_and}
use Rattle.garden.proofs.Carried.{extends-none, extends-on, extends-over, extends-all}
use Rattle.garden.proofs.lists.extend.Goals as goal

pub loop-d-init : goal.loop-d-init
loop-d-init c = extends-none c.args.list c.as_slice-d-items.result.now

pub returns-in_err-out : goal.returns-in_err-out
returns-in_err-out c =
    let l = c.loop-d in
    let p = err_from_is_err_and c.from_residual.result c.from_residual.ensures.1 in
    rw (p.1, p.2)
    (extends-over c.args.list c.as_slice-d-items.result.now l.d-index l.out l.invariant c.loop-d-test.true c.push.result c.push.ensures
    (reduces_are c.args.more) c.as_slice-d-items.ensures _ c.in_err-out.was)

pub loop-d-preserved : goal.loop-d-preserved
loop-d-preserved c =
    let l = c.loop-d in
    extends-on c.args.list c.as_slice-d-items.result.now l.d-index l.out l.invariant c.loop-d-test.true c.push.result c.push.ensures c.in_ok-out.out c.in_ok-out.was

pub returns : goal.returns
returns c =
    let l = c.loop-d in
    extends-all c.args.list c.as_slice-d-items.result.now l.d-index l.out l.invariant (reduces_are c.args.more) c.as_slice-d-items.ensures c.loop-d-test.false
