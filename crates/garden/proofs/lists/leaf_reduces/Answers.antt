use Rattle.std.proofs.Common.{◌∙◌}
use Rattle.rows.specs.Code.{reduces_are}
use Rattle.std.proofs.lemmas.Result.{err_from_is_err_and}
use Rattle.garden.proofs.Carried.{listed, unlisted, leaf-far, leaf-full, leaf-listed}
use Rattle.garden.proofs.lists.leaf_reduces.Goals as goal

pub returns-in_err-raised : goal.returns-in_err-raised
returns-in_err-raised c =
    let p = err_from_is_err_and c.from_residual.result c.from_residual.ensures.1 in
    rw (p.1, p.2)
    (leaf-far c.args.rule.0 c.args.e (reduces_are c.args.stored) _ (unlisted _ c.raised_on.result c.raised_on.ensures _ c.in_err-raised.was))

pub returns-in_err-own : goal.returns-in_err-own
returns-in_err-own c =
    let raised = listed _ c.raised_on.result c.raised_on.ensures _ c.in_ok-raised.was in
    let p = err_from_is_err_and c.from_residual-in_err-own.result c.from_residual-in_err-own.ensures.1 in
    rw (p.1, p.2)
    (leaf-full c.args.rule.0 c.args.e (reduces_are c.args.stored) _ raised _ (unlisted _ c.extend.result c.extend.ensures _ c.in_err-own.was))

pub returns : goal.returns
returns c =
    let raised = listed _ c.raised_on.result c.raised_on.ensures c.in_ok-raised.raised c.in_ok-raised.was in
    let own = listed _ c.extend.result c.extend.ensures c.in_ok-own.own c.in_ok-own.was in
    c.push.ensures ∙ leaf-listed c.args.rule.0 c.args.e (reduces_are c.args.stored) _ raised _ own
