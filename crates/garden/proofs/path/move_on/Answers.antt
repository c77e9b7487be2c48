use Rattle.std.proofs.lemmas.Result.{err_from_is_err_and}
use Rattle.garden.proofs.Carried.{listed, unlisted}
use Rattle.garden.proofs.Paths.{left_over, far-offset, sixth-stored, moved_on}
use Rattle.garden.proofs.path.move_on.Goals as goal

pub returns-in_err-missing : goal.returns-in_err-missing
returns-in_err-missing c =
    let p = err_from_is_err_and c.from_residual.result c.from_residual.ensures.1 in
    rw (p.1, p.2)
    (left_over c.args.c c.args.kind c.args.s c.args.e c.args.f _ (unlisted _ c.diff_extend.result c.diff_extend.ensures _ c.in_err-missing.was))

pub returns-in_err-raised : goal.returns-in_err-raised
returns-in_err-raised c =
    let missing = listed _ c.diff_extend.result c.diff_extend.ensures c.in_ok-missing.missing c.in_ok-missing.was in
    let p = err_from_is_err_and c.from_residual-in_err-raised.result c.from_residual-in_err-raised.ensures.1 in
    rw (p.1, p.2)
    (far-offset c.args.c c.args.kind c.args.s c.args.e c.args.f c.in_ok-missing.missing missing _ (unlisted _ c.raised_on.result c.raised_on.ensures _ c.in_err-raised.was))

pub returns-in_err-stored : goal.returns-in_err-stored
returns-in_err-stored c =
    let missing = listed _ c.diff_extend.result c.diff_extend.ensures c.in_ok-missing.missing c.in_ok-missing.was in
    let raised = listed _ c.raised_on.result c.raised_on.ensures c.in_ok-raised.raised c.in_ok-raised.was in
    let p = err_from_is_err_and c.from_residual-in_err-stored.result c.from_residual-in_err-stored.ensures.1 in
    rw (p.1, p.2)
    (sixth-stored c.args.c c.args.kind c.args.s c.args.e c.args.f c.in_ok-missing.missing missing c.in_ok-raised.raised raised _ (unlisted _ c.extend.result c.extend.ensures _ c.in_err-stored.was))

pub returns : goal.returns
returns c =
    let missing = listed _ c.diff_extend.result c.diff_extend.ensures c.in_ok-missing.missing c.in_ok-missing.was in
    let raised = listed _ c.raised_on.result c.raised_on.ensures c.in_ok-raised.raised c.in_ok-raised.was in
    let stored = listed _ c.extend.result c.extend.ensures c.in_ok-stored.stored c.in_ok-stored.was in
    moved_on c.args.c c.args.kind c.args.s c.args.e c.args.f c.in_ok-missing.missing missing c.in_ok-raised.raised raised c.in_ok-stored.stored stored c.requires.0 c.requires.1
