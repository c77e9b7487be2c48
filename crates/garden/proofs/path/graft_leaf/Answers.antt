use Rattle.std.proofs.Common.{refl}
use Rattle.std.proofs.lemmas.Result.{err_from_is_err_and}
use Rattle.garden.proofs.Carried.{listed, unlisted}
use Rattle.garden.proofs.Paths.{graft-bad, graft-sixth, graft-copied}
use Rattle.garden.proofs.path.graft_leaf.Goals as goal

pub returns-then-not-apart : goal.returns-then-not-apart
returns-then-not-apart c =
    graft-bad c.args.room c.args.c c.args.t.0 c.args.s c.args.nodes.now c.args.edges.now c.requires.3 c.requires.4 c.apart.result c.apart.ensures c.if-not-apart.true

pub returns-in_err-list : goal.returns-in_err-list
returns-in_err-list c =
    let p = err_from_is_err_and c.from_residual.result c.from_residual.ensures.1 in
    rw (p.1, p.2)
    (graft-sixth c.args.room c.args.c c.args.t.0 c.args.s c.args.nodes.now c.args.edges.now c.requires.3 c.requires.4 c.apart.result c.apart.ensures c.if-not-apart.false _ refl
    _ (unlisted _ c.push.result c.push.ensures _ c.in_err-list.was))

pub returns : goal.returns
returns c =
    let r = c.clone_with_reduce_vec in
    graft-copied c.args.room c.args.c c.args.t.0 c.args.s c.args.nodes.now c.args.edges.now c.requires.3 c.requires.4 c.apart.result c.apart.ensures c.if-not-apart.false _ refl
    c.in_ok-list.list (listed _ c.push.result c.push.ensures c.in_ok-list.list c.in_ok-list.was) r.result r.new.edges (r.ensures.0 c.args.nodes.now)
