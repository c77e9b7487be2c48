use Rattle.std.proofs.Common.{length}
use Rattle.std.proofs.lemmas.Result.{err_from_is_err_and}
use Rattle.garden.proofs.Paths.{walk_refused, walk-placed, walk-ended}
use Rattle.garden.proofs.path.graft_at.Goals as goal

pub returns-in_err-s : goal.returns-in_err-s
returns-in_err-s c =
    let p = err_from_is_err_and c.from_residual.result c.from_residual.ensures.1 in
    rw (p.1, p.2)
    (walk_refused c.args.room c.args.c c.args.n.0 c.args.t.0 c.args.rest.now c.args.nodes.now c.args.edges.now (length c.args.frames.now) c.along.result (c.along.ensures c.args.nodes.now) _ c.in_err-s.was)

pub graft-requires : goal.graft-requires
graft-requires c =
    let placed = walk-placed c.args.room c.args.c c.args.n.0 c.args.t.0 c.args.rest.now c.args.nodes.now c.args.edges.now (length c.args.frames.now) c.along.result (c.along.ensures c.args.nodes.now) c.in_ok-s.s c.in_ok-s.was in
    (c.requires.0, c.requires.1, c.requires.3, placed)

pub returns : goal.returns
returns c =
    walk-ended c.args.room c.args.c c.args.n.0 c.args.t.0 c.args.rest.now c.args.nodes.now c.args.edges.now (length c.args.frames.now) c.along.result (c.along.ensures c.args.nodes.now) c.in_ok-s.s c.in_ok-s.was
    c.graft.result c.graft.new.nodes c.graft.new.edges c.graft.ensures
