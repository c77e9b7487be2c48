use Rattle.std.proofs.lemmas.Result.{err_from_is_err_and}
use Rattle.garden.proofs.Cloning.{none-begun, begun-staged, all-cloned}
use Rattle.garden.proofs.clones.clone_branches.Goals as goal

pub run-requires : goal.run-requires
run-requires c =
    begun-staged c.args.room c.args.c c.args.t.0 c.args.clone c.args.nodes.now c.args.edges.now c.args.frames.now c.begin.new.frames c.requires.0 c.requires.1 c.requires.2 c.begin.result c.begin.ensures _ c.in_ok-s.was c.requires.3

pub returns : goal.returns
returns c =
    all-cloned c.args.room c.args.c c.args.t.0 c.args.clone c.args.nodes.now c.args.edges.now c.args.frames.now c.begin.new.frames c.requires.0 c.requires.1 c.requires.2 c.begin.result c.begin.ensures _ c.in_ok-s.was c.requires.3 c.run.result c.run.new.nodes c.run.new.edges c.run.ensures

pub returns-in_err-s : goal.returns-in_err-s
returns-in_err-s c =
    let p = err_from_is_err_and c.from_residual.result c.from_residual.ensures.1 in
    rw (p.1, p.2)
    (none-begun c.args.room c.args.c c.args.t.0 c.args.clone c.args.nodes.now c.args.edges.now c.args.frames.now c.begin.new.frames c.requires.0 c.requires.1 c.requires.2 c.begin.result c.begin.ensures _ c.in_err-s.was)
