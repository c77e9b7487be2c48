use Rattle.std.proofs.Common.{length}
use Rattle.garden.proofs.Paths.{graft-branch, graft-as-leaf}
use Rattle.garden.proofs.path.graft.Goals as goal

pub returns-then-branch_at : goal.returns-then-branch_at
returns-then-branch_at c =
    graft-branch c.args.room c.args.c c.args.t.0 c.args.s c.args.nodes.now c.args.edges.now (length c.args.frames.now) c.requires.0 c.requires.3 c.branch_at.result c.branch_at.ensures c.if-branch_at.true c.clone_branches.result c.clone_branches.new.nodes c.clone_branches.new.edges c.clone_branches.ensures

pub returns : goal.returns
returns c =
    graft-as-leaf c.args.room c.args.c c.args.t.0 c.args.s c.args.nodes.now c.args.edges.now (length c.args.frames.now) c.requires.0 c.requires.3 c.branch_at.result c.branch_at.ensures c.if-branch_at.false c.graft_leaf.result c.graft_leaf.new.edges c.graft_leaf.ensures
