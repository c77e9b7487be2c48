use Rattle.std.proofs.Common.{set, arith}
use Rattle.tree.proofs.Laws.{more-nodes}
use Rattle.garden.proofs.Taking.{keeps-less, branch-refused, branch-added}
use Rattle.garden.proofs.row.add_branch.Goals as goal

pub returns-then-room-n : goal.returns-then-room-n
returns-then-room-n c =
    (branch-refused c.args.room c.args.c c.args.nodes.now c.args.edges.now c.requires.0 c.args.m.0 c.args.e c.if-room-n.true, tt)

pub put_row-requires : goal.put_row-requires
put_row-requires c =
    (more-nodes c.args.room c.args.c c.args.edges.now c.requires.0.rowed, c.requires.1, omega arith, c.requires.2)

pub returns : goal.returns
returns c = (
  branch-added c.args.room c.args.c c.args.nodes.now c.args.edges.now c.requires.0 c.args.m.0 c.args.e c.put_row.result c.put_row.new.edges c.if-room-n.false
      (c.put_row.ensures.0 (set c.args.nodes.now c.args.c.nodes 0)),
  keeps-less c.args.c c.args.edges.now c.put_row.result c.put_row.new.edges c.put_row.ensures.1,
)
