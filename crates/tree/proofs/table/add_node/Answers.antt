use borrow.Author.Rules.{rules}
use native.Mathlib.Omega.{arith}
use lib.ListN.{set}
use Rattle.tree.proofs.Laws.{node-refused, more-nodes, node-added}
use Rattle.tree.proofs.table.add_node.Goals as goal

pub returns-then-room-n : goal.returns-then-room-n
returns-then-room-n c =
    let k = c.args.key in
    node-refused c.args.room c.args.c c.args.nodes.now c.args.edges.now c.requires.0 k.from.0 k.kind k.symbol.0 c.args.rule.0 c.if-room-n.true

pub add_edge-requires : goal.add_edge-requires
add_edge-requires c =
    (more-nodes c.args.room c.args.c c.args.edges.now c.requires.0.rowed, omega arith, c.requires.1)

pub returns : goal.returns
returns c =
    let k = c.args.key in
    node-added c.args.room c.args.c c.args.nodes.now c.args.edges.now c.requires.0 k.from.0 k.kind k.symbol.0 c.args.rule.0
    c.none.result c.add_edge.result c.add_edge.new.edges (search rules) c.none.ensures (c.add_edge.ensures.0 (set c.args.nodes.now c.args.c.nodes c.args.rule.0))
