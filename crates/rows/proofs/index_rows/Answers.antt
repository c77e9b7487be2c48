use native.Mathlib.Omega.{arith}
use Rattle.rows.proofs.Index.{filling-none, filling-more, variables-after}
use Rattle.rows.proofs.index_rows.Goals as goal

pub loop-node-init : goal.loop-node-init
loop-node-init c = filling-none c.args.edges.now c.args.firsts.now

pub past-first-requires : goal.past-first-requires
past-first-requires c = (c.requires.0, c.loop-node.invariant.ahead)

pub past-row-requires : goal.past-row-requires
past-row-requires c =
    (c.requires.0, omega (arith, c.past-first.ensures, variables-after c.args.edges.now c.requires.0 c.loop-node.node))

pub loop-node-preserved : goal.loop-node-preserved
loop-node-preserved c =
    let l = c.loop-node in
    filling-more c.args.edges.now c.requires.0 l.node l.firsts l.row c.past-first.result c.past-row.result l.invariant (omega arith)
    c.past-first.ensures c.past-row.ensures
