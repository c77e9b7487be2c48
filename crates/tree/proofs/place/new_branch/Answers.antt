use Rattle.std.proofs.lemmas.Result.{err_from_is_err_and}
use Rattle.tree.proofs.Placing.{branch-made, branch_stuck}
use Rattle.tree.proofs.place.new_branch.Goals as goal

pub returns-in_err-next : goal.returns-in_err-next
returns-in_err-next c =
    let p = err_from_is_err_and c.from_residual.result c.from_residual.ensures.1 in
    rw (p.1, p.2)
    (branch_stuck c.args.room c.args.c c.args.nodes.now c.args.edges.now c.requires.0 c.args.key.from.0 c.args.key.kind c.args.key.symbol.0
    c.add_node.result c.add_node.new.nodes c.add_node.new.edges c.add_node.ensures _ c.in_err-next.was)

pub returns : goal.returns
returns c =
    branch-made c.args.room c.args.c c.args.nodes.now c.args.edges.now c.requires.0 c.args.key.from.0 c.args.key.kind c.args.key.symbol.0
    c.add_node.result c.add_node.new.nodes c.add_node.new.edges c.add_node.ensures c.in_ok-next.next c.in_ok-next.was
