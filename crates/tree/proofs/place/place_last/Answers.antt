use mathlib.Core.Path.{sym, ◌∙◌}
use Rattle.rules.specs.Code.{item_is}
use Rattle.tree.proofs.Laws.{row-free}
use Rattle.tree.proofs.Placing.{last_leaf, last-there, last_made}
use Rattle.tree.proofs.place.place_last.Goals as goal

pub returns-then-not-branch_at : goal.returns-then-not-branch_at
returns-then-not-branch_at c =
    last_leaf c.args.room c.args.c c.args.nodes.now c.args.edges.now c.requires.0 c.args.n.0 c.requires.1 (item_is c.args.item) c.args.rule.0 (sym c.branch_at.ensures ∙ c.if-not-branch_at.true)

pub returns-then-is_some : goal.returns-then-is_some
returns-then-is_some c =
    last-there c.args.room c.args.c c.args.nodes.now c.args.edges.now c.requires.0 c.args.n.0 c.requires.1 (item_is c.args.item) (sym c.branch_at.ensures ∙ c.if-not-branch_at.false)
    c.args.rule.0 c.look.result (rw c.key_of-key.ensures at c.look.ensures) (sym c.is_some.ensures ∙ c.if-is_some.true)

pub add_node-requires : goal.add_node-requires
add_node-requires c =
    (c.requires.0, row-free c.args.c c.args.edges.now _ _ _ c.look.result c.look.ensures (sym c.is_some.ensures ∙ c.if-is_some.false))

pub returns : goal.returns
returns c =
    let free = row-free c.args.c c.args.edges.now _ _ _ c.look.result c.look.ensures (sym c.is_some.ensures ∙ c.if-is_some.false) in
    last_made c.args.room c.args.c c.args.nodes.now c.args.edges.now c.requires.0 c.args.n.0 c.requires.1 (item_is c.args.item) (sym c.branch_at.ensures ∙ c.if-not-branch_at.false)
    c.args.rule.0 c.add_node.result c.add_node.new.nodes c.add_node.new.edges (rw c.key_of-key.ensures at free) (rw c.key_of-key.ensures at c.add_node.ensures)
