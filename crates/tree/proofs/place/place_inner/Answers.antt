use mathlib.Core.Path.{sym, ◌∙◌}
use Rattle.rules.specs.Code.{item_is}
use Rattle.tree.proofs.Placing.{inner-leaf, inner_made, inner-follows}
use Rattle.tree.proofs.place.place_inner.Goals as goal

pub returns-then-not-branch_at : goal.returns-then-not-branch_at
returns-then-not-branch_at c =
    inner-leaf c.args.room c.args.c c.args.nodes.now c.args.edges.now c.requires.0 c.args.n.0 c.requires.1 (item_is c.args.item) (sym c.branch_at.ensures ∙ c.if-not-branch_at.true)

pub new_branch-requires : goal.new_branch-requires
new_branch-requires c = (c.requires.0, c.in_default.ensures)

pub returns-in_default : goal.returns-in_default
returns-in_default c =
    inner_made c.args.room c.args.c c.args.nodes.now c.args.edges.now c.requires.0 c.args.n.0 c.requires.1 (item_is c.args.item) (sym c.branch_at.ensures ∙ c.if-not-branch_at.false)
    c.new_branch.result c.new_branch.new.nodes c.new_branch.new.edges (rw c.key_of-key.ensures at c.in_default.ensures) (rw c.key_of-key.ensures at c.new_branch.ensures)

pub returns : goal.returns
returns c =
    inner-follows c.args.room c.args.c c.args.nodes.now c.args.edges.now c.requires.0 c.args.n.0 c.requires.1 (item_is c.args.item) (sym c.branch_at.ensures ∙ c.if-not-branch_at.false)
    c.in-Some.row c.end_of.result (rw c.key_of-key.ensures at c.in-Some.ensures) c.end_of.ensures
