use Rattle.std.proofs.lemmas.Result.{err_from_is_err_and}
use Rattle.walk.proofs.Parts.{leaf-missing, ready_with, leaf-done, leaf-refused}
use Rattle.walk.proofs.leaf.leaf.Goals as goal

pub returns-in_default : goal.returns-in_default
returns-in_default c =
    let a = c.args in
    leaf-missing a.g.now.book.rules.now a.g.now.edges.now a.tokens.now a.p a.list.now a.work.now a.rule.0 c.in_default.ensures

pub returns-in_err-trees : goal.returns-in_err-trees
returns-in_err-trees c =
    let p = err_from_is_err_and c.from_residual.result c.from_residual.ensures.1 in
    let a = c.args in
    rw (p.1, p.2)
    (leaf-refused a.g.now.book.rules.now a.g.now.edges.now a.tokens.now a.p a.list.now a.work.now a.rule.0 c.in-Some.i c.in-Some.ensures _ c.in_err-trees.ensures)

pub complete-requires : goal.complete-requires
complete-requires c = rw c.with_trees.ensures (ready_with c.requires c.in_ok-trees.trees c.in_ok-trees.ensures)

pub returns : goal.returns
returns c =
    let a = c.args in
    leaf-done a.g.now.book.rules.now a.g.now.edges.now a.tokens.now a.p a.list.now a.work.now a.rule.0 c.in-Some.i c.in-Some.ensures
    c.in_ok-trees.trees c.in_ok-trees.ensures c.result_of-t.ensures (rw c.with_trees.ensures at c.complete.ensures)
