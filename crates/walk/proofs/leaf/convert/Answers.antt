use Rattle.std.proofs.lemmas.Result.{err_from_is_err_and}
use Rattle.walk.specs.Code.{choice_of}
use Rattle.walk.proofs.Parts.{ready_with, close-done, close-refused}
use Rattle.walk.proofs.leaf.convert.Goals as goal

pub returns-in_err-trees : goal.returns-in_err-trees
returns-in_err-trees c =
    let p = err_from_is_err_and c.from_residual.result c.from_residual.ensures.1 in
    let a = c.args in
    rw (p.1, p.2)
    (close-refused a.g.now.book.rules.now a.g.now.edges.now a.tokens.now a.p a.list.now a.work.now (choice_of a.k) _ c.in_err-trees.ensures)

pub converted-requires : goal.converted-requires
converted-requires c = rw c.with_trees.ensures (ready_with c.requires c.in_ok-trees.trees c.in_ok-trees.ensures)

pub returns : goal.returns
returns c =
    let a = c.args in
    close-done a.g.now.book.rules.now a.g.now.edges.now a.tokens.now a.p a.list.now a.work.now (choice_of a.k)
    c.in_ok-trees.trees c.in_ok-trees.ensures (rw c.with_trees.ensures at c.converted.ensures)
