use Rattle.std.proofs.lemmas.Result.{err_from_is_err_and}
use Rattle.garden.proofs.Taking.{clone-begins, none-begins, keeps-of}
use Rattle.garden.proofs.row.new_branch.Goals as goal

pub returns-in_err-counts : goal.returns-in_err-counts
returns-in_err-counts c =
    let b = c.add_branch in
    let p = err_from_is_err_and c.from_residual.result c.from_residual.ensures.1 in
    rw (p.1, p.2)
    (none-begins c.args.room c.args.c c.args.nodes.now c.args.edges.now c.requires.0 c.args.m.0 c.args.e c.args.stored b.result b.new.nodes b.new.edges b.ensures.0 _ c.in_err-counts.was, tt)

pub returns : goal.returns
returns c =
    let b = c.add_branch in (
      clone-begins c.args.room c.args.c c.args.nodes.now c.args.edges.now c.requires.0 c.args.m.0 c.args.e c.args.stored b.result b.new.nodes b.new.edges b.ensures.0 c.in_ok-counts.counts c.in_ok-counts.was,
      keeps-of c.args.c c.args.edges.now b.result b.new.edges b.ensures.1 c.in_ok-counts.counts c.in_ok-counts.was,
    )
