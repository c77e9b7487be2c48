use Rattle.rows.specs.Rows.{find}
use Rattle.std.proofs.lemmas.Result.{err_from_is_err_and}
use Rattle.tree.specs.Code.{edges_in}
use Rattle.tree.proofs.Laws.{row-readable, read-leads}
use Rattle.garden.proofs.Carried.{listed, unlisted}
use Rattle.garden.proofs.Taking.{raise-refused, branch-free, branch-there}
use Rattle.garden.proofs.row.take_branch.Goals as goal

pub returns-in_err-raised : goal.returns-in_err-raised
returns-in_err-raised c =
    let p = err_from_is_err_and c.from_residual.result c.from_residual.ensures.1 in
    rw (p.1, p.2) (
      raise-refused c.args.room c.args.c c.args.nodes.now c.args.edges.now c.args.clone c.args.e (find (edges_in c.args.c.edges c.args.edges.now) c.args.clone.to.0 c.args.e.key.kind c.args.e.key.symbol.0)
          _ (unlisted _ c.raised_on.result c.raised_on.ensures _ c.in_err-raised.was),
      tt,
    )

pub returns-in_default : goal.returns-in_default
returns-in_default c =
    let raised = listed _ c.raised_on.result c.raised_on.ensures c.in_ok-raised.raised c.in_ok-raised.was in
    let b = c.new_branch in
    (branch-free c.args.room c.args.c c.args.nodes.now c.args.edges.now c.args.clone c.args.e c.in_ok-raised.raised raised b.result b.new.nodes b.new.edges c.in_default.ensures b.ensures.0, b.ensures.1)

pub read_row-d-requires : goal.read_row-d-requires
read_row-d-requires c =
    row-readable c.args.room c.args.c c.args.edges.now c.in-Some.row c.requires.0.rowed c.in-Some.ensures.within

pub old_branch-requires : goal.old_branch-requires
old_branch-requires c =
    read-leads c.args.room c.args.c c.args.edges.now c.in-Some.row c.read_row-d.result c.requires.0.rowed c.in-Some.ensures.within c.read_row-d.ensures

pub returns : goal.returns
returns c =
    let raised = listed _ c.raised_on.result c.raised_on.ensures c.in_ok-raised.raised c.in_ok-raised.was in
    let b = c.old_branch.ensures c.args.room c.args.nodes.now c.args.edges.now c.requires.0 in (
      branch-there c.args.room c.args.c c.args.nodes.now c.args.edges.now c.args.clone c.args.e c.in_ok-raised.raised raised c.old_branch.result c.args.nodes.now c.args.edges.now
          c.in-Some.row c.read_row-d.result c.in-Some.ensures c.read_row-d.ensures b.0,
      b.1,
    )
