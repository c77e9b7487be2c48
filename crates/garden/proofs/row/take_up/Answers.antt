use Rattle.std.proofs.Common.{◌∙◌, sym, eqb-true}
use Rattle.std.proofs.lemmas.Bool.{eqb-false}
use Rattle.std.proofs.lemmas.Result.{err_from_is_err_and}
use Rattle.garden.proofs.Copying.{kept_same}
use Rattle.garden.proofs.Taking.{keeps-of, up-skipped, up_same, up-leaf, up-branch, up-taken, up-refused}
use Rattle.garden.proofs.row.take_up.Goals as goal

pub returns-then-eq : goal.returns-then-eq
returns-then-eq c = (
  up-skipped c.args.room c.args.c c.args.nodes.now c.args.edges.now c.requires.0 c.args.t.0 c.args.clone c.args.e c.requires.3 c.requires.4 (eqb-true _ _ (sym c.eq.ensures ∙ c.if-eq.true)),
  kept_same c.args.room c.args.c c.args.edges.now c.requires.0.rowed,
)

pub returns-then-eq-2 : goal.returns-then-eq-2
returns-then-eq-2 c = (
  up_same c.args.room c.args.c c.args.nodes.now c.args.edges.now c.requires.0 c.args.t.0 c.args.clone c.args.e c.requires.3 c.requires.4 (eqb-false _ _ (sym c.eq.ensures ∙ c.if-eq.false))
      (eqb-true _ _ (sym c.eq-2.ensures ∙ c.if-eq-2.true)),
  tt,
)

pub returns-then-not-branch_at : goal.returns-then-not-branch_at
returns-then-not-branch_at c = (
  up-leaf c.args.room c.args.c c.args.nodes.now c.args.edges.now c.requires.0 c.args.t.0 c.args.clone c.args.e c.requires.3 c.requires.4 (eqb-false _ _ (sym c.eq.ensures ∙ c.if-eq.false))
      (eqb-false _ _ (sym c.eq-2.ensures ∙ c.if-eq-2.false)) (sym c.branch_at.ensures ∙ c.if-not-branch_at.true),
  tt,
)

pub returns-then-branch_at : goal.returns-then-branch_at
returns-then-branch_at c =
    let b = c.take_branch in (
      up-branch c.args.room c.args.c c.args.nodes.now c.args.edges.now c.requires.0 c.args.t.0 c.args.clone c.args.e c.requires.3 c.requires.4 (eqb-false _ _ (sym c.eq.ensures ∙ c.if-eq.false))
          (eqb-false _ _ (sym c.eq-2.ensures ∙ c.if-eq-2.false)) (sym c.branch_at.ensures ∙ c.if-not-branch_at.false)
          (sym c.branch_at-2.ensures ∙ c.if-branch_at.true) b.result b.new.nodes b.new.edges b.ensures.0,
      b.ensures.1,
    )

pub returns-in_err-counts : goal.returns-in_err-counts
returns-in_err-counts c =
    let b = c.take_leaf in
    let p = err_from_is_err_and c.from_residual.result c.from_residual.ensures.1 in
    rw (p.1, p.2) (
      up-refused c.args.room c.args.c c.args.nodes.now c.args.edges.now c.requires.0 c.args.t.0 c.args.clone c.args.e c.requires.3 c.requires.4 (eqb-false _ _ (sym c.eq.ensures ∙ c.if-eq.false))
          (eqb-false _ _ (sym c.eq-2.ensures ∙ c.if-eq-2.false)) (sym c.branch_at.ensures ∙ c.if-not-branch_at.false)
          (sym c.branch_at-2.ensures ∙ c.if-branch_at.false) b.result b.new.edges b.ensures.0 _ c.in_err-counts.was,
      tt,
    )

pub returns : goal.returns
returns c =
    let b = c.take_leaf in (
      up-taken c.args.room c.args.c c.args.nodes.now c.args.edges.now c.requires.0 c.args.t.0 c.args.clone c.args.e c.requires.3 c.requires.4 (eqb-false _ _ (sym c.eq.ensures ∙ c.if-eq.false))
          (eqb-false _ _ (sym c.eq-2.ensures ∙ c.if-eq-2.false)) (sym c.branch_at.ensures ∙ c.if-not-branch_at.false)
          (sym c.branch_at-2.ensures ∙ c.if-branch_at.false) b.result b.new.edges b.ensures.0 _ c.in_ok-counts.was,
      keeps-of c.args.c c.args.edges.now b.result b.new.edges b.ensures.1 _ c.in_ok-counts.was,
    )
