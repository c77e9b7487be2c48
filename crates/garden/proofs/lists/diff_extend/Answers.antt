use Rattle.std.proofs.Common.{◌∙◌, ap, sym}
use Rattle.rows.specs.Code.{reduces_are}
use Rattle.tree.proofs.Laws.{some-left, none-left}
use Rattle.garden.specs.Garden.{diff_extend}
use Rattle.garden.proofs.Carried.{items-few, rest-all, some-rule, differs-none, differs-matched, differs-carried, carries-fits, differs-all, differs-over}
use Rattle.garden.proofs.lists.diff_extend.Goals as goal
use Rattle.garden.proofs.lists.diff_extend.Goals.{then-has_rule, else-has_rule+in_ok-out}

pub loop-d-init : goal.loop-d-init
loop-d-init c =
    differs-none c.as_slice-d-items.result.now c.as_slice-left.result.now (reduces_are c.args.e) c.none-out.result
    (items-few c.args.f c.as_slice-d-items.result.now c.as_slice-d-items.ensures) c.as_slice-left.ensures c.none-out.ensures

pub slice_bounds-left-count : goal.slice_bounds-left-count
slice_bounds-left-count c = some-rule _ c.loop-d.left.now (sym c.has_rule.ensures ∙ c.if-has_rule.true)

pub slice_bounds-left-start : goal.slice_bounds-left-start
slice_bounds-left-start c = some-rule _ c.loop-d.left.now (sym c.has_rule.ensures ∙ c.if-has_rule.true)

pub returns-in_err-out : goal.returns-in_err-out
returns-in_err-out c =
    let l = c.loop-d in
    absurd (carries-fits c.as_slice-d-items.result.now (reduces_are c.args.e) l.out l.left.now l.d-index l.invariant c.loop-d-test.true c.push.result c.push.ensures _ c.in_err-out.was)

pub loop-d-preserved : goal.loop-d-preserved
loop-d-preserved c =
    let l = c.loop-d in
    elim c.if-has_rule.branch [
      | then-has_rule w ↦
          rw (w.out-is, w.left-is, rest-all l.left.now) (differs-matched c.as_slice-d-items.result.now (reduces_are c.args.e) l.out l.left.now l.d-index l.invariant c.loop-d-test.true
          (sym c.has_rule.ensures ∙ w.if-has_rule.true))
      | else-has_rule+in_ok-out w ↦
          rw (w.out-is, w.left-is) (differs-carried c.as_slice-d-items.result.now (reduces_are c.args.e) l.out l.left.now l.d-index l.invariant c.loop-d-test.true
          w.push.result w.push.ensures w.in_ok-out.out w.in_ok-out.was (sym c.has_rule.ensures ∙ w.if-has_rule.false))
    ]

pub returns-then-not-is_empty : goal.returns-then-not-is_empty
returns-then-not-is_empty c =
    let l = c.loop-d in
    differs-over c.as_slice-d-items.result.now (reduces_are c.args.e) l.out l.left.now l.d-index l.invariant c.loop-d-test.false
    (some-left _ l.left.now c.is_empty.ensures c.if-not-is_empty.true) ∙ ap (λ fs. diff_extend fs (reduces_are c.args.e)) c.as_slice-d-items.ensures

pub returns : goal.returns
returns c =
    let l = c.loop-d in
    differs-all c.as_slice-d-items.result.now (reduces_are c.args.e) l.out l.left.now l.d-index l.invariant c.loop-d-test.false
    (none-left _ l.left.now c.is_empty.ensures c.if-not-is_empty.false) ∙ ap (λ fs. diff_extend fs (reduces_are c.args.e)) c.as_slice-d-items.ensures
