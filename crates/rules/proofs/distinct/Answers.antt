use Rattle.std.proofs.Common.{rules, sym, ◌∙◌}
use Rattle.rules.proofs.Items.{split, first-good, short-none, distinct-con-first, distinct-slot-first, variable-first}
use Rattle.rules.specs.Rules.{distinct, variables}
use Rattle.rules.proofs.distinct.Goals as goal
use Rattle.rules.proofs.distinct.Goals.{else-kind-eq1-via-then-kind-eq1+else-not-absent, else-kind-eq1-via-else-kind-eq1}

pub absent-requires : goal.absent-requires
absent-requires c =
    let others = c.in-Some.others.now in
    let e = split c.loop-kind.rest.now c.in-Some.field-0-0.now others c.in-Some.ensures.cases in
    let g = rw e at c.loop-kind.invariant.0 in
    ((first-good _ _ _ others g).3, variable-first _ _ _ others g (search rules))

pub returns-then-not-absent : goal.returns-then-not-absent
returns-then-not-absent c =
    let others = c.in-Some.others.now in
    let e = split c.loop-kind.rest.now c.in-Some.field-0-0.now others c.in-Some.ensures.cases in
    let g = rw e at c.loop-kind.invariant.0 in
    let a = sym c.absent.ensures ∙ c.if-not-absent.true in
    search (rules, ← c.loop-kind.invariant.1, e, distinct-slot-first _ _ _ others g c.if-kind-eq1.true, a)

pub loop-kind-preserved : goal.loop-kind-preserved
loop-kind-preserved c =
    let others = c.in-Some.others.now in
    let e = split c.loop-kind.rest.now c.in-Some.field-0-0.now others c.in-Some.ensures.cases in
    let g = rw e at c.loop-kind.invariant.0 in (
      (first-good _ _ _ others g).3,
      elim c.else-kind-eq1.branch [
        | else-kind-eq1-via-then-kind-eq1+else-not-absent w ↦
            let a = sym w.absent.ensures ∙ w.if-not-absent.false in
            search (rules, ← c.loop-kind.invariant.1, e, distinct-slot-first _ _ _ others g w.if-kind-eq1.true, a)
        | else-kind-eq1-via-else-kind-eq1 w ↦ search (rules, ← c.loop-kind.invariant.1, e, distinct-con-first _ _ _ others g w.if-kind-eq1.false)
      ],
    )

pub returns : goal.returns
unfolding distinct variables
returns c = search (rules, ← c.loop-kind.invariant.1, short-none c.loop-kind.rest.now (search rules) c.loop-kind.invariant.0)
