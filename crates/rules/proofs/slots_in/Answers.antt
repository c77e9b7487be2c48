use Rattle.std.proofs.Common.{rules, arith}
use Rattle.rules.proofs.Items.{split, first-good, short-none, slots-first}
use Rattle.rules.specs.Rules.{slots, items_of}
use Rattle.rules.proofs.slots_in.Goals as goal

pub loop-kind-preserved-then-kind-eq1 : goal.loop-kind-preserved-then-kind-eq1
loop-kind-preserved-then-kind-eq1 c =
    let others = c.in-Some.others.now in
    let l = c.loop-kind in
    let h = c.in-Some.ensures.cases in
    let e = split l.rest.now c.in-Some.field-0-0.now others h in
    let g = rw e at l.invariant.0 in
    let s = (slots-first _ _ _ others g).0 (search rules) in
    let i = rw e at l.invariant.1 in
    ((first-good _ _ _ others g).3, omega (arith, s, i), omega (arith, l.invariant.2, h.2))

pub loop-kind-preserved : goal.loop-kind-preserved
loop-kind-preserved c =
    let others = c.in-Some.others.now in
    let l = c.loop-kind in
    let h = c.in-Some.ensures.cases in
    let e = split l.rest.now c.in-Some.field-0-0.now others h in
    let g = rw e at l.invariant.0 in
    let s = (slots-first _ _ _ others g).1 (search rules) in
    let i = rw e at l.invariant.1 in
    ((first-good _ _ _ others g).3, omega (arith, s, i), omega (arith, l.invariant.2, h.2))

pub returns : goal.returns
unfolding slots items_of
returns c =
    let l = c.loop-kind in
    let e = short-none l.rest.now (search rules) l.invariant.0 in
    let i = rw e at l.invariant.1 in
    omega (arith, i)
