use mathlib.Core.Path.{◌∙◌}
use Prim.Native.Nat.{◌-◌, ◌%◌, ◌≤◌, ◌<◌}
use native.Mathlib.Omega.{arith}
use borrow.Author.Tests.{eq-eqb, ne_eqb}
use lib.ListN.{get_or, length-set}
use Rattle.words.proofs.Theorems.Parts.{part-all}
use Rattle.formula.specs.Code.{places}
use Rattle.formula.proofs.Checking.{turns-done, top-pending, top-near, turns-off, turns-stacked, turns-item}
use Rattle.formula.proofs.take_turn.Goals as goal

pub returns-then-s-eq0 : goal.returns-then-s-eq0
returns-then-s-eq0 c = turns-done _ _ _ _ c.requires.0 _ c.requires.1 c.if-depth-eq0.true _ (rw (eq-eqb _ _ c.if-s-eq0.true))

pub returns-else-s-eq0 : goal.returns-else-s-eq0
returns-else-s-eq0 c = turns-done _ _ _ _ c.requires.0 _ c.requires.1 c.if-depth-eq0.true _ (rw (ne_eqb _ _ c.if-s-eq0.false))

pub returns-then-left-eq0 : goal.returns-then-left-eq0
returns-then-left-eq0 c = turns-off _ _ _ _ c.requires.0 (omega arith) _ c.if-left-eq0.true

pub slice_bounds-last_item-count : goal.slice_bounds-last_item-count
slice_bounds-last_item-count c = omega (arith, top-near _ _ _ _ c.requires.0 (omega arith))

pub slice_bounds-last_item-start : goal.slice_bounds-last_item-start
slice_bounds-last_item-start c = omega (arith, top-near _ _ _ _ c.requires.0 (omega arith))

pub last_item-item-requires : goal.last_item-item-requires
last_item-item-requires c =
    let p = top-pending _ _ _ _ c.requires.0 (omega arith) in
    rw (part-all c.args.book.now.rules.now _) (p.good, omega arith, p.left)

pub fill-requires : goal.fill-requires
fill-requires c =
    turns-stacked _ _ _ _ c.requires.0 (omega arith) _ (omega arith) (rw (part-all c.args.book.now.rules.now _) at c.last_item-item.ensures)

pub returns-in-Con : goal.returns-in-Con
returns-in-Con c =
    let d : 0 < c.args.s.depth = omega arith in
    let n : 1 ≤ get_or c.args.work.now (c.args.s.depth - 1) 0 % places = omega arith in
    let e = rw (part-all c.args.book.now.rules.now _, c.in-Con.is) at c.last_item-item.ensures in
    turns-item _ _ _ _ c.requires.0 d _ n e _ _ _ (c.meet.ensures _ _ _ (turns-stacked _ _ _ _ c.requires.0 d _ n e))

pub shape_of-work-in-Slot : goal.shape_of-work-in-Slot
shape_of-work-in-Slot c = c.fill.auto.work ∙ length-set c.args.work.now (c.args.s.depth - 1) _

pub returns-in-Slot : goal.returns-in-Slot
returns-in-Slot c =
    let e = rw (part-all c.args.book.now.rules.now _, c.in-Slot.is) at c.last_item-item.ensures in
    turns-item _ _ _ _ c.requires.0 (omega arith) _ (omega arith) e _ _ _ (c.fill.ensures _)
