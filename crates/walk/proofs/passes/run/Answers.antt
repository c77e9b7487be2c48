use mathlib.Core.Path.{◌≡◌, refl, sym, ◌∙◌}
use native.Mathlib.Omega.{arith}
use lib.Seq.{length-take-le}
use Rattle.walk.proofs.Laws.{stack-taken}
use Rattle.walk.proofs.Running.{going_start, going-ready, walking_start, walking_on, end_fits, walking-end, walking-stop, walking-out}
use Rattle.walk.proofs.passes.run.Goals as goal

pub loop-n-init : goal.loop-n-init
loop-n-init c =
    let a = c.args in
    let p = c.requires in (
      refl,
      refl,
      rw c.start-s.ensures
          (walking_start a.g.now.book.rules.now a.g.now.nodes.now a.g.now.edges.now a.tokens.now a.h a.frames.now a.list.now a.work.now
          (going_start a.tokens.now a.frames.now a.list.now a.work.now p.0 p.1 p.2)),
    )

pub slice_bounds-wish_of-end : goal.slice_bounds-wish_of-end
slice_bounds-wish_of-end c = c.loop-n.invariant.2.going.placed.frames

pub slice_bounds-wish_of-end-in-loop-n : goal.slice_bounds-wish_of-end-in-loop-n
slice_bounds-wish_of-end-in-loop-n c = sym (length-take-le _ _ c.loop-n.invariant.2.going.placed.frames)

pub pass-requires : goal.pass-requires
pass-requires c =
    let h = c.args.h in
    let l = c.loop-n in
    let k = stack-taken l.s.frames l.frames l.invariant.2.going.placed.frames in
    going-ready h.goal h.room l.s l.invariant.2.going c.wish_of.result (rw k at c.wish_of.ensures)

pub overflow_cast-result : goal.overflow_cast-result
overflow_cast-result c =
    let a = c.args in
    let l = c.loop-n in
    let f = end_fits a.g.now.book.rules.now a.g.now.nodes.now a.g.now.edges.now a.tokens.now a.h a.frames.now l.s l.n l.frames l.list l.work
    l.invariant.2 c.loop-n-test.true c.pass.ensures c.in-Ok-End.length (rw c.in-Ok-End.field-0-is at c.in-Ok-End.is) in
    omega (arith, f)

pub returns-in-Ok-End : goal.returns-in-Ok-End
returns-in-Ok-End c =
    let a = c.args in
    let l = c.loop-n in
    walking-end a.g.now.book.rules.now a.g.now.nodes.now a.g.now.edges.now a.tokens.now a.h a.frames.now l.s l.n l.frames l.list l.work
    l.invariant.2 c.loop-n-test.true c.pass.ensures c.in-Ok-End.length (rw c.in-Ok-End.field-0-is at c.in-Ok-End.is)

pub returns-in-Err : goal.returns-in-Err
returns-in-Err c =
    let a = c.args in
    let l = c.loop-n in
    rw c.halted.ensures
    (walking-stop a.g.now.book.rules.now a.g.now.nodes.now a.g.now.edges.now a.tokens.now a.h a.frames.now l.s l.n l.frames l.list l.work
    l.invariant.2 c.loop-n-test.true c.pass.ensures c.in-Err.y c.in-Err.is _ _ refl refl)

pub loop-n-preserved : goal.loop-n-preserved
loop-n-preserved c =
    let a = c.args in
    let l = c.loop-n in (
      c.pass.auto.list ∙ l.invariant.0,
      c.pass.auto.work ∙ l.invariant.1,
      walking_on a.g.now.book.rules.now a.g.now.nodes.now a.g.now.edges.now a.tokens.now a.h a.frames.now l.s l.n l.frames l.list l.work
          l.invariant.2 c.loop-n-test.true c.pass.ensures c.in-Ok-On.q (rw c.in-Ok-On.field-0-is at c.in-Ok-On.is) c.pass.auto.frames,
    )

pub returns : goal.returns
returns c =
    let a = c.args in
    let l = c.loop-n in
    let e : l.n ≡ a.h.allowance = omega arith in
    (rw e at (walking-out a.g.now.book.rules.now a.g.now.nodes.now a.g.now.edges.now a.tokens.now a.h a.frames.now l.s l.n l.frames l.list l.work
    l.invariant.2 (omega arith)))
