use Rattle.words.specs.Lent.{zeros}
use Rattle.std.proofs.Common.{◌≡◌, length, rules}
use Prim.Native.Nat.{◌+◌}
use mathlib.Core.Path.{◌≡◌}
use native.Mathlib.Omega.{arith}
use lib.ListN.{length}
use Rattle.rows.specs.Code.{Spans}
use Rattle.rows.proofs.Index.{root-span, rooting-none, rooting-past, rooting-more, rooting-end, variables-after}
use Rattle.rows.proofs.index_roots.Goals as goal
use Rattle.rows.proofs.index_roots.Goals.{then-t-roots, else-t-roots}

pub past-low-requires : goal.past-low-requires
past-low-requires c = (c.requires.0, omega arith)

pub past-high-requires : goal.past-high-requires
past-high-requires c =
    (c.requires.0, rw c.past-low.ensures (variables-after c.args.edges.now c.requires.0 0))

pub loop-row-init : goal.loop-row-init
loop-row-init c =
    let zero : c.fill.new.self ≡ zeros (length c.args.roots.now) = search rules in
    rw zero (rooting-none c.args.edges.now (length c.args.roots.now) c.past-low.result)

pub loop-row-preserved : goal.loop-row-preserved
loop-row-preserved c =
    let span : Spans c.args.edges.now 0 0 c.past-low.result c.past-high.result = rw (c.past-low.ensures, c.past-high.ensures) (root-span c.args.edges.now c.requires.0) in
    let ws = c.args.edges.now in
    let l = c.loop-row in
    let on = c.loop-row-test.true in
    elim c.if-t-roots.branch [
      | then-t-roots w ↦
          rw w.roots-is (rooting-more ws _ _ c.requires.0 span l.roots l.row l.invariant (omega arith) on w.if-t-roots.true (l.row + 1) (omega arith))
      | else-t-roots w ↦
          rw w.roots-is (rooting-past ws _ _ c.requires.0 span l.roots l.row l.invariant (omega arith) on w.if-t-roots.false)
    ]

pub returns : goal.returns
returns c =
    let span : Spans c.args.edges.now 0 0 c.past-low.result c.past-high.result = rw (c.past-low.ensures, c.past-high.ensures) (root-span c.args.edges.now c.requires.0) in
    let l = c.loop-row in
    let e : l.row ≡ c.past-high.result = omega (arith, variables-after c.args.edges.now c.requires.0 0) in
    (rooting-end c.args.edges.now _ _ c.requires.0 span l.roots (rw e at l.invariant), cc)
