use Prim.Native.Nat.{◌+◌, ◌/◌}
use mathlib.Core.Path.{◌≡◌, sym}
use native.Mathlib.Omega.{arith}
use Rattle.rows.proofs.Index.{half-taken, half-left, search-none, search-found}
use Rattle.rows.proofs.search.Goals as goal
use Rattle.rows.proofs.search.Goals.{else-edges-row, then-edges-row}

pub returns-then-span : goal.returns-then-span
returns-then-span c =
    sym (search-none c.args.edges.now c.args.key.from.0 c.args.key.kind c.args.span.low c.args.span.high c.requires.0 c.requires.1 c.args.key.symbol.0
    λ i a b e. omega (arith, c.if-span.true))

pub loop-size-init : goal.loop-size-init
loop-size-init c =
    (omega (arith, c.if-span.false), omega arith, omega arith, omega (arith, c.if-span.false, c.requires.1.within), λ i a b e. (a, b))

-- the half beyond is taken or left
pub loop-size-preserved : goal.loop-size-preserved
loop-size-preserved c =
    let l = c.loop-size in
    let taken = c.loop-size-test.true in
    let wide = c.if-span.false in
    let half = l.size / 2 in
    let m = l.row + half in
    let law = half-taken c.args.edges.now c.args.key.from.0 c.args.key.kind c.args.span.low c.args.span.high c.requires.0 c.requires.1 m c.args.key.symbol.0
    (omega (arith, l.invariant)) (omega (arith, l.invariant, taken, wide)) in
    let other = half-left c.args.edges.now c.args.key.from.0 c.args.key.kind c.args.span.low c.args.span.high c.requires.0 c.requires.1 m c.args.key.symbol.0
    (omega (arith, l.invariant)) (omega (arith, l.invariant, taken, wide)) in (
      omega (arith, taken),
      elim c.if-edges-row.branch [ then-edges-row w ↦ omega (arith, w.row-is, l.invariant) | else-edges-row w ↦ omega (arith, w.row-is, l.invariant) ],
      elim c.if-edges-row.branch [ then-edges-row w ↦ omega (arith, w.row-is, l.invariant, taken) | else-edges-row w ↦ omega (arith, w.row-is, l.invariant, taken) ],
      l.invariant.3,
      λ i a b e.
          let q = l.invariant.4 i a b e in
          elim c.if-edges-row.branch [ then-edges-row w ↦ let g = law i a (omega (arith, wide)) e w.if-edges-row.true in (omega (arith, w.row-is), omega (arith, w.row-is)) | else-edges-row w ↦ let g = other i a (omega (arith, wide)) e w.if-edges-row.false in (omega (arith, w.row-is), omega (arith, w.row-is)) ],
    )

pub returns-else-edges-row-2 : goal.returns-else-edges-row-2
returns-else-edges-row-2 c =
    let l = c.loop-size in
    let wide = c.if-span.false in
    sym (search-none c.args.edges.now c.args.key.from.0 c.args.key.kind c.args.span.low c.args.span.high c.requires.0 c.requires.1 c.args.key.symbol.0
    λ i a b e.
    let q = l.invariant.4 i a (omega (arith, wide)) e in
    let z : i ≡ l.row = omega (arith, q, c.loop-size-test.false) in
    c.if-edges-row-2.false (rw z at e))

pub returns-then-edges-row-2 : goal.returns-then-edges-row-2
returns-then-edges-row-2 c =
    let l = c.loop-size in
    let low = c.args.span.low in
    let high = c.args.span.high in
    let t = c.if-span.false in
    sym (search-found c.args.edges.now c.args.key.from.0 c.args.key.kind low high c.requires.0 c.requires.1 c.args.key.symbol.0
    l.row l.invariant.1 (omega (arith, l.invariant, t)) c.if-edges-row-2.true)
