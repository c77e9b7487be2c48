use Prim.Native.Nat.{◌+◌, ◌-◌, ◌/◌}
use mathlib.Core.Path.{sym, ◌∙◌}
use native.Mathlib.Omega.{arith}
use borrow.Author.Rules.{rules}
use Rattle.rows.proofs.Keys.{row-lower}
use Rattle.rows.proofs.Laws.{place_in, half-lower, half-higher}
use Rattle.rows.proofs.place_of.Goals as goal

pub loop-low-init : goal.loop-low-init
loop-low-init c =
    (search rules, place_in c.args.key.from.0 c.args.key.kind c.args.key.symbol.0 c.args.edges.now, search rules)

pub loop-low-preserved-then-lt : goal.loop-low-preserved-then-lt
loop-low-preserved-then-lt c =
    let l = c.loop-low in
    let ws = c.args.edges.now in
    let k = c.args.key in
    let half = l.low + (l.high - l.low) / 2 in
    let is = sym (row-lower ws half k c.row_at.ensures c.key_of.ensures c.lt.ensures) ∙ c.if-lt.true in
    let under = half-lower k.from.0 k.kind k.symbol.0 ws half (omega (arith, l.invariant)) c.requires is in
    (omega arith, l.invariant.1, l.invariant.2)

pub loop-low-preserved : goal.loop-low-preserved
loop-low-preserved c =
    let l = c.loop-low in
    let ws = c.args.edges.now in
    let k = c.args.key in
    let half = l.low + (l.high - l.low) / 2 in
    let is = sym (row-lower ws half k c.row_at.ensures c.key_of.ensures c.lt.ensures) ∙ c.if-lt.false in
    let over = half-higher k.from.0 k.kind k.symbol.0 ws half (omega (arith, l.invariant)) is in
    (l.invariant.0, omega arith, omega (arith, l.invariant))

pub returns : goal.returns
returns c = omega (arith, c.loop-low.invariant)
