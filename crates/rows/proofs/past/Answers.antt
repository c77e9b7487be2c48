use mathlib.Core.Path.{◌≡◌, sym, ◌∙◌}
use mathlib.Core.Bool.{true, false}
use native.Mathlib.Omega.{arith}
use Rattle.std.proofs.lemmas.Bool.{not-true, not-false}
use Rattle.rows.specs.Rows.{edge_of, below}
use Rattle.rows.specs.Code.{row_at}
use Rattle.rows.proofs.Keys.{row-not-lower}
use Rattle.rows.proofs.Laws.{place_in, half-lower, half-higher}
use Rattle.rows.proofs.past.Goals as goal

pub returns-then-ge : goal.returns-then-ge
returns-then-ge c =
    let l = c.loop-i in
    let ws = c.args.edges.now in
    let is : below c.args.from.0 c.args.kind 0 (edge_of (row_at ws l.i)) ≡ false =
    not-true _ (rw c.lowest-lowest.ensures at (sym (row-not-lower ws l.i c.lowest-lowest.result c.row_at.ensures c.key_of.ensures c.ge.ensures) ∙ c.if-ge.true)) in
    omega (arith, l.invariant, half-higher c.args.from.0 c.args.kind 0 ws l.i c.loop-i-test.true is)

pub loop-i-preserved : goal.loop-i-preserved
loop-i-preserved c =
    let l = c.loop-i in
    let ws = c.args.edges.now in
    let is : below c.args.from.0 c.args.kind 0 (edge_of (row_at ws l.i)) ≡ true =
    not-false _ (rw c.lowest-lowest.ensures at (sym (row-not-lower ws l.i c.lowest-lowest.result c.row_at.ensures c.key_of.ensures c.ge.ensures) ∙ c.if-ge.false)) in
    omega (arith, half-lower c.args.from.0 c.args.kind 0 ws l.i c.loop-i-test.true c.requires.0 is)

pub returns : goal.returns
returns c =
    omega (arith, c.loop-i.invariant, c.loop-i-test.false, place_in c.args.from.0 c.args.kind 0 c.args.edges.now)
