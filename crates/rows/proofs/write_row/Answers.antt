use Prim.Native.Nat.{◌+◌, ◌*◌}
use mathlib.Core.Path.{◌≡◌, ap, ◌∙◌}
use native.Mathlib.Omega.{arith}
use borrow.Author.Rules.{rules}
use lib.ListN.{length, length-set, take, set}
use Rattle.rows.specs.Rows.{Reduce}
use Rattle.rows.specs.Code.{edge_is}
use Rattle.rows.proofs.Laws.{written-head, written-pair, written_all}
use borrow.Author.Rules.{rules}
use Rattle.rows.proofs.write_row.Goals as goal

pub bounds-row-0 : goal.bounds-row-0
bounds-row-0 c = omega arith

pub bounds-row-1 : goal.bounds-row-1
bounds-row-1 c = simp length-set (omega arith)

pub bounds-row-2 : goal.bounds-row-2
bounds-row-2 c = simp length-set (omega arith)

pub bounds-row-3 : goal.bounds-row-3
bounds-row-3 c = simp length-set (omega arith)

pub bounds-row-4 : goal.bounds-row-4
bounds-row-4 c = simp length-set (omega arith)

pub loop-k-init : goal.loop-k-init
loop-k-init c =
    let e = c.args.e in
    let h : length e.reduces.items ≡ 5 = search rules in
    (search rules, simp length-set (omega arith), written-head c.args.row.now e c.requires h)

pub bounds-row-k : goal.bounds-row-k
bounds-row-k c = omega arith

pub bounds-row-k-in-loop-k : goal.bounds-row-k-in-loop-k
bounds-row-k-in-loop-k c = simp length-set (omega arith)

pub loop-k-preserved : goal.loop-k-preserved
loop-k-preserved c =
    let l = c.loop-k in
    let e = edge_is c.args.e in (
      search rules,
      simp length-set (omega arith),
      ap (λ (r : Reduce). take (5 + 2 * (l.k + 1)) (set (set l.row (5 + 2 * l.k) r.rule) (6 + 2 * l.k) r.offset)) c.get-r.ensures
          ∙ written-pair l.row e l.k (search rules) l.invariant.1 l.invariant.2,
    )

pub bounds-row-15 : goal.bounds-row-15
bounds-row-15 c = omega arith

pub shape_of-row : goal.shape_of-row
shape_of-row c = simp length-set (omega arith)

pub returns : goal.returns
returns c =
    let l = c.loop-k in
    let e = edge_is c.args.e in
    let five : l.k ≡ 5 = omega arith in
    written_all l.row e l.invariant.1 (rw five at l.invariant.2)
