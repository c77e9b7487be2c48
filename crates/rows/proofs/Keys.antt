-- Keys compare as the rows that they are the keys of.
use mathlib.Core.Path.{◌≡◌, refl, sym, ◌∙◌}
use mathlib.Core.Bool.{Bool, true, false, false≢true, not, ◌&&◌, cond}
use mathlib.Core.List.{List}
use Prim.Native.Nat.{ℕ}
use native.Mathlib.Omega.{arith}
use lib.Dec.{eqb, ltb}
use borrow.Author.Tests.{ltb-true, ne_eqb}
use Rattle.std.specs.Ordering.{partial_lt, partial_ge, partial_ordering_then, is_some_and, is_lt, is_ge}
use Rattle.std.proofs.Common.{Less, Equal, Greater}
use Rattle.std.specs.Prelude.{Option, Some}
use Rattle.std.specs.declared.cmp.Ordering.{Ordering}
use Rattle.words.specs.Outcome.{pick}
use Rattle.rows.specs.contracts.KeyPartialOrd.TheImpl.{partial_cmp-value}
use Rattle.rows.specs.Rows.{Edge, edge_of, below, keyed}
use Rattle.rows.specs.Code.{key_of, row_at}
use Rattle.rows.specs.declared.Key as sought

-- the order of three pairs of numbers, from which are lower and which equal
abbrev ordered : Bool → Bool → Bool → Bool → Bool → Bool → Option Ordering
ordered a b c d e f =
    partial_ordering_then (Some (cond a Less (cond b Equal Greater)))
    (partial_ordering_then (Some (cond c Less (cond d Equal Greater))) (Some (cond e Less (cond f Equal Greater))))

both : (a b c d e f : Bool) → (a ≡ true → b ≡ false) → (c ≡ true → d ≡ false)
    → (is_some_and is_lt (ordered a b c d e f) ≡ pick b (pick d e c) a) × (is_some_and is_ge (ordered a b c d e f) ≡ not (pick b (pick d e c) a))
both true true c d e f g h = absurd (false≢true (sym (g refl)))
both true false c d e f g h = (refl, refl)
both false true true true e f g h = absurd (false≢true (sym (h refl)))
both false true true false e f g h = (refl, refl)
both false true false true true f g h = (refl, refl)
both false true false true false true g h = (refl, refl)
both false true false true false false g h = (refl, refl)
both false true false false e f g h = (refl, refl)
both false false c d e f g h = (refl, refl)

not-both : (m n : ℕ) → ltb m n ≡ true → eqb m n ≡ false
not-both m n h = ne_eqb m n (λ e. omega (arith, ltb-true m n h))

module _ (e : Edge) (k : sought.Key) where
  compared : (partial_lt partial_cmp-value.it (key_of e) k ≡ below k.from.0 k.kind k.symbol.0 e) × (partial_ge partial_cmp-value.it (key_of e) k ≡ not (below k.from.0 k.kind k.symbol.0 e))
  unfolding below
  compared =
      both (ltb e.from k.from.0) (eqb e.from k.from.0) (ltb e.kind k.kind) (eqb e.kind k.kind) (ltb e.sym k.symbol.0) (eqb e.sym k.symbol.0)
      (not-both e.from k.from.0) (not-both e.kind k.kind)

and-grouped : (a b c : Bool) → a && (b && c) ≡ a && b && c
and-grouped true b c = refl
and-grouped false b c = refl

-- what a comparison with the key of row i says: m is that key, as the code reads it
module _ (ws : List ℕ) (i : ℕ) (k : sought.Key) {m : sought.Key} {row : List ℕ} {b : Bool} (p : row ≡ row_at ws i) (q : m ≡ key_of (edge_of row)) where
  pub row-lower : b ≡ partial_lt partial_cmp-value.it m k → b ≡ below k.from.0 k.kind k.symbol.0 (edge_of (row_at ws i))
  row-lower r = r ∙ rw (q, p) ((compared (edge_of (row_at ws i)) k).0)

  pub row-not-lower : b ≡ partial_ge partial_cmp-value.it m k → b ≡ not (below k.from.0 k.kind k.symbol.0 (edge_of (row_at ws i)))
  row-not-lower r = r ∙ rw (q, p) ((compared (edge_of (row_at ws i)) k).1)

  pub row-keyed : b ≡ eqb m.from.0 k.from.0 && (eqb m.kind k.kind && eqb m.symbol.0 k.symbol.0) → b ≡ keyed k.from.0 k.kind k.symbol.0 (edge_of (row_at ws i))
  unfolding keyed
  row-keyed r =
      let e = edge_of (row_at ws i) in
      r ∙ rw (q, p) (and-grouped (eqb e.from k.from.0) (eqb e.kind k.kind) (eqb e.sym k.symbol.0))
