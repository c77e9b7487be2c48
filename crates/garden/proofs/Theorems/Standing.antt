-- The rows that stood when a copy began: they stay where younger rows are put in; and those of one node, one after another.
use Rattle.std.specs.Prelude.{◌≡◌, Bool, ◌&&◌, get_or, take, drop}
use Rattle.std.proofs.Math.Path.{refl}
use Rattle.std.proofs.Common.{not-suc-le-zero, le_of_suc-le-suc}
use Rattle.std.proofs.Math.Bool.{true, false}
use mathlib.Core.List.{List, [], ◌∷◌, ◌++◌}
use Prim.Native.Nat.{ℕ, zero, suc, ◌≤◌, ◌<◌}
use native.Mathlib.Omega.{arith}
use Rattle.std.proofs.Math.Dec.{eqb, ltb}
use Rattle.std.proofs.Math.ListN.{length}
use borrow.Author.Tests.{lt-ltb, ne_eqb, ltb-true, ltb-false}
use Rattle.words.specs.Outcome.{pick}
use Rattle.rules.proofs.Theorems.Every.{All, all_map}
use Rattle.rows.specs.Rows.{edge_of, edges_from, rising, leaving}
use Rattle.rows.specs.Code.{place_of}
use Rattle.rows.proofs.Theorems.Order.{from-below, from-above, from-rises, rising-rest, place-first}
use Rattle.tree.specs.Code.{Aged}
use Rattle.garden.specs.Code.{older, stood_from}

-- ---- rows by age

-- a younger row is put in
pub older-put : (k i : ℕ) (row : List ℕ) (rows : List (List ℕ)) → ltb (get_or row 15 0) k ≡ false → older k (take i rows ++ row ∷ drop i rows) ≡ older k rows
unfolding older
older-put k zero row rows h = rw h
older-put k (suc i) row [] h = rw h
older-put k (suc i) row (r ∷ rows) h = rw (older-put k i row rows h)

pub older-all : (k : ℕ) (rows : List (List ℕ)) → All (Aged k) rows → older k rows ≡ rows
unfolding older
older-all k [] a = refl
older-all k (row ∷ rows) a = rw (lt-ltb (get_or row 15 0) k a.0, older-all k rows a.1)

pub older-older : (k m : ℕ) (rows : List (List ℕ)) → k ≤ m → older k (older m rows) ≡ older k rows
unfolding older
older-older k m [] h = refl
older-older k m (row ∷ rows) h = by (ltb (get_or row 15 0) m) (ltb (get_or row 15 0) k) refl refl (older-older k m rows h)
  where
    by : (b d : Bool) → ltb (get_or row 15 0) m ≡ b → ltb (get_or row 15 0) k ≡ d → older k (older m rows) ≡ older k rows
        → older k (pick b (row ∷ older m rows) (older m rows)) ≡ pick d (row ∷ older k rows) (older k rows)
    by true d t u f = rw (u, f)
    by false true t u f = absurd (omega (arith, h, ltb-false (get_or row 15 0) m t, ltb-true (get_or row 15 0) k u))
    by false false t u f = f

-- ---- and of one node

and-false : (b : Bool) → b && false ≡ false
and-false true = refl
and-false false = refl

module _ (n k : ℕ) where
  pub stood-older : (m : ℕ) (rows : List (List ℕ)) → k ≤ m → stood_from n k (older m rows) ≡ stood_from n k rows
  unfolding older stood_from
  stood-older m [] h = refl
  stood-older m (row ∷ rows) h = by (ltb (get_or row 15 0) m) (ltb (get_or row 15 0) k) refl refl (stood-older m rows h)
    where
      by : (b d : Bool) → ltb (get_or row 15 0) m ≡ b → ltb (get_or row 15 0) k ≡ d → stood_from n k (older m rows) ≡ stood_from n k rows
          → stood_from n k (pick b (row ∷ older m rows) (older m rows)) ≡ pick (d && eqb (edge_of row).from n) (edge_of row ∷ stood_from n k rows) (stood_from n k rows)
      by true d t u f = rw (u, f)
      by false true t u f = absurd (omega (arith, h, ltb-false (get_or row 15 0) m t, ltb-true (get_or row 15 0) k u))
      by false false t u f = f

  -- all rows, if they stood
  pub stood-all : (rows : List (List ℕ)) → All (Aged k) rows → stood_from n k rows ≡ leaving n (edges_from rows)
  unfolding stood_from leaving edges_from
  stood-all [] a = refl
  stood-all (row ∷ rows) a = rw (lt-ltb (get_or row 15 0) k a.0, stood-all rows a.1)

  pub stood-length : (rows : List (List ℕ)) → length (stood_from n k rows) ≤ length rows
  unfolding stood_from
  stood-length [] = omega arith
  stood-length (row ∷ rows) = by (ltb (get_or row 15 0) k && eqb (edge_of row).from n) (stood-length rows)
    where
      by : (b : Bool) → length (stood_from n k rows) ≤ length rows → length (pick b (edge_of row ∷ stood_from n k rows) (stood_from n k rows)) ≤ suc (length rows)
      by true f = omega arith
      by false f = omega arith

  -- none before the place of the node's first key
  pub stood-start : (rows : List (List ℕ)) → stood_from n k (drop (place_of n 0 0 (edges_from rows)) rows) ≡ stood_from n k rows
  unfolding place_of edges_from stood_from
  stood-start [] = refl
  stood-start (row ∷ rows) = by (ltb (edge_of row).from n) refl (stood-start rows)
    where
      by : (b : Bool) → ltb (edge_of row).from n ≡ b → stood_from n k (drop (place_of n 0 0 (edges_from rows)) rows) ≡ stood_from n k rows
          → stood_from n k (drop (place_of n 0 0 (edges_from (row ∷ rows))) (row ∷ rows)) ≡ stood_from n k (row ∷ rows)
      by true t f =
          let l = ltb-true (edge_of row).from n t in
          rw (from-below n (edge_of row) l, ne_eqb (edge_of row).from n (λ p. omega arith), and-false (ltb (get_or row 15 0) k)) f
      by false t f = rw (from-above n (edge_of row) (ltb-false (edge_of row).from n t))

  stood-none : (rows : List (List ℕ)) → All (λ d. n < d.from) (edges_from rows) → stood_from n k rows ≡ []
  unfolding stood_from edges_from
  stood-none [] a = refl
  stood-none (row ∷ rows) a = rw (ne_eqb (edge_of row).from n (λ p. omega (arith, a.0)), and-false (ltb (get_or row 15 0) k)) (stood-none rows a.1)

  -- and none from another node's row on, past that place
  pub stood-past : (i : ℕ) (rows : List (List ℕ)) → rising (edges_from rows) ≡ true → place_of n 0 0 (edges_from rows) ≤ i → ((edge_of (get_or rows i [])).from ≡ n → ⊥)
      → stood_from n k (drop i rows) ≡ []
  unfolding place_of edges_from stood_from
  stood-past zero [] r p f = refl
  stood-past (suc i) [] r p f = refl
  stood-past zero (row ∷ rows) r p f = by (ltb (edge_of row).from n) refl
    where
      by : (b : Bool) → ltb (edge_of row).from n ≡ b → stood_from n k (row ∷ rows) ≡ []
      by true t = absurd (not-suc-le-zero (rw (from-below n (edge_of row) (ltb-true (edge_of row).from n t)) at p))
      by false t =
          let l : n < (edge_of row).from = omega (arith, ltb-false (edge_of row).from n t, f) in
          stood-none (row ∷ rows) (l, all_map (λ d. (edge_of row).from ≤ d.from) (λ d. n < d.from) (λ d g. omega arith) (edges_from rows) (from-rises (edge_of row) (edges_from rows) r))
  stood-past (suc i) (row ∷ rows) r p f = by (ltb (edge_of row).from n) refl (λ q. stood-past i rows (rising-rest (edge_of row) (edges_from rows) r) q f)
    where
      by : (b : Bool) → ltb (edge_of row).from n ≡ b → (place_of n 0 0 (edges_from rows) ≤ i → stood_from n k (drop i rows) ≡ []) → stood_from n k (drop i rows) ≡ []
      by true t h = h (le_of_suc-le-suc (rw (from-below n (edge_of row) (ltb-true (edge_of row).from n t)) at p))
      by false t h =
          let l = ltb-false (edge_of row).from n t in
          let z = place-first n (edges_from rows) (all_map (λ d. (edge_of row).from ≤ d.from) (λ d. n ≤ d.from) (λ d g. omega arith) (edges_from rows) (from-rises (edge_of row) (edges_from rows) r)) in
          h (omega (arith, z))
