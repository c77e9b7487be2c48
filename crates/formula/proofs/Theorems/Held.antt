-- The trees that stand in the code's slices.
use Rattle.std.specs.Prelude.{◌≡◌, refl, ℕ, ◌≤◌, length, take, drop}
use Rattle.std.proofs.Common.{sym, ap, ◌∙◌, arith, length-drop, take-append-drop, take_all, length-take-le}
use mathlib.Core.List.{List, [], ◌∷◌, ◌++◌, reverse, reverse-append, reverse-cons, map, map-append}
use Rattle.std.proofs.lemmas.List.{take-append-le, drop-append-le}
use Rattle.formula.specs.Reducing.{Trees, flat}
use Rattle.formula.specs.Code.{most_room, pieces, trees_of, Inside, Stands}
use Rattle.formula.specs.declared.Trees as held
use Rattle.formula.specs.Tail.{total}
use Rattle.formula.proofs.Theorems.Flat.{flat_append, stacked, total-stacked, length-stacked}

-- one piece more
pieces-last : (ns ws us : List ℕ) → total ns ≡ length ws → pieces (ns ++ length us ∷ []) (ws ++ us) ≡ pieces ns ws ++ us ∷ []
unfolding pieces total
pieces-last [] [] us e = ap (λ (t : List ℕ). t ∷ []) (take_all (length us) us (omega arith))
pieces-last [] (w ∷ ws) us e = absurd (omega arith)
pieces-last (n ∷ ns) ws us e =
    rw (take-append-le n ws us (omega arith), drop-append-le n ws us (omega arith), pieces-last ns (drop n ws) us (simp length-drop (omega arith)))

-- the list of trees, cut by their sizes, is the trees
pub pieces-back : (ts : Trees) → reverse (pieces (stacked ts) (flat ts)) ≡ ts
unfolding flat pieces
pieces-back [] = refl
pieces-back (t ∷ ts) =
    rw (
      reverse-cons (length t) (map length ts),
      pieces-last (stacked ts) (flat ts) t (total-stacked ts),
      reverse-append (pieces (stacked ts) (flat ts)) (t ∷ []),
      pieces-back ts,
    )

-- a list cut by sizes that come to its length: it is the list of the trees, and those are their sizes
pub cut-flat : (ns ws : List ℕ) → total ns ≡ length ws → flat (reverse (pieces ns ws)) ≡ ws
unfolding flat pieces total
cut-flat [] [] e = refl
cut-flat [] (w ∷ ws) e = absurd (omega arith)
cut-flat (n ∷ ns) ws e =
    rw (
      reverse-cons (take n ws) (pieces ns (drop n ws)),
      flat_append (reverse (pieces ns (drop n ws))) (take n ws ∷ []),
      cut-flat ns (drop n ws) (simp length-drop (omega arith)),
    ) (take-append-drop n ws)

pub cut-sizes : (ns ws : List ℕ) → total ns ≡ length ws → stacked (reverse (pieces ns ws)) ≡ ns
unfolding pieces total
cut-sizes [] ws e = refl
cut-sizes (n ∷ ns) ws e =
    let p = reverse (pieces ns (drop n ws)) in
    rw (
      reverse-cons (take n ws) (pieces ns (drop n ws)),
      map-append length p (take n ws ∷ []),
      reverse-append (map length p) (length (take n ws) ∷ []),
      cut-sizes ns (drop n ws) (simp length-drop (omega arith)),
      length-take-le n ws (omega arith),
    )

-- the trees that have this list and these sizes
pub trees-are : (s : held.Trees) (ls ws : List ℕ) (ts : Trees) → flat ts ≡ take s.len ls → stacked ts ≡ take s.count ws → trees_of s ls ws ≡ ts
unfolding trees_of
trees-are s ls ws ts e f = rw (← e, ← f) (pieces-back ts)

-- they are in order, where the slices have the room
pub stands : (room : ℕ) (s : held.Trees) (ls ws : List ℕ) (ts : Trees) → flat ts ≡ take s.len ls → stacked ts ≡ take s.count ws
    → s.count ≤ s.len → s.len ≤ room → (room ≤ length ls) × (room ≤ length ws) → room ≤ most_room → Stands room s ls ws ts
stands room s ls ws ts e f c l b m =
    let a = trees-are s ls ws ts e f in
    record { are = a; inside = record { list = rw a e; sizes = rw a f; few = c; fits = l; lent = b; words = m } }

-- no trees
pub trees-none : (ls ws : List ℕ) → trees_of (record { count = 0; len = 0 }) ls ws ≡ []
unfolding trees_of pieces
trees-none ls ws = refl

pub inside-none : (room : ℕ) (ls ws : List ℕ) → (room ≤ length ls) × (room ≤ length ws) → room ≤ most_room → Inside room (record { count = 0; len = 0 }) ls ws
unfolding flat
inside-none room ls ws b m = (stands room (record { count = 0; len = 0 }) ls ws [] refl refl (omega arith) (omega arith) b m).inside

module _ (room : ℕ) (s : held.Trees) (ls ws : List ℕ) (i : Inside room s ls ws) where
  -- how many there are, and how long their list is
  pub trees-count : length (trees_of s ls ws) ≡ s.count
  trees-count = sym (length-stacked (trees_of s ls ws)) ∙ ap length i.sizes ∙ length-take-le s.count ws (omega (arith, i.few, i.fits, i.lent))

  pub trees-length : length (flat (trees_of s ls ws)) ≡ s.len
  trees-length = ap length i.list ∙ length-take-le s.len ls (omega (arith, i.fits, i.lent))

  pub sizes-total : total (take s.count ws) ≡ s.len
  sizes-total = ap total (sym i.sizes) ∙ total-stacked (trees_of s ls ws) ∙ trees-length
