-- A body's words item by item, as a loop splits them off.
use Rattle.std.proofs.Common.{◌≡◌, ℕ, zero, suc, ◌+◌, ◌≤◌, ◌<◌, true, not, ◌&&◌, ◌==◌, List, [], ◌∷◌, length, take, drop, get_or, arith, get_or-take, refl}
use Rattle.std.proofs.lemmas.Bool.{false≢true}
use Rattle.std.proofs.Math.Option.{none, some}
use Rattle.rules.specs.Rules.{Item, con, slot, items_of, item_of, slots, source, variables, symbol, third, good_items, absent, distinct}
use Rattle.rules.proofs.Theorems.Words.{GoodItem, good-item, three, absent-step, variable, distinct-con, distinct-slot}

abbrev pub Split : List ℕ → List ℕ → List ℕ → Type 0
Split ws item others = (item ≡ take 3 ws) × (others ≡ drop 3 ws) × (length others + 3 ≡ length ws)

module _ (ws item others : List ℕ) (h : Split ws item others) where
  pub split : ws ≡ get_or item 0 0 ∷ get_or item 1 0 ∷ get_or item 2 0 ∷ others
  split =
      rw (h.0, h.1, get_or-take 3 ws 0 0 (omega arith), get_or-take 3 ws 1 0 (omega arith), get_or-take 3 ws 2 0 (omega arith))
      (three ws 0 (omega (arith, h.2)))

-- fewer words than an item has are no items, and good only if there are none
pub short-good : (ws : List ℕ) → length ws < 3 → good_items ws ≡ (length ws == 0)
unfolding good_items
short-good [] h = refl
short-good (k ∷ []) h = refl
short-good (k ∷ s ∷ []) h = refl
short-good (k ∷ s ∷ v ∷ ws) h = absurd (omega arith)

-- good items are at least three words, or none
pub short-none : (ws : List ℕ) → length ws < 3 → good_items ws ≡ true → ws ≡ []
unfolding good_items
short-none [] h g = refl
short-none (k ∷ []) h g = absurd (false≢true g)
short-none (k ∷ s ∷ []) h g = absurd (false≢true g)
short-none (k ∷ s ∷ v ∷ ws) h g = absurd (omega arith)

-- an item that is good, and the others
pub first-good : (k s v : ℕ) (ws : List ℕ) → good_items (k ∷ s ∷ v ∷ ws) ≡ true → (k ≤ 1) × (symbol s ≡ true) × (third k v ≡ true) × (good_items ws ≡ true)
first-good k s v ws g = let i : GoodItem (k ∷ s ∷ v ∷ ws) 0 = good-item (k ∷ s ∷ v ∷ ws) 0 (omega arith) g in (i.kind, i.named, i.varied, i.rest)

module _ (k s v : ℕ) (ws : List ℕ) (g : good_items (k ∷ s ∷ v ∷ ws) ≡ true) where
  -- a constant's third word is no variable, so it may be looked at too
  pub absent-first : (x : ℕ) → symbol x ≡ true → absent x (variables (k ∷ s ∷ v ∷ ws)) ≡ not (v == x) && absent x (variables ws)
  absent-first x p = absent-step (k ∷ s ∷ v ∷ ws) 0 (good-item (k ∷ s ∷ v ∷ ws) 0 (omega arith) g) x p

  pub variable-first : k ≡ 1 → symbol v ≡ true
  variable-first h = variable (k ∷ s ∷ v ∷ ws) 0 (good-item (k ∷ s ∷ v ∷ ws) 0 (omega arith) g) h

  pub distinct-con-first : (k ≡ 1 → ⊥) → distinct (variables (k ∷ s ∷ v ∷ ws)) ≡ distinct (variables ws)
  distinct-con-first h = distinct-con (k ∷ s ∷ v ∷ ws) 0 (good-item (k ∷ s ∷ v ∷ ws) 0 (omega arith) g) h

  pub distinct-slot-first : k ≡ 1 → distinct (variables (k ∷ s ∷ v ∷ ws)) ≡ absent v (variables ws) && distinct (variables ws)
  distinct-slot-first h = distinct-slot (k ∷ s ∷ v ∷ ws) 0 (good-item (k ∷ s ∷ v ∷ ws) 0 (omega arith) g) h

pub slots-first : (k s v : ℕ) (ws : List ℕ) → good_items (k ∷ s ∷ v ∷ ws) ≡ true → (k ≡ 1 → slots (items_of (k ∷ s ∷ v ∷ ws)) ≡ suc (slots (items_of ws))) × ((k ≡ 1 → ⊥) → slots (items_of (k ∷ s ∷ v ∷ ws)) ≡ slots (items_of ws))
unfolding slots items_of
slots-first zero s v ws g = (λ h. absurd (omega arith), λ h. refl)
slots-first (suc k) s v ws g = let b = (first-good (suc k) s v ws g).0 in (λ h. refl, λ h. absurd (h (omega (arith, b))))

-- ---- conversions

-- of one item: a slot converts from its typecode
pub source-slot-first : (ws : List ℕ) → length ws ≡ 3 → get_or ws 0 0 ≡ 1 → source (items_of ws) ≡ some (get_or ws 1 0)
unfolding source items_of
source-slot-first [] h e = absurd (omega arith)
source-slot-first (k ∷ []) h e = absurd (omega arith)
source-slot-first (k ∷ s ∷ []) h e = absurd (omega arith)
source-slot-first (zero ∷ s ∷ v ∷ []) h e = absurd (omega arith)
source-slot-first (suc k ∷ s ∷ v ∷ []) h e = refl
source-slot-first (k ∷ s ∷ v ∷ w ∷ ws) h e = absurd (omega arith)

-- a constant doesn't, and neither does any other count of items
pub source-con-first : (ws : List ℕ) → good_items ws ≡ true → (get_or ws 0 0 ≡ 1 → ⊥) → source (items_of ws) ≡ none
unfolding source items_of
source-con-first [] g d = refl
source-con-first (k ∷ []) g d = refl
source-con-first (k ∷ s ∷ []) g d = refl
source-con-first (zero ∷ s ∷ v ∷ ws) g d = refl
source-con-first (suc k ∷ s ∷ v ∷ ws) g d = let b = (first-good (suc k) s v ws g).0 in absurd (d (omega (arith, b)))

items-two : (ws : List ℕ) → good_items ws ≡ true → 0 < length ws → 0 < length (items_of ws)
unfolding items_of good_items
items-two [] g h = absurd (omega arith)
items-two (k ∷ []) g h = absurd (false≢true g)
items-two (k ∷ s ∷ []) g h = absurd (false≢true g)
items-two (k ∷ s ∷ v ∷ ws) g h = omega arith

source-more : (i : Item) (is : List Item) → 0 < length is → source (i ∷ is) ≡ none
unfolding source
source-more (con c) is h = refl
source-more (slot t) [] h = absurd (omega arith)
source-more (slot t) (i ∷ is) h = refl

pub source-others : (ws : List ℕ) → good_items ws ≡ true → (length ws ≡ 3 → ⊥) → source (items_of ws) ≡ none
unfolding source items_of
source-others [] g d = refl
source-others (k ∷ []) g d = refl
source-others (k ∷ s ∷ []) g d = refl
source-others (k ∷ s ∷ v ∷ ws) g d = source-more (item_of k s) (items_of ws) (items-two ws (first-good k s v ws g).3 (by ws d))
  where
    by : (xs : List ℕ) → (length (k ∷ s ∷ v ∷ xs) ≡ 3 → ⊥) → 0 < length xs
    by [] e = absurd (e (omega arith))
    by (x ∷ xs) e = omega arith
