-- What a walk can answer: a list that passes the check, or a refusal with its number and place.
use Rattle.std.specs.Prelude.{◌≡◌, refl, true, List, [], ◌∷◌, ◌≢◌, ℕ, suc, pred, ◌+◌, ◌≤◌}
use Rattle.std.proofs.Math.Path.{ap}
use Rattle.std.proofs.Common.{arith}
use Rattle.std.proofs.Math.ListN.{length}
use Rattle.words.specs.Outcome.{Res}
use Rattle.words.specs.Numbers.{accepted, no_pass, Why, number, place}
use Rattle.formula.specs.Check.{check}
use Rattle.formula.specs.Reducing.{Trees}
use Rattle.walk.specs.Walk.{Tables, Room, State, Turn, pass, Walked, refused, run, start, wanted_of, walk}
use Rattle.walk.proofs.Theorems.View.{here, noted, ended, misfits, frames, taking, closing, popping, Pass, halts, takes, pushes, pops, roots, ends}
use Rattle.walk.proofs.Theorems.Runs.{Kept, run-kept}

-- a place of the statement's n tokens, if node 0 is a branch and there is a token
pub record Within (T : Tables) (n p : ℕ) : Type 0 where
  pub least : T.word 0 ≡ 0 → 1 ≤ n → 1 ≤ p
  pub most : p ≤ n

-- an answer after at most a passes: 0, 2 or 3 with a place, or 4 to 7
pub data Answer (T : Tables) (goal : ℕ) (statement : List ℕ) (a : ℕ) : Walked → Type 0 where
  accepts : (l : List ℕ) (n : ℕ) → n ≤ a → check T.rules goal statement l ≡ true
      → Answer T goal statement a (record { number = accepted; place = 0; list = l; passes = n })
  stops : (k p n : ℕ) → n ≤ a → 2 ≤ k → k ≤ 3 → Within T (length statement) p → Answer T goal statement a (refused k p n)
  refuses : (k n : ℕ) → n ≤ a → 4 ≤ k → k ≤ 7 → Answer T goal statement a (refused k 0 n)

module _ (T : Tables) (goal : ℕ) (statement : List ℕ) (m : Room) (all : ℕ) where
  -- places and passes so far
  record Placed (a n : ℕ) (s : State) : Type 0 where
    next : s.at + length s.rest ≡ suc (length statement)
    first : 1 ≤ s.at
    last : s.last ≤ length statement
    leaf : T.word 0 ≡ 0 → T.word s.node ≢ 0 → 1 ≤ s.last
    passes : a + n ≡ all

  abbrev Told : Walked → Type 0
  Told = Answer T goal statement all

  out : (n : ℕ) (s : State) → Placed 0 n s → Told (refused no_pass 0 n)
  out n s i = refuses no_pass n (omega (arith, i.passes)) (omega arith) (omega arith)

  -- a leaf takes no token
  stays : (a n : ℕ) (s : State) (k : ℕ) (fs : List ℕ) (ts : Trees) → Placed (suc a) n s → T.word s.node ≢ 0
      → Placed a (suc n) (record { node = k; frames = fs; trees = ts; rest = s.rest; at = s.at; last = s.last })
  stays a n s k fs ts i w =
      record { next = i.next; first = i.first; last = i.last; leaf = λ z v. i.leaf z w; passes = omega (arith, i.passes) }

  told : (a n : ℕ) (s : State) → Placed (suc a) n s → (o : Res Why Turn) → Pass T goal statement m s o → Kept Told (Placed a (suc n)) (suc n) o
  unfolding number place
  told a n s i o (halts y (here x xs r)) = stops 2 s.at (suc n) (omega (arith, i.passes)) (omega arith) (omega arith)
      (record { least = λ z l. i.first; most = omega (arith, i.next, ap length r) })
  told a n s i o (halts y (noted w)) = stops 2 s.last (suc n) (omega (arith, i.passes)) (omega arith) (omega arith)
      (record { least = λ z l. i.leaf z w; most = i.last })
  told a n s i o (halts y (ended r)) = stops 3 (pred s.at) (suc n) (omega (arith, i.passes)) (omega arith) (omega arith)
      (record { least = λ z l. omega (arith, i.next, ap length r); most = omega (arith, i.next, ap length r) })
  told a n s i o (halts y misfits) = refuses 4 (suc n) (omega (arith, i.passes)) (omega arith) (omega arith)
  told a n s i o (halts y (frames x xs r h full)) = refuses 6 (suc n) (omega (arith, i.passes)) (omega arith) (omega arith)
  told a n s i o (halts y (taking x xs r h)) = refuses 7 (suc n) (omega (arith, i.passes)) (omega arith) (omega arith)
  told a n s i o (halts y (closing w h)) = refuses 7 (suc n) (omega (arith, i.passes)) (omega arith) (omega arith)
  told a n s i o (halts y (popping f fs w r h)) = refuses 7 (suc n) (omega (arith, i.passes)) (omega arith) (omega arith)
  told a n s i o (takes x xs e ts r h) = record {
    next = omega (arith, i.next, ap length r);
    first = omega arith;
    last = omega (arith, i.next, ap length r);
    leaf = λ z w. i.first;
    passes = omega (arith, i.passes);
  }
  told a n s i o (pushes x xs r w h) = record {
    next = omega (arith, i.next, ap length r);
    first = i.first;
    last = omega (arith, i.next, ap length r);
    leaf = λ z w. i.first;
    passes = omega (arith, i.passes);
  }
  told a n s i o (pops f fs e ts w r h) = stays a n s e.to fs ts i w
  told a n s i o (roots t e ts w d h) = stays a n s e.to s.frames ts i w
  told a n s i o (ends l w c h) = accepts l (suc n) (omega (arith, i.passes)) c

  run-told : (a : ℕ) (s : State) → Placed a 0 s → Told (run (pass T goal statement) a m 0 s)
  run-told a s i = run-kept T goal statement m Told Placed out told a 0 s i

pub walk-answers : (T : Tables) (provable logic a : ℕ) (m : Room) (t : ℕ) (xs : List ℕ)
    → Answer T (wanted_of provable logic t) xs a (walk T provable logic a m (t ∷ xs))
unfolding walk start
walk-answers T provable logic a m t xs = run-told T _ xs m a a (start xs)
    (record { next = omega arith; first = omega arith; last = omega arith; leaf = λ z w. absurd (w z); passes = omega arith })

-- ---- what follows from its form

module _ (T : Tables) (goal : ℕ) (statement : List ℕ) (a : ℕ) where
  abbrev Say : Walked → Type 0
  Say = Answer T goal statement a

  checked : {w : Walked} → Say w → w.number ≡ 0 → check T.rules goal statement w.list ≡ true
  checked (accepts l n h c) e = c
  checked (stops k p n h g f i) e = absurd (omega arith)
  checked (refuses k n h g f) e = absurd (omega arith)

  unlisted : {w : Walked} → Say w → w.number ≢ 0 → w.list ≡ []
  unlisted (accepts l n h c) k = absurd (k refl)
  unlisted (stops k p n h g f i) e = refl
  unlisted (refuses k n h g f) e = refl

  passes-most : {w : Walked} → Say w → w.passes ≤ a
  passes-most (accepts l n h c) = h
  passes-most (stops k p n h g f i) = h
  passes-most (refuses k n h g f) = h

  numbered : {w : Walked} → Say w → (w.number ≢ 1) × (w.number ≤ 7)
  numbered (accepts l n h c) = (λ e. omega arith, omega arith)
  numbered (stops k p n h g f i) = (λ e. omega arith, omega arith)
  numbered (refuses k n h g f) = (λ e. omega arith, omega arith)

  placeless : {w : Walked} → Say w → w.number ≢ 2 → w.number ≢ 3 → w.place ≡ 0
  placeless (accepts l n h c) x y = refl
  placeless (stops k p n h g f i) x y = absurd (omega (arith, x, y))
  placeless (refuses k n h g f) x y = refl

  placed : {w : Walked} → Say w → 2 ≤ w.number → w.number ≤ 3 → Within T (length statement) w.place
  placed (accepts l n h c) x y = absurd (omega arith)
  placed (stops k p n h g f i) x y = i
  placed (refuses k n h g f) x y = absurd (omega arith)

module _ (T : Tables) (provable logic a : ℕ) (m : Room) (t : ℕ) (xs : List ℕ) where
  pub walk-checked : (walk T provable logic a m (t ∷ xs)).number ≡ 0
      → check T.rules (wanted_of provable logic t) xs (walk T provable logic a m (t ∷ xs)).list ≡ true
  walk-checked e = checked T _ xs a (walk-answers T provable logic a m t xs) e

  pub walk-unlisted : (walk T provable logic a m (t ∷ xs)).number ≢ 0 → (walk T provable logic a m (t ∷ xs)).list ≡ []
  walk-unlisted h = unlisted T _ xs a (walk-answers T provable logic a m t xs) h

  pub walk-passes : (walk T provable logic a m (t ∷ xs)).passes ≤ a
  walk-passes = passes-most T _ xs a (walk-answers T provable logic a m t xs)

  -- 0 and 2 to 7
  pub walk-numbers : ((walk T provable logic a m (t ∷ xs)).number ≢ 1) × ((walk T provable logic a m (t ∷ xs)).number ≤ 7)
  walk-numbers = numbered T _ xs a (walk-answers T provable logic a m t xs)

  pub walk-placeless : (walk T provable logic a m (t ∷ xs)).number ≢ 2 → (walk T provable logic a m (t ∷ xs)).number ≢ 3
      → (walk T provable logic a m (t ∷ xs)).place ≡ 0
  walk-placeless h g = placeless T _ xs a (walk-answers T provable logic a m t xs) h g

  -- with 2 or 3, the place is one of the statement's tokens, the typecode not among them
  pub walk-place : T.word 0 ≡ 0 → 1 ≤ length xs → 2 ≤ (walk T provable logic a m (t ∷ xs)).number → (walk T provable logic a m (t ∷ xs)).number ≤ 3
      → (1 ≤ (walk T provable logic a m (t ∷ xs)).place) × ((walk T provable logic a m (t ∷ xs)).place ≤ length xs)
  walk-place z l h g = let i = placed T _ xs a (walk-answers T provable logic a m t xs) h g in (i.least z l, i.most)
