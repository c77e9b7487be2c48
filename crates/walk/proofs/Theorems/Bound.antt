-- A walk of n tokens after the typecode makes at most 4n - 1 passes: a potential falls with each, and never below 2.
use Rattle.std.specs.Prelude.{◌≡◌, refl, List, [], ◌∷◌, ◌≢◌, ℕ, zero, suc, ◌+◌, ◌*◌, ◌≤◌}
use Rattle.std.proofs.Math.Path.{ap}
use native.Mathlib.Omega.{arith}
use Rattle.std.proofs.Math.ListN.{length}
use Rattle.words.specs.Outcome.{Res}
use Rattle.words.specs.Numbers.{no_pass, Why, unparseable, too_short, misfit, no_frame, no_entry, number}
use Rattle.walk.specs.Walk.{Tables, Room, State, Turn, pass, Walked, refused, run, start, walk}
use Rattle.walk.proofs.Theorems.View.{Fair, Pass, halts, takes, pushes, pops, roots, ends}
use Rattle.walk.proofs.Theorems.Runs.{Kept, run-kept}

-- by the node, its word and the tokens left: 0 at the root, but 2 if none is left; 2 at another branch, 3 at a leaf
weigh : ℕ → ℕ → List ℕ → ℕ
weigh zero w [] = 2
weigh zero w (x ∷ xs) = 0
weigh (suc n) zero xs = 2
weigh (suc n) (suc r) xs = 3

weigh-most : (n w : ℕ) (xs : List ℕ) → weigh n w xs ≤ 3
unfolding weigh
weigh-most zero w [] = omega arith
weigh-most zero w (x ∷ xs) = omega arith
weigh-most (suc n) zero xs = omega arith
weigh-most (suc n) (suc r) xs = omega arith

weigh-branch : (n w : ℕ) (xs : List ℕ) → w ≡ 0 → weigh n w xs ≤ 2
unfolding weigh
weigh-branch zero w [] z = omega arith
weigh-branch zero w (x ∷ xs) z = omega arith
weigh-branch (suc n) zero xs z = omega arith
weigh-branch (suc n) (suc r) xs z = omega arith

weigh-inner : (n w : ℕ) (xs : List ℕ) → n ≢ 0 → 2 ≤ weigh n w xs
unfolding weigh
weigh-inner zero w xs h = absurd (h refl)
weigh-inner (suc n) zero xs h = omega arith
weigh-inner (suc n) (suc r) xs h = omega arith

weigh-leaf : (n w : ℕ) (xs : List ℕ) → n ≢ 0 → w ≢ 0 → 3 ≤ weigh n w xs
unfolding weigh
weigh-leaf zero w xs h z = absurd (h refl)
weigh-leaf (suc n) zero xs h z = absurd (z refl)
weigh-leaf (suc n) (suc r) xs h z = omega arith

-- a token is left, or the node weighs 2
weigh-least : (n w : ℕ) (xs : List ℕ) → 2 ≤ 4 * length xs + weigh n w xs
unfolding weigh
weigh-least zero w [] = omega arith
weigh-least zero w (x ∷ xs) = omega arith
weigh-least (suc n) w xs = omega (arith, weigh-inner (suc n) w xs λ e. omega arith)

never-five : (y : Why) → number y ≢ no_pass
unfolding number
never-five (unparseable p) e = omega arith
never-five (too_short p) e = omega arith
never-five misfit e = omega arith
never-five no_frame e = omega arith
never-five no_entry e = omega arith

module _ (T : Tables) where
  potential : State → ℕ
  potential s = 4 * length s.rest + length s.frames + weigh s.node (T.word s.node) s.rest

  module _ (F : Fair T) (goal : ℕ) (statement : List ℕ) (m : Room) where
    abbrev Enough : Walked → Type 0
    Enough w = w.number ≢ no_pass

    abbrev Allowed : ℕ → ℕ → State → Type 0
    Allowed a n s = potential s ≤ suc a

    out : (n : ℕ) (s : State) → potential s ≤ 1 → Enough (refused no_pass 0 n)
    unfolding potential
    out n s h = absurd (omega (arith, h, weigh-least s.node (T.word s.node) s.rest))

    heavy : (s : State) → T.word s.node ≢ 0 → 3 ≤ weigh s.node (T.word s.node) s.rest
    heavy s z = weigh-leaf s.node _ s.rest (λ e. z (rw e F.root)) z

    falls : (a n : ℕ) (s : State) → potential s ≤ suc (suc a) → (o : Res Why Turn) → Pass T goal statement m s o
        → Kept Enough (Allowed a (suc n)) (suc n) o
    unfolding potential weigh
    falls a n s i o (halts y c) = never-five y
    falls a n s i o (takes x xs e ts r h) = omega (arith, weigh-most e.to (T.word e.to) xs, ap length r)
    falls a n s i o (pushes x xs r z h) = omega (arith, weigh-inner s.node (T.word s.node) s.rest h, ap length r)
    falls a n s i o (pops f fs e ts z r h) = omega (arith, weigh-most e.to (T.word e.to) s.rest, heavy s z, ap length r)
    falls a n s i o (roots t e ts z d h) = omega (arith, weigh-branch e.to (T.word e.to) s.rest (F.level t e d), heavy s z)
    falls a n s i o (ends l z c h) = λ e. omega arith

    run-bound : (a n : ℕ) (s : State) → potential s ≤ suc a → (run (pass T goal statement) a m n s).number ≢ no_pass
    run-bound a n s h = run-kept T goal statement m Enough Allowed out falls a n s h

pub walk-bound : (T : Tables) → Fair T → (provable logic a : ℕ) (m : Room) (t : ℕ) (xs : List ℕ) → 1 ≤ length xs → 4 * length xs ≤ suc a
    → (walk T provable logic a m (t ∷ xs)).number ≢ no_pass
unfolding walk start potential weigh
walk-bound T F provable logic a m t [] l h = absurd (omega arith)
walk-bound T F provable logic a m t (x ∷ xs) l h = run-bound T F _ _ m a 0 _ (omega arith)
