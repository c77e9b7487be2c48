-- A walk of n tokens after the typecode needs at most n - 1 frames: a frame is a node that a token led to.
use Rattle.std.specs.Prelude.{◌≡◌, refl, List, ◌∷◌, ◌≢◌, ℕ, zero, suc, ◌+◌, ◌≤◌}
use Rattle.std.proofs.Math.Path.{ap}
use native.Mathlib.Omega.{arith}
use Rattle.std.proofs.Math.ListN.{length}
use Rattle.words.specs.Outcome.{Res}
use Rattle.words.specs.Numbers.{no_pass, Why, no_frame, number}
use Rattle.walk.specs.Walk.{Tables, Room, State, Turn, pass, Walked, refused, run, start, walk}
use Rattle.walk.proofs.Theorems.View.{here, noted, ended, misfits, frames, taking, closing, popping, Pass, halts, takes, pushes, pops, roots, ends}
use Rattle.walk.proofs.Theorems.Runs.{Kept, run-kept}

-- 0 at the root, else 1
inner : ℕ → ℕ
inner zero = 0
inner (suc n) = 1

inner-most : (n : ℕ) → inner n ≤ 1
unfolding inner
inner-most zero = omega arith
inner-most (suc n) = omega arith

inner-least : (n : ℕ) → n ≢ 0 → 1 ≤ inner n
unfolding inner
inner-least zero h = absurd (h refl)
inner-least (suc n) h = omega arith

module _ (T : Tables) (z : T.word 0 ≡ 0) (goal : ℕ) (statement : List ℕ) (m : Room) (enough : length statement ≤ suc m.frames) where
  abbrev Sparse : ℕ → ℕ → State → Type 0
  Sparse a n s = length s.frames + length s.rest + inner s.node ≤ length statement

  abbrev Framed : Walked → Type 0
  Framed w = w.number ≢ number no_frame

  out : (n : ℕ) (s : State) → Sparse 0 n s → Framed (refused no_pass 0 n)
  unfolding number
  out n s i = λ e. omega arith

  leaf-inner : (s : State) → T.word s.node ≢ 0 → 1 ≤ inner s.node
  leaf-inner s h = inner-least s.node λ e. h (rw e z)

  sparse : (a n : ℕ) (s : State) → Sparse (suc a) n s → (o : Res Why Turn) → Pass T goal statement m s o → Kept Framed (Sparse a (suc n)) (suc n) o
  unfolding number inner
  sparse a n s i o (halts y (here x xs r)) = λ e. omega arith
  sparse a n s i o (halts y (noted w)) = λ e. omega arith
  sparse a n s i o (halts y (ended r)) = λ e. omega arith
  sparse a n s i o (halts y misfits) = λ e. omega arith
  sparse a n s i o (halts y (frames x xs r h full)) = absurd (omega (arith, inner-least s.node h, ap length r))
  sparse a n s i o (halts y (taking x xs r h)) = λ e. omega arith
  sparse a n s i o (halts y (closing w h)) = λ e. omega arith
  sparse a n s i o (halts y (popping f fs w r h)) = λ e. omega arith
  sparse a n s i o (takes x xs e ts r h) = omega (arith, inner-most e.to, ap length r)
  sparse a n s i o (pushes x xs r w h) = omega (arith, inner-least s.node h, ap length r)
  sparse a n s i o (pops f fs e ts w r h) = omega (arith, inner-most e.to, ap length r)
  sparse a n s i o (roots t e ts w d h) = omega (arith, inner-most e.to, leaf-inner s w)
  sparse a n s i o (ends l w c h) = λ e. omega arith

  run_framed : (a : ℕ) (s : State) → Sparse a 0 s → Framed (run (pass T goal statement) a m 0 s)
  run_framed a s i = run-kept T goal statement m Framed Sparse out sparse a 0 s i

pub walk-frames : (T : Tables) → T.word 0 ≡ 0 → (provable logic a : ℕ) (m : Room) (t : ℕ) (xs : List ℕ) → length xs ≤ suc m.frames
    → (walk T provable logic a m (t ∷ xs)).number ≢ number no_frame
unfolding walk start inner
walk-frames T z provable logic a m t xs h = run_framed T z _ xs m h a (start xs) (omega arith)
