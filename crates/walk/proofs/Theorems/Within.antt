-- A walk's list is never longer than the room lent for it.
use Rattle.std.specs.Prelude.{List, [], ◌∷◌, ℕ, suc, ◌≤◌, length}
use Rattle.std.proofs.Common.{arith}
use Rattle.words.specs.Outcome.{Res}
use Rattle.words.specs.Numbers.{no_pass, Why}
use Rattle.formula.specs.Reducing.{flat}
use Rattle.walk.specs.Walk.{Tables, Room, State, Turn, Walked, refused, start, wanted_of, walk}
use Rattle.walk.proofs.Theorems.View.{entries, Pass, halts, takes, pushes, pops, roots, ends}
use Rattle.walk.proofs.Theorems.Runs.{Kept, run-kept}

module _ (T : Tables) (goal : ℕ) (statement : List ℕ) (m : Room) where
  abbrev Held : ℕ → ℕ → State → Type 0
  Held a n s = entries s ≤ m.list

  abbrev Fits : Walked → Type 0
  Fits w = length w.list ≤ m.list

  out : (n : ℕ) (s : State) → Held 0 n s → Fits (refused no_pass 0 n)
  out n s i = omega arith

  fits : (a n : ℕ) (s : State) → Held (suc a) n s → (o : Res Why Turn) → Pass T goal statement m s o → Kept Fits (Held a (suc n)) (suc n) o
  fits a n s i o (halts y c) = omega arith
  fits a n s i o (takes x xs e ts r h) = h.fits i
  fits a n s i o (pushes x xs r w h) = i
  fits a n s i o (pops f fs e ts w r h) = h.fits i
  fits a n s i o (roots t e ts w d h) = h.fits i
  fits a n s i o (ends l w c h) = h.fits i

pub walk-within : (T : Tables) (provable logic a : ℕ) (m : Room) (ts : List ℕ) → length (walk T provable logic a m ts).list ≤ m.list
unfolding walk start flat
walk-within T provable logic a m [] = omega arith
walk-within T provable logic a m (t ∷ xs) =
    let g = wanted_of provable logic t in
    let none : entries (start xs) ≤ m.list = omega arith in
    run-kept T g xs m (Fits T g xs m) (Held T g xs m) (out T g xs m) (fits T g xs m) a 0 (start xs) none
