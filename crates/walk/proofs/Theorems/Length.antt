-- A walk of n tokens after the typecode never wants more than 18n - 7 list entries: a potential that counts those made and those that may yet
-- come never grows.
use Rattle.std.specs.Prelude.{◌≡◌, refl, List, ◌∷◌, ◌≢◌, ℕ, zero, suc, ◌+◌, ◌*◌, ◌≤◌}
use Rattle.std.proofs.Math.Path.{ap}
use native.Mathlib.Omega.{arith}
use Rattle.std.proofs.Math.ListN.{length}
use Rattle.words.specs.Outcome.{Res}
use Rattle.words.specs.Numbers.{no_pass, Why, no_entry, number}
use Rattle.formula.specs.Reducing.{flat}
use Rattle.walk.specs.Walk.{Tables, Room, State, Turn, pass, Walked, refused, run, start, wanted_of, walk}
use Rattle.walk.proofs.Theorems.View.{Fair, Slim, entries, here, noted, ended, misfits, frames, taking, closing, popping, Pass, halts, takes, pushes, pops, roots, ends}
use Rattle.walk.proofs.Theorems.Runs.{Kept, run-kept}

-- entries that may yet come of a node: 7 of a branch that a frame may be made of, for the rule of the leaf that pops it, a conversion and the
-- reduces of its edge; 13 of a leaf, six of its own and those of the branch that it leads to
due : ℕ → ℕ → ℕ
due zero w = 0
due (suc n) zero = 7
due (suc n) (suc r) = 13

due-most : (n w : ℕ) → due n w ≤ 13
unfolding due
due-most zero w = omega arith
due-most (suc n) zero = omega arith
due-most (suc n) (suc r) = omega arith

due-branch : (n w : ℕ) → w ≡ 0 → due n w ≤ 7
unfolding due
due-branch zero w z = omega arith
due-branch (suc n) zero z = omega arith
due-branch (suc n) (suc r) z = omega arith

due-inner : (n w : ℕ) → n ≢ 0 → 7 ≤ due n w
unfolding due
due-inner zero w h = absurd (h refl)
due-inner (suc n) zero h = omega arith
due-inner (suc n) (suc r) h = omega arith

due-leaf : (n w : ℕ) → n ≢ 0 → w ≢ 0 → 13 ≤ due n w
unfolding due
due-leaf zero w h z = absurd (h refl)
due-leaf (suc n) zero h z = absurd (z refl)
due-leaf (suc n) (suc r) h z = omega arith

module _ (T : Tables) (F : Fair T) (S : Slim T) (goal : ℕ) (statement : List ℕ) (m : Room) where
  abbrev Spare : ℕ → ℕ → State → Type 0
  Spare a n s = entries s + 18 * length s.rest + 7 * length s.frames + due s.node (T.word s.node) ≤ 18 * length statement

  -- a list with that room, less 7, is never too short
  abbrev Listed : Walked → Type 0
  Listed w = 18 * length statement ≤ 7 + m.list → w.number ≢ number no_entry

  out : (n : ℕ) (s : State) → Spare 0 n s → Listed (refused no_pass 0 n)
  unfolding number
  out n s i k e = omega arith

  heavy : (s : State) → T.word s.node ≢ 0 → 13 ≤ due s.node (T.word s.node)
  heavy s z = due-leaf s.node _ (λ e. z (rw e F.root)) z

  spare : (a n : ℕ) (s : State) → Spare (suc a) n s → (o : Res Why Turn) → Pass T goal statement m s o → Kept Listed (Spare a (suc n)) (suc n) o
  unfolding number due
  spare a n s i o (halts y (here x xs r)) = λ k e. omega arith
  spare a n s i o (halts y (noted w)) = λ k e. omega arith
  spare a n s i o (halts y (ended r)) = λ k e. omega arith
  spare a n s i o (halts y misfits) = λ k e. omega arith
  spare a n s i o (halts y (frames x xs r h full)) = λ k e. omega arith
  spare a n s i o (halts y (taking x xs r h)) = λ k. absurd (omega (arith, h S, ap length r))
  spare a n s i o (halts y (closing w h)) = λ k. absurd (omega (arith, h S, heavy s w))
  spare a n s i o (halts y (popping f fs w r h)) = λ k. absurd (omega (arith, h S, heavy s w, ap length r))
  spare a n s i o (takes x xs e ts r h) = omega (arith, h.few S, due-most e.to (T.word e.to), ap length r)
  spare a n s i o (pushes x xs r w h) = omega (arith, due-inner s.node (T.word s.node) h, ap length r)
  spare a n s i o (pops f fs e ts w r h) = omega (arith, h.few S, due-most e.to (T.word e.to), heavy s w, ap length r)
  spare a n s i o (roots t e ts w d h) = omega (arith, h.few S, due-branch e.to (T.word e.to) (F.level t e d), heavy s w)
  spare a n s i o (ends l w c h) = λ k e. omega arith

  run-listed : (a : ℕ) (s : State) → Spare a 0 s → Listed (run (pass T goal statement) a m 0 s)
  run-listed a s i = run-kept T goal statement m Listed Spare out spare a 0 s i

pub walk-list : (T : Tables) → Fair T → Slim T → (provable logic a : ℕ) (m : Room) (t : ℕ) (xs : List ℕ) → 18 * length xs ≤ 7 + m.list
    → (walk T provable logic a m (t ∷ xs)).number ≢ number no_entry
unfolding walk start due flat
walk-list T F S provable logic a m t xs = run-listed T F S (wanted_of provable logic t) xs m a (start xs) (omega arith)
