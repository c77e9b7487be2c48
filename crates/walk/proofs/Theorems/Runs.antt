-- One induction for the laws of a run: what each pass keeps, the answer has.
use Rattle.std.specs.Prelude.{List}
use Prim.Native.Nat.{ℕ, zero, suc}
use Rattle.words.specs.Outcome.{Res, ok, no}
use Rattle.words.specs.Numbers.{accepted, no_pass, Why, number, place}
use Rattle.walk.specs.Walk.{Tables, Room, State, Turn, on, end, pass, Walked, refused, after, run}
use Rattle.walk.proofs.Theorems.View.{Pass, view}

-- `Q` of the answer, if pass n was the last, or `I` of the state that goes on
abbrev pub Kept : (Walked → Type 0) → (State → Type 0) → ℕ → Res Why Turn → Type 0
Kept Q I n (no y) = Q (refused (number y) (place y) n)
Kept Q I n (ok (end l)) = Q (record { number = accepted; place = 0; list = l; passes = n })
Kept Q I n (ok (on s)) = I s

after_kept : (Q : Walked → Type 0) (I : State → Type 0) (n : ℕ) (f : State → Walked) → ((s : State) → I s → Q (f s))
    → (o : Res Why Turn) → Kept Q I n o → Q (after n f o)
unfolding after
after_kept Q I n f h (no y) k = k
after_kept Q I n f h (ok (end l)) k = k
after_kept Q I n f h (ok (on s)) k = h s k

-- `I a n s` holds with a passes allowed and n made
module _ (T : Tables) (goal : ℕ) (statement : List ℕ) (m : Room) (Q : Walked → Type 0) (I : ℕ → ℕ → State → Type 0)
    (out : (n : ℕ) (s : State) → I 0 n s → Q (refused no_pass 0 n))
    (keeps : (a n : ℕ) (s : State) → I (suc a) n s → (o : Res Why Turn) → Pass T goal statement m s o → Kept Q (I a (suc n)) (suc n) o) where
  pub run-kept : (a n : ℕ) (s : State) → I a n s → Q (run (pass T goal statement) a m n s)
  unfolding run
  run-kept zero n s i = out n s i
  run-kept (suc a) n s i = after_kept Q (I a (suc n)) (suc n) _ (run-kept a (suc n)) _ (keeps a n s i _ (view T goal statement m s))
