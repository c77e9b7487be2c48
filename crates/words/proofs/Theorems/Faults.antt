-- What the number of the first failing demand says.
use Rattle.std.specs.Prelude.{◌≡◌, refl, Bool, true, false, List, [], ◌∷◌, ◌++◌, ◌≢◌, ℕ, zero, suc, ◌≤◌}
use Rattle.std.proofs.Common.{arith, sym}
use Rattle.words.specs.Outcome.{Demand, demand, first_fault}
use Rattle.words.specs.Numbers.{accepted}
use Rattle.words.specs.Code.{code}
use Rattle.words.specs.declared.Refusal.{Refusal}
use Rattle.words.specs.declared.Refusal.TheVariants.{TooFewTokens, Unparseable, TooShort, Misfit, NoPass, NoFrame, NoRoom, BadTables, TooManyTokens, BadRules, Collides, NoNode, NoEdge, SixthReduce, FarOffset, BadCopy, ManyRows, CutShort, UnknownKind, WrongSize, WrongOrder}

-- the first demand passes: the others decide
pub met : {b : Bool} → b ≡ true → (k : ℕ) (ds : List Demand) → first_fault (demand b k ∷ ds) ≡ first_fault ds
unfolding first_fault
met e k ds = rw e

-- it fails: its number is answered
pub unmet : {b : Bool} → b ≡ false → (k : ℕ) (ds : List Demand) → first_fault (demand b k ∷ ds) ≡ k
unfolding first_fault
unmet e k ds = rw e

-- no fault: the first demand passed, and so did the others
pub record Clear (b : Bool) (ds : List Demand) : Type 0 where
  pub passed : b ≡ true
  pub others : first_fault ds ≡ accepted

clear-by : (b : Bool) (k : ℕ) (ds : List Demand) → k ≢ accepted → first_fault (demand b k ∷ ds) ≡ accepted → Clear b ds
unfolding first_fault
clear-by true k ds z h = record { passed = refl; others = h }
clear-by false k ds z h = absurd (z h)

pub clear : (b : Bool) (k : ℕ) (ds : List Demand) → 1 ≤ k → first_fault (demand b k ∷ ds) ≡ accepted → Clear b ds
clear b k ds z h = clear-by b k ds (λ e. omega arith) h

-- whatever holds of no fault and of each demand's number holds of the answer
pub data Each (P : ℕ → Type 0) : List Demand → Type 0 where
  none_left : Each P []
  one_more : {b : Bool} {k : ℕ} {ds : List Demand} → P k → Each P ds → Each P (demand b k ∷ ds)

fault-by : (P : ℕ → Type 0) (b : Bool) (k : ℕ) (ds : List Demand) → P k → P (first_fault ds) → P (first_fault (demand b k ∷ ds))
unfolding first_fault
fault-by P true k ds h r = r
fault-by P false k ds h r = h

pub fault-is : (P : ℕ → Type 0) → P accepted → {ds : List Demand} → Each P ds → P (first_fault ds)
unfolding first_fault
fault-is P z none_left = z
fault-is P z (one_more {b} {k} {ds} h r) = fault-by P b k ds h (fault-is P z r)

-- demands after others: a fault of the first ones stays, and without one the rest decide
stays_by : (b : Bool) (k : ℕ) (ds es : List Demand) (n : ℕ) → (first_fault ds ≡ suc n → first_fault (ds ++ es) ≡ suc n)
    → first_fault (demand b k ∷ ds) ≡ suc n → first_fault (demand b k ∷ ds ++ es) ≡ suc n
unfolding first_fault
stays_by true k ds es n r h = r h
stays_by false k ds es n r h = h

pub fault-stays : (ds es : List Demand) (n : ℕ) → first_fault ds ≡ suc n → first_fault (ds ++ es) ≡ suc n
unfolding first_fault
fault-stays [] es n h = absurd (omega arith)
fault-stays (d ∷ ds) es n h = stays_by d.test d.number ds es n (λ h. fault-stays ds es n h) h

after-by : (b : Bool) (k : ℕ) (ds es : List Demand) → 1 ≤ k → (first_fault ds ≡ 0 → first_fault (ds ++ es) ≡ first_fault es)
    → first_fault (demand b k ∷ ds) ≡ 0 → first_fault (demand b k ∷ ds ++ es) ≡ first_fault es
unfolding first_fault
after-by true k ds es p r h = r h
after-by false k ds es p r h = absurd (omega arith)

pub fault-after : {ds : List Demand} → Each (λ k. 1 ≤ k) ds → (es : List Demand) → first_fault ds ≡ 0 → first_fault (ds ++ es) ≡ first_fault es
fault-after none_left es h = refl
fault-after (one_more {b} {k} {ds} p r) es h = after-by b k ds es p (λ h. fault-after r es h) h

-- the same of any number but that of no fault
pub fault-first : (ds es : List Demand) (k : ℕ) → 1 ≤ k → k ≡ first_fault ds → k ≡ first_fault (ds ++ es)
fault-first ds es zero p e = absurd (omega arith)
fault-first ds es (suc n) p e = sym (fault-stays ds es n (sym e))

-- no refusal has the number of no fault
pub code-some : (y : Refusal) → 1 ≤ code y
code-some TooFewTokens = omega arith
code-some Unparseable = omega arith
code-some TooShort = omega arith
code-some Misfit = omega arith
code-some NoPass = omega arith
code-some NoFrame = omega arith
code-some NoRoom = omega arith
code-some BadTables = omega arith
code-some TooManyTokens = omega arith
code-some BadRules = omega arith
code-some Collides = omega arith
code-some NoNode = omega arith
code-some NoEdge = omega arith
code-some SixthReduce = omega arith
code-some FarOffset = omega arith
code-some BadCopy = omega arith
code-some ManyRows = omega arith
code-some CutShort = omega arith
code-some UnknownKind = omega arith
code-some WrongSize = omega arith
code-some WrongOrder = omega arith
