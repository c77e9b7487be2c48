-- A value or a refusal, and the order in which refusals are tried.
use Rattle.std.specs.Prelude.{Bool, true, false, ◌&&◌, List, [], ◌∷◌, ℕ, eqb, leb}
use Rattle.words.specs.Numbers.{accepted}

pub data Res (E A : Type 0) : Type 0 where
  ok : A → Res E A
  no : E → Res E A

-- a refusal stays, a value goes on
unfoldable pub bind : {E A B : Type 0} → Res E A → (A → Res E B) → Res E B
bind (ok a) f = f a
bind (no y) f = no y

-- refused with y, unless the test passes
unfoldable pub when : {E A : Type 0} → Bool → E → A → Res E A
when true y a = ok a
when false y a = no y

abbrev pub pick : {A : Type 0} → Bool → A → A → A
pick true a b = a
pick false a b = b

-- the smaller of two rooms
abbrev pub lesser : ℕ → ℕ → ℕ
lesser a b = pick (leb a b) a b

-- a test, and the number that is answered where it fails
pub record Demand : Type 0 where
  pub test : Bool
  pub number : ℕ

abbrev pub demand : Bool → ℕ → Demand
demand b k = record { test = b; number = k }

-- the number of the first demand that fails
unfoldable pub first_fault : List Demand → ℕ
first_fault [] = accepted
first_fault (d ∷ ds) = elim d.test [ true ↦ first_fault ds | false ↦ d.number ]

-- the same words, in the same order
unfoldable pub same_words : List ℕ → List ℕ → Bool
same_words [] [] = true
same_words [] (y ∷ ys) = false
same_words (x ∷ xs) [] = false
same_words (x ∷ xs) (y ∷ ys) = eqb x y && same_words xs ys
