-- What follows from a fact of every one of a list, and every one of a chain of tests.
use Rattle.std.specs.Prelude.{◌≡◌, refl, Bool, true, ◌&&◌, List, [], ◌∷◌, ◌++◌, ℕ, zero, suc, get_or}
use Rattle.words.proofs.Theorems.Tests.{and_l, and_r}
pub use Rattle.rules.specs.Every.{All}

module _ {A : Type 0} (P : A → Type 0) where
  pub all_append : (xs ys : List A) → All P xs → All P ys → All P (xs ++ ys)
  all_append [] ys a b = b
  all_append (x ∷ xs) ys a b = (a.0, all_append xs ys a.1 b)

  pub all_map : (Q : A → Type 0) → ((x : A) → P x → Q x) → (xs : List A) → All P xs → All Q xs
  all_map Q h [] a = tt
  all_map Q h (x ∷ xs) a = (h x a.0, all_map Q h xs a.1)

-- a && b && .., as it is bracketed
abbrev pub chain : Bool → List Bool → Bool
chain a [] = a
chain a (b ∷ bs) = chain (a && b) bs

chain_first : (a : Bool) (bs : List Bool) → chain a bs ≡ true → a ≡ true
chain_first a [] h = h
chain_first a (b ∷ bs) h = and_l a b (chain_first (a && b) bs h)

-- test number k of a chain that passed
pub chain-at : (a : Bool) (bs : List Bool) → chain a bs ≡ true → (k : ℕ) → get_or (a ∷ bs) k true ≡ true
chain-at a bs h zero = chain_first a bs h
chain-at a [] h (suc k) = refl
chain-at a (b ∷ bs) h (suc zero) = and_r a b (chain_first (a && b) bs h)
chain-at a (b ∷ bs) h (suc (suc k)) = chain-at (a && b) bs h (suc k)
