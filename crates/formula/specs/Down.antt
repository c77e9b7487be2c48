-- The test of a list from its end, one pass over the items that are still to be met. No tokens stand on its stack, so a loop over lent
-- slices can do it.
use Rattle.std.specs.Prelude.{◌≡◌, Bool, true, false, ◌&&◌, ℕ, suc, eqb, length}
use Rattle.std.proofs.Math.Path.{refl}
use Rattle.std.proofs.Common.{arith}
use mathlib.Core.List.{List, [], ◌∷◌, ◌++◌, reverse}
use Rattle.std.proofs.Math.Option.{Option, some, none}
use borrow.Author.Tests.{ne_eqb}
use Rattle.rules.specs.Rules.{Item, con, slot, Rule, rule_at}

-- the items, up to the first slot, are the constants that the tokens begin with; f says what a slot does, and z whether all may be met
unfoldable pub eat : (ℕ → List Item → List ℕ → Bool) → Bool → List Item → List ℕ → Bool
eat f z [] [] = z
eat f z [] (x ∷ us) = false
eat f z (con c ∷ p) [] = false
eat f z (con c ∷ p) (x ∷ us) = eqb c x && eat f z p us
eat f z (slot t ∷ p) us = f t p us

-- a slot is filled by a rule of its typecode, whose body is met next
unfoldable pub enter : Option Rule → ℕ → (List Item → Bool) → Bool
enter none t f = false
enter (some q) t f = eqb q.result t && f (reverse q.body)

-- the list, the items and the tokens, each with its last one first
unfoldable pub down : List Rule → List ℕ → List Item → List ℕ → Bool
down R [] p us = eat (λ t p us. false) true p us
down R (r ∷ m) p us = eat (λ t p us. enter (rule_at R r) t λ b. down R m (b ++ p) us) false p us

module _ (R : List Rule) where
  -- ---- the ways in which it goes on or ends

  pub down-con : (m : List ℕ) (c x : ℕ) (p : List Item) (us : List ℕ) → down R m (con c ∷ p) (x ∷ us) ≡ (eqb c x && down R m p us)
  unfolding down eat
  down-con [] c x p us = refl
  down-con (r ∷ m) c x p us = refl

  pub down-con-nil : (m : List ℕ) (c : ℕ) (p : List Item) → down R m (con c ∷ p) [] ≡ false
  unfolding down eat
  down-con-nil [] c p = refl
  down-con-nil (r ∷ m) c p = refl

  pub down-slot : (r t : ℕ) (q : Rule) → rule_at R r ≡ some q → (m : List ℕ) (p : List Item) (us : List ℕ)
      → down R (r ∷ m) (slot t ∷ p) us ≡ (eqb q.result t && down R m (reverse q.body ++ p) us)
  unfolding down eat enter
  down-slot r t q e m p us = rw e

  pub down-slot-none : (r t : ℕ) → rule_at R r ≡ none → (m : List ℕ) (p : List Item) (us : List ℕ) → down R (r ∷ m) (slot t ∷ p) us ≡ false
  unfolding down eat enter
  down-slot-none r t e m p us = rw e

  pub down-slot-nil : (t : ℕ) (p : List Item) (us : List ℕ) → down R [] (slot t ∷ p) us ≡ false
  unfolding down eat
  down-slot-nil t p us = refl

  pub down-end : (m us : List ℕ) → down R m [] us ≡ (eqb (length m) 0 && eqb (length us) 0)
  unfolding down eat
  down-end [] [] = refl
  down-end [] (x ∷ us) = rw (ne_eqb (suc (length us)) 0 (omega arith))
  down-end (r ∷ m) [] = rw (ne_eqb (suc (length m)) 0 (omega arith))
  down-end (r ∷ m) (x ∷ us) = rw (ne_eqb (suc (length m)) 0 (omega arith))
