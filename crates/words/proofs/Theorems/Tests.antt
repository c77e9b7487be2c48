-- Tests, and what follows from one that passed or failed.
use Rattle.std.specs.Prelude.{◌≡◌, refl, Bool, true, false, not, ◌&&◌, List, [], ◌∷◌, ℕ, ◌≤◌, eqb, leb}
use Rattle.std.proofs.Common.{sym, ◌∙◌, arith, lt-ltb, le-ltb, le-leb, eq-eqb, ne_eqb, eqb-true, leb-true, leb-false}
use Rattle.std.proofs.lemmas.Bool.{false≢true, lt-leb, not-true, not-false}
use Rattle.std.proofs.Math.Bool.{and-eq-true_iff}
use Rattle.words.specs.Outcome.{pick, lesser, same_words}

-- a test's value from the fact that a branch left
pub ruleset tests = (lt-ltb, le-ltb, le-leb, lt-leb, eq-eqb, ne_eqb)

-- of `if !f(x)`, where f answers with what a definition says: the value that the definition has, in the branch and past it
pub failed : {b s : Bool} → b ≡ s → not b ≡ true → s ≡ false
failed {b} e h = sym e ∙ not-true b h

pub passed : {b s : Bool} → b ≡ s → not b ≡ false → s ≡ true
passed {b} e h = sym e ∙ not-false b h

-- the parts of a chain
pub and_l : (a b : Bool) → a && b ≡ true → a ≡ true
and_l a b h = ((and-eq-true_iff a b).0 h).0

pub and_r : (a b : Bool) → a && b ≡ true → b ≡ true
and_r a b h = ((and-eq-true_iff a b).0 h).1

-- a choice by a test, by its cases
pub by-test : {A : Type 0} (P : A → Type 0) (b : Bool) {x y : A} → (b ≡ true → P x) → (b ≡ false → P y) → P (pick b x y)
by-test P true h k = h refl
by-test P false h k = k refl

-- two tests that pass together are one
pub same_test : (a b : Bool) → (a ≡ true → b ≡ true) → (b ≡ true → a ≡ true) → a ≡ b
same_test true b f g = sym (f refl)
same_test false true f g = g refl
same_test false false f g = refl

pub same_words-refl : (xs : List ℕ) → same_words xs xs ≡ true
unfolding same_words
same_words-refl [] = refl
same_words-refl (x ∷ xs) = rw (eq-eqb x x refl) (same_words-refl xs)

pub same_words-true : (xs ys : List ℕ) → same_words xs ys ≡ true → xs ≡ ys
unfolding same_words
same_words-true [] [] e = refl
same_words-true [] (y ∷ ys) e = absurd (false≢true e)
same_words-true (x ∷ xs) [] e = absurd (false≢true e)
same_words-true (x ∷ xs) (y ∷ ys) e =
    let h = (and-eq-true_iff (eqb x y) (same_words xs ys)).0 e in
    cc (eqb-true x y h.0, same_words-true xs ys h.1)

-- the lesser of two is no more than either, and what is no more than both is no more than it
pub lesser-le : (a b : ℕ) → (lesser a b ≤ a) × (lesser a b ≤ b)
lesser-le a b = by-test (λ n. (n ≤ a) × (n ≤ b)) (leb a b) (λ h. (omega arith, leb-true a b h)) λ h. (omega (arith, leb-false a b h), omega arith)

pub lesser-is : (a b n : ℕ) → n ≤ a → n ≤ b → n ≤ lesser a b
lesser-is a b n h k = by-test (λ x. n ≤ x) (leb a b) (λ _. h) λ _. k
