-- Words moved up in a slice, and an element put in.
use Rattle.std.proofs.Common.{ℕ, suc, ◌+◌, ◌-◌, ◌≤◌, ◌<◌, ◌≡◌, List, [], ◌∷◌, ◌++◌, length, take, drop, get_or, set, min, ◌⊎◌, inl, inr, arith}
use Rattle.std.proofs.Math.Nat.{min-eq_left, min-eq_right}
use Rattle.std.proofs.lemmas.Bool.{cases_lt}
use Rattle.std.proofs.lemmas.List.{drop-take}
use Rattle.std.specs.List.{copy_within}
use mathlib.Core.List.{append_assoc}
use lib.Seq.{take-suc, set_at, length-take-le}
use Rattle.words.specs.Lent.{moved_up, inserted}
use Rattle.words.specs.Outcome.{lesser}
use borrow.Author.Tests.{le-leb, lt-leb}

-- the library's copy within a slice
pub moved_at_once : (s : List ℕ) (a b by : ℕ) → a ≤ b → copy_within s a b (a + by) ≡ moved_up s a b by
moved_at_once s a b by h =
    let n : a + (b - a) ≡ b = omega arith in
    let e : a + by + (b - a) ≡ b + by = omega arith in
    rw (e, ← drop-take a (b - a) s, n) (append_assoc (take (a + by) s) (drop a (take b s)) (drop (b + by) s))

-- what stands below the words moved is as it was
moved-split : (s : List ℕ) (k n by j : ℕ) → k + by ≡ suc j → j < length s
    → moved_up s k n by ≡ take j s ++ (get_or s j 0 ∷ (drop k (take n s) ++ drop (n + by) s))
moved-split s k n by j e h =
    rw (e, take-suc s j 0 h) (append_assoc (take j s) (get_or s j 0 ∷ []) (drop k (take n s) ++ drop (n + by) s))

-- x where the words moved up by one stood first
pub moved-done : (s : List ℕ) (k n x : ℕ) → k < length s → set (moved_up s k n 1) k x ≡ inserted s n k x
moved-done s k n x h =
    rw (moved-split s k n 1 k (omega arith) h) (set_at (take k s) (get_or s k 0) (drop k (take n s) ++ drop (n + 1) s) x k (length-take-le k s (omega arith)))

-- the library's lesser of two
pub min_is_lesser : (a b : ℕ) → min a b ≡ lesser a b
min_is_lesser a b = either (cases_lt b a)
  where
    either : (b < a) ⊎ (a ≤ b) → min a b ≡ lesser a b
    either (inl h) = rw (lt-leb a b h, min-eq_right {n = b} {m = a} (omega arith))
    either (inr h) = rw (le-leb a b h, min-eq_left h)
