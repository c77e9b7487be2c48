-- A loop over counted words.
use Prim.Native.Nat.{ℕ, zero, suc, ◌+◌, ◌≤◌, ◌<◌}
use mathlib.Core.Path.{◌≡◌, refl, sym, ◌∙◌}
use mathlib.Core.List.{List, [], ◌∷◌}
use native.Mathlib.Omega.{arith}
use native.Mathlib.Numerals.{add-one}
use lib.ListN.{length, take, drop, length-drop}
use borrow.Author.Tests.{le-leb, lt-leb}
use Rattle.std.specs.Prelude.{Ok, Err}
use Rattle.words.specs.Outcome.{Res, ok, no, bind}
use Rattle.words.specs.Counted.{lists_from, lists_of}
use Rattle.words.specs.Code.{how_many}

-- n lists are read, and what is left decides
pub record Counting (ws : List ℕ) (n : ℕ) (rest : List ℕ) : Type 0 where
  pub k : ℕ
  pub enough : length rest ≤ k
  pub few : n + length rest ≤ length ws
  pub left : how_many n (lists_from k n rest) ≡ how_many 0 (lists_of ws)

pub counting-start : (ws : List ℕ) → Counting ws 0 ws
counting-start ws = record { k = length ws; enough = omega arith; few = omega arith; left = refl }

one_more : (n : ℕ) (l : List ℕ) (x : Res ℕ (List (List ℕ))) → how_many n (bind x (λ ls. ok (l ∷ ls))) ≡ how_many (n + 1) x
unfolding bind
one_more n l (ok ls) = let e : n + suc (length ls) ≡ n + 1 + length ls = omega arith in cc
one_more n l (no i) = refl

module _ (ws : List ℕ) (n w : ℕ) (after : List ℕ) where
  lists-step : (k : ℕ) → w ≤ length after → how_many n (lists_from (suc k) n (w ∷ after)) ≡ how_many (n + 1) (lists_from k (n + 1) (drop w after))
  unfolding lists_from
  lists-step k b =
      rw (le-leb w (length after) b, one_more n (take w after) (lists_from k (suc n) (drop w after)), add-one n)

on-by : (k : ℕ) (ws : List ℕ) (n w : ℕ) (after : List ℕ) → length (w ∷ after) ≤ k → n + length (w ∷ after) ≤ length ws
    → how_many n (lists_from k n (w ∷ after)) ≡ how_many 0 (lists_of ws) → w ≤ length after → Counting ws (n + 1) (drop w after)
on-by zero ws n w after g f e b = absurd (omega arith)
on-by (suc k) ws n w after g f e b =
    let d = length-drop w after in
    record { k = k; enough = omega (arith, d); few = omega (arith, d); left = sym (lists-step ws n w after k b) ∙ e }

pub counting-on : (ws : List ℕ) (n w : ℕ) (after : List ℕ) → Counting ws n (w ∷ after) → w ≤ length after → Counting ws (n + 1) (drop w after)
counting-on ws n w after c b = on-by c.k ws n w after c.enough c.few c.left b

cut-by : (k : ℕ) (ws : List ℕ) (n w : ℕ) (after : List ℕ) → length (w ∷ after) ≤ k
    → how_many n (lists_from k n (w ∷ after)) ≡ how_many 0 (lists_of ws) → length after < w → Err (record { 0 = n }) ≡ how_many 0 (lists_of ws)
unfolding lists_from
cut-by zero ws n w after g e b = absurd (omega arith)
cut-by (suc k) ws n w after g e b = rw (← e, lt-leb w (length after) b)

pub counting-cut : (ws : List ℕ) (n w : ℕ) (after : List ℕ) → Counting ws n (w ∷ after) → length after < w → Err (record { 0 = n }) ≡ how_many 0 (lists_of ws)
counting-cut ws n w after c b = cut-by c.k ws n w after c.enough c.left b

end-by : (k n : ℕ) → how_many n (lists_from k n []) ≡ Ok n
unfolding lists_from
end-by zero n = let f : n + 0 ≡ n = omega arith in rw f
end-by (suc k) n = let f : n + 0 ≡ n = omega arith in rw f

pub counting-end : (ws : List ℕ) (n : ℕ) (rest : List ℕ) → Counting ws n rest → length rest ≡ 0 → Ok n ≡ how_many 0 (lists_of ws)
counting-end ws n [] c z = sym (end-by c.k n) ∙ c.left
counting-end ws n (w ∷ after) c z = absurd (omega arith)
