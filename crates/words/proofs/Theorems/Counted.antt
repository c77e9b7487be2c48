-- Counted words are the lists that they say.
use Rattle.std.specs.Prelude.{ℕ, zero, suc, ◌≤◌, ◌≡◌, refl, Bool, true, false, List, [], ◌∷◌, ◌++◌, leb, length, take, drop}
use Rattle.std.proofs.Common.{sym, ap, ◌∙◌, arith, length-append, take-append-drop, take_at, drop_at, length-take-le, leb-true, le-leb}
use Rattle.words.specs.Outcome.{Res, ok, no, bind, pick}
use Rattle.words.specs.Counted.{counted, lists_from, lists_of, the_lists}

-- ---- lists, written and read

-- with a word for each list at most, all lists are read back
pub lists_back : (k i : ℕ) (ls : List (List ℕ)) → length (counted ls) ≤ k → lists_from k i (counted ls) ≡ ok ls
unfolding counted lists_from bind
lists_back zero i [] h = refl
lists_back zero i (l ∷ ls) h = absurd (omega arith)
lists_back (suc k) i [] h = refl
lists_back (suc k) i (l ∷ ls) h =
    let b : length (counted ls) ≤ k = omega (arith, length-append l (counted ls)) in
    rw (
      le-leb (length l) (length (l ++ counted ls)) (omega (arith, length-append l (counted ls))),
      drop_at l (counted ls) (length l) refl,
      lists_back k (suc i) ls b,
      take_at l (counted ls) (length l) refl,
    )

-- what is read is what was written
bound : (x : Res ℕ (List (List ℕ))) (l : List ℕ) (ls : List (List ℕ)) → bind x (λ m. ok (l ∷ m)) ≡ ok ls
    → (m : List (List ℕ)) × (x ≡ ok m) × (ls ≡ l ∷ m)
unfolding bind
bound (ok m) l ls e = (m, refl, cc)
bound (no i) l ls e = absurd (let z : ◌≡◌ {A = ℕ} 0 1 = cc in omega arith)

pub lists-are : (k i : ℕ) (ws : List ℕ) (ls : List (List ℕ)) → lists_from k i ws ≡ ok ls → ws ≡ counted ls
unfolding counted lists_from
lists-are zero i [] ls e = let z : ls ≡ [] = cc in rw z
lists-are zero i (n ∷ ws) ls e = absurd (let z : ◌≡◌ {A = ℕ} 0 1 = cc in omega arith)
lists-are (suc k) i [] ls e = let z : ls ≡ [] = cc in rw z
lists-are (suc k) i (n ∷ ws) ls e = by (leb n (length ws)) refl e (λ m h. lists-are k (suc i) (drop n ws) m h)
  where
    by : (b : Bool) → leb n (length ws) ≡ b
        → pick b (bind (lists_from k (suc i) (drop n ws)) (λ ls. ok (take n ws ∷ ls))) (no i) ≡ ok ls
        → ((m : List (List ℕ)) → lists_from k (suc i) (drop n ws) ≡ ok m → drop n ws ≡ counted m) → n ∷ ws ≡ counted ls
    by false t e r = absurd (let z : ◌≡◌ {A = ℕ} 0 1 = cc in omega arith)
    by true t e r =
        let g = bound (lists_from k (suc i) (drop n ws)) (take n ws) ls e in
        let c = r g.0 g.1 in
        rw (g.2, length-take-le n ws (leb-true n (length ws) t), ← c, take-append-drop)

pub lists-of : (ls : List (List ℕ)) → lists_of (counted ls) ≡ ok ls
lists-of ls = lists_back (length (counted ls)) 0 ls (omega arith)

-- whole words are the lists that they say, counted
pub lists-whole : (ws : List ℕ) (ls : List (List ℕ)) → lists_of ws ≡ ok ls → (the_lists ws ≡ ls) × (counted (the_lists ws) ≡ ws)
lists-whole ws ls e =
    let t : the_lists ws ≡ ls = rw e in
    (t, ap counted t ∙ sym (lists-are (length ws) 0 ws ls e))
