-- Counted words: several lists in one slice. For each, how many words it has, then these words.
use Rattle.std.specs.Prelude.{ℕ, zero, suc, List, [], ◌∷◌, ◌++◌, leb, length, take, drop}
use Rattle.words.specs.Outcome.{Res, ok, no, bind, pick}

-- lists as counted words
unfoldable pub counted : List (List ℕ) → List ℕ
counted [] = []
counted (l ∷ ls) = length l ∷ (l ++ counted ls)

-- the lists that words say, the first of them numbered i, or the number of the first whose count passes the end; at most k are read
unfoldable pub lists_from : ℕ → ℕ → List ℕ → Res ℕ (List (List ℕ))
lists_from zero i [] = ok []
lists_from zero i (n ∷ ws) = no i
lists_from (suc k) i [] = ok []
lists_from (suc k) i (n ∷ ws) = pick (leb n (length ws)) (bind (lists_from k (suc i) (drop n ws)) (λ ls. ok (take n ws ∷ ls))) (no i)

-- there are no more lists than words
abbrev pub lists_of : List ℕ → Res ℕ (List (List ℕ))
lists_of ws = lists_from (length ws) 0 ws

-- none where a list is not whole
abbrev pub lists_in : Res ℕ (List (List ℕ)) → List (List ℕ)
lists_in (ok ls) = ls
lists_in (no i) = []

abbrev pub the_lists : List ℕ → List (List ℕ)
the_lists ws = lists_in (lists_of ws)

unfoldable pub counting : Unit {0}
unfolding bind counted lists_from
counting = tt
