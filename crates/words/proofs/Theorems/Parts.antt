-- Parts of a slice.
use Rattle.std.specs.Prelude.{◌≡◌, List, ℕ, ◌+◌, ◌-◌, ◌≤◌, length, take, drop}
use Rattle.std.proofs.Common.{ap, ◌∙◌, arith, length-drop, length-append, take_all}
use Rattle.std.proofs.lemmas.List.{length-replicate}
use Rattle.words.specs.Lent.{zeros, padded}

-- `&ws[i..]` is what is left after i words
pub part-all : (ws : List ℕ) (i : ℕ) → take (length ws - i) (drop i ws) ≡ drop i ws
part-all ws i = take_all (length ws - i) (drop i ws) (simp length-drop (omega arith))

-- a list that is lent more room than it needs
pub padded-length : (xs : List ℕ) (n : ℕ) → length xs ≤ n → length (padded xs n) ≡ n
padded-length xs n h = length-append xs (zeros (n - length xs)) ∙ ap (λ (k : ℕ). length xs + k) (length-replicate (n - length xs) 0) ∙ omega arith
