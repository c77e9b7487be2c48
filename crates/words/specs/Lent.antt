-- What stands in a slice lent for writing.
use Rattle.std.specs.Prelude.{ℕ, ◌+◌, ◌-◌, List, ◌∷◌, ◌++◌, length, take, drop, replicate}

-- n words that are 0
abbrev pub zeros : ℕ → List ℕ
zeros n = replicate n 0

-- a list, then zeros to the length n
abbrev pub padded : List ℕ → ℕ → List ℕ
padded xs n = xs ++ zeros (n - length xs)

-- the words from `at` on are 0, those before it as they were
abbrev pub cleared_from : List ℕ → ℕ → List ℕ
cleared_from ws at = padded (take at ws) (length ws)

-- the words from a to b, as many places further up as `by` says; what stood there is given up
abbrev pub moved_up : List ℕ → ℕ → ℕ → ℕ → List ℕ
moved_up ws a b by = take (a + by) ws ++ (drop a (take b ws) ++ drop (b + by) ws)

-- x before word p of the first n; the word at n is given up
abbrev pub inserted : List ℕ → ℕ → ℕ → ℕ → List ℕ
inserted ws n p x = take p ws ++ (x ∷ (drop p (take n ws) ++ drop (n + 1) ws))
