-- The tables of set S, whole, as the training sheet gives them.
use Rattle.std.specs.Prelude.{ℕ, List, [], ◌∷◌}
use Rattle.rows.specs.Rows.{Reduce, Edge}

abbrev pub edge : ℕ → ℕ → ℕ → ℕ → List Reduce → Edge
edge f k s t ds = record { from = f; kind = k; sym = s; to = t; reduces = ds }

-- the one reduce (5,0)
abbrev pub five : List Reduce
five = record { rule = 5; offset = 0 } ∷ []

unfoldable pub nodes-S : List ℕ
nodes-S = 0 ∷ 1 ∷ 2 ∷ 3 ∷ 4 ∷ 0 ∷ 6 ∷ 0 ∷ 0 ∷ 0 ∷ 0 ∷ 7 ∷ 0 ∷ 0 ∷ 8 ∷ 0 ∷ 9 ∷ []

unfoldable pub edges-S : List Edge
edges-S = edge 0 0 5 7 [] ∷ edge 0 0 10 1 [] ∷ edge 0 0 11 2 [] ∷ edge 0 0 12 3 [] ∷ edge 0 0 13 4 [] ∷ edge 0 0 14 5 []
    ∷ edge 0 1 3 12 [] ∷ edge 0 1 4 12 five ∷ edge 5 1 2 6 [] ∷ edge 7 1 2 8 [] ∷ edge 8 0 7 9 [] ∷ edge 9 1 2 10 [] ∷ edge 10 0 6 11 []
    ∷ edge 12 0 8 13 [] ∷ edge 12 0 9 15 [] ∷ edge 13 1 3 14 [] ∷ edge 13 1 4 14 five ∷ edge 15 1 3 16 [] ∷ edge 15 1 4 16 five ∷ []

unfoldable pub tables : Unit {0}
unfolding nodes-S edges-S
tables = tt
