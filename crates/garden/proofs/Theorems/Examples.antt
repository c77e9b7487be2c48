-- Garden paths, computed: whole tables, then the refusals, each by its smallest input.
use Rattle.std.specs.Prelude.{◌≡◌, refl, Bool, true, ◌&&◌, List, [], ◌∷◌, ℕ, ◌+◌, eqb}
use Rattle.words.specs.Limits.{most_nodes, most_edges, most_taken}
use Rattle.words.specs.Outcome.{Res, ok, no}
use Rattle.words.specs.Numbers.{Fault, fault_number}
use Rattle.rules.specs.Rules.{con, slot, Rule}
use Rattle.rules.specs.Sheet.{rule}
use Rattle.rows.specs.Rows.{Reduce}
use Rattle.rows.specs.Sheet.{edge}
use Rattle.tree.specs.Grow.{Grown}
use Rattle.garden.specs.Garden.{Bounds, the_commands, build, gardening}

abbrev bounds : ℕ → ℕ → ℕ → ℕ → Bounds
bounds n e f k = record { room = record { nodes = n; edges = e }; frames = f; rows = k }

abbrev wide : Bounds
wide = bounds most_nodes most_edges (most_taken + 1) most_taken

abbrev reduce : ℕ → ℕ → Reduce
reduce r o = record { rule = r; offset = o }

-- ---- whole tables

-- no command, and the conversions alone
unfoldable rules-e1 : List Rule
rules-e1 = rule 2 (con 10 ∷ []) ∷ rule 2 (con 5 ∷ slot 3 ∷ []) ∷ rule 3 (slot 4 ∷ []) ∷ rule 4 (con 12 ∷ []) ∷ []

e1-1 : build wide rules-e1 (the_commands ([])) ≡ ok (record {
  nodes = 0 ∷ 1 ∷ 0 ∷ 2 ∷ 4 ∷ [];
  edges = edge 0 0 5 2 [] ∷ edge 0 0 10 1 [] ∷ edge 0 0 12 4 [] ∷ edge 2 1 3 3 [] ∷ edge 2 1 4 3 (reduce 3 0 ∷ [])
      ∷ [];
})
unfolding rules-e1 gardening
e1-1 = refl

e1-2 : build wide rules-e1 (the_commands (2 ∷ [])) ≡ ok (record {
  nodes = 0 ∷ 1 ∷ 0 ∷ 2 ∷ 4 ∷ [];
  edges = edge 0 0 5 2 [] ∷ edge 0 0 10 1 [] ∷ edge 0 0 12 4 [] ∷ edge 2 1 3 3 [] ∷ edge 2 1 4 3 (reduce 3 0 ∷ [])
      ∷ [];
})
unfolding rules-e1 gardening
e1-2 = refl

-- a branch is copied, a leaf becomes an edge to the shadow's node
unfoldable rules-e2 : List Rule
rules-e2 = rule 3 (con 20 ∷ []) ∷ rule 2 (con 21 ∷ []) ∷ rule 2 (slot 3 ∷ con 8 ∷ slot 3 ∷ []) ∷ rule 3 (con 5 ∷ slot 3 ∷ con 9
    ∷ slot 3 ∷ con 6 ∷ []) ∷ rule 2 (con 5 ∷ slot 2 ∷ con 7 ∷ slot 2 ∷ con 6 ∷ []) ∷ []

e2-1 : build wide rules-e2 (the_commands ([])) ≡ ok (record {
  nodes = 0 ∷ 1 ∷ 2 ∷ 0 ∷ 0 ∷ 3 ∷ 0 ∷ 0 ∷ 0 ∷ 0 ∷ 4 ∷ 0 ∷ 0 ∷ 0 ∷ 5 ∷ [];
  edges = edge 0 0 5 6 [] ∷ edge 0 0 20 1 [] ∷ edge 0 0 21 2 [] ∷ edge 0 1 3 3 [] ∷ edge 3 0 8 4 [] ∷ edge 4 1 3 5 []
      ∷ edge 6 1 2 11 [] ∷ edge 6 1 3 7 [] ∷ edge 7 0 9 8 [] ∷ edge 8 1 3 9 [] ∷ edge 9 0 6 10 [] ∷ edge 11 0 7 12 []
      ∷ edge 12 1 2 13 [] ∷ edge 13 0 6 14 [] ∷ [];
})
unfolding rules-e2 gardening
e2-1 = refl

e2-2 : build wide rules-e2 (the_commands (1 ∷ 2 ∷ 2 ∷ 0 ∷ 5 ∷ 1 ∷ 3 ∷ 0 ∷ 5 ∷ 1 ∷ 2 ∷ [])) ≡ ok (record {
  nodes = 0 ∷ 1 ∷ 2 ∷ 0 ∷ 0 ∷ 3 ∷ 0 ∷ 0 ∷ 0 ∷ 0 ∷ 4 ∷ 0 ∷ 0 ∷ 0 ∷ 5 ∷ 0 ∷ [];
  edges = edge 0 0 5 6 [] ∷ edge 0 0 20 1 [] ∷ edge 0 0 21 2 [] ∷ edge 0 1 3 3 [] ∷ edge 3 0 8 4 [] ∷ edge 4 1 3 5 []
      ∷ edge 6 1 2 11 [] ∷ edge 6 1 3 7 [] ∷ edge 7 0 8 15 [] ∷ edge 7 0 9 8 [] ∷ edge 8 1 3 9 [] ∷ edge 9 0 6 10 []
      ∷ edge 11 0 7 12 [] ∷ edge 12 1 2 13 [] ∷ edge 13 0 6 14 [] ∷ edge 15 1 3 11 (reduce 3 0 ∷ []) ∷ [];
})
unfolding rules-e2 gardening
e2-2 = refl

-- conversions among the paths; a second place that is a leaf, and a reduce that it misses
unfoldable rules-e3 : List Rule
rules-e3 = rule 3 (con 20 ∷ []) ∷ rule 2 (con 21 ∷ []) ∷ rule 2 (slot 3 ∷ con 8 ∷ slot 3 ∷ []) ∷ rule 3 (con 5 ∷ slot 3 ∷ con 9
    ∷ slot 3 ∷ con 6 ∷ []) ∷ rule 2 (con 5 ∷ slot 2 ∷ con 7 ∷ slot 2 ∷ con 6 ∷ []) ∷ rule 4 (con 22 ∷ []) ∷ rule 3 (slot 4
    ∷ []) ∷ rule 3 (con 5 ∷ slot 4 ∷ con 8 ∷ slot 3 ∷ con 10 ∷ slot 3 ∷ con 6 ∷ []) ∷ []

e3-1 : build wide rules-e3 (the_commands (1 ∷ 2 ∷ 2 ∷ 0 ∷ 5 ∷ 1 ∷ 3 ∷ 0 ∷ 5 ∷ 1 ∷ 2 ∷ 2 ∷ [])) ≡ ok (record {
  nodes = 0 ∷ 1 ∷ 2 ∷ 0 ∷ 0 ∷ 3 ∷ 0 ∷ 0 ∷ 0 ∷ 0 ∷ 4 ∷ 0 ∷ 0 ∷ 0 ∷ 5 ∷ 6 ∷ 0 ∷ 0 ∷ 0 ∷ 0 ∷ 0 ∷ 8 ∷ 0 ∷ [];
  edges = edge 0 0 5 6 [] ∷ edge 0 0 20 1 [] ∷ edge 0 0 21 2 [] ∷ edge 0 0 22 15 [] ∷ edge 0 1 3 3 []
      ∷ edge 0 1 4 3 (reduce 7 0 ∷ []) ∷ edge 3 0 8 4 [] ∷ edge 4 1 3 5 [] ∷ edge 4 1 4 5 (reduce 7 0 ∷ [])
      ∷ edge 6 1 2 11 [] ∷ edge 6 1 3 7 [] ∷ edge 6 1 4 16 [] ∷ edge 7 0 8 22 [] ∷ edge 7 0 9 8 [] ∷ edge 8 1 3 9 []
      ∷ edge 8 1 4 9 (reduce 7 0 ∷ []) ∷ edge 9 0 6 10 [] ∷ edge 11 0 7 12 [] ∷ edge 12 1 2 13 [] ∷ edge 13 0 6 14 []
      ∷ edge 16 0 8 17 [] ∷ edge 16 0 9 8 (reduce 7 0 ∷ []) ∷ edge 17 1 3 18 [] ∷ edge 17 1 4 18 (reduce 7 0 ∷ [])
      ∷ edge 18 0 10 19 [] ∷ edge 19 1 3 20 [] ∷ edge 19 1 4 20 (reduce 7 0 ∷ []) ∷ edge 20 0 6 21 []
      ∷ edge 22 1 3 11 (reduce 3 0 ∷ []) ∷ edge 22 1 4 11 (reduce 7 0 ∷ reduce 3 0 ∷ []) ∷ [];
})
unfolding rules-e3 gardening
e3-1 = refl

e3-2 : build wide rules-e3 (the_commands (1 ∷ 2 ∷ 2 ∷ 0 ∷ 5 ∷ 1 ∷ 3 ∷ 0 ∷ 5 ∷ 1 ∷ 2 ∷ 2 ∷ 1 ∷ 4 ∷ 2 ∷ 0 ∷ 5 ∷ 1 ∷ 4 ∷ 0 ∷ 8 ∷ 1 ∷ 3 ∷ 0 ∷ 5 ∷ 1 ∷ 2 ∷ [])) ≡ ok (record {
  nodes = 0 ∷ 1 ∷ 2 ∷ 0 ∷ 0 ∷ 3 ∷ 0 ∷ 0 ∷ 0 ∷ 0 ∷ 4 ∷ 0 ∷ 0 ∷ 0 ∷ 5 ∷ 6 ∷ 0 ∷ 0 ∷ 0 ∷ 0 ∷ 0 ∷ 8 ∷ 0 ∷ [];
  edges = edge 0 0 5 6 [] ∷ edge 0 0 20 1 [] ∷ edge 0 0 21 2 [] ∷ edge 0 0 22 15 [] ∷ edge 0 1 3 3 []
      ∷ edge 0 1 4 3 (reduce 7 0 ∷ []) ∷ edge 3 0 8 4 [] ∷ edge 4 1 3 5 [] ∷ edge 4 1 4 5 (reduce 7 0 ∷ [])
      ∷ edge 6 1 2 11 [] ∷ edge 6 1 3 7 [] ∷ edge 6 1 4 16 [] ∷ edge 7 0 8 22 [] ∷ edge 7 0 9 8 [] ∷ edge 8 1 3 9 []
      ∷ edge 8 1 4 9 (reduce 7 0 ∷ []) ∷ edge 9 0 6 10 [] ∷ edge 11 0 7 12 [] ∷ edge 12 1 2 13 [] ∷ edge 13 0 6 14 []
      ∷ edge 16 0 8 17 [] ∷ edge 16 0 9 8 (reduce 7 0 ∷ []) ∷ edge 17 1 3 18 [] ∷ edge 17 1 4 18 (reduce 7 0 ∷ [])
      ∷ edge 18 0 7 12 (reduce 7 1 ∷ reduce 3 0 ∷ []) ∷ edge 18 0 10 19 [] ∷ edge 19 1 3 20 []
      ∷ edge 19 1 4 20 (reduce 7 0 ∷ []) ∷ edge 20 0 6 21 [] ∷ edge 22 1 3 11 (reduce 3 0 ∷ [])
      ∷ edge 22 1 4 11 (reduce 7 0 ∷ reduce 3 0 ∷ []) ∷ [];
})
unfolding rules-e3 gardening
e3-2 = refl

-- a key that is there: the shadow's rows are copied behind it; a stored reduce
unfoldable rules-e4 : List Rule
rules-e4 = rule 3 (con 20 ∷ []) ∷ rule 4 (con 22 ∷ []) ∷ rule 3 (slot 4 ∷ []) ∷ rule 3 (con 5 ∷ slot 3 ∷ con 6 ∷ [])
    ∷ rule 3 (con 7 ∷ slot 3 ∷ con 8 ∷ slot 3 ∷ con 9 ∷ []) ∷ rule 3 (con 5 ∷ con 7 ∷ slot 4 ∷ con 8 ∷ slot 4 ∷ con 9
    ∷ con 11 ∷ slot 3 ∷ con 6 ∷ []) ∷ []

e4 : build wide rules-e4 (the_commands (2 ∷ 1 ∷ 2 ∷ 2 ∷ 0 ∷ 5 ∷ 0 ∷ 7 ∷ 0 ∷ 5 ∷ 1 ∷ 3 ∷ [])) ≡ ok (record {
  nodes = 0 ∷ 1 ∷ 2 ∷ 0 ∷ 0 ∷ 4 ∷ 0 ∷ 0 ∷ 0 ∷ 0 ∷ 5 ∷ 0 ∷ 0 ∷ 0 ∷ 0 ∷ 0 ∷ 0 ∷ 0 ∷ 6 ∷ 0 ∷ 0 ∷ 0 ∷ 0 ∷ 0 ∷ [];
  edges = edge 0 0 5 3 [] ∷ edge 0 0 7 6 [] ∷ edge 0 0 20 1 [] ∷ edge 0 0 22 2 [] ∷ edge 3 0 7 11 [] ∷ edge 3 1 3 4 []
      ∷ edge 3 1 4 4 (reduce 3 0 ∷ []) ∷ edge 4 0 6 5 [] ∷ edge 6 1 3 7 [] ∷ edge 6 1 4 7 (reduce 3 0 ∷ [])
      ∷ edge 7 0 8 8 [] ∷ edge 8 1 3 9 [] ∷ edge 8 1 4 9 (reduce 3 0 ∷ []) ∷ edge 9 0 9 10 [] ∷ edge 11 1 3 19 []
      ∷ edge 11 1 4 12 [] ∷ edge 12 0 8 13 [] ∷ edge 13 1 3 23 [] ∷ edge 13 1 4 14 [] ∷ edge 14 0 9 15 []
      ∷ edge 15 0 6 5 (reduce 3 1 ∷ reduce 3 0 ∷ reduce 5 0 ∷ []) ∷ edge 15 0 11 16 [] ∷ edge 16 1 3 17 []
      ∷ edge 16 1 4 17 (reduce 3 0 ∷ []) ∷ edge 17 0 6 18 [] ∷ edge 19 0 8 20 [] ∷ edge 20 1 3 21 []
      ∷ edge 20 1 4 22 (reduce 3 0 ∷ []) ∷ edge 21 0 9 4 (reduce 5 0 ∷ []) ∷ edge 22 0 9 4 (reduce 5 0 ∷ [])
      ∷ edge 23 0 9 4 (reduce 3 1 ∷ reduce 5 0 ∷ []) ∷ [];
})
unfolding rules-e4 gardening
e4 = refl

-- the list is raised by one on a copied variable row
unfoldable rules-e5 : List Rule
rules-e5 = rule 2 (con 10 ∷ slot 2 ∷ slot 2 ∷ []) ∷ rule 2 (con 10 ∷ con 11 ∷ con 10 ∷ []) ∷ rule 2 (con 11 ∷ [])
    ∷ rule 2 (con 12 ∷ []) ∷ []

e5 : build wide rules-e5 (the_commands (1 ∷ 2 ∷ 2 ∷ 0 ∷ 10 ∷ 0 ∷ 11 ∷ 0 ∷ 10 ∷ 1 ∷ 2 ∷ [])) ≡ ok (record {
  nodes = 0 ∷ 0 ∷ 0 ∷ 1 ∷ 0 ∷ 2 ∷ 3 ∷ 4 ∷ [];
  edges = edge 0 0 10 1 [] ∷ edge 0 0 11 6 [] ∷ edge 0 0 12 7 [] ∷ edge 1 0 11 4 [] ∷ edge 1 1 2 2 []
      ∷ edge 2 1 2 3 [] ∷ edge 4 0 10 5 [] ∷ edge 4 1 2 3 (reduce 3 1 ∷ []) ∷ [];
})
unfolding rules-e5 gardening
e5 = refl

-- a key that is there is kept
unfoldable rules-e6 : List Rule
rules-e6 = rule 2 (con 10 ∷ slot 2 ∷ con 11 ∷ []) ∷ rule 2 (con 12 ∷ []) ∷ rule 2 (con 10 ∷ con 12 ∷ con 11 ∷ con 10 ∷ []) ∷ []

e6 : build wide rules-e6 (the_commands (1 ∷ 2 ∷ 2 ∷ 0 ∷ 10 ∷ 0 ∷ 12 ∷ 0 ∷ 10 ∷ 1 ∷ 2 ∷ [])) ≡ ok (record {
  nodes = 0 ∷ 0 ∷ 0 ∷ 1 ∷ 2 ∷ 0 ∷ 0 ∷ 3 ∷ [];
  edges = edge 0 0 10 1 [] ∷ edge 0 0 12 4 [] ∷ edge 1 0 12 5 [] ∷ edge 1 1 2 2 [] ∷ edge 2 0 11 3 []
      ∷ edge 5 0 11 6 [] ∷ edge 6 0 10 7 [] ∷ [];
})
unfolding rules-e6 gardening
e6 = refl

-- a row that leads to the place copied to is skipped
unfoldable rules-e7 : List Rule
rules-e7 = rule 2 (con 10 ∷ slot 2 ∷ []) ∷ rule 2 (con 10 ∷ con 10 ∷ con 10 ∷ []) ∷ []

e7 : build wide rules-e7 (the_commands (1 ∷ 3 ∷ 2 ∷ 0 ∷ 10 ∷ 0 ∷ 10 ∷ 0 ∷ 10 ∷ 0 ∷ 10 ∷ 1 ∷ 2 ∷ [])) ≡ ok (record {
  nodes = 0 ∷ 0 ∷ 1 ∷ 0 ∷ 2 ∷ [];
  edges = edge 0 0 10 1 [] ∷ edge 1 0 10 3 [] ∷ edge 1 1 2 2 [] ∷ edge 3 0 10 4 [] ∷ [];
})
unfolding rules-e7 gardening
e7 = refl

-- the leaf's result is not compared with the shadow's slot
unfoldable rules-e8 : List Rule
rules-e8 = rule 2 (con 10 ∷ con 10 ∷ con 10 ∷ []) ∷ rule 2 (con 10 ∷ slot 3 ∷ con 10 ∷ []) ∷ rule 3 (con 11 ∷ []) ∷ []

e8 : build wide rules-e8 (the_commands (1 ∷ 2 ∷ 2 ∷ 0 ∷ 10 ∷ 0 ∷ 10 ∷ 0 ∷ 10 ∷ 1 ∷ 3 ∷ [])) ≡ ok (record {
  nodes = 0 ∷ 0 ∷ 0 ∷ 1 ∷ 0 ∷ 2 ∷ 3 ∷ 0 ∷ [];
  edges = edge 0 0 10 1 [] ∷ edge 0 0 11 6 [] ∷ edge 1 0 10 2 [] ∷ edge 1 1 3 4 [] ∷ edge 2 0 10 3 []
      ∷ edge 2 1 3 7 [] ∷ edge 4 0 10 5 [] ∷ edge 7 0 10 4 (reduce 2 0 ∷ []) ∷ [];
})
unfolding rules-e8 gardening
e8 = refl

-- a stored reduce that comes too late
unfoldable rules-e9 : List Rule
rules-e9 = rule 2 (con 10 ∷ []) ∷ rule 3 (con 11 ∷ []) ∷ rule 2 (slot 3 ∷ []) ∷ rule 2 (con 5 ∷ slot 2 ∷ con 6 ∷ [])
    ∷ rule 2 (con 7 ∷ slot 2 ∷ slot 2 ∷ []) ∷ rule 2 (con 5 ∷ con 7 ∷ con 7 ∷ slot 3 ∷ con 6 ∷ []) ∷ rule 2 (con 7 ∷ con 7
    ∷ con 10 ∷ []) ∷ []

e9 : build wide rules-e9 (the_commands (2 ∷ 1 ∷ 2 ∷ 2 ∷ 0 ∷ 7 ∷ 0 ∷ 7 ∷ 0 ∷ 7 ∷ 1 ∷ 2 ∷ 1 ∷ 2 ∷ 2 ∷ 0 ∷ 5 ∷ 0 ∷ 7 ∷ 0 ∷ 5 ∷ 1 ∷ 2 ∷ [])) ≡ ok (record {
  nodes = 0 ∷ 1 ∷ 2 ∷ 0 ∷ 0 ∷ 4 ∷ 0 ∷ 0 ∷ 5 ∷ 0 ∷ 0 ∷ 0 ∷ 6 ∷ 0 ∷ 7 ∷ 0 ∷ 0 ∷ 0 ∷ 0 ∷ 0 ∷ 0 ∷ 0 ∷ 0 ∷ 0 ∷ [];
  edges = edge 0 0 5 3 [] ∷ edge 0 0 7 6 [] ∷ edge 0 0 10 1 [] ∷ edge 0 0 11 2 [] ∷ edge 3 0 7 9 [] ∷ edge 3 1 2 4 []
      ∷ edge 3 1 3 4 (reduce 3 0 ∷ []) ∷ edge 4 0 6 5 [] ∷ edge 6 0 7 13 [] ∷ edge 6 1 2 7 []
      ∷ edge 6 1 3 7 (reduce 3 0 ∷ []) ∷ edge 7 1 2 8 [] ∷ edge 7 1 3 8 (reduce 3 0 ∷ []) ∷ edge 9 0 7 10 []
      ∷ edge 9 1 2 22 [] ∷ edge 9 1 3 23 (reduce 3 0 ∷ []) ∷ edge 10 0 10 4 (reduce 7 0 ∷ []) ∷ edge 10 1 2 17 []
      ∷ edge 10 1 3 11 [] ∷ edge 11 0 6 12 [] ∷ edge 11 1 2 20 (reduce 5 0 ∷ [])
      ∷ edge 11 1 3 21 (reduce 3 0 ∷ reduce 5 0 ∷ []) ∷ edge 13 0 10 14 [] ∷ edge 13 1 2 15 []
      ∷ edge 13 1 3 16 (reduce 3 0 ∷ []) ∷ edge 15 1 2 7 (reduce 5 0 ∷ [])
      ∷ edge 15 1 3 7 (reduce 3 0 ∷ reduce 5 0 ∷ []) ∷ edge 16 1 2 7 (reduce 5 0 ∷ [])
      ∷ edge 16 1 3 7 (reduce 3 0 ∷ reduce 5 0 ∷ []) ∷ edge 17 1 2 18 (reduce 5 0 ∷ [])
      ∷ edge 17 1 3 19 (reduce 3 0 ∷ reduce 5 0 ∷ []) ∷ edge 18 1 2 4 (reduce 5 0 ∷ [])
      ∷ edge 18 1 3 4 (reduce 3 0 ∷ reduce 5 0 ∷ []) ∷ edge 19 1 2 4 (reduce 5 0 ∷ [])
      ∷ edge 19 1 3 4 (reduce 3 0 ∷ reduce 5 0 ∷ []) ∷ edge 20 1 2 4 (reduce 3 2 ∷ reduce 5 0 ∷ [])
      ∷ edge 20 1 3 4 (reduce 3 0 ∷ reduce 3 2 ∷ reduce 5 0 ∷ []) ∷ edge 21 1 2 4 (reduce 3 2 ∷ reduce 5 0 ∷ [])
      ∷ edge 21 1 3 4 (reduce 3 0 ∷ reduce 3 2 ∷ reduce 5 0 ∷ []) ∷ edge 22 1 2 4 (reduce 5 0 ∷ [])
      ∷ edge 22 1 3 4 (reduce 3 0 ∷ reduce 5 0 ∷ []) ∷ edge 23 1 2 4 (reduce 5 0 ∷ [])
      ∷ edge 23 1 3 4 (reduce 3 0 ∷ reduce 5 0 ∷ []) ∷ [];
})
unfolding rules-e9 gardening
e9 = refl

-- clones go in key order, not in the order in which rows came: copied nodes get other numbers
unfoldable rules-e10 : List Rule
rules-e10 = rule 2 (con 10 ∷ slot 3 ∷ slot 2 ∷ []) ∷ rule 3 (con 10 ∷ con 10 ∷ con 10 ∷ []) ∷ rule 3 (slot 2 ∷ []) ∷ []

e10 : build wide rules-e10 (the_commands (2 ∷ 1 ∷ 2 ∷ 2 ∷ 0 ∷ 10 ∷ 0 ∷ 10 ∷ 0 ∷ 10 ∷ 1 ∷ 3 ∷ [])) ≡ ok (record {
  nodes = 0 ∷ 0 ∷ 0 ∷ 1 ∷ 0 ∷ 2 ∷ 0 ∷ 0 ∷ [];
  edges = edge 0 0 10 1 [] ∷ edge 1 0 10 4 [] ∷ edge 1 1 2 2 (reduce 3 0 ∷ []) ∷ edge 1 1 3 2 [] ∷ edge 2 1 2 3 []
      ∷ edge 4 0 10 5 [] ∷ edge 4 1 2 6 (reduce 3 0 ∷ []) ∷ edge 4 1 3 7 [] ∷ edge 6 1 2 2 (reduce 1 0 ∷ [])
      ∷ edge 7 1 2 2 (reduce 1 0 ∷ []) ∷ [];
})
unfolding rules-e10 gardening
e10 = refl

-- and a path that reads what it writes comes to another tree
unfoldable rules-e11 : List Rule
rules-e11 = rule 2 (slot 3 ∷ slot 3 ∷ []) ∷ rule 2 (con 10 ∷ slot 3 ∷ slot 3 ∷ slot 2 ∷ []) ∷ rule 3 (slot 2 ∷ []) ∷ []

e11 : build wide rules-e11 (the_commands (2 ∷ 1 ∷ 2 ∷ 2 ∷ 0 ∷ 10 ∷ 1 ∷ 2 ∷ 0 ∷ 10 ∷ 1 ∷ 3 ∷ [])) ≡ ok (record {
  nodes = 0 ∷ 0 ∷ 1 ∷ 0 ∷ 0 ∷ 0 ∷ 2 ∷ [];
  edges = edge 0 0 10 3 [] ∷ edge 0 1 2 1 (reduce 3 0 ∷ []) ∷ edge 0 1 3 1 [] ∷ edge 1 1 2 2 (reduce 3 0 ∷ [])
      ∷ edge 1 1 3 2 [] ∷ edge 3 1 2 4 (reduce 3 0 ∷ []) ∷ edge 3 1 3 4 [] ∷ edge 4 1 2 5 (reduce 3 0 ∷ [])
      ∷ edge 4 1 3 5 [] ∷ edge 5 1 2 6 [] ∷ edge 5 1 3 5 (reduce 3 1 ∷ reduce 1 1 ∷ []) ∷ [];
})
unfolding rules-e11 gardening
e11 = refl

-- so that a statement can be accepted in one order and refused in the other: in the order of coming node 9 has no row for c10
unfoldable rules-e12 : List Rule
rules-e12 = rule 3 (con 12 ∷ []) ∷ rule 2 (con 10 ∷ slot 3 ∷ con 11 ∷ []) ∷ rule 3 (con 11 ∷ []) ∷ rule 3 (con 10 ∷ slot 3 ∷ con 12 ∷ con 10 ∷ []) ∷ rule 3 (con 10 ∷ con 10 ∷ slot 3 ∷ slot 2 ∷ []) ∷ rule 2 (con 10 ∷ slot 2 ∷ con 10 ∷ []) ∷ []

e12 : build wide rules-e12 (the_commands (1 ∷ 2 ∷ 2 ∷ 0 ∷ 10 ∷ 0 ∷ 10 ∷ 0 ∷ 10 ∷ 1 ∷ 3 ∷ 1 ∷ 2 ∷ 2 ∷ 0 ∷ 10 ∷ 0 ∷ 10 ∷ 0 ∷ 10 ∷ 1 ∷ 2 ∷ [])) ≡ ok (record {
  nodes = 0 ∷ 1 ∷ 0 ∷ 0 ∷ 2 ∷ 3 ∷ 0 ∷ 4 ∷ 0 ∷ 0 ∷ 5 ∷ 0 ∷ 6 ∷ 0 ∷ 0 ∷ [];
  edges = edge 0 0 10 2 [] ∷ edge 0 0 11 5 [] ∷ edge 0 0 12 1 [] ∷ edge 2 0 10 8 [] ∷ edge 2 1 2 11 []
      ∷ edge 2 1 3 3 [] ∷ edge 3 0 10 12 (reduce 6 0 ∷ []) ∷ edge 3 0 11 4 [] ∷ edge 3 0 12 6 [] ∷ edge 6 0 10 7 []
      ∷ edge 8 1 2 13 [] ∷ edge 8 1 3 9 [] ∷ edge 9 0 10 11 (reduce 6 0 ∷ reduce 6 0 ∷ [])
      ∷ edge 9 0 11 3 (reduce 2 0 ∷ []) ∷ edge 9 0 12 14 [] ∷ edge 9 1 2 10 [] ∷ edge 11 0 10 12 []
      ∷ edge 13 0 10 3 (reduce 6 0 ∷ []) ∷ edge 14 0 10 3 (reduce 4 0 ∷ []) ∷ [];
})
unfolding rules-e12 gardening
e12 = refl

-- ---- numbers

unfoldable fate : Res Fault Grown → ℕ
fate (no y) = fault_number y
fate (ok g) = 0

record Case : Type 0 where
  bounds : Bounds
  rules : List Rule
  words : List ℕ
  number : ℕ

abbrev case : Bounds → List Rule → List ℕ → ℕ → Case
case z R ws k = record { bounds = z; rules = R; words = ws; number = k }

unfoldable met : List Case → Bool
met [] = true
met (c ∷ cs) = eqb (fate (build c.bounds c.rules (the_commands c.words))) c.number && met cs

-- the refusals but for 15 and 17, in the order of their numbers
unfoldable refusals : List Case
refusals = case wide (rule 2 (con 10 ∷ []) ∷ rule 2 (con 10 ∷ []) ∷ []) (1 ∷ 1 ∷ 1 ∷ 0 ∷ 10 ∷ 0 ∷ 11 ∷ []) 11
    ∷ case (bounds 15 14 16385 16384) (rule 3 (con 20 ∷ []) ∷ rule 2 (con 21 ∷ []) ∷ rule 2 (slot 3 ∷ con 8 ∷ slot 3 ∷ []) ∷ rule 3 (con 5 ∷ slot 3 ∷ con 9 ∷ slot 3 ∷ con 6 ∷ []) ∷ rule 2 (con 5 ∷ slot 2 ∷ con 7 ∷ slot 2 ∷ con 6 ∷ []) ∷ []) (1 ∷ 2 ∷ 2 ∷ 0 ∷ 5 ∷ 1 ∷ 3 ∷ 0 ∷ 5 ∷ 1 ∷ 2 ∷ []) 12
    ∷ case (bounds 16 15 16385 16384) (rule 3 (con 20 ∷ []) ∷ rule 2 (con 21 ∷ []) ∷ rule 2 (slot 3 ∷ con 8 ∷ slot 3 ∷ []) ∷ rule 3 (con 5 ∷ slot 3 ∷ con 9 ∷ slot 3 ∷ con 6 ∷ []) ∷ rule 2 (con 5 ∷ slot 2 ∷ con 7 ∷ slot 2 ∷ con 6 ∷ []) ∷ []) (1 ∷ 2 ∷ 2 ∷ 0 ∷ 5 ∷ 1 ∷ 3 ∷ 0 ∷ 5 ∷ 1 ∷ 2 ∷ []) 13
    ∷ case wide (rule 3 (slot 4 ∷ con 8 ∷ []) ∷ rule 2 (con 5 ∷ slot 3 ∷ con 9 ∷ []) ∷ rule 2 (con 5 ∷ slot 24 ∷ con 8 ∷ con 9 ∷ []) ∷ rule 4 (slot 20 ∷ []) ∷ rule 20 (slot 21 ∷ []) ∷ rule 21 (slot 22 ∷ []) ∷ rule 22 (slot 23 ∷ []) ∷ rule 23 (slot 24 ∷ []) ∷ []) (2 ∷ 1 ∷ 2 ∷ 2 ∷ 0 ∷ 5 ∷ 1 ∷ 24 ∷ 0 ∷ 5 ∷ 1 ∷ 3 ∷ []) 14
    ∷ case wide (rule 2 (con 10 ∷ []) ∷ []) (3 ∷ []) 16
    ∷ case wide (rule 2 (con 10 ∷ slot 2 ∷ []) ∷ rule 2 (con 11 ∷ []) ∷ []) (1 ∷ 1 ∷ 1 ∷ 2 ∷ 10 ∷ 1 ∷ 2 ∷ []) 16
    ∷ case wide (rule 2 (con 10 ∷ slot 2 ∷ []) ∷ rule 2 (con 11 ∷ []) ∷ []) (1 ∷ 2 ∷ 1 ∷ 0 ∷ 10 ∷ 1 ∷ 2 ∷ []) 16
    ∷ case wide (rule 2 (con 10 ∷ slot 2 ∷ []) ∷ rule 2 (con 11 ∷ []) ∷ []) (1 ∷ 1 ∷ 2 ∷ 0 ∷ 10 ∷ 0 ∷ 10 ∷ 1 ∷ 2 ∷ []) 16
    ∷ case wide (rule 2 (slot 2 ∷ slot 2 ∷ []) ∷ rule 2 (con 11 ∷ []) ∷ []) (1 ∷ 2 ∷ 2 ∷ 1 ∷ 2 ∷ 0 ∷ 10 ∷ 1 ∷ 2 ∷ 1 ∷ 2 ∷ []) 16
    ∷ case wide (rule 2 (con 10 ∷ []) ∷ []) (1 ∷ 3 ∷ 3 ∷ 0 ∷ 10 ∷ 0 ∷ 11 ∷ 0 ∷ 11 ∷ 0 ∷ 10 ∷ 0 ∷ 11 ∷ 1 ∷ 2 ∷ []) 16
    ∷ case wide (rule 2 (con 10 ∷ slot 2 ∷ []) ∷ []) (1 ∷ 2 ∷ 2 ∷ 0 ∷ 10 ∷ 0 ∷ 10 ∷ 0 ∷ 10 ∷ 1 ∷ 2 ∷ []) 16
    ∷ case wide (rule 2 (con 10 ∷ con 10 ∷ []) ∷ []) (1 ∷ 2 ∷ 2 ∷ 0 ∷ 10 ∷ 0 ∷ 10 ∷ 0 ∷ 10 ∷ 1 ∷ 2 ∷ []) 16
    ∷ case wide (rule 2 (con 10 ∷ con 10 ∷ []) ∷ rule 2 (con 10 ∷ slot 2 ∷ []) ∷ []) (1 ∷ 2 ∷ 2 ∷ 0 ∷ 10 ∷ 1 ∷ 2 ∷ 0 ∷ 10 ∷ 0 ∷ 10 ∷ []) 16
    ∷ case wide (rule 2 (con 11 ∷ slot 2 ∷ []) ∷ rule 2 (con 11 ∷ con 10 ∷ con 10 ∷ []) ∷ []) (1 ∷ 2 ∷ 2 ∷ 0 ∷ 11 ∷ 0 ∷ 10 ∷ 0 ∷ 11 ∷ 1 ∷ 2 ∷ []) 16
    ∷ case wide (rule 2 (con 11 ∷ slot 2 ∷ []) ∷ rule 2 (con 11 ∷ con 10 ∷ con 10 ∷ con 10 ∷ []) ∷ rule 2 (con 10 ∷ slot 2 ∷ []) ∷ []) (1 ∷ 3 ∷ 2 ∷ 0 ∷ 11 ∷ 0 ∷ 10 ∷ 0 ∷ 10 ∷ 0 ∷ 11 ∷ 1 ∷ 2 ∷ []) 16
    ∷ case wide (rule 2 (con 10 ∷ slot 2 ∷ []) ∷ rule 2 (slot 4 ∷ []) ∷ rule 2 (slot 4 ∷ con 11 ∷ []) ∷ rule 2 (con 10 ∷ slot 3 ∷ con 12 ∷ []) ∷ []) (2 ∷ 1 ∷ 2 ∷ 2 ∷ 0 ∷ 10 ∷ 1 ∷ 4 ∷ 0 ∷ 10 ∷ 1 ∷ 3 ∷ []) 16
    ∷ case wide (rule 2 (con 10 ∷ slot 2 ∷ con 11 ∷ []) ∷ rule 2 (con 12 ∷ con 13 ∷ []) ∷ rule 2 (con 10 ∷ con 12 ∷ con 13 ∷ []) ∷ []) (1 ∷ 2 ∷ 2 ∷ 0 ∷ 10 ∷ 0 ∷ 12 ∷ 0 ∷ 10 ∷ 1 ∷ 2 ∷ []) 16
    ∷ case wide (rule 2 (con 10 ∷ slot 2 ∷ []) ∷ rule 2 (con 12 ∷ []) ∷ rule 2 (con 10 ∷ con 12 ∷ con 13 ∷ []) ∷ []) (1 ∷ 2 ∷ 2 ∷ 0 ∷ 10 ∷ 0 ∷ 12 ∷ 0 ∷ 10 ∷ 1 ∷ 2 ∷ []) 16
    ∷ case wide (rule 2 (con 10 ∷ slot 2 ∷ con 11 ∷ []) ∷ rule 2 (con 12 ∷ con 13 ∷ []) ∷ rule 2 (con 10 ∷ con 12 ∷ []) ∷ []) (1 ∷ 2 ∷ 2 ∷ 0 ∷ 10 ∷ 0 ∷ 12 ∷ 0 ∷ 10 ∷ 1 ∷ 2 ∷ []) 16
    ∷ case wide (rule 2 (slot 2 ∷ con 11 ∷ []) ∷ rule 2 (slot 3 ∷ con 11 ∷ []) ∷ []) (1 ∷ 1 ∷ 1 ∷ 1 ∷ 2 ∷ 1 ∷ 3 ∷ []) 16
    ∷ case wide (rule 2 (con 10 ∷ slot 3 ∷ []) ∷ rule 2 (con 10 ∷ con 13 ∷ con 13 ∷ []) ∷ rule 3 (con 13 ∷ slot 2 ∷ []) ∷ []) (1 ∷ 2 ∷ 2 ∷ 0 ∷ 10 ∷ 0 ∷ 13 ∷ 0 ∷ 10 ∷ 1 ∷ 3 ∷ 1 ∷ 2 ∷ 2 ∷ 0 ∷ 10 ∷ 0 ∷ 13 ∷ 0 ∷ 10 ∷ 1 ∷ 3 ∷ []) 16
    ∷ case wide (rule 2 (con 5 ∷ slot 3 ∷ []) ∷ rule 3 (slot 4 ∷ []) ∷ []) (2 ∷ 2 ∷ []) 16
    ∷ []

refusals-met : met refusals ≡ true
unfolding met fate refusals gardening
refusals-met = refl

-- 6 where a clone has no frame: the second one, the first one, and the first one before any row of its own
unfoldable frameless : List Case
frameless = case (bounds 16 16 2 16384) rules-e2 (1 ∷ 2 ∷ 2 ∷ 0 ∷ 5 ∷ 1 ∷ 3 ∷ 0 ∷ 5 ∷ 1 ∷ 2 ∷ []) 0
    ∷ case (bounds 16 16 1 16384) rules-e2 (1 ∷ 2 ∷ 2 ∷ 0 ∷ 5 ∷ 1 ∷ 3 ∷ 0 ∷ 5 ∷ 1 ∷ 2 ∷ []) 6
    ∷ case (bounds 16 16 0 16384) rules-e2 (1 ∷ 2 ∷ 2 ∷ 0 ∷ 5 ∷ 1 ∷ 3 ∷ 0 ∷ 5 ∷ 1 ∷ 2 ∷ []) 6
    ∷ case (bounds 15 16 1 16384) rules-e2 (1 ∷ 2 ∷ 2 ∷ 0 ∷ 5 ∷ 1 ∷ 3 ∷ 0 ∷ 5 ∷ 1 ∷ 2 ∷ []) 12
    ∷ case (bounds 16 14 1 16384) rules-e2 (1 ∷ 2 ∷ 2 ∷ 0 ∷ 5 ∷ 1 ∷ 3 ∷ 0 ∷ 5 ∷ 1 ∷ 2 ∷ []) 13
    ∷ case (bounds 8 8 0 16384) rules-e7 (1 ∷ 3 ∷ 2 ∷ 0 ∷ 10 ∷ 0 ∷ 10 ∷ 0 ∷ 10 ∷ 0 ∷ 10 ∷ 1 ∷ 2 ∷ []) 6
    ∷ case (bounds 8 8 1 16384) rules-e7 (1 ∷ 3 ∷ 2 ∷ 0 ∷ 10 ∷ 0 ∷ 10 ∷ 0 ∷ 10 ∷ 0 ∷ 10 ∷ 1 ∷ 2 ∷ []) 0
    ∷ []

frameless-met : met frameless ≡ true
unfolding met fate frameless rules-e2 rules-e7 gardening
frameless-met = refl

-- 17 where one row more would be taken up, skipped ones counted
unfoldable rowless : List Case
rowless = case (bounds 16 16 9 1) rules-e2 (1 ∷ 2 ∷ 2 ∷ 0 ∷ 5 ∷ 1 ∷ 3 ∷ 0 ∷ 5 ∷ 1 ∷ 2 ∷ []) 17
    ∷ case (bounds 16 16 9 2) rules-e2 (1 ∷ 2 ∷ 2 ∷ 0 ∷ 5 ∷ 1 ∷ 3 ∷ 0 ∷ 5 ∷ 1 ∷ 2 ∷ []) 0
    ∷ case (bounds 8 8 1 0) rules-e7 (1 ∷ 3 ∷ 2 ∷ 0 ∷ 10 ∷ 0 ∷ 10 ∷ 0 ∷ 10 ∷ 0 ∷ 10 ∷ 1 ∷ 2 ∷ []) 17
    ∷ []

rowless-met : met rowless ≡ true
unfolding met fate rowless rules-e2 rules-e7 gardening
rowless-met = refl

-- an offset past 255, in a tree of 264 nodes
unfoldable far : List Case
far = case wide (rule 2 (slot 2 ∷ slot 2 ∷ []) ∷ rule 2 (con 10 ∷ slot 2 ∷ con 11 ∷ []) ∷ rule 2 (slot 4 ∷ []) ∷ rule 2 (con 10 ∷ con 10 ∷ slot 4 ∷ con 12 ∷ []) ∷ []) (2 ∷ 1 ∷ 2 ∷ 2 ∷ 0 ∷ 10 ∷ 1 ∷ 4 ∷ 0 ∷ 10 ∷ 1 ∷ 2 ∷ 1 ∷ 3 ∷ 2 ∷ 0 ∷ 10 ∷ 0 ∷ 10 ∷ 1 ∷ 4 ∷ 0 ∷ 10 ∷ 1 ∷ 2 ∷ []) 15 ∷ []

far-met : met far ≡ true
unfolding met fate far gardening
far-met = refl

-- a circle in both trees: no number of rows is enough
unfoldable circle : List Case
circle = case (bounds 9 15 200 150) (rule 2 (slot 2 ∷ con 11 ∷ []) ∷ rule 2 (con 10 ∷ slot 2 ∷ slot 2 ∷ []) ∷ rule 2 (slot 4 ∷ []) ∷ rule 2 (con 10 ∷ con 10 ∷ slot 2 ∷ slot 2 ∷ []) ∷ []) (2 ∷ 1 ∷ 2 ∷ 2 ∷ 0 ∷ 10 ∷ 1 ∷ 4 ∷ 0 ∷ 10 ∷ 1 ∷ 2 ∷ 1 ∷ 3 ∷ 3 ∷ 0 ∷ 10 ∷ 0 ∷ 10 ∷ 1 ∷ 4 ∷ 0 ∷ 10 ∷ 0 ∷ 10 ∷ 1 ∷ 2 ∷ 1 ∷ 3 ∷ 2 ∷ 0 ∷ 10 ∷ 0 ∷ 10 ∷ 1 ∷ 2 ∷ 0 ∷ 10 ∷ 1 ∷ 2 ∷ []) 17 ∷ []

circle-met : met circle ≡ true
unfolding met fate circle gardening
circle-met = refl
