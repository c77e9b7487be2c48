-- Closed claims that pin the definitions of rows, look-up, reduce lists and the table check.
use Rattle.std.specs.Prelude.{◌≡◌, refl, Bool, true, false, not, ◌&&◌, List, [], ◌∷◌, ◌++◌, ℕ, zero, suc}
use Rattle.std.proofs.Math.Option.{none, some}
use Rattle.words.specs.Lent.{zeros}
use Rattle.rows.specs.Rows.{Reduce, Edge, edge_of, edges_of, row_words, edge_words, rising, insert_edge, find, leaving, bare, with_reduce, tables_good, tabling}
use Rattle.rows.specs.Sheet.{edge, nodes-S, edges-S, tables}

-- ---- set S

S-good : tables_good 9 nodes-S (edge_words edges-S) ≡ true
unfolding tabling tables
S-good = refl

-- its last leaf is rule 9's
S-without-9 : tables_good 8 nodes-S (edge_words edges-S) ≡ false
unfolding tabling tables
S-without-9 = refl

S-back : edges_of (edge_words edges-S) ≡ edges-S
unfolding tabling tables
S-back = refl

-- ---- a row

abbrev reduce : ℕ → ℕ → Reduce
reduce r o = record { rule = r; offset = o }

words_of : row_words (edge 3 1 4 7 (reduce 5 0 ∷ reduce 6 1 ∷ [])) ≡ 3 ∷ 1 ∷ 4 ∷ 7 ∷ 2 ∷ 5 ∷ 0 ∷ 6 ∷ 1 ∷ 0 ∷ 0 ∷ 0 ∷ 0 ∷ 0 ∷ 0 ∷ 0 ∷ []
unfolding tabling
words_of = refl

edge-of : edge_of (3 ∷ 1 ∷ 4 ∷ 7 ∷ 2 ∷ 5 ∷ 0 ∷ 6 ∷ 1 ∷ 0 ∷ 0 ∷ 0 ∷ 0 ∷ 0 ∷ 0 ∷ 0 ∷ []) ≡ edge 3 1 4 7 (reduce 5 0 ∷ reduce 6 1 ∷ [])
unfolding tabling
edge-of = refl

-- ---- the look-up: all three parts of the key, and the first of two rows where a table is bad

abbrev twice : List Edge
twice = edge 0 0 10 1 [] ∷ edge 0 1 10 2 [] ∷ edge 0 0 11 3 [] ∷ edge 4 0 10 5 [] ∷ edge 0 0 10 6 [] ∷ []

first : find twice 0 0 10 ≡ some (edge 0 0 10 1 [])
unfolding tabling
first = refl

by_kind : find twice 0 1 10 ≡ some (edge 0 1 10 2 [])
unfolding tabling
by_kind = refl

by-symbol : find twice 0 0 11 ≡ some (edge 0 0 11 3 [])
unfolding tabling
by-symbol = refl

by-from : find twice 4 0 10 ≡ some (edge 4 0 10 5 [])
unfolding tabling
by-from = refl

missing : find twice 4 1 10 ≡ none
unfolding tabling
missing = refl

-- row 4 leaves node 4, and none leaves node 1
left : (bare twice 4 ≡ false) × (bare twice 1 ≡ true)
unfolding tabling
left = (refl, refl)

-- ---- the order: from, then kind, then symbol

abbrev ordered : List Edge
ordered = edge 0 0 10 1 [] ∷ edge 0 0 11 2 [] ∷ edge 0 1 3 3 [] ∷ edge 4 0 1 5 [] ∷ []

rises : rising ordered ≡ true
unfolding tabling
rises = refl

-- the last place, the first one, and two between
put_last : insert_edge (edge 4 0 2 6 []) ordered ≡ ordered ++ edge 4 0 2 6 [] ∷ []
unfolding tabling
put_last = refl

put_first : insert_edge (edge 0 0 9 6 []) ordered ≡ edge 0 0 9 6 [] ∷ ordered
unfolding tabling
put_first = refl

put-by-kind : insert_edge (edge 0 1 2 6 []) ordered ≡ edge 0 0 10 1 [] ∷ edge 0 0 11 2 [] ∷ edge 0 1 2 6 [] ∷ edge 0 1 3 3 [] ∷ edge 4 0 1 5 [] ∷ []
unfolding tabling
put-by-kind = refl

put-by-from : insert_edge (edge 3 1 9 6 []) ordered ≡ edge 0 0 10 1 [] ∷ edge 0 0 11 2 [] ∷ edge 0 1 3 3 [] ∷ edge 3 1 9 6 [] ∷ edge 4 0 1 5 [] ∷ []
unfolding tabling
put-by-from = refl

-- the rows of node 0 stand together
of-root : leaving 0 ordered ≡ edge 0 0 10 1 [] ∷ edge 0 0 11 2 [] ∷ edge 0 1 3 3 [] ∷ []
unfolding tabling
of-root = refl

-- ---- reduce lists

abbrev four : List Reduce
four = reduce 1 0 ∷ reduce 2 0 ∷ reduce 3 1 ∷ reduce 4 0 ∷ []

fifth-first : with_reduce (reduce 5 0) four ≡ some (reduce 5 0 ∷ four)
unfolding tabling
fifth-first = refl

sixth-refused : with_reduce (reduce 6 0) (reduce 5 0 ∷ four) ≡ none
unfolding tabling
sixth-refused = refl

-- ---- good and bad tables, over two rules

-- a row: from, kind, symbol, to, count, ten words of pairs, and the last word
abbrev row : ℕ → ℕ → ℕ → ℕ → ℕ → List ℕ → ℕ → List ℕ
row f k s t n ps z = f ∷ k ∷ s ∷ t ∷ n ∷ ps ++ z ∷ []

-- two branches and the leaf of rule 1
abbrev three : List ℕ
three = 0 ∷ 0 ∷ 1 ∷ []

-- a row over these nodes, with no reduces
abbrev plain : ℕ → ℕ → ℕ → ℕ → List ℕ
plain f k s t = row f k s t 0 (zeros 10) 0

-- an edge from the root with these pairs
abbrev paired : ℕ → List ℕ → List ℕ
paired n ps = row 0 1 3 1 n ps 0

abbrev judge : List ℕ → List ℕ → Bool
judge ns ws = tables_good 2 ns ws

unfoldable every : List Bool → Bool
every [] = true
every (b ∷ bs) = b && every bs

unfoldable none_of : List Bool → Bool
none_of [] = true
none_of (b ∷ bs) = not b && none_of bs

good-tables : List Bool
good-tables =
    judge (0 ∷ []) []
    ∷ judge (0 ∷ 2 ∷ []) []
    -- a constant edge of node 0 to a leaf; a variable one of another branch
    ∷ judge three (plain 0 0 10 2)
    ∷ judge three (plain 1 1 3 2)
    ∷ judge three (plain 0 1 1 1 ++ plain 1 0 65535 1)
    -- rows that rise by symbol, by kind and by from
    ∷ judge three (plain 0 0 10 1 ++ plain 0 0 11 1)
    ∷ judge three (plain 0 0 11 1 ++ plain 0 1 10 1)
    ∷ judge three (plain 0 1 11 1 ++ plain 1 0 10 1)
    -- one reduce with the greatest offset, and five
    ∷ judge three (paired 1 (2 ∷ 255 ∷ zeros 8))
    ∷ judge three (paired 5 (1 ∷ 0 ∷ 2 ∷ 1 ∷ 1 ∷ 2 ∷ 2 ∷ 3 ∷ 1 ∷ 255 ∷ []))
    ∷ []

bad-tables : List Bool
bad-tables =
    -- no node, node 0 a leaf, a rule that there isn't
    judge [] []
    ∷ judge (1 ∷ []) []
    ∷ judge (0 ∷ 3 ∷ []) []
    -- no whole rows
    ∷ judge three (zeros 15)
    ∷ judge three (plain 0 0 10 2 ++ 0 ∷ [])
    -- from a leaf, from no node
    ∷ judge three (plain 2 0 10 1)
    ∷ judge three (plain 3 0 10 1)
    -- kind, symbol
    ∷ judge three (plain 0 2 10 1)
    ∷ judge three (plain 0 0 0 1)
    ∷ judge three (plain 0 0 65536 1)
    -- to the root, to no node
    ∷ judge three (plain 0 0 10 0)
    ∷ judge three (plain 0 0 10 3)
    -- a variable edge of node 0 to a leaf
    ∷ judge three (plain 0 1 3 2)
    -- a sixth reduce
    ∷ judge three (paired 6 (1 ∷ 0 ∷ 1 ∷ 0 ∷ 1 ∷ 0 ∷ 1 ∷ 0 ∷ 1 ∷ 0 ∷ []))
    -- a rule that there isn't, an offset
    ∷ judge three (paired 1 (zeros 10))
    ∷ judge three (paired 1 (3 ∷ 0 ∷ zeros 8))
    ∷ judge three (paired 1 (1 ∷ 256 ∷ zeros 8))
    ∷ judge three (paired 5 (1 ∷ 0 ∷ 1 ∷ 0 ∷ 1 ∷ 0 ∷ 1 ∷ 0 ∷ 3 ∷ 0 ∷ []))
    -- an unused pair
    ∷ judge three (paired 1 (1 ∷ 0 ∷ 1 ∷ 0 ∷ zeros 6))
    ∷ judge three (paired 1 (1 ∷ 0 ∷ 0 ∷ 1 ∷ zeros 6))
    ∷ judge three (paired 0 (zeros 8 ++ 1 ∷ 0 ∷ []))
    ∷ judge three (paired 0 (zeros 8 ++ 0 ∷ 1 ∷ []))
    -- the last word
    ∷ judge three (row 0 0 10 2 0 (zeros 10) 1)
    -- a second row
    ∷ judge three (plain 0 0 10 2 ++ plain 0 0 65536 1)
    -- a row twice, two rows with one key, rows that fall by symbol, by kind and by from, and a third row
    ∷ judge three (plain 0 0 10 1 ++ plain 0 0 10 1)
    ∷ judge three (plain 0 0 10 1 ++ plain 0 0 10 2)
    ∷ judge three (plain 0 0 11 1 ++ plain 0 0 10 1)
    ∷ judge three (plain 0 1 10 1 ++ plain 0 0 11 1)
    ∷ judge three (plain 1 0 10 1 ++ plain 0 1 11 1)
    ∷ judge three (plain 0 0 10 1 ++ plain 0 0 12 1 ++ plain 0 0 11 1)
    ∷ []

good-pass : every good-tables ≡ true
unfolding tabling every good-tables
good-pass = refl

bad-fail : none_of bad-tables ≡ true
unfolding tabling none_of bad-tables
bad-fail = refl

-- ---- the limits

most-nodes : (judge (zeros 8192) [] ≡ true) × (judge (zeros 8193) [] ≡ false)
unfolding tabling
most-nodes = (refl, refl)

-- n rows that rise, from symbol s on
unfoldable climbing : ℕ → ℕ → List ℕ
climbing zero s = []
climbing (suc n) s = plain 0 0 s 1 ++ climbing n (suc s)

most-edges : judge three (climbing 16385 1) ≡ false
unfolding tabling climbing
most-edges = refl
