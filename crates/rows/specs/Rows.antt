-- Nodes and edges, as lists of words say them; the look-up; and when the tables are bad (8).
-- A node is a word: the rule of a leaf, and 0 where there is none, at a branch. The root is node 0.
-- An edge is 16 words: the node it leaves, its kind (a constant's is 0, a variable's 1), its symbol, the node it leads to, how many reduces it
-- has, room for five of them, each by its rule and offset, and a last word that is 0.
use Rattle.std.specs.Prelude.{ℕ, zero, suc, ◌+◌, ◌*◌, ◌/◌, ◌%◌, Bool, true, false, not, ◌&&◌, List, [], ◌∷◌, ◌++◌, leb, ltb, eqb, length, get_or, take, drop}
use Rattle.std.proofs.Math.Option.{Option, none, some}
use Rattle.words.specs.Limits.{most_nodes, most_edges, row_width, most_reduces, most_offset}
use Rattle.words.specs.Outcome.{pick}
use Rattle.rules.specs.Rules.{symbol}

-- a rule, reduced under the top `offset` trees
pub record Reduce : Type 0 where
  pub rule : ℕ
  pub offset : ℕ

pub record Edge : Type 0 where
  pub from : ℕ
  pub kind : ℕ
  pub sym : ℕ
  pub to : ℕ
  pub reduces : List Reduce

-- ---- what the words say

-- n pairs
unfoldable pub reduces_of : ℕ → List ℕ → List Reduce
reduces_of zero ws = []
reduces_of (suc n) ws = record { rule = get_or ws 0 0; offset = get_or ws 1 0 } ∷ reduces_of n (drop 2 ws)

unfoldable pub edge_of : List ℕ → Edge
edge_of row = record {
  from = get_or row 0 0;
  kind = get_or row 1 0;
  sym = get_or row 2 0;
  to = get_or row 3 0;
  reduces = reduces_of (get_or row 4 0) (drop 5 row);
}

-- the first n rows of the words
unfoldable pub rows_from : ℕ → List ℕ → List (List ℕ)
rows_from zero ws = []
rows_from (suc n) ws = take row_width ws ∷ rows_from n (drop row_width ws)

abbrev pub rows_of : List ℕ → List (List ℕ)
rows_of ws = rows_from (length ws / row_width) ws

unfoldable pub edges_from : List (List ℕ) → List Edge
edges_from [] = []
edges_from (row ∷ rows) = edge_of row ∷ edges_from rows

abbrev pub edges_of : List ℕ → List Edge
edges_of ws = edges_from (rows_of ws)

-- ---- and back

-- n pairs, unused ones zero, and a zero
unfoldable pub reduce_words : ℕ → List Reduce → List ℕ
reduce_words zero ds = 0 ∷ []
reduce_words (suc n) [] = 0 ∷ 0 ∷ reduce_words n []
reduce_words (suc n) (d ∷ ds) = d.rule ∷ d.offset ∷ reduce_words n ds

unfoldable pub row_words : Edge → List ℕ
row_words e = e.from ∷ e.kind ∷ e.sym ∷ e.to ∷ length e.reduces ∷ reduce_words most_reduces e.reduces

unfoldable pub edge_words : List Edge → List ℕ
edge_words [] = []
edge_words (e ∷ es) = row_words e ++ edge_words es

-- ---- the order of rows

-- the edge's from, kind and symbol are lower than these: the first that differs decides
unfoldable pub below : ℕ → ℕ → ℕ → Edge → Bool
below n k s e = pick (eqb e.from n) (pick (eqb e.kind k) (ltb e.sym s) (ltb e.kind k)) (ltb e.from n)

-- the edge is lower than the first of these
unfoldable pub precedes : Edge → List Edge → Bool
precedes d [] = true
precedes d (e ∷ es) = below e.from e.kind e.sym d

-- each is lower than the next
unfoldable pub rising : List Edge → Bool
rising [] = true
rising (e ∷ es) = precedes e es && rising es

-- an edge at its place: after the lower ones
unfoldable pub insert_edge : Edge → List Edge → List Edge
insert_edge e [] = e ∷ []
insert_edge e (d ∷ es) = pick (below e.from e.kind e.sym d) (d ∷ insert_edge e es) (e ∷ d ∷ es)

-- ---- the look-up

-- the edge has this from, kind and symbol
unfoldable pub keyed : ℕ → ℕ → ℕ → Edge → Bool
keyed n k s e = eqb e.from n && eqb e.kind k && eqb e.sym s

-- the first row with the key; rows that rise have no other
unfoldable pub find : List Edge → ℕ → ℕ → ℕ → Option Edge
find [] n k s = none
find (e ∷ es) n k s = elim (keyed n k s e) [ true ↦ some e | false ↦ find es n k s ]

-- the rows that leave the node
unfoldable pub leaving : ℕ → List Edge → List Edge
leaving n [] = []
leaving n (e ∷ es) = pick (eqb e.from n) (e ∷ leaving n es) (leaving n es)

-- no row leaves the node
unfoldable pub bare : List Edge → ℕ → Bool
bare [] n = true
bare (e ∷ es) n = elim (eqb e.from n) [ true ↦ false | false ↦ bare es n ]

-- ---- reduce lists

-- a reduce before the others; a sixth is refused
unfoldable pub with_reduce : Reduce → List Reduce → Option (List Reduce)
with_reduce d ds = elim (ltb (length ds) most_reduces) [ true ↦ some (d ∷ ds) | false ↦ none ]

-- ---- when the tables are bad

-- each node is a branch or the leaf of a rule that there is
unfoldable pub good_nodes : ℕ → List ℕ → Bool
good_nodes rules [] = true
good_nodes rules (w ∷ ns) = leb w rules && good_nodes rules ns

-- pair number k of a row with `count` reduces: a rule that there is and an offset, or zeros
unfoldable pub good_pair : ℕ → ℕ → ℕ → ℕ → ℕ → Bool
good_pair rules k count rule offset =
    pick (ltb k count) (not (ltb rule 1) && not (ltb rules rule) && leb offset most_offset) (eqb rule 0 && eqb offset 0)

-- the n pairs from number k on
unfoldable pub good_pairs : ℕ → List ℕ → ℕ → ℕ → Bool
good_pairs rules row zero k = true
good_pairs rules row (suc n) k =
    good_pair rules k (get_or row 4 0) (get_or row (5 + 2 * k) 0) (get_or row (6 + 2 * k) 0) && good_pairs rules row n (k + 1)

-- a variable edge of node 0 that leads to a leaf
unfoldable pub root_to_leaf : List ℕ → List ℕ → Bool
root_to_leaf ns row = eqb (get_or row 0 0) 0 && eqb (get_or row 1 0) 1 && not (eqb (get_or ns (get_or row 3 0) 0) 0)

-- a row's words but for its pairs: it leaves a branch that is there and leads to a node that is there, and not to 0
unfoldable pub good_ends : List ℕ → List ℕ → Bool
good_ends ns row =
    not (leb (length ns) (get_or row 0 0)) && eqb (get_or ns (get_or row 0 0) 0) 0 && not (ltb 1 (get_or row 1 0)) && symbol (get_or row 2 0)
    && not (eqb (get_or row 3 0) 0) && not (leb (length ns) (get_or row 3 0)) && not (root_to_leaf ns row)
    && not (ltb most_reduces (get_or row 4 0)) && eqb (get_or row 15 0) 0

abbrev pub good_row : ℕ → List ℕ → List ℕ → Bool
good_row rules ns row = good_ends ns row && good_pairs rules row most_reduces 0

unfoldable pub good_rows : ℕ → List ℕ → List (List ℕ) → Bool
good_rows rules ns [] = true
good_rows rules ns (row ∷ rows) = good_row rules ns row && good_rows rules ns rows

-- node 0 is there and a branch, no more than 8,192 nodes, and each is good
unfoldable pub nodes_good : ℕ → List ℕ → Bool
nodes_good rules ns = not (ltb (length ns) 1) && not (ltb most_nodes (length ns)) && eqb (get_or ns 0 0) 0 && good_nodes rules ns

-- whole rows, no more than 16,384, each is good, and they rise
unfoldable pub edges_good : ℕ → List ℕ → List ℕ → Bool
edges_good rules ns ws =
    eqb (length ws % row_width) 0 && not (ltb most_edges (length ws / row_width)) && good_rows rules ns (rows_of ws) && rising (edges_of ws)

-- the tables are good for so many rules; else 8
unfoldable pub tables_good : ℕ → List ℕ → List ℕ → Bool
tables_good rules ns ws = nodes_good rules ns && edges_good rules ns ws

unfoldable pub tabling : Unit {0}
unfolding symbol reduces_of edge_of rows_from edges_from reduce_words row_words edge_words below precedes rising insert_edge keyed find leaving bare with_reduce good_nodes good_pair good_pairs root_to_leaf good_ends good_rows nodes_good edges_good tables_good
tabling = tt
