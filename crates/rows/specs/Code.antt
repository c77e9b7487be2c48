-- What the code's structs and answers stand for.
use Rattle.std.specs.Prelude.{ℕ, zero, suc, ◌+◌, ◌*◌, ◌/◌, ◌≤◌, ◌<◌, ◌≡◌, true, List, [], ◌∷◌, ◌++◌, map, length, get_or, take, drop, set, Option, Some, None}
use Rattle.std.proofs.Math.Option.{none, some}
use Rattle.words.specs.Limits.{row_width, most_edges}
use Rattle.words.specs.Outcome.{pick}
use Rattle.rules.specs.Every.{All}
use Rattle.rows.specs.Rows.{Reduce, Edge, edge_of, rows_from, edges_from, edges_of, row_words, edge_words, below, rising, keyed, with_reduce}
use Rattle.rows.specs.declared.reduce_list.Reduce as coded
use Rattle.rows.specs.declared.reduce_list.Reduces as listed
use Rattle.rows.specs.declared.Key as sought
use Rattle.rows.specs.declared.Edge as held

abbrev pub reduce_is : coded.Reduce → Reduce
reduce_is d = record { rule = d.rule.0; offset = d.offset }

-- the key of an edge
abbrev pub key_of : Edge → sought.Key
key_of e = record { from = record { 0 = e.from }; kind = e.kind; symbol = record { 0 = e.sym } }

-- the first `count` of the five places are the reduces
abbrev pub reduces_are : listed.Reduces → List Reduce
reduces_are r = map reduce_is (take r.count r.items)

abbrev pub edge_is : held.Edge → Edge
edge_is e = record {
  from = e.key.from.0;
  kind = e.key.kind;
  sym = e.key.symbol.0;
  to = e.to.0;
  reduces = reduces_are e.reduces;
}

-- the edge held stands for e
pub record Holds (h : held.Edge) (e : Edge) : Type 0 where
  pub says : edge_is h ≡ e
  pub counted : h.reduces.count ≡ length e.reduces

-- ---- reduce lists

-- what is given back for the reduces held and a reduce d: d before them, or none where a sixth is refused
abbrev pub Adds : listed.Reduces → Reduce → Option listed.Reduces → Type 0
Adds h d None = with_reduce d (reduces_are h) ≡ none
Adds h d (Some r) = with_reduce d (reduces_are h) ≡ some (reduces_are r)

-- ---- rows by number

-- the words of row i
abbrev pub row_at : List ℕ → ℕ → List ℕ
row_at ws i = take row_width (drop (row_width * i) ws)

-- the words of a row but the last are those of its edge: while a table grows the last word is free
abbrev pub Spells : List ℕ → Type 0
Spells row = row_words (edge_of row) ≡ set row 15 0

-- the words with row i written for e, the others as they were
abbrev pub written : List ℕ → ℕ → Edge → List ℕ
written ws i e = take (row_width * i) ws ++ (row_words e ++ drop (row_width * i + row_width) ws)

-- the words with a row for e before row i of the first n, which move up by one from there on; row n is given up
abbrev pub put_in : List ℕ → ℕ → ℕ → Edge → List ℕ
put_in ws i n e = take (row_width * i) ws ++ (row_words e ++ (drop (row_width * i) (take (row_width * n) ws) ++ drop (row_width * n + row_width) ws))

-- the words with the last word of each of the first n rows cleared: those rows are as their edges are written
abbrev pub cleared : List ℕ → ℕ → List ℕ
cleared ws n = edge_words (edges_from (rows_from n ws)) ++ drop (row_width * n) ws

-- how many of these edges are lower than the key, up to the first that is not: where its row stands, or would stand
unfoldable pub place_of : ℕ → ℕ → ℕ → List Edge → ℕ
place_of n k s [] = 0
place_of n k s (e ∷ es) = pick (below n k s e) (suc (place_of n k s es)) 0

-- the number of the first of these edges with the key, counted from i
unfoldable pub numbered : ℕ → ℕ → ℕ → ℕ → List Edge → Option ℕ
numbered n k s i [] = None
numbered n k s i (e ∷ es) = pick (keyed n k s e) (Some i) (numbered n k s (i + 1) es)

-- the row that a look-up gives back
abbrev pub looks_up : List ℕ → ℕ → ℕ → ℕ → Option ℕ
looks_up ws n k s = numbered n k s 0 (edges_of ws)

-- ---- an index: for each node one word, where its rows and where its variable edges start

-- more than a table has rows
abbrev pub mark : ℕ
mark = 32768

-- the words of `is` say it of the first nodes; an empty index of none
abbrev pub Firsts : List ℕ → List ℕ → Type 0
Firsts ws is = (n : ℕ) → n < length is → get_or is n 0 ≡ place_of n 0 0 (edges_of ws) * mark + place_of n 1 0 (edges_of ws)

-- rising rows, of the kinds that there are, with an index, which may be empty
pub record Tabled (ws is : List ℕ) : Type 0 where
  pub order : rising (edges_of ws) ≡ true
  pub kinds : All (λ e. e.kind ≤ 1) (edges_of ws)
  pub few : length ws / row_width ≤ most_edges
  pub firsts : Firsts ws is

-- the rows of node n and kind k are those from `low` on, up to `high`
pub record Spans (ws : List ℕ) (n k low high : ℕ) : Type 0 where
  pub within : high ≤ length ws / row_width
  pub alike : (i : ℕ) → low ≤ i → i < high → ((edge_of (row_at ws i)).from ≡ n) × ((edge_of (row_at ws i)).kind ≡ k)
  pub all : (s i : ℕ) → looks_up ws n k s ≡ Some i → (low ≤ i) × (i < high)

-- ---- a table of node 0's constant edges: for each symbol one word

-- the row that a word names
abbrev pub row_named : ℕ → Option ℕ
row_named zero = None
row_named (suc i) = Some i

-- the words name the rows of the first symbols; an empty table of none
abbrev pub RootRows : List ℕ → List ℕ → Type 0
RootRows ws rs = (t : ℕ) → t < length rs → row_named (get_or rs t 0) ≡ looks_up ws 0 0 t
