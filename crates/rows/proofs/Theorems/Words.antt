-- Rows written as words: they are read back, and they pass the table check.
use Rattle.std.specs.Prelude.{◌≡◌, Bool, true, false, not, ◌&&◌, eqb, length, get_or, drop}
use Rattle.std.proofs.Math.Path.{refl}
use Rattle.std.proofs.Common.{sym, not-suc-le-zero, le_of_suc-le-suc, arith, length-append, take_at, drop_at, drop-drop, get_or-drop, lt-ltb, le-ltb, le-leb, eq-eqb, ne_eqb, eqb-true}
use mathlib.Core.List.{List, [], ◌∷◌, map}
use Prim.Native.Nat.{ℕ, zero, suc, ◌+◌, ◌*◌, ◌≤◌, ◌<◌}
use Rattle.std.proofs.Math.Nat.{mul-div_right, mul-mod_right}
use Rattle.std.proofs.lemmas.Bool.{lt-leb}
use Rattle.words.specs.Limits.{most_nodes, most_edges, row_width, most_reduces, most_offset}
use Rattle.rules.proofs.Theorems.Every.{All, all_map}
use Rattle.rows.specs.Rows.{Reduce, Edge, reduces_of, edge_of, rows_from, rows_of, edges_from, edges_of, reduce_words, row_words, edge_words, good_nodes, good_pair, good_pairs, root_to_leaf, good_ends, good_row, good_rows, nodes_good, edges_good, tables_good}
use Rattle.rows.proofs.Theorems.Fair.{ReduceOk, RowOk, Fair}

-- ---- read back

reduces-back : (n : ℕ) (ds : List Reduce) → length ds ≤ n → reduces_of (length ds) (reduce_words n ds) ≡ ds
unfolding reduces_of reduce_words
reduces-back n [] h = refl
reduces-back zero (d ∷ ds) h = absurd (not-suc-le-zero h)
reduces-back (suc n) (d ∷ ds) h = rw (reduces-back n ds (le_of_suc-le-suc h))

reduce_words-length : (n : ℕ) (ds : List Reduce) → length (reduce_words n ds) ≡ 2 * n + 1
unfolding reduce_words
reduce_words-length zero ds = refl
reduce_words-length (suc n) [] = rw (reduce_words-length n []) (omega arith)
reduce_words-length (suc n) (d ∷ ds) = rw (reduce_words-length n ds) (omega arith)

pub row-length : (e : Edge) → length (row_words e) ≡ row_width
unfolding row_words
row-length e = rw (reduce_words-length most_reduces e.reduces)

pub row_back : (e : Edge) → length e.reduces ≤ most_reduces → edge_of (row_words e) ≡ e
unfolding edge_of row_words
row_back e h = λ i. record { from = e.from; kind = e.kind; sym = e.sym; to = e.to; reduces = reduces-back most_reduces e.reduces h i }

pub edge_words-length : (es : List Edge) → length (edge_words es) ≡ row_width * length es
unfolding edge_words
edge_words-length [] = refl
edge_words-length (e ∷ es) = rw (length-append (row_words e) (edge_words es), row-length e, edge_words-length es) (omega arith)

rows_cut : (es : List Edge) → rows_from (length es) (edge_words es) ≡ map row_words es
unfolding rows_from edge_words
rows_cut [] = refl
rows_cut (e ∷ es) = rw (take_at (row_words e) (edge_words es) 16 (row-length e), drop_at (row_words e) (edge_words es) 16 (row-length e), rows_cut es)

pub rows_written : (es : List Edge) → rows_of (edge_words es) ≡ map row_words es
rows_written es = rw (edge_words-length es, mul-div_right (length es) {m = row_width} (omega arith)) (rows_cut es)

-- no edge has a sixth reduce
abbrev pub Short : Edge → Type 0
Short e = length e.reduces ≤ most_reduces

rows_back : (es : List Edge) → All Short es → edges_from (map row_words es) ≡ es
unfolding edges_from
rows_back [] a = refl
rows_back (e ∷ es) a = rw (row_back e a.0, rows_back es a.1)

pub edges-back : (es : List Edge) → All Short es → edges_of (edge_words es) ≡ es
edges-back es a = rw (rows_written es) (rows_back es a)

-- ---- they pass

used_pair : (rules k count : ℕ) (d : Reduce) → k < count → ReduceOk rules d → good_pair rules k count d.rule d.offset ≡ true
unfolding good_pair
used_pair rules k count d h o = rw (lt-ltb k count h, le-ltb d.rule 1 o.rule-low, le-ltb rules d.rule o.rule-high, le-leb d.offset most_offset o.offset-in)

unused-pair : (rules k count : ℕ) → count ≤ k → good_pair rules k count 0 0 ≡ true
unfolding good_pair
unused-pair rules k count h = rw (le-ltb k count h)

-- the pair number k of a row, and what follows it
pair-words : (k : ℕ) (row ws : List ℕ) (x y : ℕ) → drop (5 + 2 * k) row ≡ x ∷ y ∷ ws
    → (get_or row (5 + 2 * k) 0 ≡ x) × (get_or row (6 + 2 * k) 0 ≡ y) × (drop (5 + 2 * (k + 1)) row ≡ ws)
pair-words k row ws x y w =
    let zero : 5 + 2 * k + 0 ≡ 5 + 2 * k = omega arith in
    let one : 5 + 2 * k + 1 ≡ 6 + 2 * k = omega arith in
    let two : 5 + 2 * k + 2 ≡ 5 + 2 * (k + 1) = omega arith in (
      rw (zero, w) at (sym (get_or-drop (5 + 2 * k) row 0 0)),
      rw (one, w) at (sym (get_or-drop (5 + 2 * k) row 1 0)),
      rw (two, w) at (sym (drop-drop 2 (5 + 2 * k) row)),
    )

module _ (rules : ℕ) (row : List ℕ) where
  unused-pass : (m k : ℕ) → get_or row 4 0 ≤ k → drop (5 + 2 * k) row ≡ reduce_words m [] → good_pairs rules row m k ≡ true
  unfolding good_pairs reduce_words
  unused-pass zero k h w = refl
  unused-pass (suc m) k h w =
      let f = pair-words k row (reduce_words m []) 0 0 w in
      rw (f.0, f.1, unused-pair rules k (get_or row 4 0) h) (unused-pass m (k + 1) (omega arith) f.2)

  -- from pair number k on the words are those of the reduces that are left
  pairs-pass : (m k : ℕ) (ds : List Reduce) → k + length ds ≡ get_or row 4 0 → drop (5 + 2 * k) row ≡ reduce_words m ds → All (ReduceOk rules) ds
      → good_pairs rules row m k ≡ true
  unfolding good_pairs reduce_words
  pairs-pass zero k ds c w a = refl
  pairs-pass (suc m) k [] c w a = unused-pass (suc m) k (omega arith) w
  pairs-pass (suc m) k (d ∷ ds) c w a =
      let f = pair-words k row (reduce_words m ds) d.rule d.offset w in
      rw (f.0, f.1, used_pair rules k (get_or row 4 0) d (omega arith) a.0) (pairs-pass m (k + 1) ds (omega arith) f.2 a.1)

-- the word after n pairs
pub last_word : (n : ℕ) (ds : List Reduce) → get_or (reduce_words n ds) (2 * n) 0 ≡ 0
unfolding reduce_words
last_word zero ds = refl
last_word (suc n) [] = let two : 2 * suc n ≡ suc (suc (2 * n)) = omega arith in rw two (last_word n [])
last_word (suc n) (d ∷ ds) = let two : 2 * suc n ≡ suc (suc (2 * n)) = omega arith in rw two (last_word n ds)

-- a third test that passes wherever the first two do
level-test : (a b c : Bool) → (a ≡ true → b ≡ true → c ≡ true) → a && b && not c ≡ false
level-test false b c h = refl
level-test true false c h = refl
level-test true true true h = refl
level-test true true false h = sym (h refl refl)

ends-pass : (rules : ℕ) (ns : List ℕ) (e : Edge) → RowOk rules ns e → good_ends ns (row_words e) ≡ true
unfolding good_ends row_words root_to_leaf
ends-pass rules ns e r = rw (
  lt-leb (length ns) e.from r.from_in,
  eq-eqb (get_or ns e.from 0) 0 r.from-branch,
  le-ltb 1 e.kind r.kind-in,
  r.symbol-in,
  ne_eqb e.to 0 r.to_inner,
  lt-leb (length ns) e.to r.to_in,
  level-test (eqb e.from 0) (eqb e.kind 1) (eqb (get_or ns e.to 0) 0) (λ a b. eq-eqb _ 0 (r.level (eqb-true _ _ a) (eqb-true _ _ b))),
  le-ltb most_reduces (length e.reduces) r.few,
  last_word most_reduces e.reduces,
)

row-pass : (rules : ℕ) (ns : List ℕ) (e : Edge) → RowOk rules ns e → good_row rules ns (row_words e) ≡ true
unfolding row_words
row-pass rules ns e r = rw (ends-pass rules ns e r) (pairs-pass rules (row_words e) most_reduces 0 e.reduces (omega arith) refl r.reduces-ok)

rows_pass : (rules : ℕ) (ns : List ℕ) (es : List Edge) → All (RowOk rules ns) es → good_rows rules ns (map row_words es) ≡ true
unfolding good_rows
rows_pass rules ns [] a = refl
rows_pass rules ns (e ∷ es) a = rw (row-pass rules ns e a.0) (rows_pass rules ns es a.1)

nodes-pass : (rules : ℕ) (ns : List ℕ) → All (λ w. w ≤ rules) ns → good_nodes rules ns ≡ true
unfolding good_nodes
nodes-pass rules [] a = refl
nodes-pass rules (w ∷ ns) a = rw (le-leb w rules a.0) (nodes-pass rules ns a.1)

all_short : (rules : ℕ) (ns : List ℕ) (es : List Edge) → All (RowOk rules ns) es → All Short es
all_short rules ns es a = all_map (RowOk rules ns) Short (λ e r. r.few) es a

-- fair tables within the limits pass, written as words
pub fair-pass : (rules : ℕ) (ns : List ℕ) (es : List Edge) → length ns ≤ most_nodes → length es ≤ most_edges → Fair rules ns es → tables_good rules ns (edge_words es) ≡ true
unfolding tables_good nodes_good edges_good
fair-pass rules ns es n m f =
    rw (
      le-ltb (length ns) 1 f.some-node,
      le-ltb most_nodes (length ns) n,
      eq-eqb (get_or ns 0 0) 0 f.root,
      nodes-pass rules ns f.words,
      rows_written es,
      edge_words-length es,
      mul-mod_right row_width (length es),
      mul-div_right (length es) {m = row_width} (omega arith),
      le-ltb most_edges (length es) m,
      rows_pass rules ns es f.rows,
      rows_back es (all_short rules ns es f.rows),
      f.order,
    )
