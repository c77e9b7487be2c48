-- What the table check says of nodes and edges, in facts that a walk and a build can use.
use Rattle.std.specs.Prelude.{◌≡◌, refl, Bool, true, false, not, ◌&&◌, List, [], ◌∷◌, ◌≢◌, ℕ, zero, suc, ◌+◌, ◌*◌, ◌/◌, ◌%◌, ◌≤◌, ◌<◌, leb, ltb, eqb, length, get_or, drop}
use Rattle.std.proofs.Common.{ap, not-suc-le-zero, le_of_suc-le-suc, arith, drop-drop, get_or-drop, ltb-false, leb-true, leb-false, eqb-true, lt-ltb, eq-eqb}
use Rattle.std.proofs.lemmas.Bool.{false≢true, eqb-false, not-true}
use Rattle.std.proofs.Math.Option.{Option, some, none}
use Rattle.words.specs.Limits.{most_nodes, most_edges, row_width, most_reduces, most_offset}
use Rattle.words.proofs.Theorems.Tests.{and_l, and_r}
use Rattle.rules.specs.Rules.{symbol}
use Rattle.rules.proofs.Theorems.Every.{All, all_map, chain-at}
use Rattle.rows.specs.Rows.{Reduce, Edge, reduces_of, edge_of, rows_of, edges_from, edges_of, rising, keyed, find, good_nodes, good_pair, good_pairs, root_to_leaf, good_ends, good_row, good_rows, nodes_good, edges_good, tables_good}
use Rattle.rows.specs.Code.{Firsts, Tabled}
use Rattle.rows.proofs.Theorems.Order.{keyed-is}

pub record ReduceOk (rules : ℕ) (d : Reduce) : Type 0 where
  pub rule-low : 1 ≤ d.rule
  pub rule-high : d.rule ≤ rules
  pub offset-in : d.offset ≤ most_offset

pub record RowOk (rules : ℕ) (ns : List ℕ) (e : Edge) : Type 0 where
  pub from_in : e.from < length ns
  pub from-branch : get_or ns e.from 0 ≡ 0
  pub kind-in : e.kind ≤ 1
  pub symbol-in : symbol e.sym ≡ true
  pub to_in : e.to < length ns
  pub to_inner : e.to ≢ 0
  pub level : e.from ≡ 0 → e.kind ≡ 1 → get_or ns e.to 0 ≡ 0
  pub few : length e.reduces ≤ most_reduces
  pub reduces-ok : All (ReduceOk rules) e.reduces

-- tables that pass, but for how many rows they have
pub record Fair (rules : ℕ) (ns : List ℕ) (es : List Edge) : Type 0 where
  pub some-node : 1 ≤ length ns
  pub root : get_or ns 0 0 ≡ 0
  pub words : All (λ w. w ≤ rules) ns
  pub rows : All (RowOk rules ns) es
  pub order : rising es ≡ true

-- ---- tests of a row

count-below : (n m : ℕ) → not (ltb m n) ≡ true → n ≤ m
count-below n m h = ltb-false m n (not-true _ h)

inside : (n m : ℕ) → not (leb m n) ≡ true → n < m
inside n m h = leb-false m n (not-true _ h)

-- what a test of two conditions and a third that may not fail says
level-of : (a b c : Bool) → not (a && b && not c) ≡ true → a ≡ true → b ≡ true → c ≡ true
level-of true true true h p q = refl
level-of true true false h p q = h
level-of true false c h p q = absurd (false≢true q)
level-of false b c h p q = absurd (false≢true p)

pair_ok : (rules k count rule offset : ℕ) → k < count → good_pair rules k count rule offset ≡ true → ReduceOk rules (record { rule = rule; offset = offset })
unfolding good_pair
pair_ok rules k count rule offset h g =
    let c = chain-at (not (ltb rule 1)) (not (ltb rules rule) ∷ leb offset most_offset ∷ []) (rw (lt-ltb k count h) at g) in
    record { rule-low = count-below 1 rule (c 0); rule-high = count-below rule rules (c 1); offset-in = leb-true _ _ (c 2) }

-- the pairs from number k on
pairs-ok : (rules : ℕ) (row : List ℕ) (m n k : ℕ) → n ≤ m → k + n ≡ get_or row 4 0 → good_pairs rules row m k ≡ true → All (ReduceOk rules) (reduces_of n (drop (5 + 2 * k) row))
unfolding reduces_of good_pairs
pairs-ok rules row m zero k l e g = tt
pairs-ok rules row zero (suc n) k l e g = absurd (not-suc-le-zero l)
pairs-ok rules row (suc m) (suc n) k l e g =
    let step : 5 + 2 * k + 2 ≡ 5 + 2 * (k + 1) = omega arith in
    let one : 5 + 2 * k + 1 ≡ 6 + 2 * k = omega arith in
    let zero : 5 + 2 * k + 0 ≡ 5 + 2 * k = omega arith in
    rw (get_or-drop (5 + 2 * k) row 0 0, get_or-drop (5 + 2 * k) row 1 0, drop-drop 2 (5 + 2 * k) row, step, one, zero) (
      pair_ok rules k (get_or row 4 0) _ _ (omega arith) (and_l _ _ g),
      pairs-ok rules row m n (k + 1) (le_of_suc-le-suc l) (omega arith) (and_r (good_pair _ _ _ _ _) _ g),
    )

pub reduces-length : (n : ℕ) (ws : List ℕ) → length (reduces_of n ws) ≡ n
unfolding reduces_of
reduces-length zero ws = refl
reduces-length (suc n) ws = ap suc (reduces-length n (drop 2 ws))

abbrev end_tests : List ℕ → List ℕ → List Bool
end_tests ns row = eqb (get_or ns (get_or row 0 0) 0) 0 ∷ not (ltb 1 (get_or row 1 0)) ∷ symbol (get_or row 2 0) ∷ not (eqb (get_or row 3 0) 0)
    ∷ not (leb (length ns) (get_or row 3 0)) ∷ not (root_to_leaf ns row) ∷ not (ltb most_reduces (get_or row 4 0)) ∷ eqb (get_or row 15 0) 0 ∷ []

row_ok : (rules : ℕ) (ns row : List ℕ) → good_ends ns row ≡ true → good_pairs rules row most_reduces 0 ≡ true → RowOk rules ns (edge_of row)
unfolding good_ends edge_of root_to_leaf
row_ok rules ns row g p =
    let c = chain-at (not (leb (length ns) (get_or row 0 0))) (end_tests ns row) g in
    let f : get_or row 4 0 ≤ most_reduces = count-below (get_or row 4 0) most_reduces (c 7) in
    record {
      from_in = inside _ _ (c 0);
      from-branch = eqb-true _ _ (c 1);
      kind-in = count-below (get_or row 1 0) 1 (c 2);
      symbol-in = c 3;
      to_in = inside _ _ (c 5);
      to_inner = eqb-false _ _ (not-true _ (c 4));
      level = λ a b. eqb-true _ _ (level-of (eqb (get_or row 0 0) 0) (eqb (get_or row 1 0) 1) (eqb (get_or ns (get_or row 3 0) 0) 0) (c 6) (eq-eqb _ _ a) (eq-eqb _ _ b));
      few = rw (reduces-length (get_or row 4 0) (drop 5 row)) f;
      reduces-ok = pairs-ok rules row most_reduces (get_or row 4 0) 0 f (omega arith) p;
    }

rows_ok : (rules : ℕ) (ns : List ℕ) (rows : List (List ℕ)) → good_rows rules ns rows ≡ true → All (RowOk rules ns) (edges_from rows)
unfolding good_rows edges_from
rows_ok rules ns [] g = tt
rows_ok rules ns (row ∷ rows) g =
    let h = and_l (good_row rules ns row) (good_rows rules ns rows) g in
    let p = good_pairs rules row most_reduces 0 in
    (row_ok rules ns row (and_l (good_ends ns row) p h) (and_r (good_ends ns row) p h), rows_ok rules ns rows (and_r (good_row rules ns row) (good_rows rules ns rows) g))

nodes-ok : (rules : ℕ) (ns : List ℕ) → good_nodes rules ns ≡ true → All (λ w. w ≤ rules) ns
unfolding good_nodes
nodes-ok rules [] g = tt
nodes-ok rules (w ∷ ns) g = (leb-true w rules (and_l (leb w rules) (good_nodes rules ns) g), nodes-ok rules ns (and_r (leb w rules) (good_nodes rules ns) g))

-- ---- tables that pass are fair

pub tables-fair : (rules : ℕ) (ns ws : List ℕ) → tables_good rules ns ws ≡ true → Fair rules ns (edges_of ws)
unfolding tables_good nodes_good edges_good
tables-fair rules ns ws g =
    let n = chain-at (not (ltb (length ns) 1)) (not (ltb most_nodes (length ns)) ∷ eqb (get_or ns 0 0) 0 ∷ good_nodes rules ns ∷ []) (and_l (nodes_good rules ns) (edges_good rules ns ws) g) in
    let e = chain-at (eqb (length ws % row_width) 0) (not (ltb most_edges (length ws / row_width)) ∷ good_rows rules ns (rows_of ws) ∷ rising (edges_of ws) ∷ [])
    (and_r (nodes_good rules ns) (edges_good rules ns ws) g) in
    record {
      some-node = count-below 1 (length ns) (n 0);
      root = eqb-true _ _ (n 2);
      words = nodes-ok rules ns (n 3);
      rows = rows_ok rules ns (rows_of ws) (e 2);
      order = e 3;
    }

pub tables-few : (rules : ℕ) (ns ws : List ℕ) → tables_good rules ns ws ≡ true → (length ns ≤ most_nodes) × (length ws / row_width ≤ most_edges)
unfolding tables_good nodes_good edges_good
tables-few rules ns ws g =
    let n = chain-at (not (ltb (length ns) 1)) (not (ltb most_nodes (length ns)) ∷ eqb (get_or ns 0 0) 0 ∷ good_nodes rules ns ∷ []) (and_l (nodes_good rules ns) (edges_good rules ns ws) g) in
    let e = chain-at (eqb (length ws % row_width) 0) (not (ltb most_edges (length ws / row_width)) ∷ good_rows rules ns (rows_of ws) ∷ rising (edges_of ws) ∷ [])
    (and_r (nodes_good rules ns) (edges_good rules ns ws) g) in
    (count-below (length ns) most_nodes (n 1), count-below (length ws / row_width) most_edges (e 1))

-- and can be looked up in, with an index of their rows
pub tables-tabled : (rules : ℕ) (ns ws is : List ℕ) → tables_good rules ns ws ≡ true → Firsts ws is → Tabled ws is
tables-tabled rules ns ws is g x =
    let f = tables-fair rules ns ws g in
    record {
      order = f.order;
      kinds = all_map (RowOk rules ns) (λ e. e.kind ≤ 1) (λ e r. r.kind-in) (edges_of ws) f.rows;
      few = (tables-few rules ns ws g).1;
      firsts = x;
    }

-- ---- what a look-up finds

abbrev pub Found : (Edge → Type 0) → ℕ → ℕ → ℕ → Option Edge → Type 0
Found P n k s none = Unit {0}
Found P n k s (some e) = P e × (e.from ≡ n) × (e.kind ≡ k) × (e.sym ≡ s)

keyed-found : (P : Edge → Type 0) (n k s : ℕ) (e : Edge) → P e → keyed n k s e ≡ true → Found P n k s (some e)
keyed-found P n k s e p h = let i = keyed-is n k s e h in (p, i.0, i.1, i.2)

first_found : (P : Edge → Type 0) (n k s : ℕ) (e : Edge) (b : Bool) (o : Option Edge) → (b ≡ true → Found P n k s (some e)) → Found P n k s o
    → Found P n k s (elim b [ true ↦ some e | false ↦ o ])
first_found P n k s e true o h g = h refl
first_found P n k s e false o h g = g

pub find-found : (P : Edge → Type 0) (es : List Edge) (n k s : ℕ) → All P es → Found P n k s (find es n k s)
unfolding find
find-found P [] n k s a = tt
find-found P (e ∷ es) n k s a = first_found P n k s e (keyed n k s e) (find es n k s) (keyed-found P n k s e a.0) (find-found P es n k s a.1)

pub found : (P : Edge → Type 0) (es : List Edge) (n k s : ℕ) (e : Edge) → All P es → find es n k s ≡ some e → Found P n k s (some e)
found P es n k s e a h = rw h at (find-found P es n k s a)

module _ {rules : ℕ} {ns : List ℕ} {es : List Edge} (f : Fair rules ns es) where
  pub edge-fair : (n k s : ℕ) (e : Edge) → find es n k s ≡ some e → RowOk rules ns e
  edge-fair n k s e h = (found (RowOk rules ns) es n k s e f.rows h).0

  -- the root step never lands on a leaf
  pub root-level : (t : ℕ) (e : Edge) → find es 0 1 t ≡ some e → get_or ns e.to 0 ≡ 0
  root-level t e h = let r = found (RowOk rules ns) es 0 1 t e f.rows h in r.0.level r.1 r.2
