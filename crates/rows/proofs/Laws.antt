-- Laws that the proofs of this crate's functions share.
use mathlib.Core.Path.{◌≡◌, refl, sym, ap, ◌∙◌}
use mathlib.Core.Bool.{Bool, true, false, not, ◌&&◌}
use mathlib.Core.List.{List, [], ◌∷◌, ◌++◌, map}
use mathlib.Core.Option.{none, some}
use Prim.Native.Nat.{ℕ, zero, suc, ◌+◌, ◌*◌, ◌-◌, ◌/◌, ◌≤◌, ◌<◌}
use native.Mathlib.Nat.{not-suc-le-zero, le_of_suc-le-suc, sub-zero}
use Rattle.std.specs.Bool.{MatchBool, then_some}
use Rattle.std.proofs.lemmas.Bool.{lt-leb}
use native.Mathlib.Numerals.{add-one}
use native.Mathlib.Omega.{arith}
use lib.Dec.{leb, eqb}
use lib.ListN.{length, take, drop, get_or, set, drop_of_length-le, length-map, length-take, get_or-map, get_or-eq_default, length-set}
use lib.Seq.{drop-drop, take_all, take-suc, get_or-drop, get_or-take, length-take-le, take-take, take-append-le, drop_at, take-suc-set, sets, sets-eq}
use borrow.Author.Tests.{lt-ltb, le-ltb, le-leb}
use borrow.Rule.Slice.PartMut.{put_mid}
use Rattle.std.specs.List.{copy_within, AllWithin, HoldsAt, range_with_len}
use Rattle.std.proofs.lemmas.List.FromFn.{length-range_with_len, get_or-range_with_len}
use Rattle.std.proofs.Common.{zero-add}
use Rattle.words.specs.Lent.{moved_up}
use Rattle.rows.specs.Rows.{Reduce, Edge, with_reduce, reduces_of, edge_of, edges_from, edges_of, rows_of, reduce_words, row_words, below, precedes, rising, keyed, bare, good_nodes, good_pair, good_pairs, good_ends, good_rows}
use Rattle.rows.specs.Code.{reduce_is, reduces_are, key_of, edge_is, Holds, row_at, written, put_in, place_of, looks_up}
use Rattle.rows.specs.declared.reduce_list.Reduce as coded
use Rattle.rows.specs.declared.reduce_list.Reduces as listed
use Rattle.rows.specs.declared.Edge as held
use Rattle.std.specs.Prelude.{Some, None}
use Rattle.rows.proofs.Theorems.Words.{row-length, last_word}
use Rattle.rows.proofs.Theorems.Fair.{reduces-length}
use Rattle.rows.proofs.Theorems.Lookup.{rows_left, rows_step, rows_end, edges-count, edges-left, edges_step, edge_at}
use Rattle.rows.proofs.Theorems.Order.{place-within, place-before, place_after, place-row, place_none, place-bare, not-bare}

-- ---- rows, from row r on

-- a row, as the code cuts it out
pub row-part : (ws : List ℕ) (a : ℕ) → take (a + 16 - a) (drop a ws) ≡ take 16 (drop a ws)
row-part ws a = let e : a + 16 - a ≡ 16 = omega arith in rw e

-- a word of a row
pub word_at : (ws : List ℕ) (a j : ℕ) → j < 16 → get_or (take 16 (drop a ws)) j 0 ≡ get_or ws (a + j) 0
word_at ws a j h = get_or-take 16 (drop a ws) j 0 h ∙ get_or-drop a ws j 0

-- ---- halving

module _ (n k s : ℕ) (ws : List ℕ) where
  abbrev place : ℕ
  place = place_of n k s (edges_of ws)

  pub place_in : place ≤ length ws / 16
  place_in = omega (arith, place-within n k s (edges_of ws), edges-count ws)

  module _ (i : ℕ) (h : i < length ws / 16) where
    -- the rows up to a lower one stand before the key
    pub half-lower : rising (edges_of ws) ≡ true → below n k s (edge_of (row_at ws i)) ≡ true → i < place
    half-lower r b = place_after n k s (edges_of ws) i (edge_of []) r (omega (arith, edges-count ws)) (rw (edge_at ws i (edge_of []) h) b)

    -- and those from another on do not
    pub half-higher : below n k s (edge_of (row_at ws i)) ≡ false → place ≤ i
    half-higher b = place-before n k s (edges_of ws) i (edge_of []) (omega (arith, edges-count ws)) (rw (edge_at ws i (edge_of []) h) b)

-- ---- the look-up: p is the key's place

module _ (n k s : ℕ) (ws : List ℕ) (p : ℕ) (e : p ≡ place_of n k s (edges_of ws)) where
  module _ (h : p < length ws / 16) where
    look-row : keyed n k s (edge_of (row_at ws p)) ≡ true → looks_up ws n k s ≡ Some p
    look-row q =
        let z : 0 + p ≡ p = omega arith in
        rw (← e, z) at (place-row n k s (edges_of ws) 0 (edge_of []) (rw (← e) (omega (arith, edges-count ws))) (rw (← e, edge_at ws p (edge_of []) h) q))

    look-other : rising (edges_of ws) ≡ true → keyed n k s (edge_of (row_at ws p)) ≡ false → looks_up ws n k s ≡ None
    look-other r q = place_none n k s (edges_of ws) 0 (edge_of []) r λ l. rw (← e, edge_at ws p (edge_of []) h) q

    pub look-here : rising (edges_of ws) ≡ true → then_some (keyed n k s (edge_of (row_at ws p))) p ≡ looks_up ws n k s
    look-here r = by (keyed n k s (edge_of (row_at ws p))) refl
      where
        by : (b : Bool) → keyed n k s (edge_of (row_at ws p)) ≡ b → then_some b p ≡ looks_up ws n k s
        by true q = sym (look-row q)
        by false q = sym (look-other r q)

  pub look-past : rising (edges_of ws) ≡ true → length ws / 16 ≤ p → looks_up ws n k s ≡ None
  look-past r h = place_none n k s (edges_of ws) 0 (edge_of []) r λ l. absurd (omega (arith, edges-count ws))

-- ---- whether rows leave a node: p is where its first would stand

module _ (n : ℕ) (ws : List ℕ) (p : ℕ) (e : p ≡ place_of n 0 0 (edges_of ws)) (r : rising (edges_of ws) ≡ true) where
  pub bare-past : length ws / 16 ≤ p → bare (edges_of ws) n ≡ true
  bare-past h = place-bare n (edges_of ws) (edge_of []) r λ l. absurd (omega (arith, edges-count ws))

  pub bare-by : p < length ws / 16 → eqb (edge_of (row_at ws p)).from n ≡ not (bare (edges_of ws) n)
  bare-by h = by (eqb (edge_of (row_at ws p)).from n) refl
    where
      read : (get_or (edges_of ws) p (edge_of [])).from ≡ (edge_of (row_at ws p)).from
      read = ap (λ (e : Edge). e.from) (edge_at ws p (edge_of []) h)

      by : (b : Bool) → eqb (edge_of (row_at ws p)).from n ≡ b → eqb (edge_of (row_at ws p)).from n ≡ not (bare (edges_of ws) n)
      by true q = rw (q, not-bare n (edges_of ws) p (edge_of []) (omega (arith, edges-count ws)) (rw read q))
      by false q = rw (q, place-bare n (edges_of ws) (edge_of []) r (λ l. rw (← e, read) q))

-- ---- the table check

-- a row, and the next one as the code reads its key
module _ (ws : List ℕ) (r : ℕ) where
  pub last_row : length ws / 16 ≤ r + 1 → (d : Edge) → precedes d (drop (r + 1) (edges_of ws)) ≡ true
  unfolding precedes
  last_row h d = rw (drop_of_length-le (edges_of ws) {i = r + 1} (omega (arith, edges-count ws)))

  pub next_row : r + 1 < length ws / 16 → (d : Edge) → let e = edge_of (row_at ws (r + 1)) in precedes d (drop (r + 1) (edges_of ws)) ≡ below e.from e.kind e.sym d
  unfolding precedes
  next_row h d = rw (edges_step ws (r + 1) h)

and-false : (a : Bool) → a && false ≡ false
and-false true = refl
and-false false = refl

nodes-pass : (rules : ℕ) (ns : List ℕ) → ((i : ℕ) → i < length ns → get_or ns i 0 ≤ rules) → good_nodes rules ns ≡ true
unfolding good_nodes
nodes-pass rules [] f = refl
nodes-pass rules (w ∷ ns) f = rw (le-leb w rules (f 0 (omega arith))) (nodes-pass rules ns λ i h. f (suc i) (omega arith))

nodes-fail : (rules : ℕ) (ns : List ℕ) (i : ℕ) → i < length ns → rules < get_or ns i 0 → good_nodes rules ns ≡ false
unfolding good_nodes
nodes-fail rules [] i h b = absurd (not-suc-le-zero h)
nodes-fail rules (w ∷ ns) zero h b = rw (lt-leb w rules b)
nodes-fail rules (w ∷ ns) (suc i) h b = rw (nodes-fail rules ns i (le_of_suc-le-suc h) b) (and-false (leb w rules))

pub nodes-checked : (rules : ℕ) (ns : List ℕ) (b : Bool) → MatchBool b (AllWithin (λ w. w ≤ rules) ns 0 (length ns)) ((i : ℕ) × (i < length ns) × HoldsAt (λ w. rules < w) ns i) → b ≡ good_nodes rules ns
nodes-checked rules ns true f = sym (nodes-pass rules ns λ i h. f i 0 (omega arith) h)
nodes-checked rules ns false f = sym (nodes-fail rules ns f.0 f.1 (f.2 0))

-- what is still to be checked at row r of n
abbrev pub ahead : List ℕ → List ℕ → ℕ → ℕ → ℕ → Bool
ahead ns ws rules n r = good_rows rules ns (rows_left ws n r) && rising (edges_from (rows_left ws n r))

pub check-end : (ns ws : List ℕ) (rules n r : ℕ) → n ≤ r → ahead ns ws rules n r ≡ true
unfolding good_rows edges_from rising
check-end ns ws rules n r h = rw (rows_end ws n r h)

-- row number r is good and lower than the next
abbrev pub row_ok : List ℕ → List ℕ → ℕ → ℕ → Bool
row_ok ns ws rules r = good_ends ns (row_at ws r) && precedes (edge_of (row_at ws r)) (drop (r + 1) (edges_of ws)) && good_pairs rules (row_at ws r) 5 0

-- the same tests in another order
and-turned : (a b c d e : Bool) → (a && b && c) && (d && e) ≡ a && d && b && (c && e)
and-turned true true c true e = refl
and-turned true true c false e = and-false c
and-turned true false c true e = refl
and-turned true false c false e = refl
and-turned false b c d e = refl

module _ (ns ws : List ℕ) (rules r : ℕ) (h : r < length ws / 16) where
  abbrev n : ℕ
  n = length ws / 16

  check-step : ahead ns ws rules n r ≡ row_ok ns ws rules r && ahead ns ws rules n (r + 1)
  unfolding good_rows edges_from rising
  check-step =
      rw (rows_step ws n r h, edges-left n (r + 1) ws)
      (and-turned (good_ends ns (row_at ws r)) (good_pairs rules (row_at ws r) 5 0) (good_rows rules ns (rows_left ws n (r + 1)))
      (precedes (edge_of (row_at ws r)) (edges_from (rows_left ws n (r + 1)))) (rising (edges_from (rows_left ws n (r + 1)))))

-- all rows from number r on are good
rows-pass : (ns ws : List ℕ) (rules m r : ℕ) → m + r ≡ length ws / 16 → ((i : ℕ) → i < length ws / 16 → row_ok ns ws rules i ≡ true) → ahead ns ws rules (length ws / 16) r ≡ true
rows-pass ns ws rules zero r e f = check-end ns ws rules (length ws / 16) r (omega arith)
rows-pass ns ws rules (suc m) r e f = rw (check-step ns ws rules r (omega arith), f r (omega arith)) (rows-pass ns ws rules m (r + 1) (omega arith) f)

-- row i is not
rows-fail : (ns ws : List ℕ) (rules m i r : ℕ) → m + r ≡ i → i < length ws / 16 → row_ok ns ws rules i ≡ false → ahead ns ws rules (length ws / 16) r ≡ false
rows-fail ns ws rules zero i r e h b =
    let z : r ≡ i = omega arith in
    rw z (rw (check-step ns ws rules i h, b))
rows-fail ns ws rules (suc m) i r e h b =
    rw (check-step ns ws rules r (omega arith), rows-fail ns ws rules m i (r + 1) (omega arith) h b) (and-false (row_ok ns ws rules r))

pub rows-checked : (ns ws : List ℕ) (rules : ℕ) (b : Bool) → let is = range_with_len 0 (length ws / 16) in
    MatchBool b (AllWithin (λ i. row_ok ns ws rules i ≡ true) is 0 (length is)) ((k : ℕ) × (k < length is) × HoldsAt (λ i. row_ok ns ws rules i ≡ false) is k)
    → b ≡ good_rows rules ns (rows_of ws) && rising (edges_of ws)
rows-checked ns ws rules true f =
    let n = length ws / 16 in
    sym (rw sub-zero at (rows-pass ns ws rules n 0 (omega arith) λ i h.
    rw (get_or-range_with_len 0 n i 0 h, zero-add) at (f i 0 (omega arith) (rw (length-range_with_len 0 n) h))))
rows-checked ns ws rules false f =
    let n = length ws / 16 in
    let h : f.0 < n = rw (length-range_with_len 0 n) at f.1 in
    sym (rw sub-zero at (rows-fail ns ws rules f.0 f.0 0 (omega arith) h (rw (get_or-range_with_len 0 n f.0 0 h, zero-add) at (f.2 0))))

-- pair number k of a row
abbrev pub pair_at : ℕ → List ℕ → ℕ → Bool
pair_at rules row k = good_pair rules k (get_or row 4 0) (get_or row (5 + 2 * k) 0) (get_or row (5 + 2 * k + 1) 0)

pub pairs-step : (row : List ℕ) (rules k : ℕ) → k < 5 → good_pairs rules row (5 - k) k ≡ pair_at rules row k && good_pairs rules row (5 - (k + 1)) (k + 1)
unfolding good_pairs
pairs-step row rules k h =
    let e : 5 - k ≡ suc (5 - (k + 1)) = omega arith in
    let q : 6 + 2 * k ≡ 5 + 2 * k + 1 = omega arith in
    rw (e, q)

pub pairs_end : (rules k : ℕ) (row : List ℕ) → 5 ≤ k → good_pairs rules row (5 - k) k ≡ true
unfolding good_pairs
pairs_end rules k row h = let e : 5 - k ≡ 0 = omega arith in rw e

-- ---- reduce lists

with-room : (d : Reduce) (ds : List Reduce) → length ds < 5 → with_reduce d ds ≡ some (d ∷ ds)
unfolding with_reduce
with-room d ds h = rw (lt-ltb (length ds) 5 h, with_reduce)

with_none : (d : Reduce) (ds : List Reduce) → 5 ≤ length ds → with_reduce d ds ≡ none
unfolding with_reduce
with_none d ds h = rw (le-ltb (length ds) 5 h, with_reduce)

-- a sixth
pub refuses : (m : ℕ) (items : List coded.Reduce) (d : Reduce) → length items ≡ 5 → 5 ≤ m → with_reduce d (map reduce_is (take m items)) ≡ none
refuses m items d l h = with_none d (map reduce_is (take m items)) (rw (length-map, take_all m items (omega arith)) (omega arith))

-- one that there is a place for: the others move up by one, and it comes first
pub adds : (m : ℕ) (items : List coded.Reduce) (r : coded.Reduce) → length items ≡ 5 → m < 5
    → with_reduce (reduce_is r) (map reduce_is (take m items)) ≡ some (map reduce_is (take (m + 1) (set (copy_within items 0 4 1) 0 r)))
adds m [] r l h = absurd (omega (arith, l))
adds m (x ∷ xs) r l h =
    let few : length (map reduce_is (take m (x ∷ xs))) < 5 = rw (length-map, length-take-le m (x ∷ xs) (omega arith)) h in
    let same : take m (take 4 (x ∷ xs) ++ drop 4 xs) ≡ take m (x ∷ xs) =
    take-append-le m (take 4 (x ∷ xs)) (drop 4 xs) (rw (length-take-le 4 (x ∷ xs) (omega arith)) (omega arith)) ∙ take-take m 4 (x ∷ xs) (omega arith) in
    rw (with-room (reduce_is r) (map reduce_is (take m (x ∷ xs))) few, add-one, same)

-- ---- a row, read

abbrev no_reduce : coded.Reduce
no_reduce = record { rule = record { 0 = 0 }; offset = 0 }

-- these reduces are the pairs of the row from word `at` on
abbrev pub Pairs : List ℕ → ℕ → List coded.Reduce → Type 0
Pairs row at [] = Unit {0}
Pairs row at (r ∷ rs) = (reduce_is r ≡ record { rule = get_or row at 0; offset = get_or row (at + 1) 0 }) × Pairs row (at + 2) rs

pairs-read : (row : List ℕ) (n at : ℕ) (rs : List coded.Reduce) → n ≤ length rs → Pairs row at rs → map reduce_is (take n rs) ≡ reduces_of n (drop at row)
unfolding reduces_of
pairs-read row zero at rs l h = refl
pairs-read row (suc n) at [] l h = absurd (not-suc-le-zero l)
pairs-read row (suc n) at (r ∷ rs) l h =
    let z : at + 0 ≡ at = omega arith in
    rw (h.0, pairs-read row n (at + 2) rs (le_of_suc-le-suc l) h.1, get_or-drop at row 0 0, get_or-drop at row 1 0, drop-drop 2 at row, z)

pub row_read : (row : List ℕ) (rs : List coded.Reduce) → length rs ≡ 5 → length (edge_of row).reduces ≤ 5 → Pairs row 5 rs → (few : get_or row 4 0 ≤ 5)
    → Holds (record {
      key = key_of (edge_of row);
      to = record { 0 = get_or row 3 0 };
      reduces = record { count = get_or row 4 0; items = rs; few = few };
    }) (edge_of row)
unfolding edge_of
row_read row rs l h p few =
    let many = reduces-length (get_or row 4 0) (drop 5 row) in
    record { says = rw (pairs-read row (get_or row 4 0) 5 rs (omega arith) p); counted = sym many }

-- ---- a row, written

-- the reduce at place k, or zeros
pub place-used : (r : listed.Reduces) (k : ℕ) → k < r.count → get_or (reduces_are r) k (reduce_is no_reduce) ≡ reduce_is (get_or r.items k no_reduce)
place-used r k h = get_or-map reduce_is (take r.count r.items) k no_reduce ∙ ap reduce_is (get_or-take r.count r.items k no_reduce h)

pub place-unused : (r : listed.Reduces) (k : ℕ) → r.count ≤ k → get_or (reduces_are r) k (reduce_is no_reduce) ≡ reduce_is no_reduce
place-unused r k h = get_or-eq_default (reduces_are r) (reduce_is no_reduce) (rw (length-map, length-take) (omega arith))

-- the words of pair number k
pair-words : (n k : ℕ) (ds : List Reduce) → k < n
    → (get_or (reduce_words n ds) (2 * k) 0 ≡ (get_or ds k (reduce_is no_reduce)).rule) × (get_or (reduce_words n ds) (suc (2 * k)) 0 ≡ (get_or ds k (reduce_is no_reduce)).offset)
unfolding reduce_words
pair-words zero k ds h = absurd (not-suc-le-zero h)
pair-words (suc n) zero [] h = (refl, refl)
pair-words (suc n) zero (d ∷ ds) h = (refl, refl)
pair-words (suc n) (suc k) [] h =
    let two : 2 * suc k ≡ suc (suc (2 * k)) = omega arith in
    rw two (pair-words n k [] (le_of_suc-le-suc h))
pair-words (suc n) (suc k) (d ∷ ds) h =
    let two : 2 * suc k ≡ suc (suc (2 * k)) = omega arith in
    rw two (pair-words n k ds (le_of_suc-le-suc h))

module _ (e : Edge) (k : ℕ) (h : k < 5) where
  pub rule-word : get_or (row_words e) (5 + 2 * k) 0 ≡ (get_or e.reduces k (reduce_is no_reduce)).rule
  unfolding row_words
  rule-word =
      let five : 5 + 2 * k ≡ suc (suc (suc (suc (suc (2 * k))))) = omega arith in
      rw five (pair-words 5 k e.reduces h).0

  pub offset_word : get_or (row_words e) (6 + 2 * k) 0 ≡ (get_or e.reduces k (reduce_is no_reduce)).offset
  unfolding row_words
  offset_word =
      let six : 6 + 2 * k ≡ suc (suc (suc (suc (suc (suc (2 * k)))))) = omega arith in
      rw six (pair-words 5 k e.reduces h).1

-- one word more of what is to be written
pub written-more : (row T : List ℕ) (m x : ℕ) → take m row ≡ take m T → m < length row → m < length T → x ≡ get_or T m 0
    → take (suc m) (set row m x) ≡ take (suc m) T
written-more row T m x h a b e = rw (take-suc-set row m x a, take-suc T m 0 b, h, e)

-- the first five words, stored one by one
pub written-head : (row : List ℕ) (e : held.Edge) → length row ≡ 16 → length e.reduces.items ≡ 5
    → take 5 (sets row 0 (e.key.from.0 ∷ e.key.kind ∷ e.key.symbol.0 ∷ e.to.0 ∷ e.reduces.count ∷ [])) ≡ take 5 (row_words (edge_is e))
unfolding row_words
written-head row e l q =
    let many : length (edge_is e).reduces ≡ e.reduces.count = rw (length-map, length-take-le e.reduces.count e.reduces.items (omega (arith, e.reduces.few))) in
    rw (sets-eq (e.key.from.0 ∷ e.key.kind ∷ e.key.symbol.0 ∷ e.to.0 ∷ e.reduces.count ∷ []) row 0 (omega arith), many)

-- a turn: two words more
pub written-pair : (row : List ℕ) (e : Edge) (k : ℕ) → k < 5 → length row ≡ 16 → take (5 + 2 * k) row ≡ take (5 + 2 * k) (row_words e)
    → take (5 + 2 * (k + 1)) (set (set row (5 + 2 * k) (get_or e.reduces k (reduce_is no_reduce)).rule) (6 + 2 * k) (get_or e.reduces k (reduce_is no_reduce)).offset)
    ≡ take (5 + 2 * (k + 1)) (row_words e)
written-pair row e k h l t =
    let T = row_words e in
    let r = get_or e.reduces k (reduce_is no_reduce) in
    let len = row-length e in
    let six : suc (5 + 2 * k) ≡ 6 + 2 * k = omega arith in
    let two : 5 + 2 * (k + 1) ≡ suc (6 + 2 * k) = omega arith in
    let one : take (6 + 2 * k) (set row (5 + 2 * k) r.rule) ≡ take (6 + 2 * k) T =
    rw six at (written-more row T (5 + 2 * k) r.rule t (omega arith) (omega arith) (sym (rule-word e k h))) in
    rw two (written-more (set row (5 + 2 * k) r.rule) T (6 + 2 * k) r.offset one (simp length-set (omega arith)) (omega arith) (sym (offset_word e k h)))

-- the last word
pub written_all : (row : List ℕ) (e : Edge) → length row ≡ 16 → take 15 row ≡ take 15 (row_words e) → set row 15 0 ≡ row_words e
unfolding row_words
written_all row e l t =
    let T = row_words e in
    let len = row-length e in
    let done : take 16 (set row 15 0) ≡ take 16 T = written-more row T 15 0 t (omega arith) (omega arith) (sym (last_word 5 e.reduces)) in
    sym (take_all 16 (set row 15 0) (simp length-set (omega arith))) ∙ done ∙ take_all 16 T (omega arith)

-- a part of 16 words, put back
pub put-row : (ws row : List ℕ) (a : ℕ) → put_mid a (a + 16 - a) ws row ≡ take a ws ++ (row ++ drop (a + 16) ws)
put-row ws row a = let e : a + 16 - a ≡ 16 = omega arith in rw (e, drop-drop)

-- a row written where the rows were moved up
pub put-moved : (ws us vs : List ℕ) (i n : ℕ) (e : Edge) → us ≡ moved_up ws (16 * i) (16 * n) 16 → vs ≡ written us i e → i ≤ n → n < length ws / 16 → vs ≡ put_in ws i n e
put-moved ws us vs i n e p q h l =
    let rest = drop (16 * i) (take (16 * n) ws) ++ drop (16 * n + 16) ws in
    let long = length-take-le (16 * i + 16) ws (omega arith) in
    let before : take (16 * i) (take (16 * i + 16) ws ++ rest) ≡ take (16 * i) ws =
    take-append-le (16 * i) (take (16 * i + 16) ws) rest (omega arith) ∙ take-take (16 * i) (16 * i + 16) ws (omega arith) in
    rw (q, p, before, drop_at (take (16 * i + 16) ws) rest (16 * i + 16) long)
