-- What an index says of the rows, how a row is found by it, and how it is filled.
use mathlib.Core.Path.{◌≡◌, refl, sym, ap, ◌∙◌}
use mathlib.Core.Bool.{Bool, true, false, not}
use mathlib.Core.List.{List, [], ◌∷◌}
use mathlib.Core.Logic.{◌≢◌}
use mathlib.Core.Option.{none-ne-some}
use Prim.Native.Nat.{ℕ, zero, suc, ◌+◌, ◌*◌, ◌-◌, ◌/◌, ◌%◌, ◌≤◌, ◌<◌}
use native.Mathlib.Nat.{not-suc-le-zero}
use native.Mathlib.Omega.{arith}
use lib.Dec.{eqb, ltb}
use lib.ListN.{length, get_or, set, length-set}
use lib.Seq.{get_or-set_same, get_or-set_other}
use borrow.Author.Tests.{eqb-true, eqb-false, ltb-true, ltb-false, lt-ltb, le-ltb, eq-eqb}
use Rattle.words.specs.Lent.{zeros}
use Rattle.words.specs.Outcome.{pick}
use Rattle.rules.proofs.Theorems.Every.{All}
use Rattle.rows.specs.Rows.{Edge, edge_of, edges_of, below, rising, keyed, leaving, bare}
use Rattle.rows.specs.Code.{row_at, place_of, looks_up, mark, Tabled, Spans, row_named, RootRows}
use Rattle.std.specs.Prelude.{Option, Some, None}
use Rattle.rows.proofs.Theorems.Order.{Lower, by-from, by_kind, by-symbol, Under, lower-trans, below-under, under-below, nth, rising-between, only_row, together}
use Rattle.rows.proofs.Theorems.Lookup.{edges-count, edge_at, row-found, none_found}
use Rattle.rows.proofs.Theorems.Fair.{found}
use Rattle.rows.proofs.Laws.{word_at, place_in, half-lower, half-higher}

-- ---- rows before and after a key's place

-- row i stands before the key's place or not as it is lower than the key or not
module _ (n k s : ℕ) (ws : List ℕ) (i : ℕ) where
  row_before : i < place_of n k s (edges_of ws) → Under (edge_of (row_at ws i)) n k s
  row_before h = by (below n k s (edge_of (row_at ws i))) refl
    where
      by : (b : Bool) → below n k s (edge_of (row_at ws i)) ≡ b → Under (edge_of (row_at ws i)) n k s
      by true t = below-under n k s (edge_of (row_at ws i)) t
      by false t = absurd (let l = half-higher n k s ws i (omega (arith, place_in n k s ws)) t in omega arith)

  module _ (r : rising (edges_of ws) ≡ true) (h : i < length ws / 16) where
    under-before : Under (edge_of (row_at ws i)) n k s → i < place_of n k s (edges_of ws)
    under-before u = half-lower n k s ws i h r (under-below n k s (edge_of (row_at ws i)) u)

    row-after : place_of n k s (edges_of ws) ≤ i → Under (edge_of (row_at ws i)) n k s → ⊥
    row-after l u = let g = under-before u in omega arith

    other_after : (Under (edge_of (row_at ws i)) n k s → ⊥) → place_of n k s (edges_of ws) ≤ i
    other_after f = by (below n k s (edge_of (row_at ws i))) refl
      where
        by : (b : Bool) → below n k s (edge_of (row_at ws i)) ≡ b → place_of n k s (edges_of ws) ≤ i
        by true t = absurd (f (below-under n k s (edge_of (row_at ws i)) t))
        by false t = half-higher n k s ws i h t

-- a higher key has no lower place
place-rises : (ws : List ℕ) {n k s m l t : ℕ} → rising (edges_of ws) ≡ true → Lower n k s m l t → place_of n k s (edges_of ws) ≤ place_of m l t (edges_of ws)
place-rises ws {n} {k} {s} {m} {l} {t} r u = by (ltb (place_of m l t (edges_of ws)) (place_of n k s (edges_of ws))) refl
  where
    by : (b : Bool) → ltb (place_of m l t (edges_of ws)) (place_of n k s (edges_of ws)) ≡ b → place_of n k s (edges_of ws) ≤ place_of m l t (edges_of ws)
    by false p = ltb-false _ _ p
    by true p =
        let j = place_of m l t (edges_of ws) in
        let h : j < place_of n k s (edges_of ws) = ltb-true _ _ p in
        absurd (row-after m l t ws j r (omega (arith, place_in n k s ws)) (omega arith) (lower-trans (row_before n k s ws j h) u))

-- ---- the row that a look-up gives back has the key

every : (es : List Edge) → All (λ e. Unit {0}) es
every [] = tt
every (e ∷ es) = (tt, every es)

-- the symbol of row i
abbrev pub sym_at : List ℕ → ℕ → ℕ
sym_at ws i = get_or ws (16 * i + 2) 0

symbol-read : (ws : List ℕ) (i : ℕ) → (edge_of (row_at ws i)).sym ≡ sym_at ws i
unfolding edge_of
symbol-read ws i = word_at ws (16 * i) 2 (omega arith)

record Keyed (ws : List ℕ) (n k s i : ℕ) : Type 0 where
  within : i < length ws / 16
  from : (edge_of (row_at ws i)).from ≡ n
  kind : (edge_of (row_at ws i)).kind ≡ k
  symbol : (edge_of (row_at ws i)).sym ≡ s

found-key : (ws : List ℕ) (n k s i : ℕ) → looks_up ws n k s ≡ Some i → Keyed ws n k s i
found-key ws n k s i h =
    let f = row-found ws n k s refl i h in
    let g = found (λ e. Unit {0}) (edges_of ws) n k s (edge_of (row_at ws i)) (every (edges_of ws)) f.finds in
    record { within = f.within; from = g.1; kind = g.2; symbol = g.3 }

-- ---- rows of one node and kind

-- the rows from a key's place up to that of the next node's or kind's first key
module _ (ws : List ℕ) (n k m l : ℕ) (r : rising (edges_of ws) ≡ true) (next : (s : ℕ) → Lower n k s m l 0) where
  spans-to : ((i : ℕ) → i < length ws / 16 → (Under (edge_of (row_at ws i)) n k 0 → ⊥) → Under (edge_of (row_at ws i)) m l 0
      → ((edge_of (row_at ws i)).from ≡ n) × ((edge_of (row_at ws i)).kind ≡ k))
      → Spans ws n k (place_of n k 0 (edges_of ws)) (place_of m l 0 (edges_of ws))
  spans-to between = record {
    within = place_in m l 0 ws;
    alike = λ i a b. let h : i < length ws / 16 = omega (arith, place_in m l 0 ws) in between i h (row-after n k 0 ws i r h a) (row_before m l 0 ws i b);
    all = λ s i h. inside s i (found-key ws n k s i h);
  }
    where
      least : (a b c : ℕ) → a ≡ n → b ≡ k → Lower a b c n k 0 → ⊥
      least a b c p q (by-from h) = omega arith
      least a b c p q (by_kind f h) = omega arith
      least a b c p q (by-symbol f g h) = not-suc-le-zero h

      inside : (s i : ℕ) → Keyed ws n k s i → (place_of n k 0 (edges_of ws) ≤ i) × (i < place_of m l 0 (edges_of ws))
      inside s i g = (
        other_after n k 0 ws i r g.within (least _ _ _ g.from g.kind),
        under-before m l 0 ws i r g.within (rw (g.from, g.kind) (next (edge_of (row_at ws i)).sym)),
      )

module _ (ws : List ℕ) (n : ℕ) where
  constants : rising (edges_of ws) ≡ true → Spans ws n 0 (place_of n 0 0 (edges_of ws)) (place_of n 1 0 (edges_of ws))
  constants r = spans-to ws n 0 n 1 r (λ s. by_kind refl (omega arith)) λ i h a b. by i a b
    where
      by : (i : ℕ) → (Under (edge_of (row_at ws i)) n 0 0 → ⊥) → Under (edge_of (row_at ws i)) n 1 0 → ((edge_of (row_at ws i)).from ≡ n) × ((edge_of (row_at ws i)).kind ≡ 0)
      by i a (by-from h) = absurd (a (by-from h))
      by i a (by_kind f h) = (f, omega arith)
      by i a (by-symbol f g h) = absurd (not-suc-le-zero h)

  variables : rising (edges_of ws) ≡ true → All (λ e. e.kind ≤ 1) (edges_of ws) → Spans ws n 1 (place_of n 1 0 (edges_of ws)) (place_of (n + 1) 0 0 (edges_of ws))
  variables r ks = spans-to ws n 1 (n + 1) 0 r (λ s. by-from (omega arith)) λ i h a b. by i (few i h) a b
    where
      few : (i : ℕ) → i < length ws / 16 → (edge_of (row_at ws i)).kind ≤ 1
      few i h = rw (edge_at ws i (edge_of []) h) at (nth (λ e. e.kind ≤ 1) (edges_of ws) i (edge_of []) (omega (arith, edges-count ws)) ks)

      split : (a b : ℕ) → (a < n → ⊥) → (a ≡ n → b < 1 → ⊥) → a < n + 1 → b ≤ 1 → (l z : Bool) → ltb a n ≡ l → ltb b 1 ≡ z → (a ≡ n) × (b ≡ 1)
      split a b f g h w true z t u = absurd (f (ltb-true a n t))
      split a b f g h w false true t u = let e : a ≡ n = omega (arith, ltb-false a n t) in absurd (g e (ltb-true b 1 u))
      split a b f g h w false false t u = (omega (arith, ltb-false a n t), omega (arith, ltb-false b 1 u))

      lies : (i : ℕ) → (edge_of (row_at ws i)).kind ≤ 1 → (Under (edge_of (row_at ws i)) n 1 0 → ⊥) → (edge_of (row_at ws i)).from < n + 1
          → ((edge_of (row_at ws i)).from ≡ n) × ((edge_of (row_at ws i)).kind ≡ 1)
      lies i w a h = split _ _ (λ p. a (by-from p)) (λ e p. a (by_kind e p)) h w _ _ refl refl

      by : (i : ℕ) → (edge_of (row_at ws i)).kind ≤ 1 → (Under (edge_of (row_at ws i)) n 1 0 → ⊥) → Under (edge_of (row_at ws i)) (n + 1) 0 0
          → ((edge_of (row_at ws i)).from ≡ n) × ((edge_of (row_at ws i)).kind ≡ 1)
      by i w a (by-from h) = lies i w a h
      by i w a (by_kind f h) = absurd (not-suc-le-zero h)
      by i w a (by-symbol f g h) = absurd (not-suc-le-zero h)

some-leave : (n p : ℕ) (es : List Edge) → ltb p (p + length (leaving n es)) ≡ not (bare es n)
unfolding leaving bare
some-leave n p [] = le-ltb p (p + 0) (omega arith)
some-leave n p (e ∷ es) = by (eqb e.from n) (some-leave n p es)
  where
    by : (b : Bool) → ltb p (p + length (leaving n es)) ≡ not (bare es n)
        → ltb p (p + length (pick b (e ∷ leaving n es) (leaving n es))) ≡ not (elim b [ true ↦ false | false ↦ bare es n ])
    by true h = lt-ltb p (p + suc (length (leaving n es))) (omega arith)
    by false h = h

-- ---- what the index says

module _ (ws is : List ℕ) (x : Tabled ws is) (n : ℕ) (h : n < length is) where
  few-rows : place_of n 1 0 (edges_of ws) < mark
  few-rows = omega (arith, place_in n 1 0 ws, x.few)

  first-is : get_or is n 0 / mark ≡ place_of n 0 0 (edges_of ws)
  first-is = omega (arith, few-rows, x.firsts n h)

  variable-is : get_or is n 0 % mark ≡ place_of n 1 0 (edges_of ws)
  variable-is = omega (arith, few-rows, x.firsts n h)

module _ (ws is : List ℕ) (x : Tabled ws is) (n : ℕ) (h : n + 1 < length is) where
  pub constants-by : Spans ws n 0 (get_or is n 0 / mark) (get_or is n 0 % mark)
  constants-by = rw (first-is ws is x n (omega arith), variable-is ws is x n (omega arith)) (constants ws n x.order)

  pub variables-by : Spans ws n 1 (get_or is n 0 % mark) (get_or is (n + 1) 0 / mark)
  variables-by = rw (first-is ws is x (n + 1) h, variable-is ws is x n (omega arith)) (variables ws n x.order x.kinds)

  -- rows leave a node whose first row is not that of the next
  pub leaves_by : ltb (get_or is n 0 / mark) (get_or is (n + 1) 0 / mark) ≡ not (bare (edges_of ws) n)
  leaves_by =
      rw (first-is ws is x (n + 1) h, first-is ws is x n (omega arith), (together n (edges_of ws) (edge_of []) x.order).ends)
      (some-leave n (place_of n 0 0 (edges_of ws)) (edges_of ws))

-- ---- the search: the symbols of a node's rows of one kind rise

module _ (ws : List ℕ) (n k low high : ℕ) (r : rising (edges_of ws) ≡ true) (p : Spans ws n k low high) where
  pub symbols-rise : (i j : ℕ) → low ≤ i → i < j → j < high → sym_at ws i < sym_at ws j
  symbols-rise i j a h b =
      let d = edge_of [] in
      let l : j < length ws / 16 = omega (arith, p.within) in
      let u : Under (edge_of (row_at ws i)) (edge_of (row_at ws j)).from (edge_of (row_at ws j)).kind (edge_of (row_at ws j)).sym =
      rw (edge_at ws i d (omega arith), edge_at ws j d l) at (rising-between (edges_of ws) i j d r h (omega (arith, edges-count ws))) in
      let x = p.alike i a (omega arith) in
      let y = p.alike j (omega arith) b in
      rw (symbol-read ws i, symbol-read ws j) at (by (x.0 ∙ sym y.0) (x.1 ∙ sym y.1) u)
    where
      by : {a b c x y z : ℕ} → a ≡ x → b ≡ y → Lower a b c x y z → c < z
      by e f (by-from h) = absurd (omega arith)
      by e f (by_kind g h) = absurd (omega arith)
      by e f (by-symbol g l h) = h

  module _ (m s : ℕ) (a : low ≤ m) (b : m < high) (i : ℕ) (c : low ≤ i) (d : i < high) (e : sym_at ws i ≡ s) where
    -- a row with the symbol is not before one whose symbol is not greater
    pub half-taken : sym_at ws m ≤ s → m ≤ i
    half-taken l = by (ltb i m) refl
      where
        by : (t : Bool) → ltb i m ≡ t → m ≤ i
        by false t = ltb-false i m t
        by true t = absurd (omega (arith, symbols-rise i m c (ltb-true i m t) b))

    -- and is before one whose symbol is greater
    pub half-left : s < sym_at ws m → i < m
    half-left l = by (ltb i m) (eqb i m) refl refl
      where
        by : (t u : Bool) → ltb i m ≡ t → eqb i m ≡ u → i < m
        by true u t v = ltb-true i m t
        by false true t v = absurd (let w : sym_at ws i ≡ sym_at ws m = ap (λ (j : ℕ). sym_at ws j) (eqb-true i m v) in omega arith)
        by false false t v = absurd (omega (arith, symbols-rise m i a (omega (arith, ltb-false i m t, eqb-false i m v)) d))

  module _ (s : ℕ) where
    pub search-none : ((i : ℕ) → low ≤ i → i < high → sym_at ws i ≡ s → ⊥) → looks_up ws n k s ≡ None
    search-none f = by (looks_up ws n k s) refl
      where
        by : (o : Option ℕ) → looks_up ws n k s ≡ o → looks_up ws n k s ≡ None
        by None h = h
        by (Some i) h = let q = p.all s i h in absurd (f i q.0 q.1 (sym (symbol-read ws i) ∙ (found-key ws n k s i h).symbol))

    pub search-found : (i : ℕ) → low ≤ i → i < high → sym_at ws i ≡ s → looks_up ws n k s ≡ Some i
    unfolding keyed
    search-found i a b e = by (looks_up ws n k s) refl
      where
        at : i < length ws / 16
        at = omega (arith, p.within)

        key : keyed n k s (get_or (edges_of ws) i (edge_of [])) ≡ true
        key =
            let c = edge_of (row_at ws i) in
            let x = p.alike i a b in
            rw (edge_at ws i (edge_of []) at, eq-eqb c.from n x.0, eq-eqb c.kind k x.1, eq-eqb c.sym s (symbol-read ws i ∙ e))

        by : (o : Option ℕ) → looks_up ws n k s ≡ o → looks_up ws n k s ≡ Some i
        by None h =
            let f = only_row (edges_of ws) r n k s i (edge_of []) (omega (arith, edges-count ws, at)) key in
            absurd (none-ne-some _ (sym (none_found ws n k s refl h) ∙ f))
        by (Some j) h =
            let q = p.all s j h in
            let g : sym_at ws j ≡ s = sym (symbol-read ws j) ∙ (found-key ws n k s j h).symbol in
            let l = half-taken i s a b j q.0 q.1 g (omega arith) in
            let m = half-taken j s q.0 q.1 i a b e (omega arith) in
            let z : j ≡ i = omega arith in
            h ∙ ap Some z

-- ---- how the index is filled

-- the first n words say it of their nodes, and no row from number `row` on is lower than those of node n
pub record Filling (ws is : List ℕ) (n row : ℕ) : Type 0 where
  pub words : (m : ℕ) → m < n → get_or is m 0 ≡ place_of m 0 0 (edges_of ws) * mark + place_of m 1 0 (edges_of ws)
  pub ahead : row ≤ place_of n 0 0 (edges_of ws)

pub filling-none : (ws is : List ℕ) → Filling ws is 0 0
filling-none ws is = record { words = λ m h. absurd (not-suc-le-zero h); ahead = omega arith }

module _ (ws : List ℕ) (r : rising (edges_of ws) ≡ true) (n : ℕ) where
  pub variables-after : place_of n 0 0 (edges_of ws) ≤ place_of n 1 0 (edges_of ws)
  variables-after = place-rises ws r (by_kind refl (omega arith))

  pub filling-more : (is : List ℕ) (row a b : ℕ) → Filling ws is n row → n < length is → a ≡ place_of n 0 0 (edges_of ws) → b ≡ place_of n 1 0 (edges_of ws)
      → Filling ws (set is n (a * mark + b)) (n + 1) b
  filling-more is row a b f h e g = record {
    words = λ m l. by m l (eqb m n) refl;
    ahead = rw g (place-rises ws r (by-from (omega arith)));
  }
    where
      by : (m : ℕ) → m < n + 1 → (t : Bool) → eqb m n ≡ t
          → get_or (set is n (a * mark + b)) m 0 ≡ place_of m 0 0 (edges_of ws) * mark + place_of m 1 0 (edges_of ws)
      by m l true t = let q = eqb-true m n t in rw (q, get_or-set_same is n (a * mark + b) 0 h, e, g)
      by m l false t = let q = eqb-false m n t in rw (get_or-set_other is n m (a * mark + b) 0 q) (f.words m (omega (arith, q)))

-- ---- the table of symbols: the rows from `low` to `row` are in it, and no other

pub root-span : (ws : List ℕ) → rising (edges_of ws) ≡ true → Spans ws 0 0 (place_of 0 0 0 (edges_of ws)) (place_of 0 1 0 (edges_of ws))
root-span ws r = constants ws 0 r

pub record Rooting (ws rs : List ℕ) (low row : ℕ) : Type 0 where
  pub names : (t i : ℕ) → t < length rs → low ≤ i → i < row → sym_at ws i ≡ t → get_or rs t 0 ≡ suc i
  pub named : (t i : ℕ) → t < length rs → get_or rs t 0 ≡ suc i → (low ≤ i) × (i < row) × (sym_at ws i ≡ t)

pub rooting-none : (ws : List ℕ) (n low : ℕ) → Rooting ws (zeros n) low low
rooting-none ws n low = record {
  names = λ t i h a b e. absurd (omega arith);
  named = λ t i h e. absurd (let z : 0 ≡ suc i = sym (get_or-zeros n t) ∙ e in omega arith);
}
  where
    get_or-zeros : (n t : ℕ) → get_or (zeros n) t 0 ≡ 0
    get_or-zeros zero t = refl
    get_or-zeros (suc n) zero = refl
    get_or-zeros (suc n) (suc t) = get_or-zeros n t

module _ (ws : List ℕ) (low high : ℕ) (r : rising (edges_of ws) ≡ true) (p : Spans ws 0 0 low high) (rs : List ℕ) (row : ℕ) (g : Rooting ws rs low row)
    (a : low ≤ row) (b : row < high) where
  -- a symbol that the table has no word for
  pub rooting-past : length rs ≤ sym_at ws row → Rooting ws rs low (row + 1)
  rooting-past h = record {
    names = λ t i l c d e. by t i l c d e (eqb i row) refl;
    named = λ t i l e. let q = g.named t i l e in (q.0, omega (arith, q.1), q.2);
  }
    where
      by : (t i : ℕ) → t < length rs → low ≤ i → i < row + 1 → sym_at ws i ≡ t → (z : Bool) → eqb i row ≡ z → get_or rs t 0 ≡ suc i
      by t i l c d e true z = absurd (let w : sym_at ws i ≡ sym_at ws row = ap (λ (j : ℕ). sym_at ws j) (eqb-true i row z) in omega arith)
      by t i l c d e false z = g.names t i l c (omega (arith, eqb-false i row z)) e

  with_row : sym_at ws row < length rs → Rooting ws (set rs (sym_at ws row) (suc row)) low (row + 1)
  with_row h = record {
    names = λ t i l c d e. by t i (rw (length-set rs (sym_at ws row) (suc row)) at l) c d e (eqb t (sym_at ws row)) (eqb i row) refl refl;
    named = λ t i l e. back t i (rw (length-set rs (sym_at ws row) (suc row)) at l) e (eqb t (sym_at ws row)) refl;
  }
    where
      by : (t i : ℕ) → t < length rs → low ≤ i → i < row + 1 → sym_at ws i ≡ t → (y z : Bool) → eqb t (sym_at ws row) ≡ y → eqb i row ≡ z
          → get_or (set rs (sym_at ws row) (suc row)) t 0 ≡ suc i
      by t i l c d e true true y z =
          let f = eqb-true t (sym_at ws row) y in
          let w = eqb-true i row z in
          rw (f, w) (get_or-set_same rs (sym_at ws row) (suc row) 0 h)
      by t i l c d e true false y z =
          absurd (omega (arith, eqb-true t (sym_at ws row) y, symbols-rise ws 0 0 low high r p i row c (omega (arith, eqb-false i row z)) b))
      by t i l c d e false true y z =
          absurd (eqb-false t (sym_at ws row) y (sym e ∙ ap (λ (j : ℕ). sym_at ws j) (eqb-true i row z)))
      by t i l c d e false false y z =
          get_or-set_other rs (sym_at ws row) t (suc row) 0 (eqb-false t (sym_at ws row) y) ∙ g.names t i l c (omega (arith, eqb-false i row z)) e

      back : (t i : ℕ) → t < length rs → get_or (set rs (sym_at ws row) (suc row)) t 0 ≡ suc i → (y : Bool) → eqb t (sym_at ws row) ≡ y
          → (low ≤ i) × (i < row + 1) × (sym_at ws i ≡ t)
      back t i l e true y =
          let f = eqb-true t (sym_at ws row) y in
          let w : suc row ≡ suc i = sym (get_or-set_same rs (sym_at ws row) (suc row) 0 h) ∙ (rw f at e) in
          let z : i ≡ row = omega arith in
          (omega arith, omega arith, ap (λ (j : ℕ). sym_at ws j) z ∙ sym f)
      back t i l e false y =
          let q = g.named t i l (sym (get_or-set_other rs (sym_at ws row) t (suc row) 0 (eqb-false t (sym_at ws row) y)) ∙ e) in
          (q.0, omega (arith, q.1), q.2)

pub rooting-more : (ws : List ℕ) (low high : ℕ) → rising (edges_of ws) ≡ true → Spans ws 0 0 low high → (rs : List ℕ) (row : ℕ) → Rooting ws rs low row → low ≤ row → row < high
    → sym_at ws row < length rs → (w : ℕ) → w ≡ suc row → Rooting ws (set rs (sym_at ws row) w) low (row + 1)
rooting-more ws low high r p rs row g a b h w e = rw e (with_row ws low high r p rs row g a b h)

pub named-row : (w : ℕ) → w ≢ 0 → Some (w - 1) ≡ row_named w
named-row zero h = absurd (h refl)
named-row (suc i) h = let e : suc i - 1 ≡ i = omega arith in rw e

-- with all rows of the span in it the table says what a look-up does
pub rooting-end : (ws : List ℕ) (low high : ℕ) → rising (edges_of ws) ≡ true → Spans ws 0 0 low high → (rs : List ℕ) → Rooting ws rs low high → RootRows ws rs
rooting-end ws low high r p rs g t h = by (get_or rs t 0) refl
  where
    by : (w : ℕ) → get_or rs t 0 ≡ w → row_named w ≡ looks_up ws 0 0 t
    by zero e = sym (search-none ws 0 0 low high r p t λ i a b q. absurd (let z : 0 ≡ suc i = sym e ∙ g.names t i h a b q in omega arith))
    by (suc i) e = let q = g.named t i h e in sym (search-found ws 0 0 low high r p t i q.0 q.1 q.2)
