-- The first rows of a table while it grows: one is put in, and at the end their last words are cleared.
use Rattle.std.specs.Prelude.{◌≡◌, get_or}
use Rattle.std.proofs.Math.Path.{refl, sym, ap}
use Rattle.std.proofs.Common.{◌∙◌, suc-add, zero-add, not-suc-le-zero, le_of_suc-le-suc, length-append, take-append-drop, drop-drop, get_or-drop, get_or-set_other, set-set, drop-set-lt, take-take}
use mathlib.Core.List.{List, [], ◌∷◌, ◌++◌, append_assoc, append-nil}
use Prim.Native.Nat.{ℕ, zero, suc, ◌+◌, ◌*◌, ◌-◌, ◌/◌, ◌≤◌, ◌<◌}
use Rattle.std.proofs.Math.Nat.{mul-div_right}
use native.Mathlib.Omega.{arith}
use Rattle.std.proofs.Math.ListN.{length, take, drop, set, length-drop}
use Rattle.std.proofs.Math.Seq.{take_at, drop_at, take-set-lt, length-take-le}
use Rattle.std.proofs.lemmas.List.{take-append-le, drop-append-le, set-get_or, set-append_left, take-set-le, drop-set-add}
use Rattle.words.specs.Limits.{row_width}
use Rattle.rules.proofs.Theorems.Every.{All}
use Rattle.rows.specs.Rows.{Edge, reduces_of, edge_of, rows_from, rows_of, edges_from, edges_of, row_words, edge_words}
use Rattle.rows.specs.Code.{row_at, Spells, written, put_in, cleared}
use Rattle.rows.proofs.Theorems.Fair.{reduces-length}
use Rattle.rows.proofs.Theorems.Words.{Short, row-length, row_back, last_word, edge_words-length}
use Rattle.rows.proofs.Theorems.Lookup.{row_at-length, next, rows_left_lem, rows_step, edges-many, part_of}

-- ---- the first rows, cut out

rows_short : (n : ℕ) (ws : List ℕ) → rows_from n (take (row_width * n) ws) ≡ rows_from n ws
unfolding rows_from
rows_short zero ws = refl
rows_short (suc n) ws =
    let m : 16 * suc n ≡ 16 + 16 * n = omega arith in
    rw (m, take-take 16 (16 + 16 * n) ws (omega arith), ← (part_of 16 (16 * n) ws), rows_short n (drop 16 ws))

rows_cut : (n : ℕ) (ws : List ℕ) → row_width * n ≤ length ws → rows_of (take (row_width * n) ws) ≡ rows_from n ws
rows_cut n ws h = rw (length-take-le (16 * n) ws h, mul-div_right n {m = row_width} (omega arith)) (rows_short n ws)

pub edges-cut : (n : ℕ) (ws : List ℕ) → row_width * n ≤ length ws → edges_of (take (row_width * n) ws) ≡ edges_from (rows_from n ws)
edges-cut n ws h = ap edges_from (rows_cut n ws h)

rows-first : (i n : ℕ) (ws : List ℕ) → i ≤ n → rows_from i ws ≡ take i (rows_from n ws)
unfolding rows_from
rows-first zero n ws h = refl
rows-first (suc i) zero ws h = absurd (not-suc-le-zero h)
rows-first (suc i) (suc n) ws h = rw (rows-first i n (drop 16 ws) (le_of_suc-le-suc h))

rows_append : (n m : ℕ) (us vs : List ℕ) → length us ≡ row_width * n → rows_from (n + m) (us ++ vs) ≡ rows_from n us ++ rows_from m vs
unfolding rows_from
rows_append zero m [] vs h = rw zero-add
rows_append zero m (u ∷ us) vs h = absurd (omega (arith, h))
rows_append (suc n) m us vs h =
    rw (suc-add, take-append-le 16 us vs (omega arith), drop-append-le 16 us vs (omega arith), rows_append n m (drop 16 us) vs (simp length-drop (omega arith)))

-- ---- a row that is put in

module _ {A : Type 0} (P : A → Type 0) where
  -- one more of a list, before number i
  all-put : (i : ℕ) (x : A) (xs : List A) → All P xs → P x → All P (take i xs ++ x ∷ drop i xs)
  all-put zero x xs a p = (p, a)
  all-put (suc i) x [] a p = (p, tt)
  all-put (suc i) x (y ∷ xs) a p = (a.0, all-put i x xs a.1 p)

  pub all_drop : (n : ℕ) (xs : List A) → All P xs → All P (drop n xs)
  all_drop zero xs a = a
  all_drop (suc n) [] a = a
  all_drop (suc n) (x ∷ xs) a = all_drop n xs a.1

edges-put : (i : ℕ) (row : List ℕ) (rows : List (List ℕ)) → edges_from (take i rows ++ row ∷ drop i rows) ≡ take i (edges_from rows) ++ edge_of row ∷ drop i (edges_from rows)
unfolding edges_from
edges-put zero row rows = refl
edges-put (suc i) row [] = refl
edges-put (suc i) row (r ∷ rows) = rw (edges-put i row rows)

-- a row as it is written
pub written_last : (e : Edge) → get_or (row_words e) 15 0 ≡ 0
unfolding row_words
written_last e = last_word 5 e.reduces

written-spells : (e : Edge) → Short e → Spells (row_words e)
written-spells e h =
    ap row_words (row_back e h) ∙ sym (rw (written_last e) at (set-get_or (row_words e) 15 0))

pub written-length : (ws : List ℕ) (i : ℕ) (e : Edge) → i < length ws / row_width → length (written ws i e) ≡ length ws
written-length ws i e h = simp (length-append, length-drop) (omega (arith, length-take-le (16 * i) ws (omega arith), row-length e))

-- of the first n rows, one is put in before number i
module _ (ws : List ℕ) (i n : ℕ) (e : Edge) (h : i ≤ n) (l : n < length ws / row_width) where
  pub put-in-length : length (put_in ws i n e) ≡ length ws
  put-in-length = simp (length-append, length-drop) (omega (arith, length-take-le (16 * i) ws (omega arith), row-length e, length-take-le (16 * n) ws (omega arith)))

  pub put-in-rows : rows_from (n + 1) (put_in ws i n e) ≡ take i (rows_from n ws) ++ row_words e ∷ drop i (rows_from n ws)
  unfolding rows_from
  put-in-rows =
      let mid = drop (16 * i) (take (16 * n) ws) in
      let rest = drop (16 * n + 16) ws in
      let many : 16 * i + 16 * (n - i) ≡ 16 * n = omega arith in
      let is : take (16 * (n - i)) (drop (16 * i) ws) ≡ mid = part_of (16 * i) (16 * (n - i)) ws ∙ rw many in
      let long : length mid ≡ 16 * (n - i) = simp length-drop (omega (arith, length-take-le (16 * n) ws (omega arith))) in
      let after : rows_from (n - i) (mid ++ rest) ≡ drop i (rows_from n ws) =
      sym (rows_short (n - i) (mid ++ rest)) ∙ rw (take_at mid rest (16 * (n - i)) long, ← is) (rows_short (n - i) (drop (16 * i) ws) ∙ sym (rows_left_lem n i ws)) in
      let before : rows_from i (take (16 * i) ws) ≡ take i (rows_from n ws) = rows_short i ws ∙ rows-first i n ws h in
      let one : n + 1 ≡ i + suc (n - i) = omega arith in
      rw one (rows_append i (suc (n - i)) (take (16 * i) ws) (row_words e ++ (mid ++ rest)) (length-take-le (16 * i) ws (omega arith))
      ∙ rw (before, take_at (row_words e) (mid ++ rest) 16 (row-length e), drop_at (row_words e) (mid ++ rest) 16 (row-length e), after))

  pub put-in-all : (P : List ℕ → Type 0) → All P (rows_from n ws) → P (row_words e) → All P (rows_from (n + 1) (put_in ws i n e))
  put-in-all P a p = rw put-in-rows (all-put P i (row_words e) (rows_from n ws) a p)

  module _ (s : Short e) where
    pub put-in-edges : let es = edges_of (take (row_width * n) ws) in edges_of (take (row_width * (n + 1)) (put_in ws i n e)) ≡ take i es ++ e ∷ drop i es
    put-in-edges =
        edges-cut (n + 1) (put_in ws i n e) (omega (arith, put-in-length))
        ∙ rw (put-in-rows, edges-cut n ws (omega arith)) (edges-put i (row_words e) (rows_from n ws) ∙ rw (row_back e s))

    pub put-in-spells : All Spells (rows_from n ws) → All Spells (rows_from (n + 1) (put_in ws i n e))
    put-in-spells a = put-in-all Spells a (written-spells e s)

-- ---- the last words, cleared

edges-append : (rows more : List (List ℕ)) → edges_from (rows ++ more) ≡ edges_from rows ++ edges_from more
unfolding edges_from
edges-append [] more = refl
edges-append (row ∷ rows) more = rw (edges-append rows more)

edge_words-append : (es fs : List Edge) → edge_words (es ++ fs) ≡ edge_words es ++ edge_words fs
unfolding edge_words
edge_words-append [] fs = refl
edge_words-append (e ∷ es) fs = rw (edge_words-append es fs) (sym (append_assoc (row_words e) (edge_words es) (edge_words fs)))

set_past : (xs ys : List ℕ) (m j w : ℕ) → length xs ≡ m → set (xs ++ ys) (m + j) w ≡ xs ++ set ys j w
set_past xs ys m j w h =
    let l = xs ++ ys in
    sym (take-append-drop m (set l (m + j) w)) ∙ rw (take-set-le m l (m + j) w (omega arith), drop-set-add m l j w, take_at xs ys m h, drop_at xs ys m h)

module _ (ws : List ℕ) where
  front_length : (n : ℕ) → length (edge_words (edges_from (rows_from n ws))) ≡ row_width * n
  front_length n = edge_words-length (edges_from (rows_from n ws)) ∙ rw (edges-many n ws)

  -- then they are as their edges are written
  pub cleared-front : (n : ℕ) → take (row_width * n) (cleared ws n) ≡ edge_words (edges_from (rows_from n ws))
  cleared-front n = take_at (edge_words (edges_from (rows_from n ws))) (drop (16 * n) ws) (16 * n) (front_length n)

  pub cleared-none : ws ≡ cleared ws 0
  unfolding rows_from edges_from edge_words
  cleared-none = refl

  pub cleared_more : (n i : ℕ) → n ≤ length ws / row_width → i < n → All Spells (rows_from n ws) → set (cleared ws i) (row_width * i + 15) 0 ≡ cleared ws (i + 1)
  unfolding rows_from edges_from edge_words
  cleared_more n i l h a =
      let row = row_at ws i in
      let rest = drop (16 * (i + 1)) ws in
      let front = edge_words (edges_from (rows_from i ws)) in
      let spells : Spells row = (rw (rows_left_lem n i ws, rows_step ws n i h) at (all_drop Spells i (rows_from n ws) a)).0 in
      let split : drop (16 * i) ws ≡ row ++ rest = sym (take-append-drop 16 (drop (16 * i) ws)) ∙ rw (next ws i) in
      let done : set (cleared ws i) (16 * i + 15) 0 ≡ front ++ (row_words (edge_of row) ++ rest) =
      set_past front (drop (16 * i) ws) (16 * i) 15 0 (front_length i)
      ∙ ap (λ (u : List ℕ). front ++ set u 15 0) split
      ∙ rw (set-append_left row rest 15 0 (omega (arith, row_at-length ws i (omega arith))), ← spells) in
      let more : rows_from (i + 1) ws ≡ rows_from i ws ++ row ∷ [] =
      rw (take-append-drop (16 * i) ws) at (rows_append i 1 (take (16 * i) ws) (drop (16 * i) ws) (length-take-le (16 * i) ws (omega arith))) ∙ rw (rows_short i ws) in
      done ∙ rw (more, edges-append (rows_from i ws) (row ∷ []), edge_words-append (edges_from (rows_from i ws)) (edge_of row ∷ []), append-nil (row_words (edge_of row)), append_assoc)

-- ---- a last word, written

-- no reduce is read from there
reduces-unread : (n m w : ℕ) (ws : List ℕ) → n ≤ m → reduces_of n (set ws (2 * m) w) ≡ reduces_of n ws
unfolding reduces_of
reduces-unread zero m w ws h = refl
reduces-unread (suc n) zero w ws h = absurd (not-suc-le-zero h)
reduces-unread (suc n) (suc m) w ws h =
    let two : 2 * suc m ≡ 2 + 2 * m = omega arith in
    rw (
      two,
      get_or-set_other ws (2 + 2 * m) 0 w 0 (λ e. omega arith),
      get_or-set_other ws (2 + 2 * m) 1 w 0 (λ e. omega arith),
      drop-set-add 2 ws (2 * m) w,
      reduces-unread n m w (drop 2 ws) (le_of_suc-le-suc h),
    )

edge-unread : (row : List ℕ) (w : ℕ) → Short (edge_of row) → edge_of (set row 15 w) ≡ edge_of row
unfolding edge_of
edge-unread row w h =
    let few : get_or row 4 0 ≤ 5 = omega (arith, h, reduces-length (get_or row 4 0) (drop 5 row)) in
    rw (
      get_or-set_other row 15 0 w 0 (λ e. omega arith),
      get_or-set_other row 15 1 w 0 (λ e. omega arith),
      get_or-set_other row 15 2 w 0 (λ e. omega arith),
      get_or-set_other row 15 3 w 0 (λ e. omega arith),
      get_or-set_other row 15 4 w 0 (λ e. omega arith),
      drop-set-add 5 row 10 w,
      reduces-unread (get_or row 4 0) 5 w (drop 5 row) few,
    )

pub set-row : (n i j w : ℕ) (ws : List ℕ) → j < row_width → i < n → rows_from n (set ws (row_width * i + j) w) ≡ set (rows_from n ws) i (set (row_at ws i) j w)
unfolding rows_from
set-row zero i j w ws l h = absurd (not-suc-le-zero h)
set-row (suc n) zero j w ws l h =
    let z : 16 * 0 + j ≡ j = omega arith in
    rw (z, take-set-lt 16 ws j w l, drop-set-lt 16 ws j w l)
set-row (suc n) (suc i) j w ws l h =
    let m : 16 * suc i + j ≡ 16 + (16 * i + j) = omega arith in
    let k : 16 * suc i ≡ 16 + 16 * i = omega arith in
    rw (
      m,
      take-set-le 16 ws (16 + (16 * i + j)) w (omega arith),
      drop-set-add 16 ws (16 * i + j) w,
      set-row n i j w (drop 16 ws) l (le_of_suc-le-suc h),
      k,
      drop-drop (16 * i) 16 ws,
    )

module _ (row : List ℕ) where
  set_all : (P : List ℕ → Type 0) (i : ℕ) (rows : List (List ℕ)) → All P rows → P row → All P (set rows i row)
  set_all P i [] a p = tt
  set_all P zero (r ∷ rows) a p = (p, a.1)
  set_all P (suc i) (r ∷ rows) a p = (a.0, set_all P i rows a.1 p)

  set-edges : (i : ℕ) (rows : List (List ℕ)) → edge_of row ≡ edge_of (get_or rows i []) → edges_from (set rows i row) ≡ edges_from rows
  unfolding edges_from
  set-edges i [] e = refl
  set-edges zero (r ∷ rows) e = rw e
  set-edges (suc i) (r ∷ rows) e = rw (set-edges i rows e)

pub row_number : (ws : List ℕ) (n i : ℕ) → i < n → get_or (rows_from n ws) i [] ≡ row_at ws i
row_number ws n i h =
    let z : i + 0 ≡ i = omega arith in
    rw z at (sym (get_or-drop i (rows_from n ws) 0 [])) ∙ ap (λ (rs : List (List ℕ)). get_or rs 0 []) (rows_left_lem n i ws ∙ rows_step ws n i h)

-- a fact of every row, if the one that is written has it
pub last-all : (ws : List ℕ) (n i w : ℕ) → i < n → (P : List ℕ → Type 0) → All P (rows_from n ws) → P (set (row_at ws i) 15 w) → All P (rows_from n (set ws (row_width * i + 15) w))
last-all ws n i w h P a p = rw (set-row n i 15 w ws (omega arith) h) (set_all (set (row_at ws i) 15 w) P i (rows_from n ws) a p)

-- the edges stay, and what the rows spell: a growing table may keep anything there
module _ (ws : List ℕ) (n i w : ℕ) (h : i < n) (s : Short (edge_of (row_at ws i))) where
  pub last-edges : edges_from (rows_from n (set ws (row_width * i + 15) w)) ≡ edges_from (rows_from n ws)
  last-edges =
      rw (set-row n i 15 w ws (omega arith) h)
      (set-edges (set (row_at ws i) 15 w) i (rows_from n ws) (edge-unread (row_at ws i) w s ∙ ap edge_of (sym (row_number ws n i h))))

  pub last-spells : All Spells (rows_from n ws) → All Spells (rows_from n (set ws (row_width * i + 15) w))
  last-spells a =
      let here : Spells (row_at ws i) = (rw (rows_left_lem n i ws, rows_step ws n i h) at (all_drop Spells i (rows_from n ws) a)).0 in
      let still : Spells (set (row_at ws i) 15 w) = ap row_words (edge-unread (row_at ws i) w s) ∙ here ∙ sym (set-set (row_at ws i) 15 w 0) in
      last-all ws n i w h Spells a still
