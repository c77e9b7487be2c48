-- What a caller may use of the look-up, and of rows that are read by number.
use Rattle.std.specs.Prelude.{◌≡◌, refl, Bool, true, false, List, [], ◌∷◌, ℕ, zero, suc, ◌+◌, ◌*◌, ◌-◌, ◌/◌, ◌≤◌, ◌<◌, length, get_or, take, drop}
use Rattle.std.proofs.Common.{sym, ap, ◌∙◌, suc-add, zero-add, arith, length-drop, get_or-drop, drop-drop, take-take, length-take-le}
use Rattle.std.proofs.Math.Option.{Option, none, some}
use Rattle.std.proofs.Math.Nat.{sub-zero}
use Rattle.std.proofs.Math.Seq.{take-nil}
use Rattle.words.specs.Limits.{row_width}
use Rattle.words.specs.Outcome.{pick}
use Rattle.rows.specs.Rows.{Edge, edge_of, rows_from, edges_from, edges_of, keyed, find}
use Rattle.rows.specs.Code.{row_at, numbered, looks_up}
use Rattle.std.specs.Prelude.{Option as Answer, Some, None}

-- ---- rows by number

pub row_at-length : (ws : List ℕ) (i : ℕ) → i < length ws / row_width → length (row_at ws i) ≡ row_width
row_at-length ws i h = length-take-le 16 (drop (16 * i) ws) (simp length-drop (omega arith))

-- the rows of a table of n rows that are left at row i
abbrev pub rows_left : List ℕ → ℕ → ℕ → List (List ℕ)
rows_left ws n i = rows_from (n - i) (drop (row_width * i) ws)

pub next : (ws : List ℕ) (i : ℕ) → drop row_width (drop (row_width * i) ws) ≡ drop (row_width * (i + 1)) ws
next ws i = let e : 16 * i + 16 ≡ 16 * (i + 1) = omega arith in rw (drop-drop 16 (16 * i) ws, e)

pub rows_step : (ws : List ℕ) (n i : ℕ) → i < n → rows_left ws n i ≡ row_at ws i ∷ rows_left ws n (i + 1)
unfolding rows_from
rows_step ws n i h = let e : n - i ≡ suc (n - (i + 1)) = omega arith in rw (e, next ws i)

pub rows_end : (ws : List ℕ) (n i : ℕ) → n ≤ i → rows_left ws n i ≡ []
unfolding rows_from
rows_end ws n i h = let e : n - i ≡ 0 = omega arith in rw e

pub edges-many : (n : ℕ) (ws : List ℕ) → length (edges_from (rows_from n ws)) ≡ n
unfolding edges_from rows_from
edges-many zero ws = refl
edges-many (suc n) ws = ap suc (edges-many n (drop row_width ws))

pub edges-count : (ws : List ℕ) → length (edges_of ws) ≡ length ws / row_width
edges-count ws = edges-many (length ws / row_width) ws

-- the rows from number i on, and their edges
pub rows_left_lem : (n i : ℕ) (ws : List ℕ) → drop i (rows_from n ws) ≡ rows_left ws n i
unfolding rows_from
rows_left_lem n zero ws = rw sub-zero
rows_left_lem zero (suc i) ws = let e : 0 - suc i ≡ 0 = omega arith in rw e
rows_left_lem (suc n) (suc i) ws =
    let e : suc n - suc i ≡ n - i = omega arith in
    let m : 16 * suc i ≡ 16 + 16 * i = omega arith in
    rw (e, m, ← (drop-drop (16 * i) 16 ws)) (rows_left_lem n i (drop 16 ws))

edges-dropped : (i : ℕ) (rows : List (List ℕ)) → drop i (edges_from rows) ≡ edges_from (drop i rows)
unfolding edges_from
edges-dropped zero rows = refl
edges-dropped (suc i) [] = refl
edges-dropped (suc i) (row ∷ rows) = edges-dropped i rows

pub edges-left : (n i : ℕ) (ws : List ℕ) → drop i (edges_from (rows_from n ws)) ≡ edges_from (rows_left ws n i)
edges-left n i ws = edges-dropped i (rows_from n ws) ∙ ap edges_from (rows_left_lem n i ws)

pub edges_step : (ws : List ℕ) (i : ℕ) → i < length ws / row_width → drop i (edges_of ws) ≡ edge_of (row_at ws i) ∷ drop (i + 1) (edges_of ws)
unfolding edges_from
edges_step ws i h =
    let n = length ws / row_width in
    edges-left n i ws ∙ rw (rows_step ws n i h, edges-left n (i + 1) ws)

pub edge_at : (ws : List ℕ) (i : ℕ) (d : Edge) → i < length ws / row_width → get_or (edges_of ws) i d ≡ edge_of (row_at ws i)
edge_at ws i d h =
    let z : i + 0 ≡ i = omega arith in
    rw z at (sym (get_or-drop i (edges_of ws) 0 d)) ∙ ap (λ (es : List Edge). get_or es 0 d) (edges_step ws i h)

pub part_of : (a b : ℕ) (ws : List ℕ) → take b (drop a ws) ≡ drop a (take (a + b) ws)
part_of zero b ws = rw zero-add
part_of (suc a) b [] = take-nil b ∙ sym (ap (λ (us : List ℕ). drop (suc a) us) (take-nil (suc a + b)))
part_of (suc a) b (w ∷ ws) = rw suc-add (part_of a b ws)

-- rows before row n are of the first n rows' words
pub same_rows : (vs ws : List ℕ) (n i : ℕ) → take (row_width * n) vs ≡ take (row_width * n) ws → i < n → row_at vs i ≡ row_at ws i
same_rows vs ws n i e h =
    let l : 16 * i + 16 ≤ 16 * n = omega arith in
    part_of (16 * i) 16 vs
    ∙ ap (λ (us : List ℕ). drop (16 * i) us) (sym (take-take (16 * i + 16) (16 * n) vs l) ∙ rw e (take-take (16 * i + 16) (16 * n) ws l))
    ∙ sym (part_of (16 * i) 16 ws)

pub row_within : (ws : List ℕ) (n i : ℕ) → i < n → row_at (take (row_width * n) ws) i ≡ row_at ws i
row_within ws n i h = same_rows (take (row_width * n) ws) ws n i (take-take (16 * n) (16 * n) ws (omega arith)) h

-- ---- what `look_up` gives back

-- the number of a row, and the edge there
pub record Stands (ws : List ℕ) (n k s i : ℕ) : Type 0 where
  pub within : i < length ws / row_width
  pub finds : find (edges_of ws) n k s ≡ some (edge_of (row_at ws i))

-- the number that a search of these edges gives, counted from r
numbered-row : (n k s i : ℕ) (es : List Edge) (r : ℕ) (d : Edge) → numbered n k s r es ≡ Some i
    → (r ≤ i) × (i < r + length es) × (find es n k s ≡ some (get_or es (i - r) d))
unfolding numbered find
numbered-row n k s i [] r d h = absurd (let z : ◌≡◌ {A = ℕ} 0 1 = cc in omega arith)
numbered-row n k s i (e ∷ es) r d h = go (keyed n k s e) (numbered-row n k s i es (r + 1) d) h
  where
    go : (b : Bool) → (numbered n k s (r + 1) es ≡ Some i → (r + 1 ≤ i) × (i < r + 1 + length es) × (find es n k s ≡ some (get_or es (i - (r + 1)) d)))
        → pick b (Some r) (numbered n k s (r + 1) es) ≡ Some i
        → (r ≤ i) × (i < r + suc (length es)) × (elim b [ true ↦ some e | false ↦ find es n k s ] ≡ some (get_or (e ∷ es) (i - r) d))
    go true f h =
        let same : r ≡ i = cc in
        let z : i - r ≡ 0 = omega arith in
        (omega arith, omega arith, rw z)
    go false f h =
        let g = f h in
        let z : i - r ≡ suc (i - (r + 1)) = omega arith in
        (omega arith, omega arith, rw z g.2)

numbered-none : (n k s : ℕ) (es : List Edge) (r : ℕ) → numbered n k s r es ≡ None → find es n k s ≡ none
unfolding numbered find
numbered-none n k s [] r h = refl
numbered-none n k s (e ∷ es) r h = go (keyed n k s e) (numbered-none n k s es (r + 1)) h
  where
    go : (b : Bool) → (numbered n k s (r + 1) es ≡ None → find es n k s ≡ none) → pick b (Some r) (numbered n k s (r + 1) es) ≡ None
        → ◌≡◌ {A = Option Edge} (elim b [ true ↦ some e | false ↦ find es n k s ]) none
    go true f h = absurd (let z : ◌≡◌ {A = ℕ} 0 1 = cc in omega arith)
    go false f h = f h

module _ (ws : List ℕ) (n k s : ℕ) {r : Answer ℕ} (l : r ≡ looks_up ws n k s) where
  pub row-found : (i : ℕ) → r ≡ Some i → Stands ws n k s i
  row-found i h =
      let d : Edge = record { from = 0; kind = 0; sym = 0; to = 0; reduces = [] } in
      let g = numbered-row n k s i (edges_of ws) 0 d (sym l ∙ h) in
      let w : i < length ws / row_width = omega (arith, edges-count ws) in
      record { within = w; finds = g.2 ∙ ap some (rw sub-zero (edge_at ws i d w)) }

  pub none_found : r ≡ None → find (edges_of ws) n k s ≡ none
  none_found h = numbered-none n k s (edges_of ws) 0 (sym l ∙ h)
