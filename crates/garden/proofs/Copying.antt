-- Laws of copying a node's rows.
use mathlib.Core.Path.{◌≡◌, refl, sym, ap, ◌∙◌}
use mathlib.Core.Bool.{Bool, true, false, false≢true}
use mathlib.Core.List.{List, [], ◌∷◌, ◌++◌}
use mathlib.Core.Option.{none}
use Prim.Native.Nat.{ℕ, zero, suc, ◌+◌, ◌*◌, ◌-◌, ◌/◌, ◌≤◌, ◌<◌}
use native.Mathlib.Omega.{arith}
use lib.Dec.{ltb}
use lib.ListN.{length, get_or, take, drop, set, drop_of_length-le}
use lib.Seq.{length-take-le, drop-drop, set_at, get_or-set_same}
use borrow.Author.Tests.{le-ltb, eq-eqb}
use Rattle.words.specs.Limits.{row_width}
use Rattle.words.specs.Outcome.{Res, ok, no, bind}
use Rattle.words.specs.Numbers.{Fault}
use Rattle.words.specs.declared.NodeNo.{NodeNo}
use Rattle.rows.specs.Rows.{Reduce, Edge, edge_of, rows_from, edges_from, row_words, find, leaving}
use Rattle.rows.specs.Code.{reduces_are, edge_is, Holds, row_at, put_in, place_of}
use Rattle.rows.specs.declared.Edge as held
use Rattle.rows.specs.declared.reduce_list.Reduces.{Reduces}
use Rattle.rows.proofs.Theorems.Lookup.{rows_left_lem, row_at-length, rows_step, rows_end, edges-many}
use Rattle.rows.proofs.Theorems.Order.{place-within}
use Rattle.rows.proofs.Theorems.Put.{edges-cut, row_number, set-row, put-in-length, put-in-rows}
use Rattle.rows.proofs.Laws.{word_at}
use Rattle.tree.specs.Grow.{Grown, add_edge}
use Rattle.tree.specs.Code.{Grew, room_of, fault_of, edges_in, grown_of, grew_of, Rising, Looks, Rowed, StillRowed, Rows, Puts}
use Rattle.tree.specs.declared.Counts.{Counts}
use Rattle.tree.specs.declared.Room as lent
use Rattle.tree.specs.declared.Fault as why
use Rattle.std.specs.Prelude.{Option, Some, None, is_some, Ok, Err}
use Rattle.tree.proofs.Laws.{place_inside, row-marked, on_then, refused-then}
use Rattle.garden.specs.Garden.{standing, raised_on, extend, copy_with, copy_rows, clone_with_reduce_vec}
use Rattle.garden.specs.Code.{older, stood_from, rest_from, NextAt, Kept, Keeps}
use Rattle.garden.proofs.Theorems.Standing.{older-put, older-all, older-older, stood-older, stood-all, stood-length, stood-start, stood-past}

-- ---- the words of a row

pub from-word : (ws : List ℕ) (i : ℕ) → (edge_of (row_at ws i)).from ≡ get_or ws (16 * i) 0
unfolding edge_of
from-word ws i = let z : 16 * i + 0 ≡ 16 * i = omega arith in rw z at (word_at ws (16 * i) 0 (omega arith))

pub age-word : (ws : List ℕ) (i : ℕ) → get_or (row_at ws i) 15 0 ≡ get_or ws (16 * i + 15) 0
age-word ws i = word_at ws (16 * i) 15 (omega arith)

-- ---- the next row of a node that stood

-- the search stands at a row, and so many of the node's rows that stood are still to be passed
pub record Seeking (count : ℕ) (es : List ℕ) (n k p at left : ℕ) : Type 0 where
  pub within : at ≤ count
  pub begun : place_of n 0 0 (edges_in count es) ≤ at
  pub low : p ≤ at + left
  pub same : drop left (stood_from n k (drop at (rows_from count es))) ≡ rest_from n k p (rows_from count es)

module _ (c : Counts) (es : List ℕ) (o : Rising c es) (n k p : ℕ) where
  edges_are : edges_in c.edges es ≡ edges_from (rows_from c.edges es)
  unfolding edges_in
  edges_are = edges-cut c.edges es o.fits

  pub seek-start : (at : ℕ) → at ≡ place_of n 0 0 (edges_in c.edges es) → Seeking c.edges es n k p at p
  seek-start at q =
      let many : length (edges_in c.edges es) ≡ c.edges = rw edges_are (edges-many c.edges es) in
      let all : stood_from n k (drop at (rows_from c.edges es)) ≡ stood_from n k (rows_from c.edges es) = rw (q, edges_are) (stood-start n k (rows_from c.edges es)) in
      record {
        within = omega (arith, q, many, place-within n 0 0 (edges_in c.edges es));
        begun = omega (arith, q);
        low = omega arith;
        same = ap (λ (l : List Edge). drop p l) all;
      }

  module _ (at left : ℕ) (l : Seeking c.edges es n k p at left) where
    pub seek-end : c.edges ≤ at → rest_from n k p (rows_from c.edges es) ≡ []
    unfolding stood_from
    seek-end h =
        let none : drop at (rows_from c.edges es) ≡ [] = rows_left_lem c.edges at es ∙ rows_end es c.edges at h in
        sym l.same ∙ rw none (drop_of_length-le [] {i = left} (omega arith))

    module _ (h : at < c.edges) where
      next-rows : drop at (rows_from c.edges es) ≡ row_at es at ∷ drop (at + 1) (rows_from c.edges es)
      next-rows = rows_left_lem c.edges at es ∙ rows_step es c.edges at h ∙ ap (λ (rows : List (List ℕ)). row_at es at ∷ rows) (sym (rows_left_lem c.edges (at + 1) es))

      -- another node's row ends them
      pub seek-other : ((edge_of (row_at es at)).from ≡ n → ⊥) → rest_from n k p (rows_from c.edges es) ≡ []
      seek-other f =
          let none : stood_from n k (drop at (rows_from c.edges es)) ≡ [] =
          stood-past n k at (rows_from c.edges es) (rw edges_are at o.order) (rw edges_are at l.begun) (rw (row_number es c.edges at h) f) in
          sym l.same ∙ rw none (drop_of_length-le [] {i = left} (omega arith))

      module _ (f : (edge_of (row_at es at)).from ≡ n) where
        abbrev rest : List Edge
        rest = stood_from n k (drop (at + 1) (rows_from c.edges es))

        here : ltb (get_or (row_at es at) 15 0) k ≡ true → stood_from n k (drop at (rows_from c.edges es)) ≡ edge_of (row_at es at) ∷ rest
        unfolding stood_from
        here a = rw (next-rows, a, eq-eqb (edge_of (row_at es at)).from n f)

        young : ltb (get_or (row_at es at) 15 0) k ≡ false → stood_from n k (drop at (rows_from c.edges es)) ≡ rest
        unfolding stood_from
        young a = rw (next-rows, a)

        module _ (b : Bool) (q : b ≡ ltb (get_or (row_at es at) 15 0) k) where
          module _ (t : b ≡ true) where
            old : ltb (get_or (row_at es at) 15 0) k ≡ true
            old = sym q ∙ t

            pub seek_found : left ≡ 0 → NextAt c n k p es at
            seek_found z =
                let now : rest_from n k p (rows_from c.edges es) ≡ edge_of (row_at es at) ∷ rest = sym l.same ∙ rw z (here old) in
                let later : rest_from n k (p + 1) (rows_from c.edges es) ≡ rest =
                sym (drop-drop 1 p (stood_from n k (rows_from c.edges es))) ∙ ap (λ (l : List Edge). drop 1 l) now in
                record { after = omega (arith, l.low); within = h; rows = now ∙ ap (λ (l : List Edge). edge_of (row_at es at) ∷ l) (sym later) }

            pub seek-more : (left ≡ 0 → ⊥) → Seeking c.edges es n k p (at + 1) (left - 1)
            seek-more f =
                let z : left ≡ suc (left - 1) = omega arith in
                let now : drop (suc (left - 1)) (edge_of (row_at es at) ∷ rest) ≡ rest_from n k p (rows_from c.edges es) = rw (here old, z) at l.same in
                record { within = omega arith; begun = omega (arith, l.begun); low = omega (arith, l.low); same = now }

          pub seek-young : b ≡ false → Seeking c.edges es n k p (at + 1) left
          seek-young t = record { within = omega arith; begun = omega (arith, l.begun); low = omega (arith, l.low); same = rw (← young (sym q ∙ t)) l.same }

-- ---- the rows that stood stay

rows-length : (n : ℕ) (ws : List ℕ) → length (rows_from n ws) ≡ n
unfolding rows_from
rows-length zero ws = refl
rows-length (suc n) ws = ap suc (rows-length n (drop 16 ws))

pub kept_same : (z : lent.Room) (c : Counts) (es : List ℕ) → Rowed z c es → Kept c es c es
kept_same z c es r = record { nodes = omega arith; edges = omega arith; stood = older-all c.edges (rows_from c.edges es) r.aged }

module _ (c : Counts) (es : List ℕ) (d : Counts) (es' : List ℕ) (x : Kept c es d es') where
  pub kept_then : (b : Counts) (es'' : List ℕ) → Kept d es' b es'' → Kept c es b es''
  kept_then b es'' y = record {
    nodes = omega (arith, x.nodes, y.nodes);
    edges = omega (arith, x.edges, y.edges);
    stood = sym (older-older c.edges d.edges (rows_from b.edges es'') x.edges) ∙ ap (λ (rows : List (List ℕ)). older c.edges rows) y.stood ∙ x.stood;
  }

  -- those of one node
  pub stood-kept : (n k p : ℕ) → k ≤ c.edges → rest_from n k p (rows_from d.edges es') ≡ rest_from n k p (rows_from c.edges es)
  stood-kept n k p h = ap (λ (l : List Edge). drop p l)
      (sym (stood-older n k c.edges (rows_from d.edges es') h) ∙ ap (λ (rows : List (List ℕ)). stood_from n k rows) x.stood)

-- when a copy begins they are all that stand
pub rest_all : (z : lent.Room) (c : Counts) (es : List ℕ) → Rowed z c es → (n : ℕ) → stood_from n c.edges (rows_from c.edges es) ≡ standing n (edges_in c.edges es)
unfolding standing edges_in
rest_all z c es r n =
    stood-all n c.edges (rows_from c.edges es) r.aged ∙ ap (λ (l : List Edge). leaving n l) (sym (edges-cut c.edges es (omega (arith, r.within, r.fits))))

-- ---- a row that is put in with its age

row_put : (z : lent.Room) (c : Counts) (es : List ℕ) → Rowed z c es → (e : Edge) (p : ℕ) → p ≤ c.edges → c.edges < length es / row_width
    → older c.edges (rows_from (c.edges + 1) (set (put_in es p c.edges e) (row_width * p + 15) c.edges)) ≡ rows_from c.edges es
row_put z c es r e p i room =
    let n = c.edges in
    let rows = rows_from n es in
    let es' = put_in es p n e in
    let row = set (row_at es' p) 15 n in
    let long : length (row_at es' p) ≡ 16 = row_at-length es' p (omega (arith, put-in-length es p n e i room)) in
    let front : length (take p rows) ≡ p = length-take-le p rows (omega (arith, rows-length n es)) in
    let is : rows_from (n + 1) (set es' (16 * p + 15) n) ≡ take p rows ++ row ∷ drop p rows =
    set-row (n + 1) p 15 n es' (omega arith) (omega arith) ∙ rw (put-in-rows es p n e i room) (set_at (take p rows) (row_words e) (drop p rows) row p front) in
    let age : ltb (get_or row 15 0) n ≡ false = rw (get_or-set_same (row_at es' p) 15 n 0 (omega (arith, long))) (le-ltb n n (omega arith)) in
    rw is (older-put n p row rows age) ∙ older-all n rows r.aged

module _ (z : lent.Room) (c : Counts) (es : List ℕ) (r : Rowed z c es) (e : held.Edge) (g : Grew) (es₁ : List ℕ)
    (w : (ns : List ℕ) → Rows z c (add_edge (room_of z) (grown_of c ns es) (edge_is e)) g ns es₁) where
  pub put_refused : (y : why.Fault) → g ≡ Err y → (ns : List ℕ) → Rows z c (add_edge (room_of z) (grown_of c ns es) (edge_is e)) (Err y) ns es₁
  put_refused y h ns = record { answer = rw h at (w ns).answer; rowed = tt }

  module _ (q : Puts c (edge_is e) es g es₁) (d : Counts) (h : g ≡ Ok d) (p : ℕ) (at : p ≡ place_of e.key.from.0 e.key.kind e.key.symbol.0 (edges_in c.edges es)) where
    put_on : Puts c (edge_is e) es (Ok d) es₁
    put_on = rw h at q

    put-rowed : StillRowed z c.nodes (Ok d) es₁
    put-rowed = rw h at (w []).rowed

    one_more : d.edges ≡ c.edges + 1
    one_more = ap (λ (c : Counts). c.edges) put_on.0

    place_in : p ≤ c.edges
    place_in = omega (arith, at, place_inside z c es r e.key.from.0 e.key.kind e.key.symbol.0)

    -- its last word can be written
    pub can-mark : p < length es₁ / row_width
    can-mark = omega (arith, place_in, one_more, put-rowed.0.within, put-rowed.0.fits)

    pub row-aged : (ns : List ℕ) → Rows z c (add_edge (room_of z) (grown_of c ns es) (edge_is e)) (Ok d) ns (set es₁ (row_width * p + 15) c.edges)
    row-aged ns =
        let m = row-marked z d es₁ p c.edges put-rowed.0 (omega (arith, place_in, one_more)) (omega (arith, one_more)) in
        record { answer = rw m.0 (rw h at (w ns).answer); rowed = (m.1, put-rowed.1) }

    pub row_keeps : Kept c es d (set es₁ (row_width * p + 15) c.edges)
    row_keeps = record {
      nodes = omega (arith, put-rowed.1);
      edges = omega (arith, one_more);
      stood = rw (one_more, put_on.1, ← at) (row_put z c es r (edge_is e) p place_in (omega (arith, one_more, put-rowed.0.within, r.fits)));
    }

-- ---- one row

module _ (z : lent.Room) (c : Counts) (ns es : List ℕ) (r : Rowed z c es) (m : NodeNo) (list : Reduces) (e : held.Edge) where
  abbrev copied : Res Fault Grown
  copied = copy_with (room_of z) m.0 (reduces_are list) (grown_of c ns es) (edge_is e) (find (edges_in c.edges es) m.0 e.key.kind e.key.symbol.0)

  pub copy-kept : (o : Option ℕ) → Looks c es m.0 e.key.kind e.key.symbol.0 o → is_some o ≡ true → Rows z c copied (Ok c) ns es
  unfolding copy_with
  copy-kept (Some i) h t = record { answer = rw h.finds; rowed = (r, refl) }
  copy-kept None h t = absurd (false≢true t)

  module _ (f : find (edges_in c.edges es) m.0 e.key.kind e.key.symbol.0 ≡ none) where
    pub copy-far : (y : why.Fault) → raised_on e.key.kind (reduces_are list) ≡ no (fault_of y) → Rows z c copied (Err y) ns es
    unfolding copy_with bind
    copy-far y h = record { answer = rw (f, h); rowed = tt }

    module _ (more : Reduces) (t : raised_on e.key.kind (reduces_are list) ≡ ok (reduces_are more)) where
      pub copy-sixth : (y : why.Fault) → extend (reduces_are e.reduces) (reduces_are more) ≡ no (fault_of y) → Rows z c copied (Err y) ns es
      unfolding copy_with bind
      copy-sixth y h = record { answer = rw (f, t, h); rowed = tt }

      pub copy-added : (ds : Reduces) → extend (reduces_are e.reduces) (reduces_are more) ≡ ok (reduces_are ds) → (x : Grew) (es' : List ℕ)
          → Rows z c (add_edge (room_of z) (grown_of c ns es) (record { from = m.0; kind = e.key.kind; sym = e.key.symbol.0; to = e.to.0; reduces = reduces_are ds })) x ns es'
          → Rows z c copied x ns es'
      unfolding copy_with bind
      copy-added ds h x es' k = record { answer = rw (f, t, h) k.answer; rowed = k.rowed }

-- ---- all rows

-- so many of the rows that stood when it began are copied
pub record Copying (z : lent.Room) (n m : ℕ) (ds : List Reduce) (c₀ : Counts) (es₀ : List ℕ) (c : Counts) (es : List ℕ) (p : ℕ) : Type 0 where
  pub rowed : Rowed z c es
  pub nodes-kept : c.nodes ≡ c₀.nodes
  pub kept : length es ≡ length es₀
  pub stood : Kept c₀ es₀ c es
  pub same : (ns : List ℕ) → copy_rows (room_of z) m ds (rest_from n c₀.edges p (rows_from c.edges es)) (grown_of c ns es)
      ≡ clone_with_reduce_vec (room_of z) n m ds (grown_of c₀ ns es₀)

pub copying-start : (z : lent.Room) (n m : ℕ) (ds : List Reduce) (c : Counts) (es : List ℕ) → Rowed z c es → Copying z n m ds c es c es 0
unfolding clone_with_reduce_vec
copying-start z n m ds c es r = record {
  rowed = r;
  nodes-kept = refl;
  kept = refl;
  stood = kept_same z c es r;
  same = λ ns. ap (λ (l : List Edge). copy_rows (room_of z) m ds l (grown_of c ns es)) (rest_all z c es r n);
}

module _ (z : lent.Room) (n m : ℕ) (ds : List Reduce) (c₀ : Counts) (es₀ : List ℕ) (c : Counts) (es : List ℕ) (p : ℕ)
    (l : Copying z n m ds c₀ es₀ c es p) where
  pub copying-none : rest_from n c₀.edges p (rows_from c.edges es) ≡ [] → (ns : List ℕ) → Rows z c₀ (clone_with_reduce_vec (room_of z) n m ds (grown_of c₀ ns es₀)) (Ok c) ns es
  unfolding copy_rows
  copying-none h ns = record { answer = rw h at (l.same ns); rowed = (l.rowed, l.nodes-kept) }

  -- no more of them than rows that stood
  pub copying-end : c₀.edges ≤ p → (ns : List ℕ) → Rows z c₀ (clone_with_reduce_vec (room_of z) n m ds (grown_of c₀ ns es₀)) (Ok c) ns es
  copying-end h =
      let k = c₀.edges in
      let same : stood_from n k (rows_from c.edges es) ≡ stood_from n k (rows_from k es₀) =
      sym (stood-older n k k (rows_from c.edges es) (omega arith)) ∙ ap (λ (rows : List (List ℕ)). stood_from n k rows) l.stood.stood in
      copying-none (rw same (drop_of_length-le (stood_from n k (rows_from k es₀)) {i = p} (omega (arith, h, stood-length n k (rows_from k es₀), rows-length k es₀))))

  module _ (i : ℕ) (a : NextAt c n c₀.edges p es i) where
    copy_step : (ns : List ℕ)
        → bind (copy_with (room_of z) m ds (grown_of c ns es) (edge_of (row_at es i)) (find (edges_in c.edges es) m (edge_of (row_at es i)).kind (edge_of (row_at es i)).sym))
        (λ g. copy_rows (room_of z) m ds (rest_from n c₀.edges (p + 1) (rows_from c.edges es)) g)
        ≡ clone_with_reduce_vec (room_of z) n m ds (grown_of c₀ ns es₀)
    unfolding copy_rows
    copy_step ns = rw a.rows at (l.same ns)

    module _ (e : held.Edge) (o : Holds e (edge_of (row_at es i))) (r : Grew) (es' : List ℕ)
        (w : (ns : List ℕ) → Rows z c (copy_with (room_of z) m ds (grown_of c ns es) (edge_is e) (find (edges_in c.edges es) m e.key.kind e.key.symbol.0)) r ns es') where
      row-answer : (ns : List ℕ)
          → grew_of r ns es' ≡ copy_with (room_of z) m ds (grown_of c ns es) (edge_of (row_at es i)) (find (edges_in c.edges es) m (edge_of (row_at es i)).kind (edge_of (row_at es i)).sym)
      row-answer ns = (w ns).answer ∙ ap (λ (e : Edge). copy_with (room_of z) m ds (grown_of c ns es) e (find (edges_in c.edges es) m e.kind e.sym)) o.says

      pub copying-more : Keeps c es r es' → (d : Counts) → r ≡ Ok d → length es' ≡ length es → Copying z n m ds c₀ es₀ d es' (p + 1)
      copying-more v d h k =
          let s : StillRowed z c.nodes (Ok d) es' = rw h at (w []).rowed in
          let x : Kept c es d es' = rw h at v in
          record {
            rowed = s.0;
            nodes-kept = s.1 ∙ l.nodes-kept;
            kept = k ∙ l.kept;
            stood = kept_then c₀ es₀ c es l.stood d es' x;
            same = λ ns. rw (stood-kept c es d es' x n c₀.edges (p + 1) l.stood.edges) (sym (on_then r ns es' _ (row-answer ns) d h _) ∙ copy_step ns);
          }

      pub copying-refused : (y : why.Fault) → r ≡ Err y → (ns : List ℕ)
          → Rows z c₀ (clone_with_reduce_vec (room_of z) n m ds (grown_of c₀ ns es₀)) (Err y) ns es'
      copying-refused y h ns = record { answer = sym (refused-then r ns es' _ (row-answer ns) y h _) ∙ copy_step ns; rowed = tt }
