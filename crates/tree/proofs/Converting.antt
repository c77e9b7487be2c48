-- Laws of converting.
use mathlib.Core.Path.{◌≡◌, refl, sym, ap, ◌∙◌}
use mathlib.Core.Bool.{Bool, true, false, false≢true, not, ◌&&◌}
use mathlib.Core.List.{List, [], ◌∷◌}
use mathlib.Core.Option.{Option as Maybe, some, none}
use mathlib.Core.Logic.{◌≢◌}
use Prim.Native.Nat.{ℕ, zero, suc, ◌+◌, ◌*◌, ◌-◌, ◌≤◌, ◌<◌}
use native.Mathlib.Numerals.{add-one}
use native.Mathlib.Omega.{arith}
use lib.Dec.{eqb, ltb}
use lib.ListN.{length, take, drop, get_or, drop_of_length-le}
use lib.Seq.{length-take-le, drop-cons}
use borrow.Author.Tests.{ne_eqb, eqb-false, not-true}
use Rattle.words.specs.Outcome.{Res, ok, bind, when}
use Rattle.words.specs.Numbers.{Fault, no_edge}
use Rattle.words.specs.declared.NodeNo.{NodeNo}
use Rattle.words.specs.declared.SymbolNo.{SymbolNo}
use Rattle.rules.specs.Rules.{rule_of, rest_of, rules_of, the_rules, good_rules, source}
use Rattle.rules.specs.Code.{some_rules, source_of}
use Rattle.rules.proofs.Theorems.Every.{chain-at}
use Rattle.words.specs.Limits.{most_rules}
use Rattle.rows.specs.Rows.{Reduce, Edge, edge_of, insert_edge, find, leaving, with_reduce}
use Rattle.rows.specs.Code.{reduces_are, edge_is, Holds, Adds, row_at, place_of}
use Rattle.rows.specs.declared.Edge as held
use Rattle.rows.specs.declared.reduce_list.Reduces.{Reduces}
use Rattle.rows.proofs.Theorems.Lookup.{edge_at, row_within}
use Rattle.rows.proofs.Theorems.Order.{place-within, Together, together}
use Rattle.rows.proofs.Theorems.Insert.{leaving-other}
use Rattle.rows.proofs.Theorems.Fair.{found}
use Rattle.tree.specs.Grow.{Grown, Room, add_edge, add_converted, offset_on, copy_row, copy_branches, apart, convert_to, convert_at, convert_nodes, convert, convert_all}
use Rattle.tree.specs.Code.{Grew, room_of, edges_in, grown_of, grew_of, Looks, FoundAt, Leads, Rowed, StillRowed, Rows, reduces_in, copy_of, convert_first}
use Rattle.tree.proofs.Theorems.Counted.{apart-is}
use Rattle.tree.specs.declared.Counts.{Counts}
use Rattle.tree.specs.declared.Room as lent
use Rattle.tree.specs.declared.Fault as why
use Rattle.tree.specs.declared.Fault.TheVariants as code
use Rattle.std.specs.Prelude.{Option, Some, None, is_some, ok_or, Result, Ok, Err}
use Rattle.tree.proofs.Laws.{rows-count, row-leads, Front, front, none-ahead, on_then, refused-then}

-- ---- the offset

pub offset-constant : (k : ℕ) → k ≡ 0 → offset_on k ≡ 0
unfolding offset_on
offset-constant k e = rw e

pub offset-variable : (k : ℕ) → (k ≡ 0 → ⊥) → offset_on k ≡ 1
unfolding offset_on
offset-variable zero d = absurd (d refl)
offset-variable (suc k) d = refl

-- ---- an edge with one reduce more

module _ (z : lent.Room) (c : Counts) (ns es : List ℕ) (n : NodeNo) (s : SymbolNo) (e : held.Edge) (a : Option Reduces) where
  abbrev with-more : Res Fault Grown
  with-more = add_converted (room_of z) (grown_of c ns es) n.0 s.0 (edge_is e) (reduces_in a)

  pub sixth-refused : (x : Result Reduces why.Fault) (y : why.Fault) → x ≡ ok_or a code.SixthReduce → x ≡ Err y → Rows z c with-more (Err y) ns es
  unfolding add_converted
  sixth-refused x y = by a
    where
      by : (a : Option Reduces) → x ≡ ok_or a code.SixthReduce → x ≡ Err y
          → Rows z c (add_converted (room_of z) (grown_of c ns es) n.0 s.0 (edge_is e) (reduces_in a)) (Err y) ns es
      by (Some ds) v h = absurd (let k : ◌≡◌ {A = ℕ} 0 1 = cc in omega arith)
      by None v h = let k : y ≡ code.SixthReduce = cc in rw k (record { answer = refl; rowed = tt })

  pub converted-added : (r : Grew) (es' : List ℕ) (ds : Reduces) → a ≡ Some ds
      → Rows z c (add_edge (room_of z) (grown_of c ns es) (record { from = n.0; kind = e.key.kind; sym = s.0; to = e.to.0; reduces = reduces_are ds })) r ns es'
      → Rows z c with-more r ns es'
  unfolding add_converted
  converted-added r es' ds h w = record { answer = rw h w.answer; rowed = w.rowed }

-- what the code adds is what the definition adds
pub added_is : (e : held.Edge) (d : Reduce) (a : Option Reduces) → Adds e.reduces d a → with_reduce d (reduces_are e.reduces) ≡ reduces_in a
added_is e d (Some r) w = w
added_is e d None w = w

-- ---- one row

module _ (z : lent.Room) (c : Counts) (ns es : List ℕ) (r : Rowed z c es) (rule m : ℕ) (e : held.Edge) where
  pub row_kept : (o : Option ℕ) → Looks c es m e.key.kind e.key.symbol.0 o → is_some o ≡ true → Rows z c (copy_of (room_of z) rule m (edge_is e) (grown_of c ns es)) (Ok c) ns es
  unfolding copy_row
  row_kept (Some i) h t = record { answer = rw h.finds; rowed = (r, refl) }
  row_kept None h t = absurd (false≢true t)

  pub row_copied : (a : Option Reduces) (x : Grew) (es' : List ℕ) → Adds e.reduces (record { rule = rule; offset = offset_on e.key.kind }) a
      → find (edges_in c.edges es) m e.key.kind e.key.symbol.0 ≡ none
      → Rows z c (add_converted (room_of z) (grown_of c ns es) m e.key.symbol.0 (edge_is e) (reduces_in a)) x ns es'
      → Rows z c (copy_of (room_of z) rule m (edge_is e) (grown_of c ns es)) x ns es'
  unfolding copy_row
  row_copied a x es' w h k = record { answer = rw (h, added_is e _ a w) k.answer; rowed = k.rowed }

-- ---- the rows of node n that stood when the copying to node m began

-- an edge of another node leaves them as they are
edge-aside : (z : Room) (g g' : Grown) (e : Edge) (n : ℕ) → eqb e.from n ≡ false → ok g' ≡ add_edge z g e → leaving n g'.edges ≡ leaving n g.edges
unfolding add_edge when
edge-aside z g g' e n d h = by (ltb (length g.edges) z.edges) h
  where
    by : (b : Bool) → ok g' ≡ when b no_edge (record { nodes = g.nodes; edges = insert_edge e g.edges }) → leaving n g'.edges ≡ leaving n g.edges
    by true h =
        let s : g' ≡ record { nodes = g.nodes; edges = insert_edge e g.edges } = cc in
        ap (λ (g : Grown). leaving n g.edges) s ∙ leaving-other e n g.edges d
    by false h = absurd (let y : ◌≡◌ {A = ℕ} 0 1 = cc in omega arith)

copied-aside : (z : Room) (rule n m : ℕ) (g g' : Grown) (e : Edge) (old : Maybe Edge) → eqb m n ≡ false → ok g' ≡ copy_row z rule g m e old
    → leaving n g'.edges ≡ leaving n g.edges
unfolding copy_row add_converted
copied-aside z rule n m g g' e (some d) q h = let s : g' ≡ g = cc in ap (λ (g : Grown). leaving n g.edges) s
copied-aside z rule n m g g' e none q h = by (with_reduce (record { rule = rule; offset = offset_on e.kind }) e.reduces) h
  where
    by : (o : Maybe (List Reduce)) → ok g' ≡ add_converted z g m e.sym e o → leaving n g'.edges ≡ leaving n g.edges
    by (some ds) h = edge-aside z g g' _ n q h
    by none h = absurd (let y : ◌≡◌ {A = ℕ} 0 1 = cc in omega arith)

-- copying stands at number k of those
pub record Copying (z : lent.Room) (rule n m : ℕ) (c₀ : Counts) (es₀ : List ℕ) (c : Counts) (es : List ℕ) (k : ℕ) : Type 0 where
  pub inside : k ≤ length (leaving n (edges_in c₀.edges es₀))
  pub rowed : Rowed z c es
  pub nodes-kept : c.nodes ≡ c₀.nodes
  pub kept : length es ≡ length es₀
  pub stay : leaving n (edges_in c.edges es) ≡ leaving n (edges_in c₀.edges es₀)
  pub same : (ns : List ℕ) → copy_branches (room_of z) rule m (drop k (leaving n (edges_in c₀.edges es₀))) (grown_of c ns es)
      ≡ copy_branches (room_of z) rule m (leaving n (edges_in c₀.edges es₀)) (grown_of c₀ ns es₀)

pub copying-start : (z : lent.Room) (rule n m : ℕ) (c : Counts) (es : List ℕ) → Rowed z c es → Copying z rule n m c es c es 0
copying-start z rule n m c es r = record { inside = omega arith; rowed = r; nodes-kept = refl; kept = refl; stay = refl; same = λ ns. refl }

module _ (z : lent.Room) (rule n m : ℕ) (c₀ : Counts) (es₀ : List ℕ) (c : Counts) (es : List ℕ) (k : ℕ) (l : Copying z rule n m c₀ es₀ c es k) where
  abbrev rows : List Edge
  rows = leaving n (edges_in c₀.edges es₀)

  -- the row that is read, p being the node's first
  module _ (h : k < length rows) (p : ℕ) (q : p ≡ place_of n 0 0 (edges_in c.edges es)) where
    stands : Together n (edges_in c.edges es) (edge_of [])
    stands = together n (edges_in c.edges es) (edge_of []) l.rowed.order

    pub row_inside : p + k < c.edges
    row_inside = omega (arith, q, stands.ends, ap length l.stay, place-within (n + 1) 0 0 (edges_in c.edges es), rows-count z c es l.rowed)

    row_next : drop k rows ≡ edge_of (row_at es (p + k)) ∷ drop (k + 1) rows
    unfolding edges_in
    row_next =
        let now = edges_in c.edges es in
        let ws = take (16 * c.edges) es in
        let d : Edge = edge_of [] in
        let wide : 16 * c.edges ≤ length es = omega (arith, l.rowed.within, l.rowed.fits) in
        let here : get_or rows k d ≡ get_or now (p + k) d = rw (q, ← l.stay) (sym (stands.stand k (omega (arith, ap length l.stay)))) in
        let read : get_or now (p + k) d ≡ edge_of (row_at es (p + k)) = edge_at ws (p + k) d (omega (arith, row_inside, length-take-le (16 * c.edges) es wide)) ∙ rw (row_within es c.edges (p + k) row_inside) in
        rw (drop-cons rows k d h, here, read, add-one)

    copy_step : (ns : List ℕ) → bind (copy_of (room_of z) rule m (edge_of (row_at es (p + k))) (grown_of c ns es)) (λ g. copy_branches (room_of z) rule m (drop (k + 1) rows) g)
        ≡ copy_branches (room_of z) rule m rows (grown_of c₀ ns es₀)
    unfolding copy_branches
    copy_step ns = rw row_next at (l.same ns)

    module _ (e : held.Edge) (o : Holds e (edge_of (row_at es (p + k)))) (r : Grew) (es' : List ℕ)
        (w : (ns : List ℕ) → Rows z c (copy_of (room_of z) rule m (edge_is e) (grown_of c ns es)) r ns es') where
      row-answer : (ns : List ℕ) → grew_of r ns es' ≡ copy_of (room_of z) rule m (edge_of (row_at es (p + k))) (grown_of c ns es)
      row-answer ns = (w ns).answer ∙ ap (λ (e : Edge). copy_of (room_of z) rule m e (grown_of c ns es)) o.says

      pub copying-more : (d : Counts) → n ≢ m → r ≡ Ok d → length es' ≡ length es → Copying z rule n m c₀ es₀ d es' (k + 1)
      copying-more d apart q y =
          let s : StillRowed z c.nodes (Ok d) es' = rw q at (w []).rowed in
          record {
            inside = omega arith;
            rowed = s.0;
            nodes-kept = s.1 ∙ l.nodes-kept;
            kept = y ∙ l.kept;
            stay = copied-aside (room_of z) rule n m (grown_of c [] es) (grown_of d [] es') (edge_is e) _ (ne_eqb m n (λ x. apart (sym x))) (rw q at (w []).answer) ∙ l.stay;
            same = λ ns. sym (on_then r ns es' _ (row-answer ns) d q _) ∙ copy_step ns;
          }

      pub copying-refused : (y : why.Fault) → r ≡ Err y → (ns : List ℕ)
          → Rows z c₀ (copy_branches (room_of z) rule m rows (grown_of c₀ ns es₀)) (Err y) ns es'
      copying-refused y q ns = record { answer = sym (refused-then r ns es' _ (row-answer ns) y q _) ∙ copy_step ns; rowed = tt }

  pub copying-end : length rows ≤ k → (ns : List ℕ) → Rows z c₀ (copy_branches (room_of z) rule m rows (grown_of c₀ ns es₀)) (Ok c) ns es
  unfolding copy_branches
  copying-end h ns = record { answer = rw (drop_of_length-le rows {i = k} h) at (l.same ns); rowed = (l.rowed, l.nodes-kept) }

-- ---- one node

module _ (z : lent.Room) (c : Counts) (ns es : List ℕ) (r : Rowed z c es) (rule u n : ℕ) (e : held.Edge) (to : e.to.0 < c.nodes) where
  abbrev result : Res Fault Grown
  result = convert_to (room_of z) rule u (grown_of c ns es) n (edge_is e) (find (edges_in c.edges es) n 1 u)

  pub new-edge : (a : Option Reduces) (x : Grew) (es' : List ℕ) → Adds e.reduces (record { rule = rule; offset = 0 }) a → find (edges_in c.edges es) n 1 u ≡ none
      → Rows z c (add_converted (room_of z) (grown_of c ns es) n u (edge_is e) (reduces_in a)) x ns es' → Rows z c result x ns es'
  unfolding convert_to
  new-edge a x es' w h k = record { answer = rw (h, added_is e _ a w) k.answer; rowed = k.rowed }

  module _ (i : ℕ) (f : FoundAt c es n 1 u i) (d : NodeNo) (o : d.0 ≡ (edge_of (row_at es i)).to) where
    pub other-to : d.0 < c.nodes
    other-to = rw o (row-leads z c es i r f.within).to_in

    module _ (b : Bool) (q : b ≡ not (eqb e.to.0 d.0) && eqb (get_or ns e.to.0 0) 0 && eqb (get_or ns d.0 0) 0) where
      test : apart (grown_of c ns es) e.to.0 (edge_of (row_at es i)).to ≡ b
      test = rw (← o) (apart-is c ns es e.to.0 d.0 to other-to ∙ sym q)

      pub bad-copy : b ≡ false → Rows z c result (Err code.BadCopy) ns es
      unfolding convert_to bind when
      bad-copy h = record { answer = rw (f.finds, test, h); rowed = tt }

      -- two different branches
      pub differ : b ≡ true → e.to.0 ≢ d.0
      differ h = eqb-false _ _ (not-true _ (chain-at (not (eqb e.to.0 d.0)) (eqb (get_or ns e.to.0 0) 0 ∷ eqb (get_or ns d.0 0) 0 ∷ []) (sym q ∙ h) 0))

      pub copied : b ≡ true → (x : Grew) (es' : List ℕ)
          → Rows z c (copy_branches (room_of z) rule d.0 (leaving e.to.0 (edges_in c.edges es)) (grown_of c ns es)) x ns es' → Rows z c result x ns es'
      unfolding convert_to bind when
      copied h x es' k = record { answer = rw (f.finds, test, h, ← o) k.answer; rowed = k.rowed }

module _ (z : lent.Room) (c : Counts) (ns es : List ℕ) (r : Rowed z c es) (rule t u n : ℕ) where
  -- the edge that is found there is a variable edge
  pub found-kind : (i : ℕ) (e : held.Edge) → FoundAt c es n 1 t i → Holds e (edge_of (row_at es i)) → e.key.kind ≡ 1
  found-kind i e f o = ap (λ (e : Edge). e.kind) o.says ∙ (found (Leads c.nodes) (edges_in c.edges es) n 1 t (edge_of (row_at es i)) r.leads f.finds).2

  pub no-edge : find (edges_in c.edges es) n 1 t ≡ none
      → Rows z c (convert_at (room_of z) rule u (grown_of c ns es) n (find (edges_in c.edges es) n 1 t)) (Ok c) ns es
  unfolding convert_at
  no-edge h = record { answer = rw h; rowed = (r, refl) }

  pub an-edge : (i : ℕ) (e : held.Edge) (x : Grew) (es' : List ℕ) → FoundAt c es n 1 t i → Holds e (edge_of (row_at es i))
      → Rows z c (convert_to (room_of z) rule u (grown_of c ns es) n (edge_is e) (find (edges_in c.edges es) n 1 u)) x ns es'
      → Rows z c (convert_at (room_of z) rule u (grown_of c ns es) n (find (edges_in c.edges es) n 1 t)) x ns es'
  unfolding convert_at
  an-edge i e x es' f o k = record {
    answer = rw f.finds (k.answer ∙ ap (λ (e : Edge). convert_to (room_of z) rule u (grown_of c ns es) n e (find (edges_in c.edges es) n 1 u)) o.says);
    rowed = k.rowed;
  }

-- ---- a loop whose turns add edges alone: x is what is still to do, and comes to what there was to do

pub record Going (z : lent.Room) (c₀ : Counts) (es₀ : List ℕ) (c : Counts) (es : List ℕ) (x x₀ : Res Fault Grown) : Type 0 where
  pub rowed : Rowed z c es
  pub nodes-kept : c.nodes ≡ c₀.nodes
  pub kept : length es ≡ length es₀
  pub same : x ≡ x₀

module _ (z : lent.Room) (c₀ : Counts) (es₀ : List ℕ) (c : Counts) (ns es : List ℕ) (x x₀ : Res Fault Grown) (l : Going z c₀ es₀ c es x x₀) where
  module _ (y : Res Fault Grown) (f : Grown → Res Fault Grown) (s : x ≡ bind y f) (r : Grew) (es' : List ℕ) (w : Rows z c y r ns es') where
    pub going_more : (d : Counts) → r ≡ Ok d → length es' ≡ length es → Going z c₀ es₀ d es' (f (grown_of d ns es')) x₀
    going_more d q k =
        let t : StillRowed z c.nodes (Ok d) es' = rw q at w.rowed in
        record { rowed = t.0; nodes-kept = t.1 ∙ l.nodes-kept; kept = k ∙ l.kept; same = sym (on_then r ns es' y w.answer d q f) ∙ sym s ∙ l.same }

    pub going-refused : (u : why.Fault) → r ≡ Err u → Rows z c₀ x₀ (Err u) ns es'
    going-refused u q = record { answer = sym (refused-then r ns es' y w.answer u q f) ∙ sym s ∙ l.same; rowed = tt }

  pub going_end : x ≡ ok (grown_of c ns es) → Rows z c₀ x₀ (Ok c) ns es
  going_end e = record { answer = sym e ∙ l.same; rowed = (l.rowed, l.nodes-kept) }

-- ---- every node

module _ (z : Room) (rule t u k n : ℕ) (g : Grown) where
  pub nodes-step : n < k → convert_nodes z rule t u (k - n) n g ≡ bind (convert_at z rule u g n (find g.edges n 1 t)) (λ g. convert_nodes z rule t u (k - (n + 1)) (n + 1) g)
  unfolding convert_nodes
  nodes-step h = let e : k - n ≡ suc (k - (n + 1)) = omega arith in rw (e, add-one)

  pub nodes-end : k ≤ n → convert_nodes z rule t u (k - n) n g ≡ ok g
  unfolding convert_nodes
  nodes-end h = let e : k - n ≡ 0 = omega arith in rw e

-- ---- a rule

module _ (z : lent.Room) (c : Counts) (ns es : List ℕ) (n : ℕ) (ws : List ℕ) (k : Option SymbolNo) (e : source_of k ≡ source (rule_of ws).body) where
  pub rule-left : Rowed z c es → k ≡ None → Rows z c (convert_first (room_of z) n ws (grown_of c ns es)) (Ok c) ns es
  unfolding convert
  rule-left r h = record { answer = rw (← e, h); rowed = (r, refl) }

  pub rule-converted : (u t : SymbolNo) (x : Grew) (es' : List ℕ) → k ≡ Some u → t.0 ≡ (rule_of ws).result → c.nodes ≤ length ns
      → Rows z c (convert_nodes (room_of z) n t.0 u.0 c.nodes 0 (grown_of c ns es)) x ns es' → Rows z c (convert_first (room_of z) n ws (grown_of c ns es)) x ns es'
  unfolding convert
  rule-converted u t x es' h q wide w = record { answer = rw (← e, h, ← q, length-take-le c.nodes ns wide) w.answer; rowed = w.rowed }

-- ---- the rules, so many of them carried out

pub record Converted (z : lent.Room) (ws : List ℕ) (c₀ : Counts) (es₀ : List ℕ) (c : Counts) (ns es : List ℕ) (n : ℕ) (rest : List ℕ) : Type 0 where
  pub k : ℕ
  pub few : n + k ≡ most_rules
  pub good : good_rules 0 k rest ≡ true
  pub going : Going z c₀ es₀ c es (convert_all (room_of z) (n + 1) (rules_of k rest) (grown_of c ns es)) (convert_all (room_of z) 1 (the_rules ws) (grown_of c₀ ns es₀))

pub converted-start : (z : lent.Room) (ws : List ℕ) (c : Counts) (ns es : List ℕ) → Rowed z c es → some_rules ws ≡ true → Converted z ws c es c ns es 0 ws
converted-start z ws c ns es r g = record { k = most_rules; few = omega arith; good = g; going = record { rowed = r; nodes-kept = refl; kept = refl; same = refl } }

module _ (z : lent.Room) (ws : List ℕ) (c₀ : Counts) (es₀ : List ℕ) (c : Counts) (ns es : List ℕ) (n : ℕ) (rest : List ℕ) (l : Converted z ws c₀ es₀ c ns es n rest) where
  module _ (h : 0 < length rest) where
    pub converted-here : Front l.k rest
    converted-here = front l.k rest l.good h

    all-step : convert_all (room_of z) (n + 1) (rules_of l.k rest) (grown_of c ns es)
        ≡ bind (convert_first (room_of z) (n + 1) rest (grown_of c ns es)) (λ g. convert_all (room_of z) (n + 1 + 1) (rules_of converted-here.j (rest_of rest)) g)
    unfolding convert_all
    all-step = rw (converted-here.first, add-one (n + 1))

    module _ (a : Grew) (es' : List ℕ) (m : Rows z c (convert_first (room_of z) (n + 1) rest (grown_of c ns es)) a ns es') where
      pub converted-more : (d : Counts) → a ≡ Ok d → length es' ≡ length es → Converted z ws c₀ es₀ d ns es' (n + 1) (rest_of rest)
      converted-more d e ke = record {
        k = converted-here.j;
        few = omega (arith, l.few, converted-here.less);
        good = converted-here.after;
        going = going_more z c₀ es₀ c ns es _ _ l.going _ _ all-step a es' m d e ke;
      }

      pub converted-refused : (y : why.Fault) → a ≡ Err y → Rows z c₀ (convert_all (room_of z) 1 (the_rules ws) (grown_of c₀ ns es₀)) (Err y) ns es'
      converted-refused y e = going-refused z c₀ es₀ c ns es _ _ l.going _ _ all-step a es' m y e

  pub converted-end : length rest ≡ 0 → Rows z c₀ (convert_all (room_of z) 1 (the_rules ws) (grown_of c₀ ns es₀)) (Ok c) ns es
  unfolding convert_all
  converted-end h = going_end z c₀ es₀ c ns es _ _ l.going (rw (none-ahead l.k rest h))
