-- Laws that the proofs of this crate's functions share.
use mathlib.Core.Path.{◌≡◌, refl, ap, ◌∙◌}
use mathlib.Core.Path as path
use mathlib.Core.List.{List, [], ◌∷◌, ◌++◌}
use mathlib.Core.Option.{none}
use mathlib.Core.Bool.{Bool, true, false, false≢true}
use Prim.Native.Nat.{ℕ, zero, suc, ◌+◌, ◌*◌, ◌/◌, ◌-◌, ◌≤◌, ◌<◌}
use native.Mathlib.Nat.{sub-zero}
use native.Mathlib.Numerals.{add-one}
use native.Mathlib.Omega.{arith}
use lib.ListN.{length, take, drop, set, length-take, length-map, length-set}
use lib.Seq.{length-take-le, take-suc-set, get_or-set_same}
use borrow.Author.Tests.{lt-ltb, le-ltb, eqb-true, eqb-false}
use Rattle.words.proofs.Theorems.Tests.{and_l, and_r}
use Rattle.rules.specs.Rules.{rest_of, rule_of, rules_of, good_rule, good_rules}
use Rattle.rules.specs.Code.{a_rule}
use Rattle.words.specs.Limits.{most_nodes, row_width, most_reduces}
use Rattle.words.specs.Outcome.{Res, no, bind, when}
use Rattle.words.specs.Numbers.{Fault}
use Rattle.rules.proofs.Theorems.Every.{all_map}
use Rattle.rows.specs.Rows.{Edge, edge_of, rows_from, edges_of, rising, insert_edge, find, leaving}
use Rattle.rows.specs.Code.{reduces_are, edge_is, Holds, row_at, put_in, place_of, looks_up}
use Rattle.rows.specs.declared.reduce_list.Reduces.{Reduces}
use Rattle.rows.specs.declared.Edge as held
use Rattle.rows.proofs.Theorems.Lookup.{row_at-length, edges-count, edges_step, row_within, row-found, none_found}
use Rattle.rows.proofs.Theorems.Put.{edges-cut, last-edges, last-spells, last-all, written_last, put-in-length, put-in-edges, put-in-spells, put-in-all, all_drop}
use Rattle.rows.proofs.Theorems.Order.{place-within, together}
use Rattle.rows.proofs.Theorems.Insert.{insert-split, insert_all, insert-rises}
use Rattle.tree.specs.Grow.{Grown, add_edge, add_node}
use Rattle.tree.specs.Code.{Grew, room_of, fault_of, edges_in, grown_of, grew_of, Rising, Looks, Leads, Aged, Rowed, Stands, StillRowed, Rows, StillStands, Meets}
use Rattle.tree.proofs.Theorems.Counted.{nodes-count}
use Rattle.tree.specs.declared.Counts.{Counts}
use Rattle.tree.specs.declared.Room as lent
use Rattle.tree.specs.declared.Fault as why
use Rattle.tree.specs.declared.Fault.TheVariants as code
use Rattle.std.specs.Prelude.{◌==◌, Option, Some, None, is_some, Ok, Err}

-- ---- rows

module _ (z : lent.Room) (c : Counts) (es : List ℕ) (r : Rowed z c es) where
  -- as many edges as are counted
  pub rows-count : length (edges_in c.edges es) ≡ c.edges
  unfolding edges_in
  rows-count = edges-count (take (16 * c.edges) es) ∙ rw (length-take-le (16 * c.edges) es (omega (arith, r.within, r.fits))) (omega arith)

  pub rows-rise : Rising c es
  rows-rise = record { fits = omega (arith, r.within, r.fits); order = r.order }

  -- the place of a key is among them, or after the last
  pub place_inside : (n k s : ℕ) → place_of n k s (edges_in c.edges es) ≤ c.edges
  place_inside n k s = omega (arith, rows-count, place-within n k s (edges_in c.edges es))

  -- a row put in at the place of its key, which is new
  pub row_more : (e : Edge) (p : ℕ) → c.edges < z.edges → Leads c.nodes e → p ≡ place_of e.from e.kind e.sym (edges_in c.edges es)
      → find (edges_in c.edges es) e.from e.kind e.sym ≡ none
      → let es' = put_in es p c.edges e in
      (edges_in (c.edges + 1) es' ≡ insert_edge e (edges_in c.edges es)) × Rowed z (record { nodes = c.nodes; edges = c.edges + 1 }) es'
  unfolding edges_in
  row_more e p h l q f =
      let old = edges_in c.edges es in
      let es' = put_in es p c.edges e in
      let i : p ≤ c.edges = omega (arith, q, place_inside e.from e.kind e.sym) in
      let room : c.edges < length es / 16 = omega (arith, r.fits) in
      let new : insert_edge e old ≡ take p old ++ e ∷ drop p old = insert-split e old ∙ rw (← q) in
      let back : edges_of (take (16 * (c.edges + 1)) es') ≡ insert_edge e old = put-in-edges es p c.edges e i room l.few ∙ path.sym new in (
        back,
        record {
          within = omega arith;
          fits = omega (arith, r.fits, put-in-length es p c.edges e i room);
          words = put-in-spells es p c.edges e i room l.few r.words;
          aged = put-in-all es p c.edges e i room (Aged (c.edges + 1))
              (all_map (Aged c.edges) (Aged (c.edges + 1)) (λ row a. omega arith) (rows_from c.edges es) r.aged) (omega (arith, written_last e));
          leads = rw back (insert_all e (Leads c.nodes) old r.leads l);
          order = rw back (insert-rises e old r.order f);
        },
      )

-- the edge of row i
pub row-leads : (z : lent.Room) (c : Counts) (es : List ℕ) (i : ℕ) → Rowed z c es → i < c.edges → Leads c.nodes (edge_of (row_at es i))
unfolding edges_in
row-leads z c es i r h =
    let ws = take (16 * c.edges) es in
    let n = length-take-le (16 * c.edges) es (omega (arith, r.within, r.fits)) in
    (rw (edges_step ws i (omega arith), row_within es c.edges i h) at (all_drop (Leads c.nodes) i (edges_of ws) r.leads)).0

-- row i can be read
pub row-readable : (z : lent.Room) (c : Counts) (es : List ℕ) (i : ℕ) → Rowed z c es → i < c.edges
    → (i < length es / row_width) × (length (edge_of (row_at es i)).reduces ≤ most_reduces)
row-readable z c es i r h = (omega (arith, r.within, r.fits), (row-leads z c es i r h).few)

-- its last word may hold any number below the count while the tree grows
pub row-marked : (z : lent.Room) (c : Counts) (es : List ℕ) (i w : ℕ) → Rowed z c es → i < c.edges → w < c.edges
    → let es' = set es (row_width * i + 15) w in
    (edges_in c.edges es' ≡ edges_in c.edges es) × Rowed z c es'
unfolding edges_in
row-marked z c es i w r h low =
    let es' = set es (16 * i + 15) w in
    let long : length es' ≡ length es = length-set es (16 * i + 15) w in
    let few = (row-leads z c es i r h).few in
    let same : edges_of (take (16 * c.edges) es') ≡ edges_of (take (16 * c.edges) es) =
    edges-cut c.edges es' (omega (arith, r.within, r.fits)) ∙ last-edges es c.edges i w h few ∙ path.sym (edges-cut c.edges es (omega (arith, r.within, r.fits))) in (
      same,
      record {
        within = r.within;
        fits = omega (arith, r.fits);
        words = last-spells es c.edges i w h few r.words;
        aged = last-all es c.edges i w h (Aged c.edges) r.aged
            (rw (get_or-set_same (row_at es i) 15 w 0 (omega (arith, row_at-length es i (omega (arith, r.within, r.fits))))) low);
        leads = rw same r.leads;
        order = rw same r.order;
      },
    )

-- where the edge that the code holds leads
pub held_to : (h : held.Edge) (e : Edge) → Holds h e → h.to.0 ≡ e.to
held_to h e s = ap (λ (e : Edge). e.to) s.says

pub read-leads : (z : lent.Room) (c : Counts) (es : List ℕ) (i : ℕ) (h : held.Edge) → Rowed z c es → i < c.edges → Holds h (edge_of (row_at es i)) → h.to.0 < c.nodes
read-leads z c es i h r w o = rw (held_to h _ o) (row-leads z c es i r w).to_in

-- ---- a look-up

-- the part of the slice that holds the rows so far
pub part-is : (k : ℕ) (es : List ℕ) → edges_of (take (row_width * k - 0) (drop 0 es)) ≡ edges_in k es
unfolding edges_in
part-is k es = rw sub-zero

-- the rows of a node end where those of the next begin
pub rows-many : (n : ℕ) (es : List Edge) → rising es ≡ true
    → (place_of n 0 0 es ≤ place_of (n + 1) 0 0 es) × (place_of (n + 1) 0 0 es - place_of n 0 0 es ≡ length (leaving n es))
rows-many n es r = let t = together n es (edge_of []) r in (omega (arith, t.ends), omega (arith, t.ends))

-- the rows so far are looked up in the part of the slice that holds them
pub looks : (c : Counts) (es : List ℕ) (n k s : ℕ) (r : Option ℕ) → row_width * c.edges ≤ length es → r ≡ looks_up (take (row_width * c.edges - 0) (drop 0 es)) n k s
    → Looks c es n k s r
unfolding edges_in
looks c es n k s None h e = none_found (take (16 * c.edges) es) n k s (rw sub-zero at e) refl
looks c es n k s (Some i) h e =
    let f = row-found (take (16 * c.edges) es) n k s (rw sub-zero at e) i refl in
    let w : i < c.edges = omega (arith, f.within, length-take-le (16 * c.edges) es h) in
    record { within = w; finds = rw (row_within es c.edges i w) at f.finds }

-- no row has the key
pub row-free : (c : Counts) (es : List ℕ) (n k s : ℕ) (o : Option ℕ) → Looks c es n k s o → is_some o ≡ false → find (edges_in c.edges es) n k s ≡ none
row-free c es n k s (Some i) h t = absurd (false≢true (path.sym t))
row-free c es n k s None h t = h

-- ---- the rules that are left, at most k of them

-- a rule stands first, and at most j after it
pub record Front (k : ℕ) (rest : List ℕ) : Type 0 where
  pub j : ℕ
  pub less : k ≡ j + 1
  pub rule : a_rule rest ≡ true
  pub after : good_rules 0 j (rest_of rest) ≡ true
  pub first : rules_of k rest ≡ rule_of rest ∷ rules_of j (rest_of rest)

pub front : (k : ℕ) (rest : List ℕ) → good_rules 0 k rest ≡ true → 0 < length rest → Front k rest
unfolding good_rules rules_of
front k [] g h = absurd (omega arith)
front zero (w ∷ ws) g h = absurd (false≢true g)
front (suc j) (w ∷ ws) g h =
    let rest = w ∷ ws in
    let r = and_l (good_rule 0 rest) (good_rules 0 j (rest_of rest)) g in
    record {
      j = j;
      less = omega arith;
      rule = r;
      after = and_r (good_rule 0 rest) (good_rules 0 j (rest_of rest)) g;
      first = refl;
    }

pub none-ahead : (k : ℕ) (rest : List ℕ) → length rest ≡ 0 → rules_of k rest ≡ []
unfolding rules_of
none-ahead zero [] h = refl
none-ahead (suc k) [] h = refl
none-ahead k (w ∷ ws) h = absurd (omega arith)

-- whether words are left
pub some-left : {A : Type 0} (b : Bool) (ws : List A) → b ≡ (length ws == 0) → b ≡ false → 0 < length ws
some-left b ws e h = let n = eqb-false (length ws) 0 (path.sym e ∙ h) in omega arith

pub none-left : {A : Type 0} (b : Bool) (ws : List A) → b ≡ (length ws == 0) → b ≡ true → length ws ≡ 0
none-left b ws e h = eqb-true (length ws) 0 (path.sym e ∙ h)

-- ---- an edge more

module _ (z : lent.Room) (c : Counts) (ns es : List ℕ) (r : Rowed z c es) (e : held.Edge) where
  pub edge-refused : z.edges ≤ c.edges → Rows z c (add_edge (room_of z) (grown_of c ns es) (edge_is e)) (Err code.NoEdge) ns es
  unfolding add_edge when
  edge-refused h = record { answer = rw (rows-count z c es r, le-ltb c.edges z.edges h); rowed = tt }

  pub edge-added : (p : ℕ) (es' : List ℕ) → p ≡ place_of e.key.from.0 e.key.kind e.key.symbol.0 (edges_in c.edges es) → es' ≡ put_in es p c.edges (edge_is e)
      → c.edges < z.edges → e.to.0 < c.nodes → find (edges_in c.edges es) e.key.from.0 e.key.kind e.key.symbol.0 ≡ none
      → Rows z c (add_edge (room_of z) (grown_of c ns es) (edge_is e)) (Ok (record { nodes = c.nodes; edges = c.edges + 1 })) ns es'
  unfolding add_edge when
  edge-added p es' q w h to f =
      let m = row_more z c es r (edge_is e) p h (record { to_in = to; few = simp (length-map, length-take) (omega (arith, e.reduces.few)) }) q f in
      record { answer = rw (rows-count z c es r, lt-ltb c.edges z.edges h, w, m.0); rowed = (rw w m.1, refl) }

-- ---- what comes after a step

module _ (r : Grew) (ns es : List ℕ) (x : Res Fault Grown) (e : grew_of r ns es ≡ x) where
  pub on_then : (c : Counts) → r ≡ Ok c → (f : Grown → Res Fault Grown) → bind x f ≡ f (grown_of c ns es)
  unfolding bind
  on_then c h f = rw (← e, h)

  pub refused-then : (y : why.Fault) → r ≡ Err y → (f : Grown → Res Fault Grown) → bind x f ≡ no (fault_of y)
  unfolding bind
  refused-then y h f = rw (← e, h)

-- ---- a node more

-- rows among more nodes
pub more-nodes : (z : lent.Room) (c : Counts) (es : List ℕ) → Rowed z c es → Rowed z (record { nodes = c.nodes + 1; edges = c.edges }) es
more-nodes z c es r = record {
  within = r.within;
  fits = r.fits;
  words = r.words;
  aged = r.aged;
  leads = all_map (Leads c.nodes) (Leads (c.nodes + 1)) (λ e l. record { to_in = omega (arith, l.to_in); few = l.few }) (edges_in c.edges es) r.leads;
  order = r.order;
}

-- rows and nodes that stand
pub both-stand : (z : lent.Room) (k : ℕ) (r : Grew) (ns es : List ℕ) → 0 < k → k ≤ z.nodes → z.nodes ≤ length ns → z.nodes ≤ most_nodes → StillRowed z k r es
    → StillStands z r ns es
both-stand z k (Ok c) ns es p h f m s = record { root = rw s.1 p; within = rw s.1 h; fits = f; few = m; rowed = s.0 }
both-stand z k (Err y) ns es p h f m s = tt

module _ (z : lent.Room) (c : Counts) (ns es : List ℕ) (s : Stands z c ns es) (n k y w : ℕ) where
  pub node-refused : z.nodes ≤ c.nodes → Meets z (add_node (room_of z) (grown_of c ns es) n k y w) (Err code.NoNode) ns es
  unfolding add_node bind when
  node-refused h = record { answer = rw (nodes-count z c ns es s, le-ltb c.nodes z.nodes h); stands = tt }

  pub node-added : (ds : Reduces) (r : Grew) (es' : List ℕ)
      → let c' : Counts = record { nodes = c.nodes + 1; edges = c.edges } in
      let e : Edge = record { from = n; kind = k; sym = y; to = c.nodes; reduces = reduces_are ds } in
      c.nodes < z.nodes → reduces_are ds ≡ [] → Rows z c' (add_edge (room_of z) (grown_of c' (set ns c.nodes w) es) e) r (set ns c.nodes w) es'
      → Meets z (add_node (room_of z) (grown_of c ns es) n k y w) r (set ns c.nodes w) es'
  unfolding add_node bind when
  node-added ds r es' h empty rows =
      let ns' = set ns c.nodes w in
      let more : take (c.nodes + 1) ns' ≡ take c.nodes ns ++ w ∷ [] = rw (add-one, take-suc-set ns c.nodes w (omega (arith, s.fits))) in
      record {
        answer = rw (nodes-count z c ns es s, lt-ltb c.nodes z.nodes h) (rw (more, empty) at rows.answer);
        stands = both-stand z (c.nodes + 1) r ns' es' (omega arith) (omega arith) (simp length-set s.fits) s.few rows.rowed;
      }
