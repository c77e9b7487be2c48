-- Laws of placing a body.
use mathlib.Core.Path.{◌≡◌, refl, ap, ◌∙◌}
use mathlib.Core.Path as path
use mathlib.Core.Bool.{Bool, true, false, false≢true}
use mathlib.Core.List.{List, [], ◌∷◌, ◌++◌}
use mathlib.Core.Option.{none, some}
use Prim.Native.Nat.{ℕ, suc, ◌+◌, ◌≤◌, ◌<◌}
use native.Mathlib.Numerals.{add-one}
use native.Mathlib.Omega.{arith}
use lib.Dec.{ltb, eqb}
use lib.ListN.{length, drop, get_or, get_elem?, length-append, drop_of_length-le}
use lib.Seq.{drop-cons}
use Rattle.words.specs.Outcome.{ok, bind, when}
use Rattle.words.specs.Numbers.{no_node, no_edge}
use Rattle.words.specs.Limits.{most_rules}
use Rattle.words.specs.declared.NodeNo.{NodeNo}
use Rattle.words.specs.declared.SymbolNo.{SymbolNo}
use Rattle.rules.specs.Rules.{Item, body_words, rest_of, rules_of, good_rules, items_of, rule_of, the_rules, source}
use Rattle.rules.specs.Code.{some_rules, source_of}
use Rattle.rules.proofs.Theorems.Words.{from-item}
use Rattle.rows.specs.Rows.{edge_of, insert_edge, find}
use Rattle.rows.specs.Code.{row_at}
use Rattle.tree.specs.Grow.{Grown, Room, kind, sym, add_edge, add_node, place_last, place_inner, place, place_rule, place_rules}
use Rattle.tree.specs.Code.{Grew, Placed, room_of, edges_in, grown_of, Looks, FoundAt, Stands, Meets, branch_of, inner_of, place_first, StillAt, Places}
use Rattle.tree.proofs.Theorems.Counted.{nodes-count, branch-is}
use Rattle.tree.specs.declared.Counts.{Counts}
use Rattle.tree.specs.declared.Room as lent
use Rattle.tree.specs.declared.Fault as why
use Rattle.tree.specs.declared.Fault.TheVariants as code
use Rattle.std.specs.Prelude.{Option, Some, None, is_some, Ok, Err}
use Rattle.tree.proofs.Laws.{row-leads, Front, front, none-ahead, on_then, refused-then}

-- ---- a new branch

-- one node more
node-longer : (z : Room) (g : Grown) (n k y w : ℕ) (g' : Grown) → ok g' ≡ add_node z g n k y w → length g'.nodes ≡ length g.nodes + 1
unfolding add_node add_edge bind when
node-longer z g n k y w g' e = go (ltb (length g.nodes) z.nodes) (ltb (length g.edges) z.edges) e
  where
    more : ℕ → Grown
    more m = record { nodes = g.nodes ++ w ∷ []; edges = insert_edge (record { from = n; kind = k; sym = y; to = m; reduces = [] }) g.edges }

    go : (a b : Bool) → ok g' ≡ bind (when a no_node (length g.nodes)) (λ m. when b no_edge (more m)) → length g'.nodes ≡ length g.nodes + 1
    go true true e = let s : g' ≡ more (length g.nodes) = cc in ap (λ (g : Grown). length g.nodes) s ∙ length-append g.nodes (w ∷ [])
    go true false e = cc
    go false b e = cc

module _ (z : lent.Room) (c : Counts) (ns es : List ℕ) (s : Stands z c ns es) (n k y : ℕ) where
  module _ (r : Grew) (ns' es' : List ℕ) (m : Meets z (add_node (room_of z) (grown_of c ns es) n k y 0) r ns' es') where
    pub branch-made : (d : Counts) → r ≡ Ok d → Places z (branch_of (room_of z) (grown_of c ns es) n k y) (Ok (d, record { 0 = c.nodes })) ns' es'
    branch-made d e =
        let old = nodes-count z c ns es s in
        let t : Stands z d ns' es' = rw e at m.stands in
        let a : ok (grown_of d ns' es') ≡ add_node (room_of z) (grown_of c ns es) n k y 0 = rw e at m.answer in
        let new = nodes-count z d ns' es' t in
        let longer = node-longer (room_of z) (grown_of c ns es) n k y 0 (grown_of d ns' es') a in
        record {
          answer = λ rest. path.sym (on_then r ns' es' _ m.answer d e _ ∙ rw old);
          stands = (t, omega arith);
        }

    pub branch_stuck : (f : why.Fault) → r ≡ Err f → Places z (branch_of (room_of z) (grown_of c ns es) n k y) (Err f) ns' es'
    branch_stuck f e = record { answer = λ rest. path.sym (refused-then r ns' es' _ m.answer f e _); stands = tt }

-- ---- an item: 11 at a leaf

module _ (z : lent.Room) (c : Counts) (ns es : List ℕ) (s : Stands z c ns es) (n : ℕ) (h : n < c.nodes) (i : Item) where
  pub inner-leaf : eqb (get_or ns n 0) 0 ≡ false → Places z (inner_of (room_of z) (grown_of c ns es) n i) (Err code.Collides) ns es
  unfolding bind when
  inner-leaf l = record { answer = λ rest. rw (branch-is c ns es n h, l); stands = tt }

  pub last_leaf : (r : ℕ) → eqb (get_or ns n 0) 0 ≡ false → Meets z (place (room_of z) r (i ∷ []) (grown_of c ns es) n) (Err code.Collides) ns es
  unfolding place bind when
  last_leaf r l = record { answer = rw (branch-is c ns es n h, l); stands = tt }

  module _ (b : eqb (get_or ns n 0) 0 ≡ true) where
    pub inner_made : (r : Placed) (ns' es' : List ℕ) → find (edges_in c.edges es) n (kind i) (sym i) ≡ none
        → Places z (branch_of (room_of z) (grown_of c ns es) n (kind i) (sym i)) r ns' es' → Places z (inner_of (room_of z) (grown_of c ns es) n i) r ns' es'
    unfolding bind when place_inner
    inner_made r ns' es' f m = record { answer = λ rest. rw (branch-is c ns es n h, b, f) (m.answer rest); stands = m.stands }

    pub inner-follows : (row : ℕ) (t : NodeNo) → FoundAt c es n (kind i) (sym i) row → t.0 ≡ (edge_of (row_at es row)).to
        → Places z (inner_of (room_of z) (grown_of c ns es) n i) (Ok (c, t)) ns es
    unfolding bind when place_inner
    inner-follows row t f to = record {
      answer = λ rest. rw (branch-is c ns es n h, b, f.finds, to);
      stands = (s, rw to (row-leads z c es row s.rowed f.within).to_in);
    }

    pub last-there : (r : ℕ) (o : Option ℕ) → Looks c es n (kind i) (sym i) o → is_some o ≡ true
        → Meets z (place (room_of z) r (i ∷ []) (grown_of c ns es) n) (Err code.Collides) ns es
    unfolding place bind when place_last
    last-there r (Some row) f t = record { answer = rw (branch-is c ns es n h, b, f.finds); stands = tt }
    last-there r None f t = absurd (false≢true t)

    pub last_made : (r : ℕ) (a : Grew) (ns' es' : List ℕ) → find (edges_in c.edges es) n (kind i) (sym i) ≡ none
        → Meets z (add_node (room_of z) (grown_of c ns es) n (kind i) (sym i) r) a ns' es' → Meets z (place (room_of z) r (i ∷ []) (grown_of c ns es) n) a ns' es'
    unfolding place bind when place_last
    last_made r a ns' es' f m = record { answer = rw (branch-is c ns es n h, b, f) m.answer; stands = m.stands }

-- ---- a body, from item k on

module _ (b : List Item) (k : ℕ) (i : Item) (e : get_elem? b k ≡ some i) where
  last_step : length b ≤ k + 1 → drop k b ≡ i ∷ []
  last_step h = from-item b k i e ∙ rw (drop_of_length-le b {i = suc k} (omega arith))

  inner-step : k + 1 < length b → (z : Room) (r : ℕ) (t : Grown) (n : ℕ)
      → place z r (drop k b) t n ≡ inner_of z t n i (λ t n. place z r (drop (k + 1) b) t n)
  unfolding place
  inner-step h z r t n = rw (from-item b k i e, add-one k, drop-cons b (suc k) i (omega arith))

-- what is left of the body decides
pub record Left (z : lent.Room) (r : ℕ) (b : List Item) (c₀ : Counts) (ns₀ es₀ : List ℕ) (c : Counts) (ns es : List ℕ) (n k : ℕ) : Type 0 where
  pub inside : k < length b
  pub stands : Stands z c ns es
  pub at : n < c.nodes
  pub nodes-kept : length ns ≡ length ns₀
  pub edges-kept : length es ≡ length es₀
  pub same : place (room_of z) r (drop k b) (grown_of c ns es) n ≡ place (room_of z) r b (grown_of c₀ ns₀ es₀) 0

pub left-start : (z : lent.Room) (r : ℕ) (b : List Item) (c : Counts) (ns es : List ℕ) → Stands z c ns es → 0 < length b → Left z r b c ns es c ns es 0 0
left-start z r b c ns es s h = record { inside = h; stands = s; at = s.root; nodes-kept = refl; edges-kept = refl; same = refl }

module _ (z : lent.Room) (r : ℕ) (b : List Item) (c₀ : Counts) (ns₀ es₀ : List ℕ) (c : Counts) (ns es : List ℕ) (n k : ℕ) (l : Left z r b c₀ ns₀ es₀ c ns es n k)
    (i : Item) (w : get_elem? b k ≡ some i) where
  module _ (a : Placed) (ns' es' : List ℕ) (p : Places z (inner_of (room_of z) (grown_of c ns es) n i) a ns' es') (m : k + 1 < length b) where
    pub left-more : (d : Counts) (t : NodeNo) → a ≡ Ok (d, t) → length ns' ≡ length ns → length es' ≡ length es → Left z r b c₀ ns₀ es₀ d ns' es' t.0 (k + 1)
    left-more d t e kn ke =
        let u : StillAt z (Ok (d, t)) ns' es' = rw e at p.stands in
        let s = rw e at (p.answer (λ t n. place (room_of z) r (drop (k + 1) b) t n)) in
        record {
          inside = m;
          stands = u.0;
          at = u.1;
          nodes-kept = kn ∙ l.nodes-kept;
          edges-kept = ke ∙ l.edges-kept;
          same = s ∙ path.sym (inner-step b k i w m (room_of z) r (grown_of c ns es) n) ∙ l.same;
        }

    pub left-stuck : (f : why.Fault) → a ≡ Err f → Meets z (place (room_of z) r b (grown_of c₀ ns₀ es₀) 0) (Err f) ns' es'
    left-stuck f e =
        let s = rw e at (p.answer (λ t n. place (room_of z) r (drop (k + 1) b) t n)) in
        record { answer = s ∙ path.sym (inner-step b k i w m (room_of z) r (grown_of c ns es) n) ∙ l.same; stands = tt }

  pub left-last : (a : Grew) (ns' es' : List ℕ) → length b ≤ k + 1 → Meets z (place (room_of z) r (i ∷ []) (grown_of c ns es) n) a ns' es'
      → Meets z (place (room_of z) r b (grown_of c₀ ns₀ es₀) 0) a ns' es'
  left-last a ns' es' m p = record { answer = p.answer ∙ rw (last_step b k i w m) at l.same; stands = p.stands }

-- ---- a rule

module _ (z : lent.Room) (c : Counts) (ns es : List ℕ) (n : ℕ) (ws : List ℕ) (k : Option SymbolNo) (e : source_of k ≡ source (rule_of ws).body) where
  pub rule-skipped : Stands z c ns es → is_some k ≡ true → Meets z (place_first (room_of z) n ws (grown_of c ns es)) (Ok c) ns es
  unfolding place_rule
  rule-skipped s = by k e
    where
      by : (k : Option SymbolNo) → source_of k ≡ source (rule_of ws).body → is_some k ≡ true → Meets z (place_first (room_of z) n ws (grown_of c ns es)) (Ok c) ns es
      by (Some u) e h = record { answer = rw (← e); stands = s }
      by None e h = absurd (false≢true h)

  pub rule-placed : (b : List ℕ) (a : Grew) (ns' es' : List ℕ) → is_some k ≡ false → b ≡ body_words ws
      → Meets z (place (room_of z) n (items_of b) (grown_of c ns es) 0) a ns' es' → Meets z (place_first (room_of z) n ws (grown_of c ns es)) a ns' es'
  unfolding place_rule
  rule-placed b a ns' es' h w m = by k e h
    where
      by : (k : Option SymbolNo) → source_of k ≡ source (rule_of ws).body → is_some k ≡ false → Meets z (place_first (room_of z) n ws (grown_of c ns es)) a ns' es'
      by (Some u) e h = absurd (false≢true (path.sym h))
      by None e h = record { answer = rw (← e, ← w) m.answer; stands = m.stands }

-- ---- the rules, so many of them placed

pub record Rest (z : lent.Room) (ws : List ℕ) (c₀ : Counts) (ns₀ es₀ : List ℕ) (c : Counts) (ns es : List ℕ) (n : ℕ) (rest : List ℕ) : Type 0 where
  pub k : ℕ
  pub few : n + k ≡ most_rules
  pub good : good_rules 0 k rest ≡ true
  pub stands : Stands z c ns es
  pub nodes-kept : length ns ≡ length ns₀
  pub edges-kept : length es ≡ length es₀
  pub same : place_rules (room_of z) (n + 1) (rules_of k rest) (grown_of c ns es) ≡ place_rules (room_of z) 1 (the_rules ws) (grown_of c₀ ns₀ es₀)

pub rest-start : (z : lent.Room) (ws : List ℕ) (c : Counts) (ns es : List ℕ) → Stands z c ns es → some_rules ws ≡ true → Rest z ws c ns es c ns es 0 ws
rest-start z ws c ns es s g = record { k = most_rules; few = omega arith; good = g; stands = s; nodes-kept = refl; edges-kept = refl; same = refl }

module _ (z : lent.Room) (ws : List ℕ) (c₀ : Counts) (ns₀ es₀ : List ℕ) (c : Counts) (ns es : List ℕ) (n : ℕ) (rest : List ℕ) (l : Rest z ws c₀ ns₀ es₀ c ns es n rest) where
  module _ (h : 0 < length rest) where
    pub rest-here : Front l.k rest
    rest-here = front l.k rest l.good h

    rest-step : bind (place_first (room_of z) (n + 1) rest (grown_of c ns es)) (λ g. place_rules (room_of z) (n + 1 + 1) (rules_of rest-here.j (rest_of rest)) g)
        ≡ place_rules (room_of z) 1 (the_rules ws) (grown_of c₀ ns₀ es₀)
    unfolding place_rules
    rest-step = rw (rest-here.first, ← add-one (n + 1)) at l.same

    module _ (a : Grew) (ns' es' : List ℕ) (m : Meets z (place_first (room_of z) (n + 1) rest (grown_of c ns es)) a ns' es') where
      pub rest_more : (d : Counts) → a ≡ Ok d → length ns' ≡ length ns → length es' ≡ length es → Rest z ws c₀ ns₀ es₀ d ns' es' (n + 1) (rest_of rest)
      rest_more d e kn ke = record {
        k = rest-here.j;
        few = omega (arith, l.few, rest-here.less);
        good = rest-here.after;
        stands = rw e at m.stands;
        nodes-kept = kn ∙ l.nodes-kept;
        edges-kept = ke ∙ l.edges-kept;
        same = path.sym (on_then a ns' es' _ m.answer d e _) ∙ rest-step;
      }

      pub rest-refused : (y : why.Fault) → a ≡ Err y → Meets z (place_rules (room_of z) 1 (the_rules ws) (grown_of c₀ ns₀ es₀)) (Err y) ns' es'
      rest-refused y e = record { answer = path.sym (refused-then a ns' es' _ m.answer y e _) ∙ rest-step; stands = tt }

  pub rest_end : length rest ≡ 0 → Meets z (place_rules (room_of z) 1 (the_rules ws) (grown_of c₀ ns₀ es₀)) (Ok c) ns es
  unfolding place_rules
  rest_end h = record { answer = rw (none-ahead l.k rest h) at l.same; stands = l.stands }
