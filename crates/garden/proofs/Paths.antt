-- Laws of garden paths: an edge that is followed, the two places, and the copy.
use mathlib.Core.Path.{◌≡◌, refl, sym, ◌∙◌}
use mathlib.Core.Bool.{Bool, true, false, false≢true, not, ◌&&◌}
use mathlib.Core.List.{List, [], ◌∷◌}
use mathlib.Core.Option.{none}
use Prim.Native.Nat.{ℕ, ◌≤◌, ◌<◌}
use native.Mathlib.Omega.{arith}
use lib.Dec.{eqb, ltb}
use lib.ListN.{length, get_or, take, drop}
use lib.Seq.{get_or-take}
use borrow.Author.Tests.{eq-eqb, ne_eqb}
use Rattle.words.specs.Outcome.{Res, ok, no, bind, when}
use Rattle.words.specs.Numbers.{Fault, bad_copy}
use Rattle.words.proofs.Theorems.Tests.{and_r}
use Rattle.words.specs.declared.NodeNo.{NodeNo}
use Rattle.rows.specs.Rows.{Reduce, edge_of, find}
use Rattle.rows.specs.Code.{reduces_are, edge_is, Holds, row_at}
use Rattle.rows.specs.declared.Edge as held
use Rattle.rows.specs.declared.reduce_list.Reduces.{Reduces}
use Rattle.tree.specs.Grow.{Grown, branch_at, apart}
use Rattle.tree.specs.Code.{Grew, room_of, fault_of, grown_of, edges_in, FoundAt, Stands, Rows, Meets}
use Rattle.tree.proofs.Theorems.Counted.{branch-is, apart-is}
use Rattle.tree.specs.declared.Counts.{Counts}
use Rattle.tree.specs.declared.Room as lent
use Rattle.tree.specs.declared.Fault as why-of
use Rattle.tree.specs.declared.Fault.TheVariants as why
use Rattle.std.specs.Prelude.{Ok, Err, Some, None}
use Rattle.garden.specs.Garden.{Pair, pairs_of, good_pairs, Places, Parting, part_at, diff_extend, raised_on, extend, the_edge, edge_for, leads_to, of_kind, move_on, along_pair, along, clone_with_reduce_vec, clone_branches, shadowed, graft_leaf, graft, graft_at, handle_common_prefixes}
use Rattle.garden.specs.Code.{Parted, Reached, Moved, StillPlaced, bounds_of, pair_at, pair_is, FirstPair, parted_of, reached_of, ReachedIn, places_of, along_of, Placed, Along}
use Rattle.garden.specs.declared.path.Places as held-places
use Rattle.garden.specs.declared.path.Pair as held-pair
use Rattle.garden.specs.declared.path.Parting as held-parting
use Rattle.std.specs.Borrow.{Bor}
use Rattle.rules.specs.Rules.{symbol}
use Rattle.garden.proofs.Commands.{rows-meet}

-- ---- an edge that is followed

module _ (c : Counts) (ns es : List ℕ) (n : ℕ) (p : Pair) where
  pub leads-nowhere : find (edges_in c.edges es) n p.kind p.sym ≡ none → no bad_copy ≡ leads_to (edge_for (grown_of c ns es) n p)
  unfolding leads_to the_edge bind
  leads-nowhere h = rw h

  pub leads-on : (i : ℕ) (t : NodeNo) → FoundAt c es n p.kind p.sym i → t.0 ≡ (edge_of (row_at es i)).to
      → ok t.0 ≡ leads_to (edge_for (grown_of c ns es) n p)
  unfolding leads_to the_edge bind
  leads-on i t f o = rw (f.finds, o)

-- asked for a pair of this kind alone
module _ (k : ℕ) (p : Pair) (x : Res Fault ℕ) where
  pub other-kind : (p.kind ≡ k → ⊥) → no bad_copy ≡ of_kind k p x
  unfolding of_kind bind when
  other-kind d = rw (ne_eqb _ _ d)

  pub of-kind : p.kind ≡ k → of_kind k p x ≡ x
  unfolding of_kind bind when
  of-kind e = rw (eq-eqb _ _ e)

-- ---- the two places move on

module _ (c : Counts) (k : ℕ) (s : held-places.Places) (e f : held.Edge) where
  abbrev moved : Res Fault Places
  moved = move_on k (places_of s) (edge_is e) (edge_is f)

  pub left_over : (y : why-of.Fault) → diff_extend (reduces_are f.reduces) (reduces_are e.reduces) ≡ no (fault_of y) → Along c moved (Err y)
  unfolding move_on bind
  left_over y h = record { answer = rw h; placed = tt }

  module _ (a : Reduces) (h : diff_extend (reduces_are f.reduces) (reduces_are e.reduces) ≡ ok (reduces_are a)) where
    pub far-offset : (y : why-of.Fault) → raised_on k (reduces_are s.stored) ≡ no (fault_of y) → Along c moved (Err y)
    unfolding move_on bind
    far-offset y g = record { answer = rw (h, g); placed = tt }

    module _ (b : Reduces) (g : raised_on k (reduces_are s.stored) ≡ ok (reduces_are b)) where
      pub sixth-stored : (y : why-of.Fault) → extend (reduces_are b) (reduces_are a) ≡ no (fault_of y) → Along c moved (Err y)
      unfolding move_on bind
      sixth-stored y r = record { answer = rw (h, g, r); placed = tt }

      pub moved_on : (d : Reduces) → extend (reduces_are b) (reduces_are a) ≡ ok (reduces_are d) → e.to.0 < c.nodes → f.to.0 < c.nodes
          → Along c moved (Ok (record { first = e.to; second = f.to; stored = d }))
      unfolding move_on bind
      moved_on d r to from = record { answer = rw (h, g, r); placed = record { first-in = to; second-in = from } }

-- one pair of the prefix
module _ (c : Counts) (ns es : List ℕ) (s : held-places.Places) (q : Pair) where
  abbrev paired : Res Fault Places
  paired = along_pair (grown_of c ns es) (places_of s) q

  pub no-first : find (edges_in c.edges es) s.first.0 q.kind q.sym ≡ none → Along c paired (Err why.BadCopy)
  unfolding along_pair the_edge bind
  no-first f = record { answer = rw f; placed = tt }

  module _ (i : ℕ) (f : FoundAt c es s.first.0 q.kind q.sym i) where
    pub no_second : find (edges_in c.edges es) s.second.0 q.kind q.sym ≡ none → Along c paired (Err why.BadCopy)
    unfolding along_pair the_edge bind
    no_second g = record { answer = rw (f.finds, g); placed = tt }

    pub both-edges : (j : ℕ) → FoundAt c es s.second.0 q.kind q.sym j
        → (d e : held.Edge) → Holds d (edge_of (row_at es i)) → Holds e (edge_of (row_at es j))
        → (l : Moved) → Along c (move_on q.kind (places_of s) (edge_is d) (edge_is e)) l → Along c paired l
    unfolding along_pair the_edge bind
    both-edges j g d e x y l w = record { answer = rw (f.finds, g.finds, ← x.says, ← y.says) w.answer; placed = w.placed }

-- ---- where the two lists part

part-no-shadow : (g : Grown) (n : ℕ) (ps : List Pair) → part_at g n ps [] ≡ no bad_copy
unfolding part_at
part-no-shadow g n [] = refl
part-no-shadow g n (p ∷ ps) = refl

part_same : (g : Grown) (n : ℕ) (p q : Pair) (ps qs : List Pair) → eqb p.kind q.kind && eqb p.sym q.sym ≡ true
    → part_at g n (p ∷ ps) (q ∷ qs) ≡ bind (of_kind 0 p (leads_to (edge_for g n p))) λ n. part_at g n ps qs
unfolding part_at
part_same g n p q ps qs e = rw (e, part_at)

part-other : (g : Grown) (n : ℕ) (p q : Pair) (ps qs : List Pair) → eqb p.kind q.kind && eqb p.sym q.sym ≡ false
    → part_at g n (p ∷ ps) (q ∷ qs) ≡ ok (record { node = n; rest = p ∷ ps; shadow = q })
unfolding part_at
part-other g n p q ps qs e = rw (e, part_at)

-- from node n on, with what is left of the two lists
pub record Parts (c : Counts) (es ps qs : List ℕ) (n : ℕ) (left right : List ℕ) : Type 0 where
  pub node_in : n < c.nodes
  pub good : good_pairs left ≡ true
  pub same : (ns : List ℕ) → part_at (grown_of c ns es) n (pairs_of left) (pairs_of right) ≡ part_at (grown_of c ns es) 0 (pairs_of ps) (pairs_of qs)

pub parts-start : (c : Counts) (es ps qs : List ℕ) → 0 < c.nodes → good_pairs ps ≡ true → Parts c es ps qs 0 ps qs
parts-start c es ps qs r g = record { node_in = r; good = g; same = λ ns. refl }

module _ (c : Counts) (es ps qs : List ℕ) (n : ℕ) (left right : List ℕ) (l : Parts c es ps qs n left right) where
  abbrev parted : List ℕ → Res Fault Parting
  parted ns = part_at (grown_of c ns es) 0 (pairs_of ps) (pairs_of qs)

  pub prefix-ends : pairs_of left ≡ [] → (ns : List ℕ) → no bad_copy ≡ parted ns
  unfolding part_at
  prefix-ends h ns = rw h at (l.same ns)

  pub shadow-ends : pairs_of right ≡ [] → (ns : List ℕ) → no bad_copy ≡ parted ns
  shadow-ends h ns = sym (part-no-shadow (grown_of c ns es) n (pairs_of left)) ∙ (rw h at (l.same ns))

  module _ (p q : held-pair.Pair) (left' right' : Bor (List ℕ)) (v : FirstPair left (Some (p, left'))) (w : FirstPair right (Some (q, right'))) where
    here : (ns : List ℕ) → part_at (grown_of c ns es) n (pair_is p ∷ pairs_of left'.now) (pair_is q ∷ pairs_of right'.now) ≡ parted ns
    here ns = rw (v.0, w.0) at (l.same ns)

    pub parts-here : eqb p.kind q.kind && eqb p.symbol.0 q.symbol.0 ≡ false → (ns : List ℕ) → ok (record { node = n; rest = pairs_of left; shadow = pair_is q }) ≡ parted ns
    parts-here f ns = rw v.0 (sym (part-other _ n _ _ _ _ f) ∙ here ns)

    module _ (f : eqb p.kind q.kind && eqb p.symbol.0 q.symbol.0 ≡ true) (r : Reached)
        (u : (ns : List ℕ) → reached_of r ≡ of_kind 0 (pair_is p) (leads_to (edge_for (grown_of c ns es) n (pair_is p)))) where
      on : (ns : List ℕ) → bind (reached_of r) (λ n. part_at (grown_of c ns es) n (pairs_of left'.now) (pairs_of right'.now)) ≡ parted ns
      on ns = rw (u ns) (sym (part_same _ n _ _ _ _ f) ∙ here ns)

      pub parts-stuck : r ≡ None → (ns : List ℕ) → no bad_copy ≡ parted ns
      unfolding bind
      parts-stuck e ns = rw e at (on ns)

      pub parts_next : (to : NodeNo) → r ≡ Some to → ReachedIn c r → Parts c es ps qs to.0 left'.now right'.now
      unfolding bind
      parts_next to e i = record { node_in = rw e at i; good = v.1 l.good; same = λ ns. rw e at (on ns) }

-- of a test that two are different
pub differ : (b s : Bool) → b ≡ not s → b ≡ true → s ≡ false
differ b true e h = absurd (false≢true (sym e ∙ h))
differ b false e h = refl

pub alike : (b s : Bool) → b ≡ not s → b ≡ false → s ≡ true
alike b true e h = refl
alike b false e h = absurd (false≢true (sym h ∙ e))

-- the first pair of a list
pub pair-first : (ws : List ℕ) → 2 ≤ length ws → pairs_of ws ≡ pair_at ws 0 ∷ pairs_of (drop 2 ws)
unfolding pairs_of
pair-first [] h = absurd (omega arith)
pair-first (k ∷ []) h = absurd (omega arith)
pair-first (k ∷ y ∷ ws) h = refl

pub pairs-after : (ws : List ℕ) → 2 ≤ length ws → good_pairs ws ≡ true → good_pairs (drop 2 ws) ≡ true
unfolding good_pairs
pairs-after [] h g = absurd (omega arith)
pairs-after (k ∷ []) h g = absurd (omega arith)
pairs-after (k ∷ y ∷ ws) h g = and_r (not (ltb 1 k) && symbol y) (good_pairs ws) g

pub no-pair : (ws : List ℕ) → length ws < 2 → pairs_of ws ≡ []
unfolding pairs_of
no-pair [] h = refl
no-pair (k ∷ []) h = refl
no-pair (k ∷ y ∷ ws) h = absurd (omega arith)

-- ---- the rest of the prefix

-- these words are left, and the code holds the two places s; it started from s₀
pub record Walks (c : Counts) (es ws : List ℕ) (s₀ s : held-places.Places) (left : List ℕ) : Type 0 where
  pub placed : Placed c s
  pub good : good_pairs left ≡ true
  pub same : (ns : List ℕ) → along (grown_of c ns es) (places_of s) (pairs_of left) ≡ along (grown_of c ns es) (places_of s₀) (pairs_of ws)

abbrev begun : ℕ → Places
begun n = record { first = n; second = 0; stored = [] }

module _ (c : Counts) (es ws : List ℕ) (n : NodeNo) (ds : Reduces) (none : reduces_are ds ≡ []) where
  abbrev started : held-places.Places
  started = record { first = n; second = record { 0 = 0 }; stored = ds }

  pub walks-start : n.0 < c.nodes → good_pairs ws ≡ true → Walks c es ws started started ws
  walks-start h g = record { placed = record { first-in = h; second-in = omega arith }; good = g; same = λ ns. refl }

  module _ (s : held-places.Places) (left : List ℕ) (l : Walks c es ws started s left) where
    pub walks-end : pairs_of left ≡ [] → (ns : List ℕ) → Along c (along (grown_of c ns es) (begun n.0) (pairs_of ws)) (Ok s)
    unfolding along
    walks-end h ns = record { answer = rw (h, none) at (l.same ns); placed = l.placed }

    module _ (p : held-pair.Pair) (left' : Bor (List ℕ)) (v : FirstPair left (Some (p, left'))) where
      module _ (d : Moved) (w : (ns : List ℕ) → Along c (along_pair (grown_of c ns es) (places_of s) (pair_is p)) d) where
        on-along : (ns : List ℕ) → bind (along_of d) (λ s. along (grown_of c ns es) s (pairs_of left'.now)) ≡ along (grown_of c ns es) (begun n.0) (pairs_of ws)
        unfolding along
        on-along ns = rw (w ns).answer (rw (v.0, none) at (l.same ns))

        pub walks-stopped : (y : why-of.Fault) → d ≡ Err y → (ns : List ℕ) → Along c (along (grown_of c ns es) (begun n.0) (pairs_of ws)) (Err y)
        unfolding bind
        walks-stopped y e ns = record { answer = rw e at (on-along ns); placed = tt }

        pub walks-on : (next : held-places.Places) → d ≡ Ok next → Walks c es ws started next left'.now
        unfolding bind
        walks-on next e =
            let moved : Along c (along_pair (grown_of c [] es) (places_of s) (pair_is p)) (Ok next) = rw e at (w []) in
            record { placed = moved.placed; good = v.1 l.good; same = λ ns. rw none (rw e at (on-along ns)) }

-- ---- the copy

-- the second place is a leaf
module _ (z : lent.Room) (c : Counts) (t : ℕ) (s : held-places.Places) (ns es : List ℕ) (h : t < c.nodes) (p : Placed c s)
    (b : Bool) (q : b ≡ not (eqb t s.first.0) && eqb (get_or ns t 0) 0 && eqb (get_or ns s.first.0 0) 0) where
  abbrev grafted : Res Fault Grown
  grafted = graft_leaf (room_of z) t (places_of s) (grown_of c ns es)

  are-apart : apart (grown_of c ns es) t s.first.0 ≡ b
  are-apart = apart-is c ns es t s.first.0 h p.first-in ∙ sym q

  pub graft-bad : b ≡ false → Rows z c grafted (Err why.BadCopy) ns es
  unfolding graft_leaf bind when
  graft-bad e = record { answer = rw (are-apart, e); rowed = tt }

  module _ (e : b ≡ true) (x : Res Fault (List Reduce)) (w : extend (reduces_are s.stored) (record { rule = get_or ns s.second.0 0; offset = 0 } ∷ []) ≡ x) where
    leaf-rule : get_or (take c.nodes ns) s.second.0 0 ≡ get_or ns s.second.0 0
    leaf-rule = get_or-take c.nodes ns s.second.0 0 p.second-in

    pub graft-sixth : (y : why-of.Fault) → x ≡ no (fault_of y) → Rows z c grafted (Err y) ns es
    unfolding graft_leaf bind when
    graft-sixth y o = record { answer = rw (are-apart, e, leaf-rule, w, o); rowed = tt }

    pub graft-copied : (ds : Reduces) → x ≡ ok (reduces_are ds) → (r : Grew) (es' : List ℕ)
        → Rows z c (clone_with_reduce_vec (room_of z) t s.first.0 (reduces_are ds) (grown_of c ns es)) r ns es' → Rows z c grafted r ns es'
    unfolding graft_leaf bind when
    graft-copied ds o r es' k = record { answer = rw (are-apart, e, leaf-rule, w, o) k.answer; rowed = k.rowed }

module _ (z : lent.Room) (c : Counts) (t : ℕ) (s : held-places.Places) (ns es : List ℕ) (m : ℕ) (d : Stands z c ns es) (p : Placed c s) (b : Bool) (q : b ≡ eqb (get_or ns s.second.0 0) 0) where
  abbrev graft-result : Res Fault Grown
  graft-result = graft (bounds_of z m) t (places_of s) (grown_of c ns es) (branch_at (grown_of c ns es) s.second.0)

  is-branch : branch_at (grown_of c ns es) s.second.0 ≡ b
  is-branch = branch-is c ns es s.second.0 p.second-in ∙ sym q

  pub graft-branch : b ≡ true → (x : Grew) (ns' es' : List ℕ)
      → Meets z (clone_branches (bounds_of z m) t (record { from = s.second.0; to = s.first.0; stored = reduces_are s.stored }) (grown_of c ns es)) x ns' es'
      → Meets z graft-result x ns' es'
  unfolding graft
  graft-branch e x ns' es' k = record { answer = rw (is-branch, e) k.answer; stands = k.stands }

  pub graft-as-leaf : b ≡ false → (x : Grew) (es' : List ℕ) → Rows z c (graft_leaf (room_of z) t (places_of s) (grown_of c ns es)) x ns es' → Meets z graft-result x ns es'
  unfolding graft
  graft-as-leaf e x es' k = rw (is-branch, e) (rows-meet z c _ x ns es es' d k)

-- ---- from where the two lists part

module _ (z : lent.Room) (c : Counts) (n t : ℕ) (ws ns es : List ℕ) (m : ℕ) (l : Moved) (w : Along c (along (grown_of c ns es) (begun n) (pairs_of ws)) l) where
  abbrev graft-at-result : Res Fault Grown
  graft-at-result = graft_at (bounds_of z m) n t (pairs_of ws) (grown_of c ns es)

  pub walk_refused : (y : why-of.Fault) → l ≡ Err y → Meets z graft-at-result (Err y) ns es
  unfolding graft_at bind
  walk_refused y e = record { answer = rw (← w.answer, e); stands = tt }

  module _ (s : held-places.Places) (e : l ≡ Ok s) where
    pub walk-placed : Placed c s
    walk-placed = let v : StillPlaced c (Ok s) = rw e at w.placed in v

    pub walk-ended : (x : Grew) (ns' es' : List ℕ)
        → Meets z (graft (bounds_of z m) t (places_of s) (grown_of c ns es) (branch_at (grown_of c ns es) s.second.0)) x ns' es' → Meets z graft-at-result x ns' es'
    unfolding graft_at bind
    walk-ended x ns' es' k = record { answer = rw (← w.answer, e) k.answer; stands = k.stands }

module _ (z : lent.Room) (c : Counts) (ps qs ns es : List ℕ) (m : ℕ) where
  abbrev handled : Res Fault Grown
  handled = handle_common_prefixes (bounds_of z m) (pairs_of ps) (pairs_of qs) (grown_of c ns es)

  module _ (u : Parted) (w : parted_of u ≡ part_at (grown_of c ns es) 0 (pairs_of ps) (pairs_of qs)) where
    pub never-part : u ≡ None → Meets z handled (Err why.BadCopy) ns es
    unfolding handle_common_prefixes bind
    never-part e = record { answer = rw (← w, e); stands = tt }

    module _ (p : held-parting.Parting) (e : u ≡ Some p) (r : Reached)
        (v : reached_of r ≡ of_kind 1 (pair_is p.shadow) (leads_to (edge_for (grown_of c ns es) p.node.0 (pair_is p.shadow)))) where
      pub no-shadow : r ≡ None → Meets z handled (Err why.BadCopy) ns es
      unfolding handle_common_prefixes shadowed bind
      no-shadow f = record { answer = rw (← w, e, ← v, f); stands = tt }

      pub handled-on : (t : NodeNo) → r ≡ Some t → (x : Grew) (ns' es' : List ℕ)
          → Meets z (graft_at (bounds_of z m) p.node.0 t.0 (pairs_of p.rest.now) (grown_of c ns es)) x ns' es' → Meets z handled x ns' es'
      unfolding handle_common_prefixes shadowed bind
      handled-on t f x ns' es' k = record { answer = rw (← w, e, ← v, f) k.answer; stands = k.stands }
