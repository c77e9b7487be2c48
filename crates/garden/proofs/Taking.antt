-- Laws of one row of a clone.
use mathlib.Core.Path.{◌≡◌, sym, ap, ◌∙◌}
use mathlib.Core.Bool.{Bool, true, false, not, ◌&&◌}
use mathlib.Core.List.{List, [], ◌∷◌, ◌++◌}
use mathlib.Core.Option as math
use Prim.Native.Nat.{ℕ, ◌+◌, ◌≤◌, ◌<◌}
use native.Mathlib.Numerals.{add-one}
use native.Mathlib.Omega.{arith}
use lib.Dec.{eqb, ltb}
use lib.ListN.{length, take, set, get_or, length-append, length-set}
use lib.Seq.{take-suc-set, get_or-take}
use borrow.Author.Tests.{lt-ltb, le-ltb, eq-eqb, ne_eqb}
use Rattle.std.specs.Prelude.{Some, None, Ok, Err}
use Rattle.words.specs.Outcome.{Res, ok, no, bind, when}
use Rattle.words.specs.Numbers.{Fault, no_node, no_edge, bad_copy}
use Rattle.words.specs.declared.NodeNo.{NodeNo}
use Rattle.rows.specs.Rows.{Reduce, Edge, edge_of, insert_edge, find}
use Rattle.rows.specs.Code.{reduces_are, edge_is, Holds, row_at}
use Rattle.rows.specs.declared.Edge as held
use Rattle.rows.specs.declared.reduce_list.Reduces.{Reduces}
use Rattle.tree.specs.Grow.{Grown, Room, add_edge, branch_at, apart}
use Rattle.tree.specs.Code.{Grew, room_of, fault_of, edges_in, grown_of, FoundAt, Rowed, Stands, Rows, Meets}
use Rattle.tree.proofs.Theorems.Counted.{nodes-count, branch-is, apart-is}
use Rattle.tree.specs.declared.Counts.{Counts}
use Rattle.tree.specs.declared.Room as lent
use Rattle.tree.specs.declared.Fault as why
use Rattle.tree.specs.declared.Fault.TheVariants as code
use Rattle.tree.proofs.Laws.{row-leads, both-stand}
use Rattle.garden.specs.Garden.{Taken, raised_on, leaf_reduces, leaf_rule, take_leaf, add_branch, store_other, new_branch, old_branch, take_branch, take_by, take_up, clone_with_reduce_vec}
use Rattle.garden.specs.Code.{Took, Kept, Keeps, Takes}
use Rattle.garden.specs.declared.row.Cloning.{Cloning}

-- ---- the rows that stood

-- there is a node more
pub keeps-less : (c : Counts) (es : List ℕ) (r : Grew) (es' : List ℕ) → Keeps (record { nodes = c.nodes + 1; edges = c.edges }) es r es' → Keeps c es r es'
keeps-less c es (Ok d) es' k = record { nodes = omega (arith, k.nodes); edges = k.edges; stood = k.stood }
keeps-less c es (Err f) es' k = tt

-- what a step that is done keeps
pub keeps-of : (c : Counts) (es : List ℕ) (r : Grew) (es' : List ℕ) → Keeps c es r es' → (d : Counts) → r ≡ Ok d → Kept c es d es'
keeps-of c es r es' k d h = rw h at k

-- where a row that is there leads
pub leads-in : (z : lent.Room) (c : Counts) (es : List ℕ) → Rowed z c es → (i : ℕ) → i < c.edges → (t : NodeNo) → t.0 ≡ (edge_of (row_at es i)).to → t.0 < c.nodes
leads-in z c es r i h t e = rw e (row-leads z c es i r h).to_in

-- ---- a new branch

-- one node more
branch-longer : (z : Room) (g : Grown) (m : ℕ) (e : Edge) (g' : Grown) → ok g' ≡ add_branch z g m e → length g'.nodes ≡ length g.nodes + 1
unfolding add_branch add_edge bind when
branch-longer z g m e g' h = go (ltb (length g.nodes) z.nodes) (ltb (length g.edges) z.edges) h
  where
    more : ℕ → Grown
    more k = record { nodes = g.nodes ++ 0 ∷ []; edges = insert_edge (record { from = m; kind = e.kind; sym = e.sym; to = k; reduces = e.reduces }) g.edges }

    go : (a b : Bool) → ok g' ≡ bind (when a no_node (length g.nodes)) (λ k. when b no_edge (more k)) → length g'.nodes ≡ length g.nodes + 1
    go true true h = let s : g' ≡ more (length g.nodes) = cc in ap (λ (g : Grown). length g.nodes) s ∙ length-append g.nodes (0 ∷ [])
    go true false h = cc
    go false b h = cc

module _ (z : lent.Room) (c : Counts) (ns es : List ℕ) (s : Stands z c ns es) where
  module _ (m : ℕ) (e : held.Edge) where
    pub branch-refused : z.nodes ≤ c.nodes → Meets z (add_branch (room_of z) (grown_of c ns es) m (edge_is e)) (Err code.NoNode) ns es
    unfolding add_branch bind when
    branch-refused h = record { answer = rw (nodes-count z c ns es s, le-ltb c.nodes z.nodes h); stands = tt }

    pub branch-added : (r : Grew) (es' : List ℕ)
        → let c' : Counts = record { nodes = c.nodes + 1; edges = c.edges } in
        let ns' = set ns c.nodes 0 in
        c.nodes < z.nodes
        → Rows z c' (add_edge (room_of z) (grown_of c' ns' es) (record { from = m; kind = e.key.kind; sym = e.key.symbol.0; to = c.nodes; reduces = reduces_are e.reduces })) r ns' es'
        → Meets z (add_branch (room_of z) (grown_of c ns es) m (edge_is e)) r ns' es'
    unfolding add_branch bind when
    branch-added r es' h rows =
        let ns' = set ns c.nodes 0 in
        let more : take (c.nodes + 1) ns' ≡ take c.nodes ns ++ 0 ∷ [] = rw (add-one, take-suc-set ns c.nodes 0 (omega (arith, s.fits))) in
        record {
          answer = rw (nodes-count z c ns es s, lt-ltb c.nodes z.nodes h) (rw more at rows.answer);
          stands = both-stand z (c.nodes + 1) r ns' es' (omega arith) (omega arith) (simp length-set s.fits) s.few rows.rowed;
        }

    -- the clone to it can begin
    module _ (ds : Reduces) (r : Grew) (ns' es' : List ℕ) (w : Meets z (add_branch (room_of z) (grown_of c ns es) m (edge_is e)) r ns' es') where
      pub clone-begins : (d : Counts) → r ≡ Ok d
          → Takes z (new_branch (room_of z) m (reduces_are ds) (grown_of c ns es) (edge_is e))
          (Ok (record { counts = d; next = Some (record { from = e.to; to = record { 0 = c.nodes }; stored = ds }) })) ns' es'
      unfolding new_branch bind
      clone-begins d h =
          let v : Meets z (add_branch (room_of z) (grown_of c ns es) m (edge_is e)) (Ok d) ns' es' = rw h at w in
          let t : Stands z d ns' es' = v.stands in
          let longer = branch-longer (room_of z) (grown_of c ns es) m (edge_is e) (grown_of d ns' es') v.answer in
          let new = nodes-count z d ns' es' t in
          record { answer = rw (← v.answer, nodes-count z c ns es s); stands = (t, omega (arith, nodes-count z c ns es s)) }

      pub none-begins : (f : why.Fault) → r ≡ Err f → Takes z (new_branch (room_of z) m (reduces_are ds) (grown_of c ns es) (edge_is e)) (Err f) ns' es'
      unfolding new_branch bind
      none-begins f h =
          let v : Meets z (add_branch (room_of z) (grown_of c ns es) m (edge_is e)) (Err f) ns' es' = rw h at w in
          record { answer = rw (← v.answer); stands = tt }

-- ---- the branch that is there

module _ (z : lent.Room) (c : Counts) (ns es : List ℕ) (s : Stands z c ns es) (ds : List Reduce) (e d : held.Edge) where
  abbrev kept : Res Fault Taken
  kept = old_branch ds (grown_of c ns es) (edge_is e) (edge_is d)

  pub other-refused : (f : why.Fault) → store_other ds (edge_is e) (edge_is d) ≡ no (fault_of f) → Takes z kept (Err f) ns es
  unfolding old_branch bind
  other-refused f h = record { answer = rw h; stands = tt }

  pub other-begins : (stored : Reduces) → store_other ds (edge_is e) (edge_is d) ≡ ok (reduces_are stored) → d.to.0 < c.nodes
      → Takes z kept (Ok (record { counts = c; next = Some (record { from = e.to; to = d.to; stored = stored }) })) ns es
  unfolding old_branch bind
  other-begins stored h to = record { answer = rw h; stands = (s, to) }

-- ---- a row that leads to a leaf

module _ (z : lent.Room) (c : Counts) (ns es : List ℕ) (t : ℕ) (clone : Cloning) (e : held.Edge) (to : e.to.0 < c.nodes)
    (x : Res Fault (List Reduce)) (w : leaf_reduces (get_or ns e.to.0 0) (edge_is e) (reduces_are clone.stored) ≡ x) where
  abbrev found : math.Option Edge
  found = find (edges_in c.edges es) clone.to.0 e.key.kind e.key.symbol.0

  abbrev taken : Res Fault Grown
  taken = take_leaf (room_of z) t clone.to.0 (reduces_are clone.stored) (grown_of c ns es) (edge_is e) found

  listed-is : leaf_reduces (leaf_rule (grown_of c ns es) (edge_is e)) (edge_is e) (reduces_are clone.stored) ≡ x
  listed-is = rw (get_or-take c.nodes ns e.to.0 0 to) w

  module _ (f : found ≡ math.none) where
    pub leaf-unlisted : (y : why.Fault) → x ≡ no (fault_of y) → Rows z c taken (Err y) ns es
    unfolding take_leaf bind
    leaf-unlisted y h = record { answer = rw (f, listed-is, h); rowed = tt }

    pub leaf-free : (ds : Reduces) → x ≡ ok (reduces_are ds) → (r : Grew) (es' : List ℕ)
        → Rows z c (add_edge (room_of z) (grown_of c ns es) (record { from = clone.to.0; kind = e.key.kind; sym = e.key.symbol.0; to = t; reduces = reduces_are ds })) r ns es'
        → Rows z c taken r ns es'
    unfolding take_leaf bind
    leaf-free ds h r es' k = record { answer = rw (f, listed-is, h) k.answer; rowed = k.rowed }

  -- the shadow's rows are copied to where the row that is there leads
  module _ (i : ℕ) (f : FoundAt c es clone.to.0 e.key.kind e.key.symbol.0 i) (d : NodeNo) (o : d.0 ≡ (edge_of (row_at es i)).to) (t-in : t < c.nodes) (d-in : d.0 < c.nodes)
      (b : Bool) (q : b ≡ not (eqb t d.0) && eqb (get_or ns t 0) 0 && eqb (get_or ns d.0 0) 0) where
    test : apart (grown_of c ns es) t (edge_of (row_at es i)).to ≡ b
    test = rw (← o) (apart-is c ns es t d.0 t-in d-in ∙ sym q)

    pub copy-refused : b ≡ false → Rows z c taken (Err code.BadCopy) ns es
    unfolding take_leaf bind when
    copy-refused h = record { answer = rw (f.finds, test, h); rowed = tt }

    module _ (h : b ≡ true) where
      pub copy-unlisted : (y : why.Fault) → x ≡ no (fault_of y) → Rows z c taken (Err y) ns es
      unfolding take_leaf bind when
      copy-unlisted y k = record { answer = rw (f.finds, test, h, listed-is, k); rowed = tt }

      pub rows-copied : (ds : Reduces) → x ≡ ok (reduces_are ds) → (r : Grew) (es' : List ℕ)
          → Rows z c (clone_with_reduce_vec (room_of z) t d.0 (reduces_are ds) (grown_of c ns es)) r ns es' → Rows z c taken r ns es'
      unfolding take_leaf bind when
      rows-copied ds k r es' v = record { answer = rw (f.finds, test, h, listed-is, k, ← o) v.answer; rowed = v.rowed }

-- ---- a row that leads to a branch

module _ (z : lent.Room) (c : Counts) (ns es : List ℕ) (clone : Cloning) (e : held.Edge) where
  abbrev branched : math.Option Edge → Res Fault Taken
  branched = take_branch (room_of z) clone.to.0 (reduces_are clone.stored) (grown_of c ns es) (edge_is e)

  pub raise-refused : (o : math.Option Edge) (y : why.Fault) → raised_on e.key.kind (reduces_are clone.stored) ≡ no (fault_of y) → Takes z (branched o) (Err y) ns es
  unfolding take_branch bind
  raise-refused math.none y h = record { answer = rw h; stands = tt }
  raise-refused (math.some d) y h = record { answer = rw h; stands = tt }

  module _ (raised : Reduces) (h : raised_on e.key.kind (reduces_are clone.stored) ≡ ok (reduces_are raised)) (u : Took) (ns' es' : List ℕ) where
    pub branch-free : find (edges_in c.edges es) clone.to.0 e.key.kind e.key.symbol.0 ≡ math.none
        → Takes z (new_branch (room_of z) clone.to.0 (reduces_are raised) (grown_of c ns es) (edge_is e)) u ns' es'
        → Takes z (branched (find (edges_in c.edges es) clone.to.0 e.key.kind e.key.symbol.0)) u ns' es'
    unfolding take_branch bind
    branch-free f k = record { answer = rw (f, h) k.answer; stands = k.stands }

    pub branch-there : (i : ℕ) (d : held.Edge) → FoundAt c es clone.to.0 e.key.kind e.key.symbol.0 i → Holds d (edge_of (row_at es i))
        → Takes z (old_branch (reduces_are raised) (grown_of c ns es) (edge_is e) (edge_is d)) u ns' es'
        → Takes z (branched (find (edges_in c.edges es) clone.to.0 e.key.kind e.key.symbol.0)) u ns' es'
    unfolding take_branch bind
    branch-there i d f o k = record {
      answer = rw (f.finds, h) (k.answer ∙ ap (λ (d : Edge). old_branch (reduces_are raised) (grown_of c ns es) (edge_is e) d) o.says);
      stands = k.stands;
    }

-- ---- any row

module _ (z : lent.Room) (c : Counts) (ns es : List ℕ) (s : Stands z c ns es) (t : ℕ) (clone : Cloning) (e : held.Edge)
    (x-in : clone.to.0 < c.nodes) (y-in : e.to.0 < c.nodes) where
  abbrev up : Res Fault Taken
  up = take_up (room_of z) t clone.to.0 (reduces_are clone.stored) (grown_of c ns es) (edge_is e)

  pub up-skipped : e.to.0 ≡ clone.to.0 → Takes z up (Ok (record { counts = c; next = None })) ns es
  unfolding take_up
  up-skipped h = record { answer = rw (eq-eqb e.to.0 clone.to.0 h, take_up); stands = (s, tt) }

  module _ (h : e.to.0 ≡ clone.to.0 → ⊥) where
    up-past : up ≡ bind (when (not (eqb e.key.from.0 clone.to.0) && branch_at (grown_of c ns es) clone.to.0) bad_copy (grown_of c ns es)) λ g.
        take_by (room_of z) t clone.to.0 (reduces_are clone.stored) g (edge_is e) (branch_at g e.to.0)
    unfolding take_up
    up-past = rw (ne_eqb e.to.0 clone.to.0 h, take_up)

    pub up_same : e.key.from.0 ≡ clone.to.0 → Takes z up (Err code.BadCopy) ns es
    unfolding bind when
    up_same k = record { answer = rw (up-past, eq-eqb _ _ k); stands = tt }

    module _ (k : e.key.from.0 ≡ clone.to.0 → ⊥) where
      pub up-leaf : eqb (get_or ns clone.to.0 0) 0 ≡ false → Takes z up (Err code.BadCopy) ns es
      unfolding bind when
      up-leaf b = record { answer = rw (up-past, ne_eqb _ _ k, branch-is c ns es clone.to.0 x-in, b); stands = tt }

      module _ (b : eqb (get_or ns clone.to.0 0) 0 ≡ true) where
        pub up-branch : eqb (get_or ns e.to.0 0) 0 ≡ true → (u : Took) (ns' es' : List ℕ)
            → Takes z (take_branch (room_of z) clone.to.0 (reduces_are clone.stored) (grown_of c ns es) (edge_is e) (find (edges_in c.edges es) clone.to.0 e.key.kind e.key.symbol.0)) u ns' es'
            → Takes z up u ns' es'
        unfolding take_by bind when
        up-branch y u ns' es' w = record {
          answer = rw (up-past, ne_eqb _ _ k, branch-is c ns es clone.to.0 x-in, b, branch-is c ns es e.to.0 y-in, y) w.answer;
          stands = w.stands;
        }

        module _ (y : eqb (get_or ns e.to.0 0) 0 ≡ false) (r : Grew) (es' : List ℕ)
            (w : Rows z c (take_leaf (room_of z) t clone.to.0 (reduces_are clone.stored) (grown_of c ns es) (edge_is e) (find (edges_in c.edges es) clone.to.0 e.key.kind e.key.symbol.0)) r ns es') where
          pub up-taken : (d : Counts) → r ≡ Ok d → Takes z up (Ok (record { counts = d; next = None })) ns es'
          unfolding take_by bind when
          up-taken d q =
              let v : Rows z c (take_leaf (room_of z) t clone.to.0 (reduces_are clone.stored) (grown_of c ns es) (edge_is e) (find (edges_in c.edges es) clone.to.0 e.key.kind e.key.symbol.0)) (Ok d) ns es' = rw q at w in
              record {
                answer = rw (up-past, ne_eqb _ _ k, branch-is c ns es clone.to.0 x-in, b, branch-is c ns es e.to.0 y-in, y, ← v.answer);
                stands = (both-stand z c.nodes (Ok d) ns es' s.root s.within s.fits s.few v.rowed, tt);
              }

          pub up-refused : (f : why.Fault) → r ≡ Err f → Takes z up (Err f) ns es'
          unfolding take_by bind when
          up-refused f q =
              let v : Rows z c (take_leaf (room_of z) t clone.to.0 (reduces_are clone.stored) (grown_of c ns es) (edge_is e) (find (edges_in c.edges es) clone.to.0 e.key.kind e.key.symbol.0)) (Err f) ns es' = rw q at w in
              record { answer = rw (up-past, ne_eqb _ _ k, branch-is c ns es clone.to.0 x-in, b, branch-is c ns es e.to.0 y-in, y, ← v.answer); stands = tt }
