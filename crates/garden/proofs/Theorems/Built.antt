-- What is built from good rules, whatever the commands are, passes the whole table check.
use Rattle.std.specs.Prelude.{◌≡◌, Bool, ◌&&◌, not, ◌≢◌, ltb, leb, length, get_or}
use Rattle.std.proofs.Math.Path.{refl}
use Rattle.std.proofs.Common.{◌∙◌, arith, length-append}
use Rattle.std.proofs.Math.Bool.{true, false}
use mathlib.Core.List.{List, [], ◌∷◌, ◌++◌, map, cons≢nil}
use Rattle.std.proofs.Math.Option.{Option, some, none}
use Prim.Native.Nat.{ℕ, zero, suc, ◌≤◌, ◌<◌}
use Rattle.std.proofs.Math.Dec.{eqb}
use Rattle.std.proofs.Math.ListN.{get_or-append}
use borrow.Author.Tests.{eqb-true, eqb-false, ltb-true, leb-true}
use Rattle.words.specs.Limits.{most_nodes, most_edges, most_reduces, most_offset}
use Rattle.words.specs.Outcome.{Res, ok, no}
use Rattle.words.specs.Numbers.{Fault, no_node, sixth_reduce, far_offset, bad_copy, many_rows, no_clone}
use Rattle.words.proofs.Theorems.Tests.{and_l, and_r}
use Rattle.rules.specs.Rules.{Rule, the_rules, rules_good}
use Rattle.rules.proofs.Theorems.Every.{All, all_append, all_map}
use Rattle.rules.proofs.Theorems.Proper.{Proper, rules-proper}
use Rattle.rows.specs.Rows.{Reduce, Edge, edge_words, find, tables_good}
use Rattle.rows.proofs.Theorems.Fair.{ReduceOk, RowOk, Found, find-found}
use Rattle.rows.proofs.Theorems.Order.{all-leaving}
use Rattle.rows.proofs.Theorems.Words.{fair-pass}
use Rattle.tree.specs.Grow.{Grown, Room, branch_at, add_edge, apart, plant, convert_all}
use Rattle.tree.proofs.Theorems.Built.{Inv, row-grows, Keeps, bind-keeps, when-keeps, then_keeps, edge-keeps, node-inv, Same, all_keep, plant-keeps}
use Rattle.garden.specs.Garden.{Bounds, Pair, Command, conversions, path, bad, low_offsets, raised, increment_offsets, raised_on, extend, diff_extend, same_reduces, standing, copy_with, copy_rows, clone_with_reduce_vec, Cloning, Begun, Taken, leaf_reduces, leaf_rule, take_leaf, add_branch, store_other, new_branch, old_branch, take_branch, take_by, take_up, begin, clones, clone_branches, the_edge, edge_for, leads_to, of_kind, Parting, part_at, shadowed, Places, move_on, along_pair, along, graft_leaf, graft, graft_at, handle_common_prefixes, handle_command, handle_commands, convert_last, asked, tend, build}

-- ---- lists of reduces

by-keeps : {A : Type 0} (P : A → Type 0) (b : Bool) (x y : Res Fault A) → (b ≡ true → Keeps P x) → (b ≡ false → Keeps P y) → Keeps P (elim b [ true ↦ x | false ↦ y ])
by-keeps P true x y h k = h refl
by-keeps P false x y h k = k refl

all-get : (P : ℕ → Type 0) → P 0 → (xs : List ℕ) (n : ℕ) → All P xs → P (get_or xs n 0)
all-get P p [] n a = p
all-get P p (x ∷ xs) zero a = a.0
all-get P p (x ∷ xs) (suc n) a = all-get P p xs n a.1

module _ (rules : ℕ) where
  -- reduces of rules that there are; a row carries five of them at most
  abbrev Stored : List Reduce → Type 0
  Stored ds = All (ReduceOk rules) ds

  abbrev Carried : List Reduce → Type 0
  Carried ds = (length ds ≤ most_reduces) × Stored ds

  raise-ok : (ds : List Reduce) → low_offsets ds ≡ true → Stored ds → Stored (map raised ds)
  unfolding low_offsets
  raise-ok [] h a = tt
  raise-ok (d ∷ ds) h a = (
    record {
      rule-low = a.0.rule-low;
      rule-high = a.0.rule-high;
      offset-in = omega (arith, ltb-true d.offset most_offset (and_l (ltb d.offset most_offset) (low_offsets ds) h));
    },
    raise-ok ds (and_r (ltb d.offset most_offset) (low_offsets ds) h) a.1,
  )

  raised_keeps : (k : ℕ) (ds : List Reduce) → Stored ds → Keeps Stored (raised_on k ds)
  unfolding raised_on increment_offsets
  raised_keeps zero ds a = a
  raised_keeps (suc k) ds a = when-keeps Stored (low_offsets ds) far_offset (map raised ds) λ h. raise-ok ds h a

  extend-keeps : (ds more : List Reduce) → Stored ds → Stored more → Keeps Carried (extend ds more)
  unfolding extend
  extend-keeps ds more a b = when-keeps Carried (leb (length (ds ++ more)) most_reduces) sixth_reduce (ds ++ more) λ h. (leb-true _ _ h, all_append (ReduceOk rules) ds more a b)

  diff-keeps : (ds cs : List Reduce) → Stored ds → Keeps Stored (diff_extend ds cs)
  unfolding diff_extend
  diff-keeps [] [] a = tt
  diff-keeps [] (c ∷ cs) a = tt
  diff-keeps (d ∷ ds) [] a = a
  diff-keeps (d ∷ ds) (c ∷ cs) a = by-keeps Stored (eqb d.rule c.rule) _ _ (λ _. diff-keeps ds cs a.1)
      λ _. then_keeps Stored Stored (diff_extend ds (c ∷ cs)) _ (diff-keeps ds (c ∷ cs) a.1) λ more b. (a.0, b)

  store_keeps : (ds : List Reduce) (e d : Edge) → Stored ds → Stored e.reduces → Keeps Stored (store_other ds e d)
  unfolding store_other
  store_keeps ds e d a b = by-keeps Stored (same_reduces e.reduces d.reduces) _ _ (λ _. a)
      λ _. fewer (extend ds e.reduces) (extend-keeps ds e.reduces a b)
    where
      fewer : (x : Res Fault (List Reduce)) → Keeps Carried x → Keeps Stored x
      fewer (ok ds) c = c.1
      fewer (no y) c = tt

  leaf-reduces-keep : (r : ℕ) (e : Edge) (ds : List Reduce) → ReduceOk rules (record { rule = r; offset = 0 }) → Stored e.reduces → Stored ds → Keeps Carried (leaf_reduces r e ds)
  unfolding leaf_reduces
  leaf-reduces-keep r e ds o b a = then_keeps Carried Stored (raised_on e.kind ds) _ (raised_keeps e.kind ds a)
      λ ds a. extend-keeps e.reduces _ b (all_append (ReduceOk rules) ds _ a (o, tt))

  -- ---- the rows that stand

  standing-all : (P : Edge → Type 0) (n : ℕ) (es : List Edge) → All P es → All P (standing n es)
  unfolding standing
  standing-all P n es a = all-leaving P n es a

  -- ---- nodes that rows are given to

  -- a node that a row may lead to
  record Inner (ns : List ℕ) (n : ℕ) : Type 0 where
    inside : n < length ns
    inner : n ≢ 0

  end-inner : (ns : List ℕ) (e : Edge) → RowOk rules ns e → Inner ns e.to
  end-inner ns e r = record { inside = r.to_in; inner = r.to_inner }

  module _ (z : Room) (ns : List ℕ) (m : ℕ) (i : Inner ns m) (b : get_or ns m 0 ≡ 0) where
    -- the key of a good row, from another branch than 0
    row_keeps : (g : Grown) (e : Edge) (t : ℕ) (ds : List Reduce) → Same rules z ns g → RowOk rules ns e → Inner ns t → Carried ds
        → find g.edges m e.kind e.sym ≡ none → Keeps (Same rules z ns) (add_edge z g (record { from = m; kind = e.kind; sym = e.sym; to = t; reduces = ds }))
    row_keeps g e t ds v r j c f = edge-keeps rules z (Same rules z ns) g (record { from = m; kind = e.kind; sym = e.sym; to = t; reduces = ds }) v.0
        (rw v.1 (record {
          from_in = i.inside;
          from-branch = b;
          kind-in = r.kind-in;
          symbol-in = r.symbol-in;
          to_in = j.inside;
          to_inner = j.inner;
          level = λ p. absurd (i.inner p);
          few = c.0;
          reduces-ok = c.1;
        }))
        f
        λ u. (u, v.1)

    with-keeps : (ds : List Reduce) (g : Grown) (e : Edge) (o : Option Edge) → find g.edges m e.kind e.sym ≡ o → Stored ds → Same rules z ns g → RowOk rules ns e
        → Keeps (Same rules z ns) (copy_with z m ds g e o)
    unfolding copy_with
    with-keeps ds g e (some d) f a v r = v
    with-keeps ds g e none f a v r = then_keeps (Same rules z ns) Stored (raised_on e.kind ds) _ (raised_keeps e.kind ds a)
        λ ds a. then_keeps (Same rules z ns) Carried (extend e.reduces ds) _ (extend-keeps e.reduces ds r.reduces-ok a)
        λ ds c. row_keeps g e e.to ds v r (end-inner ns e r) c f

    rows-keep : (ds : List Reduce) (es : List Edge) (g : Grown) → Stored ds → Same rules z ns g → All (RowOk rules ns) es → Keeps (Same rules z ns) (copy_rows z m ds es g)
    unfolding copy_rows
    rows-keep ds [] g a v r = v
    rows-keep ds (e ∷ es) g a v r = then_keeps (Same rules z ns) (Same rules z ns) _ _ (with-keeps ds g e _ refl a v r.0) λ g v. rows-keep ds es g a v r.1

    clone-keeps : (n : ℕ) (ds : List Reduce) (g : Grown) → Stored ds → Same rules z ns g → Keeps (Same rules z ns) (clone_with_reduce_vec z n m ds g)
    unfolding clone_with_reduce_vec
    clone-keeps n ds g a v = rows-keep ds (standing n g.edges) g a v (standing-all (RowOk rules ns) n g.edges (rw v.1 at v.0.fair.rows))

  -- the second of two different branches
  apart-branch : (g : Grown) (n m : ℕ) → apart g n m ≡ true → get_or g.nodes m 0 ≡ 0
  unfolding apart branch_at
  apart-branch g n m h = eqb-true _ _ (and_r (not (eqb n m) && eqb (get_or g.nodes n 0) 0) _ h)

  -- the rule of a leaf
  leaf-rule : (z : Room) (g : Grown) (n : ℕ) → Inv rules z g → branch_at g n ≡ false → ReduceOk rules (record { rule = get_or g.nodes n 0; offset = 0 })
  unfolding branch_at
  leaf-rule z g n v h = record {
    rule-low = omega (arith, eqb-false (get_or g.nodes n 0) 0 h);
    rule-high = all-get (λ w. w ≤ rules) (omega arith) g.nodes n v.fair.words;
    offset-in = omega arith;
  }

  -- ---- one row is taken up

  -- of nodes that came to be more: good rows stay good
  record Since (ns ms : List ℕ) : Type 0 where
    rows_stay : (e : Edge) → RowOk rules ns e → RowOk rules ms e
    longer : length ns ≤ length ms

  still : (ns : List ℕ) → Since ns ns
  still ns = record { rows_stay = λ e r. r; longer = omega arith }

  inner-stays : (ns ms : List ℕ) (n : ℕ) → Since ns ms → Inner ns n → Inner ms n
  inner-stays ns ms n s i = record { inside = omega (arith, i.inside, s.longer); inner = i.inner }

  abbrev NextOk : List ℕ → Option Cloning → Type 0
  NextOk ns none = Unit {0}
  NextOk ns (some c) = Inner ns c.to × Stored c.stored

  record TakenOk (z : Room) (ns : List ℕ) (u : Taken) : Type 0 where
    grown-ok : Inv rules z u.grown
    since : Since ns u.grown.nodes
    next-ok : NextOk u.grown.nodes u.next

  module _ (z : Room) (g : Grown) (v : Inv rules z g) (t : ℕ) (j : Inner g.nodes t) (m : ℕ) (i : Inner g.nodes m) (ds : List Reduce) (a : Stored ds) (e : Edge) (r : RowOk rules g.nodes e) where
    module _ (b : get_or g.nodes m 0 ≡ 0) where
      leaf-keeps : (o : Option Edge) → branch_at g e.to ≡ false → Found (RowOk rules g.nodes) m e.kind e.sym o → find g.edges m e.kind e.sym ≡ o → Keeps (Same rules z g.nodes) (take_leaf z t m ds g e o)
      unfolding take_leaf
      leaf-keeps none l f k = then_keeps (Same rules z g.nodes) Carried (leaf_reduces (leaf_rule g e) e ds) _ (leaf-reduces-keep (leaf_rule g e) e ds (leaf-rule z g e.to v l) r.reduces-ok a)
          λ ds c. row_keeps z g.nodes m i b g e t ds (v, refl) r j c k
      leaf-keeps (some d) l f k = bind-keeps (Same rules z g.nodes) (apart g t d.to) bad_copy g _
          λ h. then_keeps (Same rules z g.nodes) Carried (leaf_reduces (leaf_rule g e) e ds) _ (leaf-reduces-keep (leaf_rule g e) e ds (leaf-rule z g e.to v l) r.reduces-ok a)
          λ ds c. clone-keeps z g.nodes d.to (end-inner g.nodes d f.0) (apart-branch g t d.to h) t ds g c.1 (v, refl)

      -- the nodes with one more branch
      abbrev more : List ℕ
      more = g.nodes ++ 0 ∷ []

      since-more : Since g.nodes more
      since-more = record { rows_stay = λ e r. row-grows rules g.nodes 0 e r; longer = simp length-append (omega arith) }

      new-inner : Inner more (length g.nodes)
      new-inner = record { inside = simp length-append (omega arith); inner = λ h. omega (arith, v.fair.some-node) }

      add-keeps : find g.edges m e.kind e.sym ≡ none → Keeps (Same rules z more) (add_branch z g m e)
      unfolding add_branch
      add-keeps k = bind-keeps (Same rules z more) (ltb (length g.nodes) z.nodes) no_node (length g.nodes) _
          λ h. row_keeps z more m (inner-stays g.nodes more m since-more i) (get_or-append g.nodes (0 ∷ []) 0 m i.inside ∙ b)
          (record { nodes = more; edges = g.edges }) e (length g.nodes) e.reduces (node-inv rules z g 0 v (omega arith) (ltb-true _ _ h), refl)
          (row-grows rules g.nodes 0 e r) new-inner (r.few, r.reduces-ok) k

      branch_keeps : (o : Option Edge) → Found (RowOk rules g.nodes) m e.kind e.sym o → find g.edges m e.kind e.sym ≡ o → Keeps (TakenOk z g.nodes) (take_branch z m ds g e o)
      unfolding take_branch new_branch old_branch
      branch_keeps none f k = then_keeps (TakenOk z g.nodes) Stored (raised_on e.kind ds) _ (raised_keeps e.kind ds a)
          λ ds a. then_keeps (TakenOk z g.nodes) (Same rules z more) (add_branch z g m e) _ (add-keeps k)
          λ h s. record { grown-ok = s.0; since = rw s.1 since-more; next-ok = (rw s.1 new-inner, a) }
      branch_keeps (some d) f k = then_keeps (TakenOk z g.nodes) Stored (raised_on e.kind ds) _ (raised_keeps e.kind ds a)
          λ ds a. then_keeps (TakenOk z g.nodes) Stored (store_other ds e d) _ (store_keeps ds e d a r.reduces-ok)
          λ ds a. record { grown-ok = v; since = still g.nodes; next-ok = (end-inner g.nodes d f.0, a) }

      found : Found (RowOk rules g.nodes) m e.kind e.sym (find g.edges m e.kind e.sym)
      found = find-found (RowOk rules g.nodes) g.edges m e.kind e.sym v.fair.rows

      take-keeps : (x : Bool) → branch_at g e.to ≡ x → Keeps (TakenOk z g.nodes) (take_by z t m ds g e x)
      unfolding take_by
      take-keeps true l = branch_keeps _ found refl
      take-keeps false l = then_keeps (TakenOk z g.nodes) (Same rules z g.nodes) _ _ (leaf-keeps _ l found refl)
          λ h s. record { grown-ok = s.0; since = rw s.1 (still g.nodes); next-ok = tt }

    up-keeps : Keeps (TakenOk z g.nodes) (take_up z t m ds g e)
    unfolding take_up branch_at
    up-keeps = by-keeps (TakenOk z g.nodes) (eqb e.to m) _ _ (λ _. record { grown-ok = v; since = still g.nodes; next-ok = tt })
        λ _. bind-keeps (TakenOk z g.nodes) (not (eqb e.from m) && branch_at g m) bad_copy g _
        λ h. take-keeps (eqb-true _ _ (and_r (not (eqb e.from m)) (branch_at g m) h)) (branch_at g e.to) refl

  -- ---- the clones that have begun

  record BegunOk (ns : List ℕ) (c : Begun) : Type 0 where
    rows_ok : All (RowOk rules ns) c.rows
    to-ok : Inner ns c.to
    stored_ok : Stored c.stored

  begun-stays : (ns ms : List ℕ) → Since ns ms → (c : Begun) → BegunOk ns c → BegunOk ms c
  begun-stays ns ms s c o = record {
    rows_ok = all_map (RowOk rules ns) (RowOk rules ms) s.rows_stay c.rows o.rows_ok;
    to-ok = inner-stays ns ms c.to s o.to-ok;
    stored_ok = o.stored_ok;
  }

  begin-keeps : (frames : ℕ) (g : Grown) (o : Option Cloning) (cs : List Begun) → All (RowOk rules g.nodes) g.edges → NextOk g.nodes o → All (BegunOk g.nodes) cs
      → Keeps (All (BegunOk g.nodes)) (begin frames g o cs)
  unfolding begin
  begin-keeps frames g none cs r x a = a
  begin-keeps frames g (some c) cs r x a = when-keeps (All (BegunOk g.nodes)) (ltb (length cs) frames) no_clone _
      λ _. (record { rows_ok = standing-all (RowOk rules g.nodes) c.from g.edges r; to-ok = x.0; stored_ok = x.1 }, a)

  list-keeps : (P : Edge → Type 0) (Q : Grown → Type 0) (es : List Edge) (x : Res Fault Grown) (f : Edge → List Edge → Res Fault Grown) → All P es → Keeps Q x
      → ((e : Edge) (es : List Edge) → P e → All P es → Keeps Q (f e es)) → Keeps Q (elim es [ [] ↦ x | e ∷ es ↦ f e es ])
  list-keeps P Q [] x f a p q = p
  list-keeps P Q (e ∷ es) x f a p q = q e es a.0 a.1

  module _ (z : Bounds) where
    abbrev Keeping : Grown → Type 0
    Keeping g = Inv rules z.room g

    clones-keep : (t k : ℕ) (cs : List Begun) (g : Grown) → Inv rules z.room g → Inner g.nodes t → All (BegunOk g.nodes) cs → Keeps Keeping (clones z t k cs g)
    unfolding clones
    clones-keep t zero [] g v j a = v
    clones-keep t zero (c ∷ cs) g v j a = list-keeps (RowOk rules g.nodes) Keeping c.rows _ (λ e es. no many_rows) a.0.rows_ok (clones-keep t zero cs g v j a.1) λ e es r s. tt
    clones-keep t (suc k) [] g v j a = v
    clones-keep t (suc k) (c ∷ cs) g v j a = list-keeps (RowOk rules g.nodes) Keeping c.rows _ _ a.0.rows_ok (clones-keep t (suc k) cs g v j a.1)
        λ e es r s. then_keeps Keeping (TakenOk z.room g.nodes) (take_up z.room t c.to c.stored g e) _
        (up-keeps z.room g v t j c.to a.0.to-ok c.stored a.0.stored_ok e r)
        λ u o. then_keeps Keeping (All (BegunOk u.grown.nodes)) _ _
        (begin-keeps z.frames u.grown u.next _ o.grown-ok.fair.rows o.next-ok
        (all_map (BegunOk g.nodes) (BegunOk u.grown.nodes) (begun-stays g.nodes u.grown.nodes o.since) (record { rows = es; to = c.to; stored = c.stored } ∷ cs)
        (record { rows_ok = s; to-ok = a.0.to-ok; stored_ok = a.0.stored_ok }, a.1)))
        λ ds b. clones-keep t k ds u.grown o.grown-ok (inner-stays g.nodes u.grown.nodes t o.since j) b

    branches-keep : (t : ℕ) (c : Cloning) (g : Grown) → Inv rules z.room g → Inner g.nodes t → Inner g.nodes c.to → Stored c.stored → Keeps Keeping (clone_branches z t c g)
    unfolding clone_branches
    branches-keep t c g v j i a = then_keeps Keeping (All (BegunOk g.nodes)) _ _ (begin-keeps z.frames g (some c) [] v.fair.rows (i, a) tt)
        λ cs b. clones-keep t z.rows cs g v j b

  -- ---- a path

  module _ (z : Bounds) (g : Grown) (v : Inv rules z.room g) where
    the-keeps : (n k s : ℕ) (o : Option Edge) → Found (RowOk rules g.nodes) n k s o → Keeps (RowOk rules g.nodes) (the_edge o)
    unfolding the_edge
    the-keeps n k s none f = tt
    the-keeps n k s (some e) f = f.0

    for-keeps : (n : ℕ) (p : Pair) → Keeps (RowOk rules g.nodes) (edge_for g n p)
    for-keeps n p = the-keeps n p.kind p.sym _ (find-found (RowOk rules g.nodes) g.edges n p.kind p.sym v.fair.rows)

    leads_keeps : (k n : ℕ) (p : Pair) → Keeps (Inner g.nodes) (of_kind k p (leads_to (edge_for g n p)))
    unfolding of_kind leads_to
    leads_keeps k n p = bind-keeps (Inner g.nodes) (eqb p.kind k) bad_copy p _
        λ _. then_keeps (Inner g.nodes) (RowOk rules g.nodes) (edge_for g n p) _ (for-keeps n p) λ e r. end-inner g.nodes e r

    -- a pair at least is left of the prefix
    abbrev Left : Parting → Type 0
    Left c = c.rest ≢ []

    part-keeps : (n : ℕ) (ps qs : List Pair) → Keeps Left (part_at g n ps qs)
    unfolding part_at
    part-keeps n [] qs = tt
    part-keeps n (p ∷ ps) [] = tt
    part-keeps n (p ∷ ps) (q ∷ qs) = by-keeps Left (eqb p.kind q.kind && eqb p.sym q.sym) _ _
        (λ _. then_keeps Left (Inner g.nodes) (of_kind 0 p (leads_to (edge_for g n p))) _ (leads_keeps 0 n p) λ n i. part-keeps n ps qs)
        λ _. cons≢nil

    record PlacesOk (s : Places) : Type 0 where
      first-ok : Inner g.nodes s.first
      stored_ok : Stored s.stored

    move-keeps : (k : ℕ) (s : Places) (e f : Edge) → Stored s.stored → RowOk rules g.nodes e → RowOk rules g.nodes f → Keeps PlacesOk (move_on k s e f)
    unfolding move_on
    move-keeps k s e f a r q = then_keeps PlacesOk Stored (diff_extend f.reduces e.reduces) _ (diff-keeps f.reduces e.reduces q.reduces-ok)
        λ missing b. then_keeps PlacesOk Stored (raised_on k s.stored) _ (raised_keeps k s.stored a)
        λ ds a. then_keeps PlacesOk Carried (extend ds missing) _ (extend-keeps ds missing a b)
        λ ds c. record { first-ok = end-inner g.nodes e r; stored_ok = c.1 }

    pair_keeps : (s : Places) (p : Pair) → Stored s.stored → Keeps PlacesOk (along_pair g s p)
    unfolding along_pair
    pair_keeps s p a = then_keeps PlacesOk (RowOk rules g.nodes) (edge_for g s.first p) _ (for-keeps s.first p)
        λ e r. then_keeps PlacesOk (RowOk rules g.nodes) (edge_for g s.second p) _ (for-keeps s.second p)
        λ f q. move-keeps p.kind s e f a r q

    along-keeps : (s : Places) (ps : List Pair) → (ps ≡ [] → Inner g.nodes s.first) → Stored s.stored → Keeps PlacesOk (along g s ps)
    unfolding along
    along-keeps s [] i a = record { first-ok = i refl; stored_ok = a }
    along-keeps s (p ∷ ps) i a = then_keeps PlacesOk PlacesOk (along_pair g s p) _ (pair_keeps s p a) λ s o. along-keeps s ps (λ _. o.first-ok) o.stored_ok

    module _ (t : ℕ) (j : Inner g.nodes t) where
      graft-keeps : (s : Places) (b : Bool) → branch_at g s.second ≡ b → PlacesOk s → Keeps (Keeping z) (graft z t s g b)
      unfolding graft graft_leaf
      graft-keeps s true h o = branches-keep z t _ g v j o.first-ok o.stored_ok
      graft-keeps s false h o = bind-keeps (Keeping z) (apart g t s.first) bad_copy g _
          λ h'. then_keeps (Keeping z) Carried _ _ (extend-keeps s.stored _ o.stored_ok (leaf-rule z.room g s.second v h, tt))
          λ ds c. forget (clone_with_reduce_vec z.room t s.first ds g)
          (clone-keeps z.room g.nodes s.first o.first-ok (apart-branch g t s.first h') t ds g c.1 (v, refl))
        where
          forget : (x : Res Fault Grown) → Keeps (Same rules z.room g.nodes) x → Keeps (Keeping z) x
          forget (ok g) s = s.0
          forget (no y) s = tt

      at-keeps : (n : ℕ) (rest : List Pair) → rest ≢ [] → Keeps (Keeping z) (graft_at z n t rest g)
      unfolding graft_at
      at-keeps n rest l = then_keeps (Keeping z) PlacesOk (along g (record { first = n; second = 0; stored = [] }) rest) _
          (along-keeps (record { first = n; second = 0; stored = [] }) rest (λ e. absurd (l e)) tt) λ s o. graft-keeps s (branch_at g s.second) refl o

    path-keeps : (ps qs : List Pair) → Keeps (Keeping z) (handle_common_prefixes z ps qs g)
    unfolding handle_common_prefixes shadowed
    path-keeps ps qs = then_keeps (Keeping z) Left (part_at g 0 ps qs) _ (part-keeps 0 ps qs)
        λ c l. then_keeps (Keeping z) (Inner g.nodes) _ _ (leads_keeps 1 c.node c.shadow) λ t j. at-keeps t j c.node c.rest l

-- ---- the whole

module _ (z : Bounds) (R : List Rule) (p : Proper R) where
  convert-keeps : (g : Grown) → Inv (length R) z.room g → Keeps (Keeping (length R) z) (convert_all z.room 1 R g)
  convert-keeps g v = all_keep (length R) z.room 1 R g (omega arith) (omega arith) p v

  command-keeps : (c : Command) (g : Grown) → Inv (length R) z.room g → Keeps (Keeping (length R) z) (handle_command z R c g)
  unfolding handle_command
  command-keeps conversions g v = convert-keeps g v
  command-keeps (path ps qs) g v = path-keeps (length R) z g v ps qs
  command-keeps bad g v = tt

  commands-keep : (cs : List Command) (g : Grown) → Inv (length R) z.room g → Keeps (Keeping (length R) z) (handle_commands z R cs g)
  unfolding handle_commands
  commands-keep [] g v = v
  commands-keep (c ∷ cs) g v = then_keeps (Keeping (length R) z) (Keeping (length R) z) (handle_command z R c g) _ (command-keeps c g v) λ g v. commands-keep cs g v

  last-keeps : (g : Grown) (b : Bool) → Inv (length R) z.room g → Keeps (Keeping (length R) z) (convert_last z R g b)
  unfolding convert_last
  last-keeps g true v = v
  last-keeps g false v = convert-keeps g v

  build-keeps : (cs : List Command) → Keeps (Keeping (length R) z) (build z R cs)
  unfolding build tend
  build-keeps cs = then_keeps (Keeping (length R) z) (Keeping (length R) z) (plant z.room R) _ (plant-keeps z.room R p)
      λ g v. then_keeps (Keeping (length R) z) (Keeping (length R) z) (handle_commands z R cs g) _ (commands-keep cs g v) λ g v. last-keeps g (asked cs) v

pub built-inv : (p l : ℕ) (ws : List ℕ) (z : Bounds) (cs : List Command) → rules_good p l ws ≡ true → (g : Grown) → build z (the_rules ws) cs ≡ ok g
    → Inv (length (the_rules ws)) z.room g
built-inv p l ws z cs r g e = rw e at (build-keeps z (the_rules ws) (rules-proper p l ws r) cs)

pub built-tables-pass : (p l : ℕ) (ws : List ℕ) (z : Bounds) (cs : List Command) → z.room.nodes ≤ most_nodes → z.room.edges ≤ most_edges → rules_good p l ws ≡ true
    → (g : Grown) → build z (the_rules ws) cs ≡ ok g → tables_good (length (the_rules ws)) g.nodes (edge_words g.edges) ≡ true
built-tables-pass p l ws z cs n m r g e =
    let v = built-inv p l ws z cs r g e in
    fair-pass (length (the_rules ws)) g.nodes g.edges (omega (arith, v.nodes-in)) (omega (arith, v.edges-in)) v.fair
