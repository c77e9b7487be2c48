-- What grows from good rules passes the whole table check.
use Rattle.std.specs.Prelude.{◌≡◌, Bool, ◌&&◌, not, ◌≢◌, ltb, get_or}
use Rattle.std.proofs.Math.Path.{refl}
use Rattle.std.proofs.Common.{◌∙◌}
use Rattle.std.proofs.Math.Bool.{true, false}
use mathlib.Core.List.{List, [], ◌∷◌, ◌++◌}
use Rattle.std.proofs.Math.Option.{Option, some, none}
use Prim.Native.Nat.{ℕ, zero, suc, ◌+◌, ◌≤◌, ◌<◌}
use native.Mathlib.Omega.{arith}
use Rattle.std.proofs.Math.Dec.{eqb}
use Rattle.std.proofs.Math.ListN.{length, length-append, get_or-append}
use Rattle.std.proofs.Math.Seq.{get_or-append_seam}
use borrow.Author.Tests.{eqb-true, ltb-true}
use Rattle.words.specs.Limits.{most_nodes, most_edges, most_reduces}
use Rattle.words.specs.Outcome.{Res, ok, no, bind, when}
use Rattle.words.specs.Numbers.{Fault, collides, no_node, no_edge, bad_copy}
use Rattle.words.proofs.Theorems.Tests.{and_r}
use Rattle.rules.specs.Rules.{Item, con, slot, Rule, the_rules, source, symbol, rules_good}
use Rattle.rules.proofs.Theorems.Every.{All, all_append, all_map}
use Rattle.rules.proofs.Theorems.Proper.{ItemOk, RuleOk, Proper, rules-proper}
use Rattle.rows.specs.Rows.{Reduce, Edge, edge_words, rising, insert_edge, find, leaving, with_reduce, tables_good}
use Rattle.rows.proofs.Theorems.Fair.{ReduceOk, RowOk, Fair, Found, find-found}
use Rattle.rows.proofs.Theorems.Insert.{insert_all, insert-length, insert-rises}
use Rattle.rows.proofs.Theorems.Order.{all-leaving}
use Rattle.rows.proofs.Theorems.Words.{fair-pass}
use Rattle.tree.specs.Grow.{Grown, Room, kind, sym, branch_at, add_edge, add_node, place_last, place_inner, place, place_rule, place_rules, add_converted, converted, offset_on, copy_row, copy_branches, apart, convert_to, convert_at, convert_nodes, convert, convert_all, root_alone, plant, grow}

-- fair tables that the room holds
pub record Inv (rules : ℕ) (z : Room) (g : Grown) : Type 0 where
  pub fair : Fair rules g.nodes g.edges
  pub nodes-in : length g.nodes ≤ z.nodes
  pub edges-in : length g.edges ≤ z.edges

-- one more node changes no row
pub row-grows : (rules : ℕ) (ns : List ℕ) (w : ℕ) (e : Edge) → RowOk rules ns e → RowOk rules (ns ++ w ∷ []) e
row-grows rules ns w e r = record {
  from_in = simp length-append (omega (arith, r.from_in));
  from-branch = get_or-append ns (w ∷ []) 0 e.from r.from_in ∙ r.from-branch;
  kind-in = r.kind-in;
  symbol-in = r.symbol-in;
  to_in = simp length-append (omega (arith, r.to_in));
  to_inner = r.to_inner;
  level = λ a b. get_or-append ns (w ∷ []) 0 e.to r.to_in ∙ r.level a b;
  few = r.few;
  reduces-ok = r.reduces-ok;
}

-- ---- a result that has P, if it is no refusal

abbrev pub Keeps : {A : Type 0} → (A → Type 0) → Res Fault A → Type 0
Keeps P (no y) = Unit {0}
Keeps P (ok g) = P g

module _ {B : Type 0} (P : B → Type 0) where
  pub bind-keeps : {A : Type 0} (b : Bool) (y : Fault) (a : A) (f : A → Res Fault B) → (b ≡ true → Keeps P (f a)) → Keeps P (bind (when b y a) f)
  unfolding bind when
  bind-keeps true y a f h = h refl
  bind-keeps false y a f h = tt

  pub when-keeps : (b : Bool) (y : Fault) (g : B) → (b ≡ true → P g) → Keeps P (when b y g)
  unfolding when
  when-keeps true y g h = h refl
  when-keeps false y g h = tt

  pub then_keeps : {A : Type 0} (Q : A → Type 0) (x : Res Fault A) (f : A → Res Fault B) → Keeps Q x → ((a : A) → Q a → Keeps P (f a)) → Keeps P (bind x f)
  unfolding bind
  then_keeps Q (ok g) f k h = h g k
  then_keeps Q (no y) f k h = tt

-- ---- items

kind-in : (i : Item) → kind i ≤ 1
unfolding kind
kind-in (con c) = omega arith
kind-in (slot t) = omega arith

symbol-in : (i : Item) → ItemOk i → symbol (sym i) ≡ true
unfolding sym
symbol-in (con c) h = h
symbol-in (slot t) h = h

-- a body of one item that is no conversion is a constant
alone : (i : Item) → source (i ∷ []) ≡ none → kind i ≡ 1 → ⊥
unfolding source kind
alone (con c) e q = omega arith
alone (slot u) e q = let y : ◌≡◌ {A = ℕ} 0 1 = cc in omega arith

source-symbol : (b : List Item) (u : ℕ) → All ItemOk b → source b ≡ some u → symbol u ≡ true
unfolding source
source-symbol [] u a e = cc
source-symbol (con c ∷ b) u a e = cc
source-symbol (slot t ∷ []) u a e = let w : t ≡ u = cc in rw w at a.0
source-symbol (slot t ∷ i ∷ b) u a e = cc

-- ---- rows and nodes are added

abbrev plus : Grown → Edge → Grown
plus g e = record { nodes = g.nodes; edges = insert_edge e g.edges }

module _ (rules : ℕ) (z : Room) where
  -- an edge with a new key, if there is room for it
  pub edge-keeps : (P : Grown → Type 0) (g : Grown) (e : Edge) → Inv rules z g → RowOk rules g.nodes e → find g.edges e.from e.kind e.sym ≡ none
      → (Inv rules z (plus g e) → P (plus g e)) → Keeps P (add_edge z g e)
  unfolding add_edge
  edge-keeps P g e v r f h = when-keeps P (ltb (length g.edges) z.edges) no_edge _ λ t. h (record {
    fair = record {
      some-node = v.fair.some-node;
      root = v.fair.root;
      words = v.fair.words;
      rows = insert_all e (RowOk rules g.nodes) g.edges v.fair.rows r;
      order = insert-rises e g.edges v.fair.order f;
    };
    nodes-in = v.nodes-in;
    edges-in = omega (arith, insert-length e g.edges, ltb-true (length g.edges) z.edges t);
  })

  pub node-inv : (g : Grown) (w : ℕ) → Inv rules z g → w ≤ rules → length g.nodes < z.nodes → Inv rules z (record { nodes = g.nodes ++ w ∷ []; edges = g.edges })
  node-inv g w v h m = record {
    fair = record {
      some-node = simp length-append (omega arith);
      root = get_or-append g.nodes (w ∷ []) 0 0 v.fair.some-node ∙ v.fair.root;
      words = all_append (λ w. w ≤ rules) g.nodes (w ∷ []) v.fair.words (h, tt);
      rows = all_map (RowOk rules g.nodes) (RowOk rules (g.nodes ++ w ∷ [])) (row-grows rules g.nodes w) g.edges v.fair.rows;
      order = v.fair.order;
    };
    nodes-in = simp length-append (omega arith);
    edges-in = v.edges-in;
  }

  abbrev Longer : ℕ → Grown → Type 0
  Longer n g = Inv rules z g × (n < length g.nodes)

  module _ (g : Grown) (n k s w : ℕ) (v : Inv rules z g) (h : n < length g.nodes) (b : get_or g.nodes n 0 ≡ 0) (o : k ≤ 1) (y : symbol s ≡ true) (l : w ≤ rules) (d : n ≡ 0 → k ≡ 1 → w ≡ 0)
      (f : find g.edges n k s ≡ none) where
    node-keeps : Keeps (Longer (length g.nodes)) (add_node z g n k s w)
    unfolding add_node
    node-keeps = bind-keeps (Longer (length g.nodes)) _ no_node (length g.nodes) _ λ t.
        edge-keeps (Longer (length g.nodes)) (record { nodes = g.nodes ++ w ∷ []; edges = g.edges })
        (record { from = n; kind = k; sym = s; to = length g.nodes; reduces = [] }) (node-inv g w v l (ltb-true _ _ t))
        (record {
          from_in = simp length-append (omega arith);
          from-branch = get_or-append g.nodes (w ∷ []) 0 n h ∙ b;
          kind-in = o;
          symbol-in = y;
          to_in = simp length-append (omega arith);
          to_inner = λ e. omega (arith, v.fair.some-node);
          level = λ p q. get_or-append_seam g.nodes w [] 0 ∙ d p q;
          few = omega arith;
          reduces-ok = tt;
        })
        f
        λ u. (u, simp length-append (omega arith))

  forget : (n : ℕ) (x : Res Fault Grown) → Keeps (Longer n) x → Keeps (Inv rules z) x
  forget n (ok g) k = k.0
  forget n (no y) k = tt

  -- ---- a body

  last-keeps : (r : ℕ) (g : Grown) (n : ℕ) (i : Item) (o : Option Edge) → Inv rules z g → n < length g.nodes → get_or g.nodes n 0 ≡ 0 → ItemOk i → r ≤ rules
      → (n ≡ 0 → source (i ∷ []) ≡ none) → find g.edges n (kind i) (sym i) ≡ o → Keeps (Inv rules z) (place_last z r g n i o)
  unfolding place_last
  last-keeps r g n i (some e) v h b a l s f = tt
  last-keeps r g n i none v h b a l s f =
      forget (length g.nodes) (add_node z g n (kind i) (sym i) r) (node-keeps g n (kind i) (sym i) r v h b (kind-in i) (symbol-in i a) l (λ p q. absurd (alone i (s p) q)) f)

  inner-keeps : (g : Grown) (n : ℕ) (i : Item) (rest : Grown → ℕ → Res Fault Grown) (o : Option Edge) → Inv rules z g → n < length g.nodes → get_or g.nodes n 0 ≡ 0 → ItemOk i
      → Found (RowOk rules g.nodes) n (kind i) (sym i) o → find g.edges n (kind i) (sym i) ≡ o → ((g : Grown) (m : ℕ) → Inv rules z g → m < length g.nodes → m ≢ 0 → Keeps (Inv rules z) (rest g m))
      → Keeps (Inv rules z) (place_inner z g n i rest o)
  unfolding place_inner
  inner-keeps g n i rest (some e) v h b a d f k = k g e.to v d.0.to_in d.0.to_inner
  inner-keeps g n i rest none v h b a d f k =
      then_keeps (Inv rules z) (Longer (length g.nodes)) _ _ (node-keeps g n (kind i) (sym i) 0 v h b (kind-in i) (symbol-in i a) (omega arith) (λ p q. refl) f)
      λ g' l. k g' (length g.nodes) l.0 l.1 λ e. omega (arith, v.fair.some-node)

  place-keeps : (r : ℕ) (b : List Item) (g : Grown) (n : ℕ) → r ≤ rules → All ItemOk b → Inv rules z g → n < length g.nodes → (n ≡ 0 → source b ≡ none)
      → Keeps (Inv rules z) (place z r b g n)
  unfolding place branch_at
  place-keeps r [] g n l a v h s = v
  place-keeps r (i ∷ []) g n l a v h s = bind-keeps (Inv rules z) _ collides g _ λ t. last-keeps r g n i _ v h (eqb-true _ _ t) a.0 l s refl
  place-keeps r (i ∷ j ∷ b) g n l a v h s = bind-keeps (Inv rules z) _ collides g _ λ t.
      inner-keeps g n i _ _ v h (eqb-true _ _ t) a.0 (find-found (RowOk rules g.nodes) g.edges n (kind i) (sym i) v.fair.rows) refl
      λ g n v h k. place-keeps r (j ∷ b) g n l a.1 v h λ e. absurd (k e)

  rule-keeps : (r : ℕ) (q : Rule) (g : Grown) (o : Option ℕ) → source q.body ≡ o → r ≤ rules → RuleOk q → Inv rules z g → Keeps (Inv rules z) (place_rule z r q g o)
  unfolding place_rule
  rule-keeps r q g (some u) e l a v = v
  rule-keeps r q g none e l a v = place-keeps r q.body g 0 l a.items-ok v v.fair.some-node λ _. e

  -- the rules that are left are numbered from r on, up to the last
  rules-keep : (r : ℕ) (R : List Rule) (g : Grown) → r + length R ≡ suc rules → Proper R → Inv rules z g → Keeps (Inv rules z) (place_rules z r R g)
  unfolding place_rules
  rules-keep r [] g c a v = v
  rules-keep r (q ∷ R) g c a v = then_keeps (Inv rules z) (Inv rules z) _ _ (rule-keeps r q g _ refl (omega arith) a.0 v)
      λ g v. rules-keep (suc r) R g (omega arith) a.1 v

  -- ---- a conversion: the nodes stay

  -- reduces that an edge may have
  abbrev Fitting : Option (List Reduce) → Type 0
  Fitting none = Unit {0}
  Fitting (some ds) = (length ds ≤ most_reduces) × All (ReduceOk rules) ds

  fitting-by : (ds : List Reduce) (b : Bool) → (b ≡ true → Fitting (some ds)) → Fitting (elim b [ true ↦ some ds | false ↦ none ])
  fitting-by ds true h = h refl
  fitting-by ds false h = tt

  with-fitting : (d : Reduce) (ds : List Reduce) → ReduceOk rules d → All (ReduceOk rules) ds → Fitting (with_reduce d ds)
  unfolding with_reduce
  with-fitting d ds o a = fitting-by (d ∷ ds) (ltb (length ds) most_reduces) λ t. (ltb-true _ _ t, (o, a))

  offset-small : (k : ℕ) → offset_on k ≤ 1
  unfolding offset_on
  offset-small zero = omega arith
  offset-small (suc k) = omega arith

  abbrev pub Same : List ℕ → Grown → Type 0
  Same ns g = Inv rules z g × (g.nodes ≡ ns)

  module _ (ns : List ℕ) (c : ℕ) (lo : 1 ≤ c) (hi : c ≤ rules) where
    added-keeps : (g : Grown) (n s : ℕ) (e : Edge) (o : Option (List Reduce)) → Same ns g → RowOk rules ns e → Fitting o → n < length ns → get_or ns n 0 ≡ 0 → symbol s ≡ true
        → (n ≡ 0 → e.kind ≡ 1 → get_or ns e.to 0 ≡ 0) → find g.edges n e.kind s ≡ none → Keeps (Same ns) (add_converted z g n s e o)
    unfolding add_converted
    added-keeps g n s e none v r f h b y l k = tt
    added-keeps g n s e (some ds) v r f h b y l k = edge-keeps (Same ns) g (record { from = n; kind = e.kind; sym = s; to = e.to; reduces = ds }) v.0
        (rw v.1 (record {
          from_in = h;
          from-branch = b;
          kind-in = r.kind-in;
          symbol-in = y;
          to_in = r.to_in;
          to_inner = r.to_inner;
          level = l;
          few = f.0;
          reduces-ok = f.1;
        }))
        k
        λ u. (u, v.1)

    converted-keeps : (o : ℕ) (g : Grown) (n s : ℕ) (e : Edge) → o ≤ 1 → Same ns g → RowOk rules ns e → n < length ns → get_or ns n 0 ≡ 0 → symbol s ≡ true
        → (n ≡ 0 → e.kind ≡ 1 → get_or ns e.to 0 ≡ 0) → find g.edges n e.kind s ≡ none → Keeps (Same ns) (converted z c o g n s e)
    converted-keeps o g n s e k v r h b y l f = added-keeps g n s e _ v r
        (with-fitting (record { rule = c; offset = o }) e.reduces (record { rule-low = lo; rule-high = hi; offset-in = omega arith }) r.reduces-ok) h b y l f

    module _ (m : ℕ) (h : m < length ns) (b : get_or ns m 0 ≡ 0) (i : m ≢ 0) where
      copy_row-keeps : (g : Grown) (e : Edge) (o : Option Edge) → find g.edges m e.kind e.sym ≡ o → Same ns g → RowOk rules ns e → Keeps (Same ns) (copy_row z c g m e o)
      unfolding copy_row
      copy_row-keeps g e (some d) f v r = v
      copy_row-keeps g e none f v r = converted-keeps (offset_on e.kind) g m e.sym e (offset-small e.kind) v r h b r.symbol-in (λ p. absurd (i p)) f

      copy-keeps : (es : List Edge) (g : Grown) → Same ns g → All (RowOk rules ns) es → Keeps (Same ns) (copy_branches z c m es g)
      unfolding copy_branches
      copy-keeps [] g v a = v
      copy-keeps (e ∷ es) g v a = then_keeps (Same ns) (Same ns) _ _ (copy_row-keeps g e _ refl v a.0) λ g v. copy-keeps es g v a.1

  module _ (c : ℕ) (lo : 1 ≤ c) (hi : c ≤ rules) (u : ℕ) (y : symbol u ≡ true) where
    to-keeps : (g : Grown) (n t : ℕ) (e : Edge) (o : Option Edge) → Inv rules z g → Found (RowOk rules g.nodes) n 1 t (some e) → Found (RowOk rules g.nodes) n 1 u o → find g.edges n 1 u ≡ o
        → Keeps (Same g.nodes) (convert_to z c u g n e o)
    unfolding convert_to apart branch_at
    to-keeps g n t e none v f d k = converted-keeps g.nodes c lo hi 0 g n u e (omega arith) (v, refl) f.0 (rw f.1 at f.0.from_in) (rw f.1 at f.0.from-branch) y
        (λ p q. f.0.level (f.1 ∙ p) q) (rw f.2 k)
    to-keeps g n t e (some d) v f k x = bind-keeps (Same g.nodes) _ bad_copy g _ λ t.
        copy-keeps g.nodes c lo hi d.to k.0.to_in
        (eqb-true _ _ (and_r (not (eqb e.to d.to) && eqb (get_or g.nodes e.to 0) 0) _ t)) k.0.to_inner (leaving e.to g.edges) g (v, refl)
        (all-leaving (RowOk rules g.nodes) e.to g.edges v.fair.rows)

    at-keeps : (g : Grown) (n t : ℕ) (o : Option Edge) → Inv rules z g → Found (RowOk rules g.nodes) n 1 t o → Keeps (Same g.nodes) (convert_at z c u g n o)
    unfolding convert_at
    at-keeps g n t none v f = (v, refl)
    at-keeps g n t (some e) v f = to-keeps g n t e _ v f (find-found (RowOk rules g.nodes) g.edges n 1 u v.fair.rows) refl

    nodes-keep : (t k n : ℕ) (g : Grown) → Inv rules z g → Keeps (Inv rules z) (convert_nodes z c t u k n g)
    unfolding convert_nodes
    nodes-keep t zero n g v = v
    nodes-keep t (suc k) n g v =
        then_keeps (Inv rules z) (Same g.nodes) _ _ (at-keeps g n t _ v (find-found (RowOk rules g.nodes) g.edges n 1 t v.fair.rows))
        λ g v. nodes-keep t k (suc n) g v.0

  convert-keeps : (c : ℕ) (q : Rule) (g : Grown) (o : Option ℕ) → source q.body ≡ o → 1 ≤ c → c ≤ rules → RuleOk q → Inv rules z g → Keeps (Inv rules z) (convert z c q g o)
  unfolding convert
  convert-keeps c q g none e lo hi a v = v
  convert-keeps c q g (some u) e lo hi a v = nodes-keep c lo hi u (source-symbol q.body u a.items-ok e) q.result (length g.nodes) 0 g v

  pub all_keep : (c : ℕ) (R : List Rule) (g : Grown) → 1 ≤ c → c + length R ≡ suc rules → Proper R → Inv rules z g → Keeps (Inv rules z) (convert_all z c R g)
  unfolding convert_all
  all_keep c [] g lo n a v = v
  all_keep c (q ∷ R) g lo n a v = then_keeps (Inv rules z) (Inv rules z) _ _ (convert-keeps c q g _ refl lo (omega arith) a.0 v)
      λ g v. all_keep (suc c) R g (omega arith) (omega arith) a.1 v

-- ---- the whole

pub plant-keeps : (z : Room) (R : List Rule) → Proper R → Keeps (Inv (length R) z) (plant z R)
unfolding plant rising
plant-keeps z R a = bind-keeps (Inv (length R) z) (ltb 0 z.nodes) no_node root_alone _ λ t.
    let v : Inv (length R) z root_alone = record {
      fair = record { some-node = omega arith; root = refl; words = (omega arith, tt); rows = tt; order = refl };
      nodes-in = ltb-true 0 z.nodes t;
      edges-in = omega arith;
    } in
    rules-keep (length R) z 1 R root_alone (omega arith) a v

grow-keeps : (z : Room) (R : List Rule) → Proper R → Keeps (Inv (length R) z) (grow z R)
unfolding grow
grow-keeps z R a = then_keeps (Inv (length R) z) (Inv (length R) z) (plant z R) _ (plant-keeps z R a)
    λ g v. all_keep (length R) z 1 R g (omega arith) (omega arith) a v

pub grown-inv : (z : Room) (R : List Rule) → Proper R → (g : Grown) → grow z R ≡ ok g → Inv (length R) z g
grown-inv z R a g e = rw e at (grow-keeps z R a)

pub built-inv : (p l : ℕ) (ws : List ℕ) (z : Room) → rules_good p l ws ≡ true → (g : Grown) → grow z (the_rules ws) ≡ ok g → Inv (length (the_rules ws)) z g
built-inv p l ws z r = grown-inv z (the_rules ws) (rules-proper p l ws r)

pub built-tables-pass : (p l : ℕ) (ws : List ℕ) (z : Room) → z.nodes ≤ most_nodes → z.edges ≤ most_edges → rules_good p l ws ≡ true
    → (g : Grown) → grow z (the_rules ws) ≡ ok g → tables_good (length (the_rules ws)) g.nodes (edge_words g.edges) ≡ true
built-tables-pass p l ws z n m r g e =
    let v = built-inv p l ws z r g e in
    fair-pass (length (the_rules ws)) g.nodes g.edges (omega (arith, v.nodes-in)) (omega (arith, v.edges-in)) v.fair
