-- 11 comes exactly where a body and one that is placed are equal, or one of them begins the other, whatever the room.
-- While rules are placed, each node is reached by one list of items alone. So a body that follows the tree down follows the placed bodies.
use Rattle.std.proofs.Math.Path.{◌≡◌, refl, sym}
use Rattle.std.proofs.Common.{◌∙◌, ap}
use Rattle.std.specs.Prelude.{Bool, ◌≢◌, ◌↔◌, ◌⊎◌, eqb, length}
use Rattle.std.proofs.Math.Bool.{true, false}
use Rattle.std.proofs.lemmas.Bool.{false≢true}
use mathlib.Core.List.{List, [], ◌∷◌, ◌++◌, append_assoc, append-nil, cons≢nil}
use Rattle.std.proofs.Math.Option.{Option, some, none, none-ne-some, some-injective}
use Rattle.std.proofs.Math.Logic.{inl, inr}
use Prim.Native.Nat.{ℕ, zero, suc, ◌+◌, ◌<◌}
use native.Mathlib.Omega.{arith}
use Rattle.std.proofs.Math.ListN.{length-append, get_or-append}
use Rattle.std.proofs.Math.Seq.{get_or-append_seam}
use borrow.Author.Tests.{ne_eqb, ltb-true, lt-ltb}
use Rattle.words.specs.Outcome.{Res, ok, no, bind, when}
use Rattle.words.specs.Numbers.{Fault, collides, no_node, no_edge, sixth_reduce, bad_copy, fault_number}
use Rattle.rules.specs.Rules.{Item, con, slot, Rule, source}
use Rattle.rows.specs.Rows.{Reduce, Edge, insert_edge, keyed, find, leaving}
use Rattle.rows.proofs.Theorems.Order.{keyed-is}
use Rattle.rows.proofs.Theorems.Insert.{find-own, find_at, find-other, find-kept}
use Rattle.tree.specs.Grow.{Grown, Room, kind, sym as sym_of, edge_for, branch_at, add_edge, add_node, place_last, place_inner, place, place_rule, place_rules, root_alone, plant, grow}
use Rattle.tree.specs.Grow.{add_converted, copy_row, copy_branches, convert_to, convert_at, convert_nodes, convert, convert_all}

same_item : (i j : Item) → kind i ≡ kind j → sym_of i ≡ sym_of j → i ≡ j
unfolding kind sym_of
same_item (con c) (con d) k s = cc
same_item (con c) (slot t) k s = absurd (omega (arith, k))
same_item (slot t) (con c) k s = absurd (omega (arith, k))
same_item (slot t) (slot u) k s = cc

-- ---- one more node

-- the row to a new node
abbrev row : Grown → ℕ → Item → Edge
row g n i = record { from = n; kind = kind i; sym = sym_of i; to = length g.nodes; reduces = [] }

abbrev added : Grown → ℕ → Item → ℕ → Grown
added g n i w = record { nodes = g.nodes ++ w ∷ []; edges = insert_edge (row g n i) g.edges }

edge_kept : (g : Grown) (n : ℕ) (i : Item) (w m : ℕ) (j : Item) (e : Edge) → edge_for g n i ≡ none → edge_for g m j ≡ some e → edge_for (added g n i w) m j ≡ some e
edge_kept g n i w m j e f h = find-kept (row g n i) g.edges f m (kind j) (sym_of j) e h

-- the new row is found by its own key
edge-made : (g : Grown) (n : ℕ) (i : Item) (w : ℕ) → edge_for (added g n i w) n i ≡ some (row g n i)
edge-made g n i w = find-own (row g n i) g.edges

data New (g : Grown) (n : ℕ) (i : Item) (m : ℕ) (j : Item) (e : Edge) : Type 0 where
  old : edge_for g m j ≡ some e → New g n i m j e
  made : m ≡ n → j ≡ i → e.to ≡ length g.nodes → New g n i m j e

-- and by no other
edge-new : (g : Grown) (n : ℕ) (i : Item) (w m : ℕ) (j : Item) (e : Edge) → edge_for (added g n i w) m j ≡ some e → New g n i m j e
edge-new g n i w m j e h = by (keyed m (kind j) (sym_of j) (row g n i)) refl
  where
    by : (b : Bool) → keyed m (kind j) (sym_of j) (row g n i) ≡ b → New g n i m j e
    by true q =
        let k = keyed-is m (kind j) (sym_of j) (row g n i) q in
        let own = find_at (row g n i) g.edges m (kind j) (sym_of j) q in
        made (sym k.0) (sym (same_item i j k.1 k.2)) (ap (λ (e : Edge). e.to) (some-injective _ _ (sym h ∙ own)))
    by false q = old (sym (find-other (row g n i) g.edges m (kind j) (sym_of j) q) ∙ h)

node_kept : (g : Grown) (n : ℕ) (i : Item) (w m : ℕ) → m < length g.nodes → branch_at (added g n i w) m ≡ branch_at g m
unfolding branch_at
node_kept g n i w m h = ap (λ (x : ℕ). eqb x 0) (get_or-append g.nodes (w ∷ []) 0 m h)

node_made : (g : Grown) (n : ℕ) (i : Item) (w : ℕ) → branch_at (added g n i w) (length g.nodes) ≡ eqb w 0
unfolding branch_at
node_made g n i w = ap (λ (x : ℕ). eqb x 0) (get_or-append_seam g.nodes w [] 0)

-- ---- ways down the tree

-- the items w lead from node 0 to node n, through branches
data Way (g : Grown) : List Item → ℕ → Type 0 where
  start : Way g [] 0
  onward : (w : List Item) (n : ℕ) (i : Item) (e : Edge) → Way g w n → branch_at g n ≡ true → edge_for g n i ≡ some e → Way g (w ++ i ∷ []) e.to

-- b is a beginning of c, or all of it
abbrev pub Begins : List Item → List Item → Type 0
Begins b c = (d : List Item) × (b ++ d ≡ c)

-- S are the bodies whose leaf is there, T those begun
record Tree (S T : List Item → Type 0) (g : Grown) : Type 0 where
  root : 0 < length g.nodes
  bound : (n : ℕ) (i : Item) (e : Edge) → edge_for g n i ≡ some e → (n < length g.nodes) × (e.to < length g.nodes)
  one : (w u : List Item) (n : ℕ) → Way g w n → Way g u n → w ≡ u
  leaf : (w : List Item) (n : ℕ) → Way g w n → branch_at g n ≡ false → S w
  begun : (w : List Item) (n : ℕ) → Way g w n → (w ≡ []) ⊎ ((p : List Item) × T p × Begins w p)
  there : (p : List Item) → S p → (n : ℕ) × Way g p n × (branch_at g n ≡ false)

inside : {S T : List Item → Type 0} {g : Grown} → Tree S T g → {w : List Item} {n : ℕ} → Way g w n → n < length g.nodes
inside t start = t.root
inside t (onward w n i e v b h) = (t.bound n i e h).1

abbrev Within : (S T : List Item → Type 0) → Type 0
Within S T = (p : List Item) → S p → T p

-- the same bodies by another name, and more that are begun
renamed : {S T S' T' : List Item → Type 0} {g : Grown} → Within S S' → Within S' S → Within T T' → Tree S T g → Tree S' T' g
renamed {S} {T} {S'} {T'} {g} f f' h t = record {
  root = t.root;
  bound = t.bound;
  one = t.one;
  leaf = λ w n v b. f w (t.leaf w n v b);
  begun = λ w n v. go w (t.begun w n v);
  there = λ p s. t.there p (f' p s);
}
  where
    go : (w : List Item) → (w ≡ []) ⊎ ((p : List Item) × T p × Begins w p) → (w ≡ []) ⊎ ((p : List Item) × T' p × Begins w p)
    go w (inl e) = inl e
    go w (inr x) = inr (x.0, h x.0 x.1, x.2)

more-begun : {S T U : List Item → Type 0} {g : Grown} → Tree S T g → Tree S (λ p. T p ⊎ U p) g
more-begun t = renamed (λ _ s. s) (λ _ s. s) (λ _ s. inl s) t

-- ---- one more node keeps it a tree

module _ {S T : List Item → Type 0} {g : Grown} (t : Tree S T g) (n : ℕ) (i : Item) (x : ℕ) where
  way-kept : edge_for g n i ≡ none → {w : List Item} {m : ℕ} → Way g w m → Way (added g n i x) w m
  way-kept f start = start
  way-kept f (onward w m j e v b h) = onward w m j e (way-kept f v) (node_kept g n i x m (inside t v) ∙ b) (edge_kept g n i x m j e f h)

  module _ (c : List Item) (a : Way g c n) (b : branch_at g n ≡ true) (f : edge_for g n i ≡ none) where
    way-made : Way (added g n i x) (c ++ i ∷ []) (length g.nodes)
    way-made = onward c n i (row g n i) (way-kept f a) (node_kept g n i x n (inside t a) ∙ b) (edge-made g n i x)

    -- no row leaves the new node
    dead : (j : Item) (e : Edge) → edge_for (added g n i x) (length g.nodes) j ≡ some e → ⊥
    dead j e h = go (edge-new g n i x _ j e h)
      where
        go : New g n i (length g.nodes) j e → ⊥
        go (old p) = omega (arith, (t.bound _ j e p).0)
        go (made p q r) = omega (arith, inside t a)

    -- a way that was there, or the one to the new node
    abbrev Known : List Item → ℕ → Type 0
    Known w m = Way g w m ⊎ ((w ≡ c ++ i ∷ []) × (m ≡ length g.nodes))

    way-new : {w : List Item} {m : ℕ} → Way (added g n i x) w m → Known w m
    way-new start = inl start
    way-new (onward w m j e v p h) = go (way-new v) (edge-new g n i x m j e h)
      where
        go : Known w m → New g n i m j e
            → Known (w ++ j ∷ []) e.to
        go (inl u) (old q) = inl (onward w m j e u (sym (node_kept g n i x m (inside t u)) ∙ p) q)
        go (inl u) (made q r s) = inr (let same = t.one w c n (rw q at u) a in cc, s)
        go (inr u) k = absurd (dead j e (rw u.1 at h))

    -- the new node's word says whether a body ends there
    tree-grows : (S' : List Item → Type 0) → Within S S' → (eqb x 0 ≡ false → S' (c ++ i ∷ []))
        → ((p : List Item) → S' p → S p ⊎ ((c ++ i ∷ [] ≡ p) × (eqb x 0 ≡ false))) → (p : List Item) → T p → Begins (c ++ i ∷ []) p
        → Tree S' T (added g n i x)
    tree-grows S' more new back p tp bp = record {
      root = simp length-append (omega arith);
      bound = λ m j e h. bounds m j e (edge-new g n i x m j e h);
      one = λ w u m v k. ones w u m (way-new v) (way-new k);
      leaf = λ w m v l. leaves w m (way-new v) l;
      begun = λ w m v. beginnings w m (way-new v);
      there = λ q s. theres q (back q s);
    }
      where
        bounds : (m : ℕ) (j : Item) (e : Edge) → New g n i m j e → (m < length (g.nodes ++ x ∷ [])) × (e.to < length (g.nodes ++ x ∷ []))
        bounds m j e (old h) = simp length-append (omega (arith, t.bound m j e h))
        bounds m j e (made q r s) = simp length-append (omega (arith, inside t a))

        ones : (w u : List Item) (m : ℕ) → Known w m → Known u m → w ≡ u
        ones w u m (inl v) (inl k) = t.one w u m v k
        ones w u m (inl v) (inr k) = absurd (omega (arith, inside t v, k.1))
        ones w u m (inr v) (inl k) = absurd (omega (arith, inside t k, v.1))
        ones w u m (inr v) (inr k) = v.0 ∙ sym k.0

        leaves : (w : List Item) (m : ℕ) → Known w m → branch_at (added g n i x) m ≡ false → S' w
        leaves w m (inl v) l = more w (t.leaf w m v (sym (node_kept g n i x m (inside t v)) ∙ l))
        leaves w m (inr v) l = rw v.0 (new (sym (node_made g n i x) ∙ (rw v.1 at l)))

        beginnings : (w : List Item) (m : ℕ) → Known w m → (w ≡ []) ⊎ ((p : List Item) × T p × Begins w p)
        beginnings w m (inl v) = t.begun w m v
        beginnings w m (inr v) = inr (p, tp, rw v.0 bp)

        theres : (q : List Item) → S q ⊎ ((c ++ i ∷ [] ≡ q) × (eqb x 0 ≡ false)) → (m : ℕ) × Way (added g n i x) q m × (branch_at (added g n i x) m ≡ false)
        theres q (inl s) = let d = t.there q s in (d.0, way-kept f d.1, node_kept g n i x d.0 (inside t d.1) ∙ d.2)
        theres q (inr k) = (length g.nodes, rw k.0 at way-made, node_made g n i x ∙ k.1)

-- ---- what stops a body at a node

-- the items b are all followed from node n, or lead to a leaf before they end
data Meets (g : Grown) : ℕ → List Item → Type 0 where
  whole : (n : ℕ) → Meets g n []
  stopped : (n : ℕ) (b : List Item) → branch_at g n ≡ false → Meets g n b
  along : (n : ℕ) (i : Item) (b : List Item) (e : Edge) → branch_at g n ≡ true → edge_for g n i ≡ some e → Meets g e.to b → Meets g n (i ∷ b)

-- a good result has P; 11 shows Q
data After (P : Grown → Type 0) (Q : Type 0) : Res Fault Grown → Type 0 where
  good : (g : Grown) → P g → After P Q (ok g)
  bad : (y : Fault) → (y ≡ collides → Q) → After P Q (no y)

after : {P P' : Grown → Type 0} {Q Q' : Type 0} {x : Res Fault Grown} → ((g : Grown) → P g → P' g) → (Q → Q') → After P Q x → After P' Q' x
after f h (good g p) = good g (f g p)
after f h (bad y q) = bad y λ e. h (q e)

other : (y : Fault) {Q : Type 0} → fault_number y ≢ fault_number collides → y ≡ collides → Q
other y h e = absurd (h (ap fault_number e))

module _ (P : Grown → Type 0) (Q : Type 0) where
  after-bind : {x : Res Fault Grown} (f : Grown → Res Fault Grown) → After (λ g. After P Q (f g)) Q x → After P Q (bind x f)
  unfolding bind
  after-bind f (good g p) = p
  after-bind f (bad y q) = bad y q

  after-when : {A : Type 0} (b : Bool) (y : Fault) (a : A) (f : A → Res Fault Grown) → (b ≡ true → After P Q (f a)) → (b ≡ false → y ≡ collides → Q)
      → After P Q (bind (when b y a) f)
  unfolding bind when
  after-when true y a f h k = h refl
  after-when false y a f h k = bad y (k refl)

  after-end : (b : Bool) (y : Fault) (g : Grown) → P g → (y ≡ collides → Q) → After P Q (when b y g)
  unfolding when
  after-end true y g p h = good g p
  after-end false y g p h = bad y h

  after-add : (z : Room) (g : Grown) (n : ℕ) (i : Item) (w : ℕ) → P (added g n i w) → After P Q (add_node z g n (kind i) (sym_of i) w)
  unfolding add_node add_edge fault_number
  after-add z g n i w p = after-when _ no_node _ _ (λ _. after-end _ no_edge (added g n i w) p (other no_edge λ e. omega arith)) λ _. other no_node λ e. omega arith

-- the body t is placed: S and T as before, and `last` is what holds of the tree with its leaf
module _ (P : Grown → Type 0) (S T : List Item → Type 0) (z : Room) (r : ℕ) (t : List Item) (began : T t)
    (last : (g : Grown) (n : ℕ) (i : Item) (c : List Item) → Tree S T g → Way g c n → branch_at g n ≡ true → edge_for g n i ≡ none → c ++ i ∷ [] ≡ t
    → P (added g n i r)) where
  last-after : (g : Grown) (n : ℕ) (i : Item) (c : List Item) → Tree S T g → Way g c n → c ++ i ∷ [] ≡ t → branch_at g n ≡ true
      → (o : Option Edge) → edge_for g n i ≡ o → After P (Meets g n (i ∷ [])) (place_last z r g n i o)
  unfolding place_last
  last-after g n i c v a q b (some e) f = bad collides λ _. along n i [] e b f (whole e.to)
  last-after g n i c v a q b none f = after-add P _ z g n i r (last g n i c v a b f q)

  inner-after : (g : Grown) (n : ℕ) (i j : Item) (b c : List Item) → Tree S T g → Way g c n → c ++ i ∷ j ∷ b ≡ t → branch_at g n ≡ true
      → (f : Grown → ℕ → Res Fault Grown) → ((g : Grown) (n : ℕ) (c : List Item) → Tree S T g → Way g c n → c ++ j ∷ b ≡ t → After P (Meets g n (j ∷ b)) (f g n))
      → (o : Option Edge) → edge_for g n i ≡ o → After P (Meets g n (i ∷ j ∷ b)) (place_inner z g n i f o)
  unfolding place_inner
  inner-after g n i j b c v a q l f rest (some e) h =
      after (λ _ p. p) (along n i (j ∷ b) e l h) (rest g e.to (c ++ i ∷ []) v (onward c n i e a l h) (append_assoc c (i ∷ []) (j ∷ b) ∙ q))
  inner-after g n i j b c v a q l f rest none h = after-bind P _ _ (after-add _ _ z g n i 0 (after (λ _ p. p) (λ m. absurd (fresh m))
      (rest (added g n i 0) (length g.nodes) (c ++ i ∷ []) grown (way-made v n i 0 c a l h) (append_assoc c (i ∷ []) (j ∷ b) ∙ q))))
    where
      grown : Tree S T (added g n i 0)
      grown = tree-grows v n i 0 c a l h S (λ _ s. s) (λ e. absurd (false≢true (sym e))) (λ _ s. inl s) t began (j ∷ b, append_assoc c (i ∷ []) (j ∷ b) ∙ q)

      fresh : Meets (added g n i 0) (length g.nodes) (j ∷ b) → ⊥
      fresh (stopped _ _ e) = false≢true (sym e ∙ node_made g n i 0)
      fresh (along _ _ _ e p k m) = dead v n i 0 c a l h j e k

  place_after : (b : List Item) (g : Grown) (n : ℕ) (c : List Item) → b ≢ [] → Tree S T g → Way g c n → c ++ b ≡ t → After P (Meets g n b) (place z r b g n)
  unfolding place
  place_after [] g n c x v a q = absurd (x refl)
  place_after (i ∷ []) g n c x v a q = after-when P _ _ collides g _ (λ l. last-after g n i c v a q l _ refl) λ l _. stopped n _ l
  place_after (i ∷ j ∷ b) g n c x v a q =
      after-when P _ _ collides g _ (λ l. inner-after g n i j b c v a q l _ (λ g n c. place_after (j ∷ b) g n c λ e. cons≢nil e) _ refl) λ l _. stopped n _ l

-- ---- the rules in order

-- q is one of the rules
pub data Among (q : Rule) : List Rule → Type 0 where
  first : (R : List Rule) → Among q (q ∷ R)
  later : (p : Rule) (R : List Rule) → Among q R → Among q (p ∷ R)

abbrev Also : (List Item → Type 0) → Rule → List Item → Type 0
Also S q p = S p ⊎ ((source q.body ≡ none) × (q.body ≡ p))

-- the bodies that rules add: those of no conversion
abbrev Those : (List Item → Type 0) → List Rule → List Item → Type 0
Those S R p = S p ⊎ ((q : Rule) × Among q R × (source q.body ≡ none) × (q.body ≡ p))

one_more : (S : List Item → Type 0) (q : Rule) (R : List Rule) (p : List Item) → Those (Also S q) R p → Those S (q ∷ R) p
one_more S q R p (inl (inl s)) = inl s
one_more S q R p (inl (inr x)) = inr (q, first R, x.0, x.1)
one_more S q R p (inr x) = inr (x.0, later q R x.1, x.2, x.3)

one_less : (S : List Item → Type 0) (q : Rule) (R : List Rule) (p : List Item) → Those S (q ∷ R) p → Those (Also S q) R p
one_less S q R p (inl s) = inl (inl s)
one_less S q R p (inr x) = go x.0 x.1 x.2 x.3
  where
    go : (u : Rule) → Among u (q ∷ R) → source u.body ≡ none → u.body ≡ p → Those (Also S q) R p
    go u (first _) n e = inl (inr (n, e))
    go u (later _ _ a) n e = inr (u, a, n, e)

no-rule : {q : Rule} {R : List Rule} → Among q R → R ≢ []
no-rule (first R) = λ e. cons≢nil e
no-rule (later p R a) = λ e. cons≢nil e

module _ (z : Room) where
  rule-after : (S : List Item → Type 0) (r : ℕ) (q : Rule) (g : Grown) → r ≢ 0 → q.body ≢ [] → Tree S S g → (o : Option ℕ) → source q.body ≡ o
      → After (Tree (Also S q) (Also S q)) (Unit {0}) (place_rule z r q g o)
  unfolding place_rule
  rule-after S r q g x y t (some u) e = good g (renamed (λ _ s. inl s) less (λ _ s. inl s) t)
    where
      less : (p : List Item) → Also S q p → S p
      less p (inl s) = s
      less p (inr k) = absurd (none-ne-some u (sym k.0 ∙ e))
  rule-after S r q g x y t none e = after (λ _ p. p) (λ _. tt)
      (place_after (Tree (Also S q) (Also S q)) S (Also S q) z r q.body (inr (e, refl)) last q.body g 0 [] y (more-begun t) start refl)
    where
      last : (g : Grown) (n : ℕ) (i : Item) (c : List Item) → Tree S (Also S q) g → Way g c n → branch_at g n ≡ true → edge_for g n i ≡ none → c ++ i ∷ [] ≡ q.body
          → Tree (Also S q) (Also S q) (added g n i r)
      last g n i c t a b f h = tree-grows t n i r c a b f (Also S q) (λ _ s. inl s) (λ _. inr (e, sym h)) back q.body (inr (e, refl)) ([], append-nil _ ∙ h)
        where
          back : (p : List Item) → Also S q p → S p ⊎ ((c ++ i ∷ [] ≡ p) × (eqb r 0 ≡ false))
          back p (inl s) = inl s
          back p (inr k) = inr (h ∙ k.1, ne_eqb r 0 x)

  rules-after : (R : List Rule) (S : List Item → Type 0) (r : ℕ) (g : Grown) → r ≢ 0 → ((q : Rule) → Among q R → q.body ≢ []) → Tree S S g
      → After (Tree (Those S R) (Those S R)) (Unit {0}) (place_rules z r R g)
  unfolding place_rules
  rules-after [] S r g x y t = good g (renamed (λ _ s. inl s) none-there (λ _ s. inl s) t)
    where
      none-there : (p : List Item) → Those S [] p → S p
      none-there p (inl s) = s
      none-there p (inr k) = absurd (no-rule k.1 refl)
  rules-after (q ∷ R) S r g x y t = after-bind _ _ _ (after
      (λ g t. after (λ _. renamed (one_more S q R) (one_less S q R) (one_more S q R)) (λ u. u)
      (rules-after R (Also S q) (suc r) g (λ e. omega arith) (λ u a. y u (later q R a)) t))
      (λ u. u)
      (rule-after S r q g x (y q (first R)) t _ refl))

-- node 0 alone
alone : Tree (λ p. ⊥) (λ p. ⊥) root_alone
unfolding find branch_at
alone = record {
  root = omega arith;
  bound = λ n i e h. absurd (none-ne-some e h);
  one = λ w u n v k. sym (empty v) ∙ empty k;
  leaf = λ w n v b. absurd (false≢true (sym b ∙ rw (at v) refl));
  begun = λ w n v. inl (sym (empty v));
  there = λ p s. absurd s;
}
  where
    empty : {w : List Item} {n : ℕ} → Way root_alone w n → [] ≡ w
    empty start = refl
    empty (onward w n i e v b h) = absurd (none-ne-some e h)

    at : {w : List Item} {n : ℕ} → Way root_alone w n → n ≡ 0
    at start = refl
    at (onward w n i e v b h) = absurd (none-ne-some e h)

-- ---- 11 is what is met

after-no : {P : Grown → Type 0} {Q : Type 0} {x : Res Fault Grown} → After P Q x → x ≡ no collides → Q
after-no (good g p) e = absurd (ok≢no g collides e)
  where
    ok≢no : (g : Grown) (y : Fault) → ◌≡◌ {A = Res Fault Grown} (ok g) (no y) → ⊥
    ok≢no g y e = let k : ◌≡◌ {A = ℕ} 0 1 = cc in omega arith
after-no (bad y q) e = q cc

refused : (b : Bool) (g : Grown) (f : Grown → Res Fault Grown) → b ≡ false → bind (when b collides g) f ≡ no collides
unfolding bind when
refused true g f e = absurd (false≢true (sym e))
refused false g f e = refl

passed : (b : Bool) (y : Fault) (g : Grown) (f : Grown → Res Fault Grown) → b ≡ true → f g ≡ no collides → bind (when b y g) f ≡ no collides
unfolding bind when
passed true y g f e h = h
passed false y g f e h = absurd (false≢true e)

meets-place : (z : Room) (r : ℕ) (b : List Item) (g : Grown) (n : ℕ) → b ≢ [] → Meets g n b → place z r b g n ≡ no collides
unfolding place place_last place_inner
meets-place z r [] g n x m = absurd (x refl)
meets-place z r (i ∷ []) g n x (stopped _ _ l) = refused _ g _ l
meets-place z r (i ∷ []) g n x (along _ _ _ e l h m) = passed _ _ g _ l (rw h refl)
meets-place z r (i ∷ j ∷ b) g n x (stopped _ _ l) = refused _ g _ l
meets-place z r (i ∷ j ∷ b) g n x (along _ _ _ e l h m) = passed _ _ g _ l (rw h (meets-place z r (j ∷ b) g e.to (λ e. cons≢nil e) m))

-- the way to a node, and on from there
way-meets : {g : Grown} {w : List Item} {n : ℕ} → Way g w n → (c : List Item) → Meets g n c → Meets g 0 (w ++ c)
way-meets start c m = m
way-meets (onward w n i e v l h) c m = rw (append_assoc w (i ∷ []) c) (way-meets v (i ∷ c) (along n i c e l h m))

meets-less : {g : Grown} (n : ℕ) (b c : List Item) → Meets g n (b ++ c) → Meets g n b
meets-less n [] c m = whole n
meets-less n (i ∷ b) c (stopped _ _ l) = stopped n (i ∷ b) l
meets-less n (i ∷ b) c (along _ _ _ e l h m) = along n i b e l h (meets-less e.to b c m)

-- b equals, begins or continues a body of S
abbrev Near : (List Item → Type 0) → List Item → Type 0
Near S b = (p : List Item) × S p × (Begins b p ⊎ Begins p b)

meets-near : {S : List Item → Type 0} {g : Grown} → Tree S S g → {n : ℕ} {b : List Item} (c : List Item) → Way g c n → Meets g n b → c ++ b ≢ [] → Near S (c ++ b)
meets-near {S} t c v (whole n) x = go (t.begun c n v)
  where
    go : (c ≡ []) ⊎ ((p : List Item) × S p × Begins c p) → Near S (c ++ [])
    go (inl e) = absurd (x (append-nil c ∙ e))
    go (inr k) = (k.0, k.1, inl (rw append-nil k.2))
meets-near t c v (stopped n b l) x = (c, t.leaf c n v l, inr (b, refl))
meets-near t c v (along n i b e l h m) x = let a = append_assoc c (i ∷ []) b in rw a at (meets-near t (c ++ i ∷ []) (onward c n i e v l h) m λ y. x (sym a ∙ y))

near-meets : {S : List Item → Type 0} {g : Grown} → Tree S S g → (b : List Item) → Near S b → Meets g 0 b
near-meets {S} {g} t b k = go (t.there k.0 k.1) k.2
  where
    go : (n : ℕ) × Way g k.0 n × (branch_at g n ≡ false) → Begins b k.0 ⊎ Begins k.0 b → Meets g 0 b
    go d (inl s) = meets-less 0 b s.0 (rw (s.1, ← (append-nil k.0)) (way-meets d.1 [] (whole d.0)))
    go d (inr s) = rw s.1 at (way-meets d.1 s.0 (stopped d.0 s.0 d.2))

exactly : {S : List Item → Type 0} {g : Grown} → Tree S S g → (z : Room) (r : ℕ) (b : List Item) → b ≢ [] → (place z r b g 0 ≡ no collides) ↔ Near S b
exactly {S} {g} t z r b x = (λ e. meets-near t [] start (after-no met e) x, λ k. meets-place z r b g 0 x (near-meets t b k))
  where
    met : After (λ g. Unit {0}) (Meets g 0 b) (place z r b g 0)
    met = place_after (λ g. Unit {0}) S (λ p. S p ⊎ (b ≡ p)) z r b (inr refl) (λ g n i c t v l h e. tt) b g 0 [] x (more-begun t) start refl

-- ---- the law

-- b equals, begins or continues the body of one of the rules that is no conversion
abbrev pub Collides : List Rule → List Item → Type 0
Collides R b = (q : Rule) × Among q R × (source q.body ≡ none) × (Begins b q.body ⊎ Begins q.body b)

after-ok : {P : Grown → Type 0} {Q : Type 0} {x : Res Fault Grown} → After P Q x → (g : Grown) → x ≡ ok g → P g
after-ok (good g p) h e = let k : g ≡ h = cc in rw k at p
after-ok (bad y q) h e = let k : ◌≡◌ {A = ℕ} 0 1 = cc in absurd (omega arith)

pub collide-exactly : (z : Room) (R : List Rule) (g : Grown) → ((q : Rule) → Among q R → q.body ≢ []) → place_rules z 1 R root_alone ≡ ok g
    → (z' : Room) (r : ℕ) (b : List Item) → b ≢ [] → (place z' r b g 0 ≡ no collides) ↔ Collides R b
collide-exactly z R g x e z' r b y = (λ h. to (law.0 h), λ k. law.1 (k.0.body, inr (k.0, k.1, k.2, refl), k.3))
  where
    tree : Tree (Those (λ p. ⊥) R) (Those (λ p. ⊥) R) g
    tree = after-ok (rules-after z R (λ p. ⊥) 1 root_alone (λ e. omega arith) x alone) g e

    law : (place z' r b g 0 ≡ no collides) ↔ Near (Those (λ p. ⊥) R) b
    law = exactly tree z' r b y

    to : Near (Those (λ p. ⊥) R) b → Collides R b
    to k = go k.0 k.1 k.2
      where
        go : (p : List Item) → Those (λ p. ⊥) R p → Begins b p ⊎ Begins p b → Collides R b
        go p (inl s) d = absurd s
        go p (inr u) d = (u.0, u.1, u.2, rw u.3 d)

-- ---- of a whole build

-- conversions never answer 11
abbrev Never : Res Fault Grown → Type 0
Never x = After (λ g. Unit {0}) ⊥ x

never-then : {x : Res Fault Grown} (f : Grown → Res Fault Grown) → Never x → ((g : Grown) → Never (f g)) → Never (bind x f)
never-then f a h = after-bind _ _ f (after (λ g _. h g) (λ e. e) a)

module _ (z : Room) (c : ℕ) where
  converted-never : (g : Grown) (n s : ℕ) (e : Edge) (o : Option (List Reduce)) → Never (add_converted z g n s e o)
  unfolding add_converted add_edge fault_number
  converted-never g n s e none = bad sixth_reduce (other sixth_reduce λ e. omega arith)
  converted-never g n s e (some ds) = after-end _ _ _ no_edge _ tt (other no_edge λ e. omega arith)

  row-never : (g : Grown) (m : ℕ) (e : Edge) (o : Option Edge) → Never (copy_row z c g m e o)
  unfolding copy_row
  row-never g m e (some d) = good g tt
  row-never g m e none = converted-never g m e.sym e _

  copy-never : (m : ℕ) (es : List Edge) (g : Grown) → Never (copy_branches z c m es g)
  unfolding copy_branches
  copy-never m [] g = good g tt
  copy-never m (e ∷ es) g = never-then _ (row-never g m e _) λ g. copy-never m es g

  to-never : (u : ℕ) (g : Grown) (n : ℕ) (e : Edge) (o : Option Edge) → Never (convert_to z c u g n e o)
  unfolding convert_to fault_number
  to-never u g n e none = converted-never g n u e _
  to-never u g n e (some d) = after-when _ _ _ bad_copy g _ (λ _. copy-never d.to (leaving e.to g.edges) g) λ _. other bad_copy λ e. omega arith

  at-never : (u : ℕ) (g : Grown) (n : ℕ) (o : Option Edge) → Never (convert_at z c u g n o)
  unfolding convert_at
  at-never u g n none = good g tt
  at-never u g n (some e) = to-never u g n e _

  nodes-never : (t u k n : ℕ) (g : Grown) → Never (convert_nodes z c t u k n g)
  unfolding convert_nodes
  nodes-never t u zero n g = good g tt
  nodes-never t u (suc k) n g = never-then _ (at-never u g n _) λ g. nodes-never t u k (suc n) g

  convert-never : (q : Rule) (g : Grown) (o : Option ℕ) → Never (convert z c q g o)
  unfolding convert
  convert-never q g none = good g tt
  convert-never q g (some u) = nodes-never q.result u (length g.nodes) 0 g

all-never : (z : Room) (c : ℕ) (R : List Rule) (g : Grown) → Never (convert_all z c R g)
unfolding convert_all
all-never z c [] g = good g tt
all-never z c (q ∷ R) g = never-then _ (convert-never z c q g _) λ g. all-never z (suc c) R g

then_ok : {x : Res Fault Grown} (f : Grown → Res Fault Grown) (g : Grown) → bind x f ≡ ok g → (h : Grown) × (x ≡ ok h) × (f h ≡ ok g)
unfolding bind
then_ok {x} f g e = go x e
  where
    go : (x : Res Fault Grown) → bind x f ≡ ok g → (h : Grown) × (x ≡ ok h) × (f h ≡ ok g)
    go (ok h) e = (h, refl, e)
    go (no y) e = let k : ◌≡◌ {A = ℕ} 0 1 = cc in absurd (omega arith)

-- the rules after those that are placed
rules-append : (z : Room) (A B : List Rule) (r : ℕ) (g h : Grown) → place_rules z r A g ≡ ok h → place_rules z r (A ++ B) g ≡ place_rules z (length A + r) B h
unfolding place_rules bind
rules-append z [] B r g h e = let k : g ≡ h = cc in let n : 0 + r ≡ r = omega arith in rw (k, n) refl
rules-append z (q ∷ A) B r g h e =
    let d = then_ok {x = place_rule z r q g (source q.body)} (λ g. place_rules z (suc r) A g) h e in
    let n : length A + suc r ≡ suc (length A) + r = omega arith in
    rw d.1 (rules-append z A B (suc r) d.0 h d.2 ∙ rw n refl)

-- the first rule whose body collides with an earlier one's, and the tree of those before it
pub record Collision (z : Room) (R : List Rule) : Type 0 where
  pub earlier : List Rule
  pub rule : Rule
  pub others : List Rule
  pub tree : Grown
  pub split : earlier ++ rule ∷ others ≡ R
  pub placed : place_rules z 1 earlier root_alone ≡ ok tree
  pub placeable : source rule.body ≡ none
  pub collision : Collides earlier rule.body

among-l : (q : Rule) (A B : List Rule) → Among q A → Among q (A ++ B)
among-l q A B (first R) = first (R ++ B)
among-l q A B (later p R a) = later p (R ++ B) (among-l q R B a)

among-r : (q : Rule) (A B : List Rule) → Among q (A ++ q ∷ B)
among-r q [] B = first B
among-r q (p ∷ A) B = later p (A ++ q ∷ B) (among-r q A B)

rule-alone : (z : Room) (q : Rule) (r : ℕ) (g h : Grown) → place_rule z r q g (source q.body) ≡ ok h → place_rules z r (q ∷ []) g ≡ ok h
unfolding place_rules bind
rule-alone z q r g h e = rw e refl

itself : (x : Res Fault Grown) → After (λ g. x ≡ ok g) (x ≡ no collides) x
itself (ok g) = good g refl
itself (no y) = bad y λ e. cc

module _ (z : Room) (W : List Rule) (x : (q : Rule) → Among q W → q.body ≢ []) where
  clash : (A R : List Rule) (q : Rule) (r : ℕ) (g : Grown) → A ++ q ∷ R ≡ W → place_rules z 1 A root_alone ≡ ok g → (o : Option ℕ) → source q.body ≡ o
      → place_rule z r q g o ≡ no collides → Collision z W
  unfolding place_rule
  clash A R q r g w e (some u) s p = let k : ◌≡◌ {A = ℕ} 0 1 = cc in absurd (omega arith)
  clash A R q r g w e none s p = record {
    earlier = A;
    rule = q;
    others = R;
    tree = g;
    split = w;
    placed = e;
    placeable = s;
    collision = (collide-exactly z A g (λ u a. x u (rw w at (among-l u A (q ∷ R) a))) e z r q.body (x q (rw w at (among-r q A R)))).0 p;
  }

  rules-no : (R A : List Rule) (r : ℕ) (g : Grown) → A ++ R ≡ W → place_rules z 1 A root_alone ≡ ok g → length A + 1 ≡ r
      → After (λ g. Unit {0}) (Collision z W) (place_rules z r R g)
  unfolding place_rules
  rules-no [] A r g w e k = good g tt
  rules-no (q ∷ R) A r g w e k = after-bind _ _ _ (after
      (λ h p. rules-no R (A ++ q ∷ []) (suc r) h (append_assoc A (q ∷ []) R ∙ w) (rules-append z A (q ∷ []) 1 root_alone g e ∙ rw k (rule-alone z q r g h p))
      (simp length-append (omega (arith, k))))
      (clash A R q r g w e _ refl)
      (itself (place_rule z r q g (source q.body))))

then-no : {x : Res Fault Grown} (f : Grown → Res Fault Grown) → x ≡ no collides → bind x f ≡ no collides
unfolding bind
then-no f e = rw e refl

-- planting answers 11 exactly if a body collides with an earlier one's and those before it have room
pub plant-collides : (z : Room) (R : List Rule) → ((q : Rule) → Among q R → q.body ≢ []) → (plant z R ≡ no collides) ↔ ((0 < z.nodes) × Collision z R)
unfolding plant place_rules place_rule fault_number
plant-collides z R x = (
  after-no (after-when _ _ _ no_node root_alone _ (λ t. after (λ _ u. u) (λ c. (ltb-true 0 z.nodes t, c)) (rules-no z R x R [] 1 root_alone refl refl refl)) λ _. other no_node λ e. omega arith),
  λ k. passed _ no_node root_alone _ (lt-ltb 0 z.nodes k.0) (back k.1),
)
  where
    back : Collision z R → place_rules z 1 R root_alone ≡ no collides
    back c =
        let w = c.split in
        rw (← w) (rules-append z c.earlier (c.rule ∷ c.others) 1 root_alone c.tree c.placed ∙ then-no _ (rw c.placeable
        ((collide-exactly z c.earlier c.tree (λ u a. x u (rw w at (among-l u c.earlier (c.rule ∷ c.others) a))) c.placed z _ c.rule.body
        (x c.rule (rw w at (among-r c.rule c.earlier c.others)))).1 c.collision)))

-- a build answers 11 exactly if a body collides with an earlier one's and those before it have room
pub grow-collides : (z : Room) (R : List Rule) → ((q : Rule) → Among q R → q.body ≢ []) → (grow z R ≡ no collides) ↔ ((0 < z.nodes) × Collision z R)
unfolding grow
grow-collides z R x = (
  λ e. (plant-collides z R x).0 (after-no (after-bind _ _ _ (after (λ g _. after (λ _ u. u) absurd (all-never z 1 R g)) (λ h. h) (itself (plant z R)))) e),
  λ k. then-no _ ((plant-collides z R x).1 k),
)
