-- Growing as it was while rows had no order, each appended after the others. It comes to the same: one grows exactly if the other does, to
-- the same nodes and the same rows in another order; and of the refusals only 13 and 14 can change places, where the edge room is short.
use Rattle.std.specs.Prelude.{◌≡◌, Bool, ◌&&◌, ◌⊎◌, eqb, ltb}
use Rattle.std.proofs.Math.Path.{refl, sym, subst}
use Rattle.std.proofs.Common.{ap, ◌∙◌, inr, length-append, eq-eqb, eqb-true}
use Rattle.std.proofs.Math.Bool.{true, false}
use Rattle.std.proofs.lemmas.Bool.{false≢true}
use mathlib.Core.List.{List, [], ◌∷◌, ◌++◌}
use Rattle.std.proofs.Math.Option.{Option, some, none, none-ne-some, some-injective}
use Rattle.std.proofs.Math.Logic.{inl}
use Prim.Native.Nat.{ℕ, zero, suc, ◌+◌}
use Rattle.std.proofs.Math.ListN.{length}
use Rattle.words.specs.Outcome.{Res, ok, no, bind, when, pick}
use Rattle.words.specs.Numbers.{Fault, collides, no_node, no_edge, sixth_reduce, bad_copy}
use Rattle.words.proofs.Theorems.Tests.{and_l, and_r}
use Rattle.rules.specs.Rules.{Item, Rule, source}
use Rattle.rules.proofs.Theorems.Every.{All}
use Rattle.rows.specs.Rows.{Reduce, Edge, below, insert_edge, keyed, find, leaving, with_reduce}
use Rattle.rows.proofs.Theorems.Order.{keyed-is}
use Rattle.rows.proofs.Theorems.Insert.{find_at, find-other}
use Rattle.tree.specs.Grow.{Grown, Room, kind, sym as sym_of, edge_for, branch_at, add_edge, add_node, place_last, place_inner, place, place_rule, place_rules, add_converted, offset_on, copy_row, copy_branches, apart, convert_to, convert_at, convert_nodes, convert, convert_all, root_alone, plant, grow}

-- ---- growing by appending

unfoldable pub append_edge : Room → Grown → Edge → Res Fault Grown
append_edge z g e = when (ltb (length g.edges) z.edges) no_edge (record { nodes = g.nodes; edges = g.edges ++ e ∷ [] })

unfoldable pub add_node' : Room → Grown → ℕ → ℕ → ℕ → ℕ → Res Fault Grown
add_node' z g n k s w = bind (when (ltb (length g.nodes) z.nodes) no_node (length g.nodes)) λ m.
    append_edge z (record { nodes = g.nodes ++ w ∷ []; edges = g.edges }) (record { from = n; kind = k; sym = s; to = m; reduces = [] })

unfoldable pub place_last' : Room → ℕ → Grown → ℕ → Item → Option Edge → Res Fault Grown
place_last' z r g n i (some e) = no collides
place_last' z r g n i none = add_node' z g n (kind i) (sym_of i) r

unfoldable pub place_inner' : Room → Grown → ℕ → Item → (Grown → ℕ → Res Fault Grown) → Option Edge → Res Fault Grown
place_inner' z g n i rest (some e) = rest g e.to
place_inner' z g n i rest none = bind (add_node' z g n (kind i) (sym_of i) 0) λ g'. rest g' (length g.nodes)

unfoldable pub place' : Room → ℕ → List Item → Grown → ℕ → Res Fault Grown
place' z r [] g n = ok g
place' z r (i ∷ []) g n = bind (when (branch_at g n) collides g) λ g. place_last' z r g n i (edge_for g n i)
place' z r (i ∷ j ∷ b) g n = bind (when (branch_at g n) collides g) λ g. place_inner' z g n i (λ g n. place' z r (j ∷ b) g n) (edge_for g n i)

unfoldable pub place_rule' : Room → ℕ → Rule → Grown → Option ℕ → Res Fault Grown
place_rule' z r q g (some u) = ok g
place_rule' z r q g none = place' z r q.body g 0

unfoldable pub place_rules' : Room → ℕ → List Rule → Grown → Res Fault Grown
place_rules' z r [] g = ok g
place_rules' z r (q ∷ qs) g = bind (place_rule' z r q g (source q.body)) λ g. place_rules' z (suc r) qs g

unfoldable pub add_converted' : Room → Grown → ℕ → ℕ → Edge → Option (List Reduce) → Res Fault Grown
add_converted' z g n s e none = no sixth_reduce
add_converted' z g n s e (some ds) = append_edge z g (record { from = n; kind = e.kind; sym = s; to = e.to; reduces = ds })

abbrev pub converted' : Room → ℕ → ℕ → Grown → ℕ → ℕ → Edge → Res Fault Grown
converted' z c o g n s e = add_converted' z g n s e (with_reduce (record { rule = c; offset = o }) e.reduces)

unfoldable pub copy_row' : Room → ℕ → Grown → ℕ → Edge → Option Edge → Res Fault Grown
copy_row' z c g m e (some d) = ok g
copy_row' z c g m e none = converted' z c (offset_on e.kind) g m e.sym e

unfoldable pub copy_branches' : Room → ℕ → ℕ → List Edge → Grown → Res Fault Grown
copy_branches' z c m [] g = ok g
copy_branches' z c m (e ∷ es) g = bind (copy_row' z c g m e (find g.edges m e.kind e.sym)) λ g. copy_branches' z c m es g

unfoldable pub convert_to' : Room → ℕ → ℕ → Grown → ℕ → Edge → Option Edge → Res Fault Grown
convert_to' z c u g n e none = converted' z c 0 g n u e
convert_to' z c u g n e (some d) = bind (when (apart g e.to d.to) bad_copy g) λ g. copy_branches' z c d.to (leaving e.to g.edges) g

unfoldable pub convert_at' : Room → ℕ → ℕ → Grown → ℕ → Option Edge → Res Fault Grown
convert_at' z c u g n none = ok g
convert_at' z c u g n (some e) = convert_to' z c u g n e (find g.edges n 1 u)

unfoldable pub convert_nodes' : Room → ℕ → ℕ → ℕ → ℕ → ℕ → Grown → Res Fault Grown
convert_nodes' z c t u zero n g = ok g
convert_nodes' z c t u (suc k) n g = bind (convert_at' z c u g n (find g.edges n 1 t)) λ g. convert_nodes' z c t u k (suc n) g

unfoldable pub convert' : Room → ℕ → Rule → Grown → Option ℕ → Res Fault Grown
convert' z c q g none = ok g
convert' z c q g (some u) = convert_nodes' z c q.result u (length g.nodes) 0 g

unfoldable pub convert_all' : Room → ℕ → List Rule → Grown → Res Fault Grown
convert_all' z c [] g = ok g
convert_all' z c (q ∷ qs) g = bind (convert' z c q g (source q.body)) λ g. convert_all' z (suc c) qs g

unfoldable pub grow_appending : Room → List Rule → Res Fault Grown
grow_appending z R = bind (bind (when (ltb 0 z.nodes) no_node root_alone) λ g. place_rules' z 1 R g) λ g. convert_all' z 1 R g

-- ---- the same rows in another order

pub data Shuffled : List Edge → List Edge → Type 0 where
  nothing : Shuffled [] []
  skip : (e : Edge) (es fs : List Edge) → Shuffled es fs → Shuffled (e ∷ es) (e ∷ fs)
  swap : (d e : Edge) (es : List Edge) → Shuffled (d ∷ e ∷ es) (e ∷ d ∷ es)
  via : (es fs gs : List Edge) → Shuffled es fs → Shuffled fs gs → Shuffled es gs

as_is : (es : List Edge) → Shuffled es es
as_is [] = nothing
as_is (e ∷ es) = skip e es es (as_is es)

back : {es fs : List Edge} → Shuffled es fs → Shuffled fs es
back nothing = nothing
back (skip e es fs p) = skip e fs es (back p)
back (swap d e es) = swap e d es
back (via es fs gs p q) = via gs fs es (back q) (back p)

as_many : {es fs : List Edge} → Shuffled es fs → length es ≡ length fs
as_many nothing = refl
as_many (skip e es fs p) = ap suc (as_many p)
as_many (swap d e es) = refl
as_many (via es fs gs p q) = as_many p ∙ as_many q

-- an edge put in, or appended, against one that stands first
inserted : (e : Edge) (es : List Edge) → Shuffled (insert_edge e es) (e ∷ es)
unfolding insert_edge
inserted e [] = as_is (e ∷ [])
inserted e (d ∷ es) = by (below e.from e.kind e.sym d) (inserted e es)
  where
    by : (b : Bool) → Shuffled (insert_edge e es) (e ∷ es) → Shuffled (pick b (d ∷ insert_edge e es) (e ∷ d ∷ es)) (e ∷ d ∷ es)
    by true p = via _ (d ∷ e ∷ es) _ (skip d _ _ p) (swap d e es)
    by false p = as_is (e ∷ d ∷ es)

appended : (e : Edge) (es : List Edge) → Shuffled (es ++ e ∷ []) (e ∷ es)
appended e [] = as_is (e ∷ [])
appended e (d ∷ es) = via _ (d ∷ e ∷ es) _ (skip d _ _ (appended e es)) (swap d e es)

leaving-shuffled : (n : ℕ) {es fs : List Edge} → Shuffled es fs → Shuffled (leaving n es) (leaving n fs)
unfolding leaving
leaving-shuffled n nothing = nothing
leaving-shuffled n (skip e es fs p) = by (eqb e.from n) (leaving-shuffled n p)
  where
    by : (b : Bool) → Shuffled (leaving n es) (leaving n fs) → Shuffled (pick b (e ∷ leaving n es) (leaving n es)) (pick b (e ∷ leaving n fs) (leaving n fs))
    by true p = skip e _ _ p
    by false p = p
leaving-shuffled n (swap d e es) = by (eqb d.from n) (eqb e.from n)
  where
    by : (a b : Bool) → let r = leaving n es in
        Shuffled (pick a (d ∷ pick b (e ∷ r) r) (pick b (e ∷ r) r)) (pick b (e ∷ pick a (d ∷ r) r) (pick a (d ∷ r) r))
    by true true = swap d e _
    by true false = as_is _
    by false true = as_is _
    by false false = as_is _
leaving-shuffled n (via es fs gs p q) = via _ _ _ (leaving-shuffled n p) (leaving-shuffled n q)

-- ---- a key has one row

all_shuffled : (P : Edge → Type 0) {es fs : List Edge} → Shuffled es fs → All P es → All P fs
all_shuffled P nothing a = tt
all_shuffled P (skip e es fs p) a = (a.0, all_shuffled P p a.1)
all_shuffled P (swap d e es) a = (a.1.0, (a.0, a.1.1))
all_shuffled P (via es fs gs p q) a = all_shuffled P q (all_shuffled P p a)

-- each two of a list
abbrev Pairs : (Edge → Edge → Type 0) → List Edge → Type 0
Pairs R [] = Unit {0}
Pairs R (e ∷ es) = All (R e) es × Pairs R es

pairs-shuffled : (R : Edge → Edge → Type 0) → ((d e : Edge) → R d e → R e d) → {es fs : List Edge} → Shuffled es fs → Pairs R es → Pairs R fs
pairs-shuffled R h nothing u = tt
pairs-shuffled R h (skip e es fs p) u = (all_shuffled (R e) p u.0, pairs-shuffled R h p u.1)
pairs-shuffled R h (swap d e es) u = ((h d e u.0.0, u.1.0), (u.0.1, u.1.1))
pairs-shuffled R h (via es fs gs p q) u = pairs-shuffled R h q (pairs-shuffled R h p u)

abbrev Unlike : Edge → Edge → Type 0
Unlike d e = keyed d.from d.kind d.sym e ≡ false

unlike-back : (d e : Edge) → Unlike d e → Unlike e d
unfolding keyed
unlike-back d e h = by (keyed e.from e.kind e.sym d) refl
  where
    by : (b : Bool) → keyed e.from e.kind e.sym d ≡ b → Unlike e d
    by false q = q
    by true q =
        let i = keyed-is e.from e.kind e.sym d q in
        let own : keyed d.from d.kind d.sym e ≡ true =
        rw (eq-eqb e.from d.from (sym i.0), eq-eqb e.kind d.kind (sym i.1), eq-eqb e.sym d.sym (sym i.2)) in
        absurd (false≢true (sym h ∙ own))

abbrev Single : List Edge → Type 0
Single es = Pairs Unlike es

single-shuffled : {es fs : List Edge} → Shuffled es fs → Single es → Single fs
single-shuffled p u = pairs-shuffled Unlike unlike-back p u

-- a new key
new-unlike : (e : Edge) (es : List Edge) → find es e.from e.kind e.sym ≡ none → All (Unlike e) es
unfolding find
new-unlike e [] f = tt
new-unlike e (d ∷ es) f = by (keyed e.from e.kind e.sym d) refl f (new-unlike e es)
  where
    by : (b : Bool) → keyed e.from e.kind e.sym d ≡ b
        → ◌≡◌ {A = Option Edge} (elim b [ true ↦ some d | false ↦ find es e.from e.kind e.sym ]) none
        → (find es e.from e.kind e.sym ≡ none → All (Unlike e) es) → All (Unlike e) (d ∷ es)
    by true q f h = absurd (none-ne-some d (sym f))
    by false q f h = (q, h f)

-- ---- rows that are found alike

find-keyed : (es : List Edge) (n k s : ℕ) (e : Edge) → find es n k s ≡ some e → keyed n k s e ≡ true
unfolding find
find-keyed [] n k s e h = absurd (none-ne-some e h)
find-keyed (d ∷ es) n k s e h = by (keyed n k s d) refl h (find-keyed es n k s e)
  where
    by : (b : Bool) → keyed n k s d ≡ b → elim b [ true ↦ some d | false ↦ find es n k s ] ≡ some e → (find es n k s ≡ some e → keyed n k s e ≡ true) → keyed n k s e ≡ true
    by true q h f = rw (← (some-injective _ _ h)) q
    by false q h f = f h

find-last : (e : Edge) (es : List Edge) (n k s : ℕ) → find es n k s ≡ none → keyed n k s e ≡ true → find (es ++ e ∷ []) n k s ≡ some e
unfolding find
find-last e [] n k s f q = rw (q, find)
find-last e (d ∷ es) n k s f q = by (keyed n k s d) refl f (find-last e es n k s)
  where
    by : (b : Bool) → keyed n k s d ≡ b → ◌≡◌ {A = Option Edge} (elim b [ true ↦ some d | false ↦ find es n k s ]) none
        → (find es n k s ≡ none → keyed n k s e ≡ true → find (es ++ e ∷ []) n k s ≡ some e) → find (d ∷ (es ++ e ∷ [])) n k s ≡ some e
    by true x f h = absurd (none-ne-some d (sym f))
    by false x f h = rw (x, find) (h f q)

find-before : (e : Edge) (es : List Edge) (n k s : ℕ) → keyed n k s e ≡ false → find (es ++ e ∷ []) n k s ≡ find es n k s
unfolding find
find-before e [] n k s q = rw (q, find)
find-before e (d ∷ es) n k s q = by (keyed n k s d) (find-before e es n k s q)
  where
    by : (b : Bool) → find (es ++ e ∷ []) n k s ≡ find es n k s
        → ◌≡◌ {A = Option Edge} (elim b [ true ↦ some d | false ↦ find (es ++ e ∷ []) n k s ]) (elim b [ true ↦ some d | false ↦ find es n k s ])
    by true h = refl
    by false h = h

-- the same rows, each found alike
pub record Like (es fs : List Edge) : Type 0 where
  pub rows : Shuffled es fs
  pub finds : (n k s : ℕ) → find es n k s ≡ find fs n k s
  pub single : Single es

like-self : (es : List Edge) → Single es → Like es es
like-self es u = record { rows = as_is es; finds = λ n k s. refl; single = u }

like-back : {es fs : List Edge} → Like es fs → Single fs
like-back l = single-shuffled l.rows l.single

like-via : {es fs gs : List Edge} → Like es fs → Like fs gs → Like es gs
like-via {es} {fs} {gs} l m = record { rows = via es fs gs l.rows m.rows; finds = λ n k s. l.finds n k s ∙ m.finds n k s; single = l.single }

-- es' is es with e among them, at whatever place
record With (e : Edge) (es es' : List Edge) : Type 0 where
  rows : Shuffled es' (e ∷ es)
  own : (n k s : ℕ) → keyed n k s e ≡ true → find es' n k s ≡ some e
  others : (n k s : ℕ) → keyed n k s e ≡ false → find es' n k s ≡ find es n k s

put-with : (e : Edge) (es : List Edge) → With e es (insert_edge e es)
put-with e es = record { rows = inserted e es; own = find_at e es; others = find-other e es }

append-with : (e : Edge) (es : List Edge) → find es e.from e.kind e.sym ≡ none → With e es (es ++ e ∷ [])
append-with e es f = record {
  rows = appended e es;
  own = λ n k s q. let i = keyed-is n k s e q in find-last e es n k s (rw (← i.0, ← i.1, ← i.2) f) q;
  others = find-before e es;
}

-- a row with a new key more on both sides
like-more : (e : Edge) {es fs es' fs' : List Edge} → Like es fs → find es e.from e.kind e.sym ≡ none → With e es es' → With e fs fs' → Like es' fs'
like-more e {es} {fs} {es'} {fs'} l f w v = record {
  rows = via es' (e ∷ es) fs' w.rows (via (e ∷ es) (e ∷ fs) fs' (skip e es fs l.rows) (back v.rows));
  finds = λ n k s. by n k s (keyed n k s e) refl;
  single = single-shuffled (back w.rows) (new-unlike e es f, l.single);
}
  where
    by : (n k s : ℕ) (b : Bool) → keyed n k s e ≡ b → find es' n k s ≡ find fs' n k s
    by n k s true q = w.own n k s q ∙ sym (v.own n k s q)
    by n k s false q = w.others n k s q ∙ l.finds n k s ∙ sym (v.others n k s q)

-- ---- what both ways come to

abbrev grown : List ℕ → List Edge → Grown
grown ns es = record { nodes = ns; edges = es }

pub record Alike (g h : Grown) : Type 0 where
  pub nodes : g.nodes ≡ h.nodes
  pub edges : Like g.edges h.edges

-- 13 or 14
pub data Scarce : Fault → Type 0 where
  full : Scarce no_edge
  sixth : Scarce sixth_reduce

abbrev pub Same : Res Fault Grown → Res Fault Grown → Type 0
Same (ok g) (ok h) = Alike g h
Same (ok g) (no y) = ⊥
Same (no x) (ok h) = ⊥
Same (no x) (no y) = (x ≡ y) ⊎ (Scarce x × Scarce y)

same-via : (x y w : Res Fault Grown) → Same x y → Same y w → Same x w
same-via (ok f) (ok g) (ok h) a b = record { nodes = a.nodes ∙ b.nodes; edges = like-via a.edges b.edges }
same-via (ok f) (ok g) (no y) a b = b
same-via (ok f) (no x) w a b = absurd a
same-via (no x) (ok g) w a b = absurd a
same-via (no x) (no y) (ok h) a b = b
same-via (no x) (no y) (no w) (inl p) (inl q) = inl (p ∙ q)
same-via (no x) (no y) (no w) (inl p) (inr b) = inr (subst Scarce (sym p) b.0, b.1)
same-via (no x) (no y) (no w) (inr a) (inl q) = inr (a.0, subst Scarce q a.1)
same-via (no x) (no y) (no w) (inr a) (inr b) = inr (a.0, b.1)

same-bind : (x y : Res Fault Grown) (f f' : Grown → Res Fault Grown) → Same x y
    → ((ns : List ℕ) (es fs : List Edge) → Like es fs → Same (f (grown ns es)) (f' (grown ns fs))) → Same (bind x f) (bind y f')
unfolding bind
same-bind (ok g) (ok h) f f' a k = subst (λ (ns : List ℕ). Same (f g) (f' (grown ns h.edges))) a.nodes (k g.nodes g.edges h.edges a.edges)
same-bind (ok g) (no y) f f' a k = absurd a
same-bind (no x) (ok h) f f' a k = absurd a
same-bind (no x) (no y) f f' a k = a

-- a test that both ways make
same_test : {A : Type 0} (b : Bool) (y : Fault) (a a' : A) (f f' : A → Res Fault Grown) → Same (f a) (f' a') → Same (bind (when b y a) f) (bind (when b y a') f')
unfolding bind when
same_test true y a a' f f' h = h
same_test false y a a' f f' h = inl refl

same-when : (b : Bool) (y : Fault) (g h : Grown) → Alike g h → Same (when b y g) (when b y h)
unfolding when
same-when true y g h a = a
same-when false y g h a = inl refl

module _ (z : Room) where
  -- ---- a row more

  add_same : (ns : List ℕ) (es fs : List Edge) (e : Edge) → Like es fs → find es e.from e.kind e.sym ≡ none
      → Same (add_edge z (grown ns es) e) (append_edge z (grown ns fs) e)
  unfolding add_edge append_edge
  add_same ns es fs e l f =
      rw (as_many l.rows) (same-when (ltb (length fs) z.edges) no_edge (grown ns (insert_edge e es)) (grown ns (fs ++ e ∷ []))
      (record { nodes = refl; edges = like-more e l f (put-with e es) (append-with e fs (sym (l.finds e.from e.kind e.sym) ∙ f)) }))

  node-same : (ns : List ℕ) (es fs : List Edge) (n k s w : ℕ) → Like es fs → find es n k s ≡ none → Same (add_node z (grown ns es) n k s w) (add_node' z (grown ns fs) n k s w)
  unfolding add_node add_node'
  node-same ns es fs n k s w l f = same_test (ltb (length ns) z.nodes) no_node (length ns) (length ns) _ _
      (add_same (ns ++ w ∷ []) es fs (record { from = n; kind = k; sym = s; to = length ns; reduces = [] }) l f)

  -- ---- a body

  last-same : (r : ℕ) (ns : List ℕ) (es fs : List Edge) (n : ℕ) (i : Item) (o : Option Edge) → Like es fs → find es n (kind i) (sym_of i) ≡ o
      → Same (place_last z r (grown ns es) n i o) (place_last' z r (grown ns fs) n i o)
  unfolding place_last place_last'
  last-same r ns es fs n i (some e) l f = inl refl
  last-same r ns es fs n i none l f = node-same ns es fs n (kind i) (sym_of i) r l f

  inner-same : (ns : List ℕ) (es fs : List Edge) (n : ℕ) (i : Item) (rest rest' : Grown → ℕ → Res Fault Grown) (o : Option Edge) → Like es fs → find es n (kind i) (sym_of i) ≡ o
      → ((ns : List ℕ) (es fs : List Edge) (n : ℕ) → Like es fs → Same (rest (grown ns es) n) (rest' (grown ns fs) n))
      → Same (place_inner z (grown ns es) n i rest o) (place_inner' z (grown ns fs) n i rest' o)
  unfolding place_inner place_inner'
  inner-same ns es fs n i rest rest' (some e) l f k = k ns es fs e.to l
  inner-same ns es fs n i rest rest' none l f k =
      same-bind (add_node z (grown ns es) n (kind i) (sym_of i) 0) (add_node' z (grown ns fs) n (kind i) (sym_of i) 0) (λ g. rest g (length ns)) (λ g. rest' g (length ns))
      (node-same ns es fs n (kind i) (sym_of i) 0 l f) λ ms ds cs m. k ms ds cs (length ns) m

  place_same : (r : ℕ) (b : List Item) (ns : List ℕ) (es fs : List Edge) (n : ℕ) → Like es fs → Same (place z r b (grown ns es) n) (place' z r b (grown ns fs) n)
  unfolding place place' branch_at
  place_same r [] ns es fs n l = record { nodes = refl; edges = l }
  place_same r (i ∷ []) ns es fs n l = same_test _ collides (grown ns es) (grown ns fs) _ _
      (subst (λ (o : Option Edge). Same (place_last z r (grown ns es) n i (find es n (kind i) (sym_of i))) (place_last' z r (grown ns fs) n i o)) (l.finds n (kind i) (sym_of i))
      (last-same r ns es fs n i _ l refl))
  place_same r (i ∷ j ∷ b) ns es fs n l = same_test _ collides (grown ns es) (grown ns fs) _ _
      (subst (λ (o : Option Edge). Same (place_inner z (grown ns es) n i (λ g n. place z r (j ∷ b) g n) (find es n (kind i) (sym_of i)))
      (place_inner' z (grown ns fs) n i (λ g n. place' z r (j ∷ b) g n) o)) (l.finds n (kind i) (sym_of i))
      (inner-same ns es fs n i _ _ _ l refl λ ns es fs n l. place_same r (j ∷ b) ns es fs n l))

  rule-same : (r : ℕ) (q : Rule) (ns : List ℕ) (es fs : List Edge) (o : Option ℕ) → Like es fs → Same (place_rule z r q (grown ns es) o) (place_rule' z r q (grown ns fs) o)
  unfolding place_rule place_rule'
  rule-same r q ns es fs (some u) l = record { nodes = refl; edges = l }
  rule-same r q ns es fs none l = place_same r q.body ns es fs 0 l

  rules-same : (r : ℕ) (R : List Rule) (ns : List ℕ) (es fs : List Edge) → Like es fs → Same (place_rules z r R (grown ns es)) (place_rules' z r R (grown ns fs))
  unfolding place_rules place_rules'
  rules-same r [] ns es fs l = record { nodes = refl; edges = l }
  rules-same r (q ∷ R) ns es fs l = same-bind _ _ _ _ (rule-same r q ns es fs (source q.body) l) λ ns es fs l. rules-same (suc r) R ns es fs l

  -- ---- rows copied in one order

  module _ (c : ℕ) where
    added-same : (ns : List ℕ) (es fs : List Edge) (n s : ℕ) (e : Edge) (o : Option (List Reduce)) → Like es fs → find es n e.kind s ≡ none
        → Same (add_converted z (grown ns es) n s e o) (add_converted' z (grown ns fs) n s e o)
    unfolding add_converted add_converted'
    added-same ns es fs n s e none l f = inl refl
    added-same ns es fs n s e (some ds) l f = add_same ns es fs (record { from = n; kind = e.kind; sym = s; to = e.to; reduces = ds }) l f

    row_same : (ns : List ℕ) (es fs : List Edge) (m : ℕ) (e : Edge) (o : Option Edge) → Like es fs → find es m e.kind e.sym ≡ o
        → Same (copy_row z c (grown ns es) m e o) (copy_row' z c (grown ns fs) m e o)
    unfolding copy_row copy_row'
    row_same ns es fs m e (some d) l f = record { nodes = refl; edges = l }
    row_same ns es fs m e none l f = added-same ns es fs m e.sym e _ l f

    copies-same : (m : ℕ) (rs : List Edge) (ns : List ℕ) (es fs : List Edge) → Like es fs → Same (copy_branches z c m rs (grown ns es)) (copy_branches' z c m rs (grown ns fs))
    unfolding copy_branches copy_branches'
    copies-same m [] ns es fs l = record { nodes = refl; edges = l }
    copies-same m (e ∷ rs) ns es fs l = same-bind _ _ _ _
        (subst (λ (o : Option Edge). Same (copy_row z c (grown ns es) m e (find es m e.kind e.sym)) (copy_row' z c (grown ns fs) m e o)) (l.finds m e.kind e.sym)
        (row_same ns es fs m e _ l refl)) λ ns es fs l. copies-same m rs ns es fs l

    -- ---- and in another

    module _ (m : ℕ) where
      abbrev new : Edge → List Reduce → Edge
      new e ds = record { from = m; kind = e.kind; sym = e.sym; to = e.to; reduces = ds }

      abbrev reduced : Edge → Option (List Reduce)
      reduced e = with_reduce (record { rule = c; offset = offset_on e.kind }) e.reduces

      -- a row's copy, by what is found, by its reduces and by the room
      unfoldable row_by : Edge → Option Edge → Option (List Reduce) → Bool → List ℕ → List Edge → Res Fault Grown
      row_by e (some d) w b ns es = ok (grown ns es)
      row_by e none none b ns es = no sixth_reduce
      row_by e none (some ds) false ns es = no no_edge
      row_by e none (some ds) true ns es = ok (grown ns (es ++ new e ds ∷ []))

      abbrev copy : Edge → Grown → Res Fault Grown
      copy e g = copy_row' z c g m e (find g.edges m e.kind e.sym)

      copy_is : (e : Edge) (ns : List ℕ) (es : List Edge) → copy e (grown ns es) ≡ row_by e (find es m e.kind e.sym) (reduced e) (ltb (length es) z.edges) ns es
      unfolding copy_row' add_converted' append_edge when row_by
      copy_is e ns es = outer (find es m e.kind e.sym)
        where
          room : (b : Bool) (ds : List Reduce) → when b no_edge (grown ns (es ++ new e ds ∷ [])) ≡ row_by e none (some ds) b ns es
          room true ds = refl
          room false ds = refl

          inner : (w : Option (List Reduce)) → add_converted' z (grown ns es) m e.sym e w ≡ row_by e none w (ltb (length es) z.edges) ns es
          inner none = refl
          inner (some ds) = room (ltb (length es) z.edges) ds

          outer : (o : Option Edge) → copy_row' z c (grown ns es) m e o ≡ row_by e o (reduced e) (ltb (length es) z.edges) ns es
          outer (some d) = refl
          outer none = inner (reduced e)

      -- a key that is there, and one that is new
      copy-kept : (e d : Edge) (ns : List ℕ) (es : List Edge) → find es m e.kind e.sym ≡ some d → copy e (grown ns es) ≡ ok (grown ns es)
      unfolding row_by
      copy-kept e d ns es f = copy_is e ns es ∙ rw f

      copy-new : (e : Edge) (ns : List ℕ) (es : List Edge) (w : Option (List Reduce)) (b : Bool) → find es m e.kind e.sym ≡ none → reduced e ≡ w → ltb (length es) z.edges ≡ b
          → copy e (grown ns es) ≡ row_by e none w b ns es
      copy-new e ns es w b f q t = copy_is e ns es ∙ rw (f, q, t)

      like_one : (e : Edge) (ds : List Reduce) (es fs : List Edge) → Like es fs → find es m e.kind e.sym ≡ none → Like (es ++ new e ds ∷ []) (fs ++ new e ds ∷ [])
      like_one e ds es fs l f = like-more (new e ds) l f (append-with (new e ds) es f) (append-with (new e ds) fs (sym (l.finds m e.kind e.sym) ∙ f))

      -- the same row on like tables
      copy-again : (e : Edge) (ns : List ℕ) (es fs : List Edge) → Like es fs → Same (copy e (grown ns es)) (copy e (grown ns fs))
      unfolding row_by
      copy-again e ns es fs l = rw (copy_is e ns es, copy_is e ns fs, ← (l.finds m e.kind e.sym), ← (as_many l.rows))
          (by (find es m e.kind e.sym) refl (reduced e) (ltb (length es) z.edges))
        where
          by : (o : Option Edge) → find es m e.kind e.sym ≡ o → (w : Option (List Reduce)) (b : Bool) → Same (row_by e o w b ns es) (row_by e o w b ns fs)
          by (some d) f w b = record { nodes = refl; edges = l }
          by none f none b = inl refl
          by none f (some ds) false = inl refl
          by none f (some ds) true = record { nodes = refl; edges = like_one e ds es fs l f }

      copies-again : (rs : List Edge) (ns : List ℕ) (es fs : List Edge) → Like es fs → Same (copy_branches' z c m rs (grown ns es)) (copy_branches' z c m rs (grown ns fs))
      unfolding copy_branches'
      copies-again [] ns es fs l = record { nodes = refl; edges = l }
      copies-again (e ∷ rs) ns es fs l = same-bind _ _ _ _ (copy-again e ns es fs l) λ ns es fs l. copies-again rs ns es fs l

      -- ---- two rows of one node, in either order

      abbrev differ : Edge → Edge → Type 0
      differ d e = eqb e.kind d.kind && eqb e.sym d.sym ≡ false

      differ_back : (d e : Edge) → differ d e → differ e d
      differ_back d e h = by (eqb d.kind e.kind && eqb d.sym e.sym) refl
        where
          by : (b : Bool) → eqb d.kind e.kind && eqb d.sym e.sym ≡ b → differ e d
          by false q = q
          by true q =
              let k = eqb-true d.kind e.kind (and_l (eqb d.kind e.kind) (eqb d.sym e.sym) q) in
              let s = eqb-true d.sym e.sym (and_r (eqb d.kind e.kind) (eqb d.sym e.sym) q) in
              let both : eqb e.kind d.kind && eqb e.sym d.sym ≡ true = rw (eq-eqb e.kind d.kind (sym k), eq-eqb e.sym d.sym (sym s)) in
              absurd (false≢true (sym h ∙ both))

      differ-keyed : (d e : Edge) (ds : List Reduce) → differ d e → keyed m d.kind d.sym (new e ds) ≡ false
      unfolding keyed
      differ-keyed d e ds h = rw (eq-eqb m m refl) h

      -- what is found of one after the other
      find-aside : (d e : Edge) (ds : List Reduce) (es : List Edge) → differ d e → find (es ++ new e ds ∷ []) m d.kind d.sym ≡ find es m d.kind d.sym
      find-aside d e ds es h = find-before (new e ds) es m d.kind d.sym (differ-keyed d e ds h)

      module _ (d e : Edge) (h : differ d e) where
        -- both rows more, in either order
        like-two : (x y : List Reduce) (fs : List Edge) → Single fs → find fs m d.kind d.sym ≡ none → find fs m e.kind e.sym ≡ none
            → Like (fs ++ new d x ∷ [] ++ new e y ∷ []) (fs ++ new e y ∷ [] ++ new d x ∷ [])
        like-two x y fs u f g = record {
          rows = via _ _ _ w'.rows (via _ _ _ (skip e' _ _ w.rows) (via _ _ _ (swap e' d' fs) (via _ _ _ (skip d' _ _ (back v.rows)) (back v'.rows))));
          finds = λ n k s. by n k s (keyed n k s d') (keyed n k s e') refl refl;
          single = single-shuffled (back w'.rows) (new-unlike e' (fs ++ d' ∷ []) f', single-shuffled (back w.rows) (new-unlike d' fs f, u));
        }
          where
            d' : Edge
            d' = new d x

            e' : Edge
            e' = new e y

            f' : find (fs ++ d' ∷ []) m e.kind e.sym ≡ none
            f' = find-aside e d x fs (differ_back d e h) ∙ g

            g' : find (fs ++ e' ∷ []) m d.kind d.sym ≡ none
            g' = find-aside d e y fs h ∙ f

            w : With d' fs (fs ++ d' ∷ [])
            w = append-with d' fs f

            w' : With e' (fs ++ d' ∷ []) (fs ++ d' ∷ [] ++ e' ∷ [])
            w' = append-with e' (fs ++ d' ∷ []) f'

            v : With e' fs (fs ++ e' ∷ [])
            v = append-with e' fs g

            v' : With d' (fs ++ e' ∷ []) (fs ++ e' ∷ [] ++ d' ∷ [])
            v' = append-with d' (fs ++ e' ∷ []) g'

            by : (n k s : ℕ) (a b : Bool) → keyed n k s d' ≡ a → keyed n k s e' ≡ b → find (fs ++ d' ∷ [] ++ e' ∷ []) n k s ≡ find (fs ++ e' ∷ [] ++ d' ∷ []) n k s
            by n k s true false p q = w'.others n k s q ∙ w.own n k s p ∙ sym (v'.own n k s p)
            by n k s false true p q = w'.own n k s q ∙ sym (v'.others n k s p ∙ v.own n k s q)
            by n k s false false p q = w'.others n k s q ∙ w.others n k s p ∙ sym (v'.others n k s p ∙ v.others n k s q)
            by n k s true true p q =
                let i = keyed-is n k s d' p in
                let j = keyed-is n k s e' q in
                let both : eqb e.kind d.kind && eqb e.sym d.sym ≡ true = rw (eq-eqb e.kind d.kind (j.1 ∙ sym i.1), eq-eqb e.sym d.sym (j.2 ∙ sym i.2)) in
                absurd (false≢true (sym h ∙ both))

        swapped : (ns : List ℕ) (es fs : List Edge) → Like es fs → Same (bind (copy d (grown ns es)) (copy e)) (bind (copy e (grown ns fs)) (copy d))
        unfolding row_by bind
        swapped ns es fs l = rw (copy_is d ns es, copy_is e ns fs, ← (l.finds m e.kind e.sym), ← (as_many l.rows))
            (by (find es m d.kind d.sym) (find es m e.kind e.sym) refl refl (reduced d) (reduced e) refl refl (ltb (length es) z.edges) refl)
          where
            of : (x : Edge) {o : Option Edge} → find es m x.kind x.sym ≡ o → find fs m x.kind x.sym ≡ o
            of x f = sym (l.finds m x.kind x.sym) ∙ f

            room : {b : Bool} → ltb (length es) z.edges ≡ b → ltb (length fs) z.edges ≡ b
            room t = rw (← (as_many l.rows)) t

            -- both are new and have no sixth reduce
            last : (x y : List Reduce) → find es m d.kind d.sym ≡ none → find es m e.kind e.sym ≡ none → reduced d ≡ some x → reduced e ≡ some y
                → Same (copy e (grown ns (es ++ new d x ∷ []))) (copy d (grown ns (fs ++ new e y ∷ [])))
            last x y f g p q = rw (
              copy-new e ns (es ++ new d x ∷ []) (some y) (ltb (length es + 1) z.edges) (find-aside e d x es (differ_back d e h) ∙ g) q (rw (length-append es (new d x ∷ []))),
              copy-new d ns (fs ++ new e y ∷ []) (some x) (ltb (length es + 1) z.edges) (find-aside d e y fs h ∙ of d f) p (rw (length-append fs (new e y ∷ []), as_many l.rows)),
            )
                (end (ltb (length es + 1) z.edges))
              where
                end : (b : Bool) → Same (row_by e none (some y) b ns (es ++ new d x ∷ [])) (row_by d none (some x) b ns (fs ++ new e y ∷ []))
                end false = inl refl
                end true = record {
                  nodes = refl;
                  edges = like-via (like_one e y (es ++ new d x ∷ []) (fs ++ new d x ∷ []) (like_one d x es fs l f) (find-aside e d x es (differ_back d e h) ∙ g))
                      (like-two x y fs (like-back l) (of d f) (of e g));
                }

            by : (od oe : Option Edge) → find es m d.kind d.sym ≡ od → find es m e.kind e.sym ≡ oe → (wd we : Option (List Reduce)) → reduced d ≡ wd → reduced e ≡ we
                → (b : Bool) → ltb (length es) z.edges ≡ b → Same (bind (row_by d od wd b ns es) (copy e)) (bind (row_by e oe we b ns fs) (copy d))
            by (some x) (some y) f g wd we p q b t = rw (copy-kept e y ns es g, copy-kept d x ns fs (of d f)) (record { nodes = refl; edges = l })
            by (some x) none f g wd none p q b t = rw (copy-new e ns es none b g q t) (inl refl)
            by (some x) none f g wd (some y) p q false t = rw (copy-new e ns es (some y) false g q t) (inl refl)
            by (some x) none f g wd (some y) p q true t =
                rw (copy-new e ns es (some y) true g q t, copy-kept d x ns (fs ++ new e y ∷ []) (find-aside d e y fs h ∙ of d f)) (record { nodes = refl; edges = like_one e y es fs l g })
            by none (some y) f g none we p q b t = rw (copy-new d ns fs none b (of d f) p (room t)) (inl refl)
            by none (some y) f g (some x) we p q false t = rw (copy-new d ns fs (some x) false (of d f) p (room t)) (inl refl)
            by none (some y) f g (some x) we p q true t =
                rw (copy-new d ns fs (some x) true (of d f) p (room t), copy-kept e y ns (es ++ new d x ∷ []) (find-aside e d x es (differ_back d e h) ∙ g)) (record { nodes = refl; edges = like_one d x es fs l f })
            by none none f g none none p q b t = inl refl
            by none none f g none (some y) p q false t = inr (sixth, full)
            by none none f g none (some y) p q true t =
                rw (copy-new d ns (fs ++ new e y ∷ []) none (ltb (length (fs ++ new e y ∷ [])) z.edges) (find-aside d e y fs h ∙ of d f) p refl) (inl refl)
            by none none f g (some x) none p q false t = inr (full, sixth)
            by none none f g (some x) none p q true t =
                rw (copy-new e ns (es ++ new d x ∷ []) none (ltb (length (es ++ new d x ∷ [])) z.edges) (find-aside e d x es (differ_back d e h) ∙ g) q refl) (inl refl)
            by none none f g (some x) (some y) p q false t = inl refl
            by none none f g (some x) (some y) p q true t = last x y f g p q

      bind-bind : (x : Res Fault Grown) (f k : Grown → Res Fault Grown) → bind x (λ g. bind (f g) k) ≡ bind (bind x f) k
      unfolding bind
      bind-bind (ok g) f k = refl
      bind-bind (no y) f k = refl

      copies-shuffled : {rs ts : List Edge} → Shuffled rs ts → Pairs differ rs → (ns : List ℕ) (es fs : List Edge) → Like es fs
          → Same (copy_branches' z c m rs (grown ns es)) (copy_branches' z c m ts (grown ns fs))
      unfolding copy_branches'
      copies-shuffled nothing u ns es fs l = record { nodes = refl; edges = l }
      copies-shuffled (skip e rs ts p) u ns es fs l = same-bind _ _ _ _ (copy-again e ns es fs l) λ ns es fs l. copies-shuffled p u.1 ns es fs l
      copies-shuffled (swap d e rs) u ns es fs l =
          rw (bind-bind (copy d (grown ns es)) (copy e) (λ g. copy_branches' z c m rs g), bind-bind (copy e (grown ns fs)) (copy d) (λ g. copy_branches' z c m rs g))
          (same-bind _ _ _ _ (swapped d e u.0.0 ns es fs l) λ ns es fs l. copies-again rs ns es fs l)
      copies-shuffled (via rs ss ts p q) u ns es fs l =
          same-via (copy_branches' z c m rs (grown ns es)) (copy_branches' z c m ss (grown ns es)) (copy_branches' z c m ts (grown ns fs))
          (copies-shuffled p u ns es es (like-self es l.single)) (copies-shuffled q (pairs-shuffled differ differ_back p u) ns es fs l)

      -- the rows of a node differ from each other in kind or symbol
      leaving-differ : (n : ℕ) (es : List Edge) → Single es → Pairs differ (leaving n es)
      unfolding leaving keyed
      leaving-differ n [] u = tt
      leaving-differ n (e ∷ es) u = by (eqb e.from n) refl (leaving-differ n es u.1)
        where
          all_of : (es : List Edge) → e.from ≡ n → All (Unlike e) es → All (differ e) (leaving n es)
          all_of [] p a = tt
          all_of (d ∷ es) p a = each (eqb d.from n) refl (all_of es p a.1)
            where
              parts : d.from ≡ n → differ e d
              parts q = rw (eq-eqb d.from e.from (q ∙ sym p)) at a.0

              each : (b : Bool) → eqb d.from n ≡ b → All (differ e) (leaving n es) → All (differ e) (pick b (d ∷ leaving n es) (leaving n es))
              each true q h = (parts (eqb-true _ _ q), h)
              each false q h = h

          by : (b : Bool) → eqb e.from n ≡ b → Pairs differ (leaving n es) → Pairs differ (pick b (e ∷ leaving n es) (leaving n es))
          by true q h = (all_of es (eqb-true _ _ q) u.0, h)
          by false q h = h

      copy-same : (n : ℕ) (ns : List ℕ) (es fs : List Edge) → Like es fs → Same (copy_branches z c m (leaving n es) (grown ns es)) (copy_branches' z c m (leaving n fs) (grown ns fs))
      copy-same n ns es fs l =
          same-via (copy_branches z c m (leaving n es) (grown ns es)) (copy_branches' z c m (leaving n es) (grown ns fs)) (copy_branches' z c m (leaving n fs) (grown ns fs))
          (copies-same m (leaving n es) ns es fs l)
          (copies-shuffled (leaving-shuffled n l.rows) (leaving-differ n es l.single) ns fs fs (like-self fs (like-back l)))

    -- ---- conversions

    to_same : (u : ℕ) (ns : List ℕ) (es fs : List Edge) (n : ℕ) (e : Edge) (o : Option Edge) → e.kind ≡ 1 → Like es fs → find es n 1 u ≡ o
        → Same (convert_to z c u (grown ns es) n e o) (convert_to' z c u (grown ns fs) n e o)
    unfolding convert_to convert_to' apart branch_at
    to_same u ns es fs n e none p l f = added-same ns es fs n u e _ l (rw p f)
    to_same u ns es fs n e (some d) p l f = same_test _ bad_copy (grown ns es) (grown ns fs) _ _ (copy-same d.to e.to ns es fs l)

    at_same : (t u : ℕ) (ns : List ℕ) (es fs : List Edge) (n : ℕ) (o : Option Edge) → Like es fs → find es n 1 t ≡ o → Same (convert_at z c u (grown ns es) n o) (convert_at' z c u (grown ns fs) n o)
    unfolding convert_at convert_at'
    at_same t u ns es fs n none l f = record { nodes = refl; edges = l }
    at_same t u ns es fs n (some e) l f =
        subst (λ (o : Option Edge). Same (convert_to z c u (grown ns es) n e (find es n 1 u)) (convert_to' z c u (grown ns fs) n e o)) (l.finds n 1 u)
        (to_same u ns es fs n e _ (keyed-is n 1 t e (find-keyed es n 1 t e f)).1 l refl)

    nodes-same : (t u k n : ℕ) (ns : List ℕ) (es fs : List Edge) → Like es fs → Same (convert_nodes z c t u k n (grown ns es)) (convert_nodes' z c t u k n (grown ns fs))
    unfolding convert_nodes convert_nodes'
    nodes-same t u zero n ns es fs l = record { nodes = refl; edges = l }
    nodes-same t u (suc k) n ns es fs l = same-bind _ _ _ _
        (subst (λ (o : Option Edge). Same (convert_at z c u (grown ns es) n (find es n 1 t)) (convert_at' z c u (grown ns fs) n o)) (l.finds n 1 t) (at_same t u ns es fs n _ l refl))
        λ ns es fs l. nodes-same t u k (suc n) ns es fs l

    convert-same : (q : Rule) (ns : List ℕ) (es fs : List Edge) (o : Option ℕ) → Like es fs → Same (convert z c q (grown ns es) o) (convert' z c q (grown ns fs) o)
    unfolding convert convert'
    convert-same q ns es fs none l = record { nodes = refl; edges = l }
    convert-same q ns es fs (some u) l = nodes-same q.result u (length ns) 0 ns es fs l

  all_same : (c : ℕ) (R : List Rule) (ns : List ℕ) (es fs : List Edge) → Like es fs → Same (convert_all z c R (grown ns es)) (convert_all' z c R (grown ns fs))
  unfolding convert_all convert_all'
  all_same c [] ns es fs l = record { nodes = refl; edges = l }
  all_same c (q ∷ R) ns es fs l = same-bind _ _ _ _ (convert-same c q ns es fs (source q.body) l) λ ns es fs l. all_same (suc c) R ns es fs l

-- ---- the whole

pub grow-same : (z : Room) (R : List Rule) → Same (grow z R) (grow_appending z R)
unfolding plant grow grow_appending
grow-same z R = same-bind _ _ _ _
    (same_test (ltb 0 z.nodes) no_node root_alone root_alone _ _ (rules-same z 1 R (0 ∷ []) [] [] (like-self [] tt)))
    λ ns es fs l. all_same z 1 R ns es fs l
