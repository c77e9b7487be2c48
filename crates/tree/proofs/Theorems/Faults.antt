-- Which numbers a step can be refused with: P holds of the fault, if there is one.
use Rattle.std.specs.Prelude.{◌≡◌, Bool, true, false, length}
use mathlib.Core.List.{List, [], ◌∷◌}
use Rattle.std.proofs.Math.Option.{Option, some, none}
use Prim.Native.Nat.{ℕ, zero, suc}
use Rattle.std.proofs.Common.{arith}
use Rattle.words.specs.Outcome.{Res, ok, no, bind, when}
use Rattle.words.specs.Numbers.{Fault, collides, no_node, no_edge, sixth_reduce, bad_copy}
use Rattle.rules.specs.Rules.{Item, Rule}
use Rattle.rows.specs.Rows.{Reduce, Edge, leaving}
use Rattle.tree.specs.Grow.{Grown, Room, kind, sym, add_edge, add_node, place_last, place_inner, place, place_rule, place_rules, add_converted, copy_row, copy_branches, convert_to, convert_at, convert_nodes, convert, convert_all, plant}

pub data Only (P : Fault → Type 0) {A : Type 0} : Res Fault A → Type 0 where
  fine : (a : A) → Only P (ok a)
  faulty : (y : Fault) → P y → Only P (no y)

pub only-bind : (P : Fault → Type 0) {A B : Type 0} {x : Res Fault A} (f : A → Res Fault B) → Only P x → ((a : A) → Only P (f a)) → Only P (bind x f)
unfolding bind
only-bind P f (fine a) h = h a
only-bind P f (faulty y p) h = faulty y p

pub only-when : (P : Fault → Type 0) {A : Type 0} (b : Bool) (y : Fault) (a : A) → P y → Only P (when b y a)
unfolding when
only-when P true y a p = fine a
only-when P false y a p = faulty y p

-- a fault that P does not hold of is not said
pub only-not : (P : Fault → Type 0) {A : Type 0} {x : Res Fault A} → Only P x → (y : Fault) → x ≡ no y → P y
only-not P (fine a) y e = let k : ◌≡◌ {A = ℕ} 0 1 = cc in absurd (omega arith)
only-not P (faulty z p) y e = let k : z ≡ y = cc in rw k at p

module _ (P : Fault → Type 0) (z : Room) where
  pub only-edge : P no_edge → (g : Grown) (e : Edge) → Only P (add_edge z g e)
  unfolding add_edge
  only-edge p g e = only-when P _ no_edge _ p

  module _ (c : P collides) (n : P no_node) (p : P no_edge) where
    only-node : (g : Grown) (m k s w : ℕ) → Only P (add_node z g m k s w)
    unfolding add_node
    only-node g m k s w = only-bind P _ (only-when P _ no_node _ n) λ k. only-edge p _ _

    only-last : (r : ℕ) (g : Grown) (m : ℕ) (i : Item) (o : Option Edge) → Only P (place_last z r g m i o)
    unfolding place_last
    only-last r g m i (some e) = faulty collides c
    only-last r g m i none = only-node g m (kind i) (sym i) r

    only-inner : (g : Grown) (m : ℕ) (i : Item) (f : Grown → ℕ → Res Fault Grown) (o : Option Edge) → ((g : Grown) (m : ℕ) → Only P (f g m)) → Only P (place_inner z g m i f o)
    unfolding place_inner
    only-inner g m i f (some e) h = h g e.to
    only-inner g m i f none h = only-bind P _ (only-node g m (kind i) (sym i) 0) λ g'. h g' _

    only-place : (r : ℕ) (b : List Item) (g : Grown) (m : ℕ) → Only P (place z r b g m)
    unfolding place
    only-place r [] g m = fine g
    only-place r (i ∷ []) g m = only-bind P _ (only-when P _ collides g c) λ g. only-last r g m i _
    only-place r (i ∷ j ∷ b) g m = only-bind P _ (only-when P _ collides g c) λ g. only-inner g m i _ _ λ g m. only-place r (j ∷ b) g m

    only-rule : (r : ℕ) (q : Rule) (g : Grown) (o : Option ℕ) → Only P (place_rule z r q g o)
    unfolding place_rule
    only-rule r q g (some u) = fine g
    only-rule r q g none = only-place r q.body g 0

    only-rules : (r : ℕ) (R : List Rule) (g : Grown) → Only P (place_rules z r R g)
    unfolding place_rules
    only-rules r [] g = fine g
    only-rules r (q ∷ R) g = only-bind P _ (only-rule r q g _) λ g. only-rules (suc r) R g

    pub only-plant : (R : List Rule) → Only P (plant z R)
    unfolding plant
    only-plant R = only-bind P _ (only-when P _ no_node _ n) λ g. only-rules 1 R g

  module _ (b : P bad_copy) (s : P sixth_reduce) (p : P no_edge) where
    only-added : (g : Grown) (n t : ℕ) (e : Edge) (o : Option (List Reduce)) → Only P (add_converted z g n t e o)
    unfolding add_converted
    only-added g n t e none = faulty sixth_reduce s
    only-added g n t e (some ds) = only-edge p g _

    only_row : (c : ℕ) (g : Grown) (m : ℕ) (e : Edge) (o : Option Edge) → Only P (copy_row z c g m e o)
    unfolding copy_row
    only_row c g m e (some d) = fine g
    only_row c g m e none = only-added g m _ e _

    only-copy : (c m : ℕ) (es : List Edge) (g : Grown) → Only P (copy_branches z c m es g)
    unfolding copy_branches
    only-copy c m [] g = fine g
    only-copy c m (e ∷ es) g = only-bind P _ (only_row c g m e _) λ g. only-copy c m es g

    only-to : (c u : ℕ) (g : Grown) (n : ℕ) (e : Edge) (o : Option Edge) → Only P (convert_to z c u g n e o)
    unfolding convert_to
    only-to c u g n e none = only-added g n u e _
    only-to c u g n e (some d) = only-bind P _ (only-when P _ bad_copy g b) λ g. only-copy c d.to (leaving e.to g.edges) g

    only_at : (c u : ℕ) (g : Grown) (n : ℕ) (o : Option Edge) → Only P (convert_at z c u g n o)
    unfolding convert_at
    only_at c u g n none = fine g
    only_at c u g n (some e) = only-to c u g n e _

    only-nodes : (c t u k n : ℕ) (g : Grown) → Only P (convert_nodes z c t u k n g)
    unfolding convert_nodes
    only-nodes c t u zero n g = fine g
    only-nodes c t u (suc k) n g = only-bind P _ (only_at c u g n _) λ g. only-nodes c t u k (suc n) g

    only-convert : (c : ℕ) (q : Rule) (g : Grown) (o : Option ℕ) → Only P (convert z c q g o)
    unfolding convert
    only-convert c q g none = fine g
    only-convert c q g (some u) = only-nodes c q.result u (length g.nodes) 0 g

    pub only-all : (c : ℕ) (R : List Rule) (g : Grown) → Only P (convert_all z c R g)
    unfolding convert_all
    only-all c [] g = fine g
    only-all c (q ∷ R) g = only-bind P _ (only-convert c q g _) λ g. only-all (suc c) R g
