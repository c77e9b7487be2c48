-- Which numbers a garden path can be refused with; so a build with 16,385 frames is never refused with 6, and 11 comes from the rules alone.
use Rattle.std.specs.Prelude.{◌≡◌, Bool, ◌&&◌, ◌≢◌, ◌↔◌, ◌⊎◌, ltb, length}
use Rattle.std.proofs.Math.Path.{refl}
use Rattle.std.proofs.Math.Bool.{true, false}
use mathlib.Core.List.{List, [], ◌∷◌}
use Rattle.std.proofs.Common.{inl, inr, ltb-false}
use Rattle.std.proofs.Math.Option.{Option, some, none}
use Prim.Native.Nat.{ℕ, zero, suc, ◌+◌, ◌≤◌, ◌<◌}
use native.Mathlib.Omega.{arith}
use Rattle.std.proofs.Math.Dec.{eqb}
use Rattle.words.specs.Outcome.{Res, ok, no, bind, when}
use Rattle.words.specs.Numbers.{Fault, collides, no_node, no_edge, sixth_reduce, far_offset, bad_copy, many_rows, no_clone, fault_number}
use Rattle.rules.specs.Rules.{Rule}
use Rattle.rows.specs.Rows.{Reduce, Edge}
use Rattle.tree.specs.Grow.{Grown, Room, plant, convert_all}
use Rattle.tree.proofs.Theorems.Faults.{Only, fine, faulty, only-bind, only-when, only-not, only-edge, only-plant, only-all}
use Rattle.tree.proofs.Theorems.Collide.{Among, Collision, plant-collides}
use Rattle.garden.specs.Garden.{Bounds, Pair, Command, conversions, path, bad, increment_offsets, raised_on, extend, diff_extend, same_reduces, copy_with, copy_rows, clone_with_reduce_vec, Cloning, Begun, leaf_reduces, take_leaf, add_branch, store_other, new_branch, old_branch, take_branch, take_by, take_up, begin, clones, clone_branches, the_edge, leads_to, of_kind, part_at, shadowed, Places, move_on, along_pair, along, graft_leaf, graft, graft_at, handle_common_prefixes, handle_command, handle_commands, convert_last, asked, tend, build}

-- the faults of one row
pub record Rowwise (P : Fault → Type 0) : Type 0 where
  pub bad_copy-is : P bad_copy
  pub far_offset-is : P far_offset
  pub sixth_reduce-is : P sixth_reduce
  pub no_node-is : P no_node
  pub no_edge-is : P no_edge

module _ (P : Fault → Type 0) (w : Rowwise P) where
  only-raised : (k : ℕ) (ds : List Reduce) → Only P (raised_on k ds)
  unfolding raised_on increment_offsets
  only-raised zero ds = fine ds
  only-raised (suc k) ds = only-when P _ far_offset _ w.far_offset-is

  only-extend : (ds es : List Reduce) → Only P (extend ds es)
  unfolding extend
  only-extend ds es = only-when P _ sixth_reduce _ w.sixth_reduce-is

  only-by : {A : Type 0} (b : Bool) {x y : Res Fault A} → Only P x → Only P y → Only P {A = A} (elim b [ true ↦ x | false ↦ y ])
  only-by true p q = p
  only-by false p q = q

  only-diff : (ds cs : List Reduce) → Only P (diff_extend ds cs)
  unfolding diff_extend
  only-diff [] [] = fine []
  only-diff [] (c ∷ cs) = faulty bad_copy w.bad_copy-is
  only-diff (d ∷ ds) [] = fine (d ∷ ds)
  only-diff (d ∷ ds) (c ∷ cs) = only-by (eqb d.rule c.rule) (only-diff ds cs) (only-bind P _ (only-diff ds (c ∷ cs)) λ more. fine (d ∷ more))

  module _ (z : Room) where
    only-with : (m : ℕ) (ds : List Reduce) (g : Grown) (e : Edge) (o : Option Edge) → Only P (copy_with z m ds g e o)
    unfolding copy_with
    only-with m ds g e (some d) = fine g
    only-with m ds g e none = only-bind P _ (only-raised e.kind ds) λ ds. only-bind P _ (only-extend _ ds) λ ds. only-edge P z w.no_edge-is g _

    only-rows : (m : ℕ) (ds : List Reduce) (es : List Edge) (g : Grown) → Only P (copy_rows z m ds es g)
    unfolding copy_rows
    only-rows m ds [] g = fine g
    only-rows m ds (e ∷ es) g = only-bind P _ (only-with m ds g e _) λ g. only-rows m ds es g

    only-clone : (n m : ℕ) (ds : List Reduce) (g : Grown) → Only P (clone_with_reduce_vec z n m ds g)
    unfolding clone_with_reduce_vec
    only-clone n m ds g = only-rows m ds _ g

    only-reduces : (r : ℕ) (e : Edge) (ds : List Reduce) → Only P (leaf_reduces r e ds)
    unfolding leaf_reduces
    only-reduces r e ds = only-bind P _ (only-raised e.kind ds) λ ds. only-extend _ _

    only-leaf : (t m : ℕ) (ds : List Reduce) (g : Grown) (e : Edge) (o : Option Edge) → Only P (take_leaf z t m ds g e o)
    unfolding take_leaf
    only-leaf t m ds g e none = only-bind P _ (only-reduces _ e ds) λ ds. only-edge P z w.no_edge-is g _
    only-leaf t m ds g e (some d) = only-bind P _ (only-when P _ bad_copy g w.bad_copy-is) λ g. only-bind P _ (only-reduces _ e ds) λ ds. only-clone t d.to ds g

    only-add : (g : Grown) (m : ℕ) (e : Edge) → Only P (add_branch z g m e)
    unfolding add_branch
    only-add g m e = only-bind P _ (only-when P _ no_node _ w.no_node-is) λ k. only-edge P z w.no_edge-is _ _

    only_store : (ds : List Reduce) (e d : Edge) → Only P (store_other ds e d)
    unfolding store_other
    only_store ds e d = only-by (same_reduces e.reduces d.reduces) (fine ds) (only-extend ds e.reduces)

    only-branch : (m : ℕ) (ds : List Reduce) (g : Grown) (e : Edge) (o : Option Edge) → Only P (take_branch z m ds g e o)
    unfolding take_branch new_branch old_branch
    only-branch m ds g e none = only-bind P _ (only-raised e.kind ds) λ ds. only-bind P _ (only-add g m e) λ g'. fine _
    only-branch m ds g e (some d) = only-bind P _ (only-raised e.kind ds) λ ds. only-bind P _ (only_store ds e d) λ ds. fine _

    only-take : (t m : ℕ) (ds : List Reduce) (g : Grown) (e : Edge) (b : Bool) → Only P (take_by z t m ds g e b)
    unfolding take_by
    only-take t m ds g e true = only-branch m ds g e _
    only-take t m ds g e false = only-bind P _ (only-leaf t m ds g e _) λ g. fine _

    only-up : (t m : ℕ) (ds : List Reduce) (g : Grown) (e : Edge) → Only P (take_up z t m ds g e)
    unfolding take_up
    only-up t m ds g e = only-by (eqb e.to m) (fine _) (only-bind P _ (only-when P _ bad_copy g w.bad_copy-is) λ g. only-take t m ds g e _)

  -- ---- the frames: k rows are left, and there is a frame for each of them, or 6 may be said

  module _ (z : Bounds) (t : ℕ) (many : P many_rows) where
    rows-only : (es : List Edge) {x : Res Fault Grown} (f : Edge → List Edge → Res Fault Grown) → Only P x → ((e : Edge) (es : List Edge) → Only P (f e es))
        → Only P {A = Grown} (elim es [ [] ↦ x | e ∷ es ↦ f e es ])
    rows-only [] f p q = p
    rows-only (e ∷ es) f p q = q e es

    -- so many frames are enough
    abbrev Enough : ℕ → Type 0
    Enough n = (n ≤ z.frames) ⊎ P no_clone

    enough-less : {n m : ℕ} → n ≤ m → Enough m → Enough n
    enough-less l (inl h) = inl (omega arith)
    enough-less l (inr p) = inr p

    lacking : (n : ℕ) → Enough (suc n) → ltb n z.frames ≡ false → P no_clone
    lacking n (inl h) e = absurd (omega (arith, ltb-false n z.frames e))
    lacking n (inr p) e = p

    -- what has begun is longer by one at most
    abbrev Begun-by : ℕ → Res Fault (List Begun) → Type 0
    Begun-by n (ok cs) = length cs ≤ n
    Begun-by n (no y) = P y

    begin-when : (n : ℕ) (c : Begun) (cs : List Begun) (b : Bool) → (b ≡ false → P no_clone) → length cs ≤ n → Begun-by (suc n) (when b no_clone (c ∷ cs))
    unfolding when
    begin-when n c cs true h l = omega arith
    begin-when n c cs false h l = h refl

    begin-only : (g : Grown) (o : Option Cloning) (cs : List Begun) (n : ℕ) → length cs ≤ n → Enough (suc (length cs)) → Begun-by (suc n) (begin z.frames g o cs)
    unfolding begin
    begin-only g none cs n l f = omega arith
    begin-only g (some c) cs n l f = begin-when n _ cs (ltb (length cs) z.frames) (lacking (length cs) f) l

    begun-bind : (n : ℕ) (x : Res Fault (List Begun)) (f : List Begun → Res Fault Grown) → Begun-by n x → ((cs : List Begun) → length cs ≤ n → Only P (f cs)) → Only P (bind x f)
    unfolding bind
    begun-bind n (ok cs) f l h = h cs l
    begun-bind n (no y) f p h = faulty y p

    clones-only : (k : ℕ) (cs : List Begun) (g : Grown) → Enough (length cs + k) → Only P (clones z t k cs g)
    unfolding clones
    clones-only zero [] g l = fine g
    clones-only zero (c ∷ cs) g l = rows-only c.rows (λ e es. no many_rows) (clones-only zero cs g (enough-less (omega arith) l)) λ e es. faulty many_rows many
    clones-only (suc k) [] g l = fine g
    clones-only (suc k) (c ∷ cs) g l = rows-only c.rows _ (clones-only (suc k) cs g (enough-less (omega arith) l))
        λ e es. only-bind P _ (only-up z.room t c.to c.stored g e)
        λ u. begun-bind (suc (suc (length cs))) _ _ (begin-only u.grown u.next _ (suc (length cs)) (omega arith) (enough-less (omega arith) l))
        λ ds m. clones-only k ds u.grown (enough-less (omega (arith, m)) l)

    clone-only : (c : Cloning) (g : Grown) → Enough (suc z.rows) → Only P (clone_branches z t c g)
    unfolding clone_branches
    clone-only c g h = begun-bind 1 _ _ (begin-only g (some c) [] 0 (omega arith) (enough-less (omega arith) h)) λ cs l. clones-only z.rows cs g (enough-less (omega arith) h)

  -- ---- a path, a command, a build

  only-the : (o : Option Edge) → Only P (the_edge o)
  unfolding the_edge
  only-the none = faulty bad_copy w.bad_copy-is
  only-the (some e) = fine e

  only-kind : (k : ℕ) (p : Pair) (o : Option Edge) → Only P (of_kind k p (leads_to (the_edge o)))
  unfolding of_kind leads_to
  only-kind k p o = only-bind P _ (only-when P _ bad_copy p w.bad_copy-is) λ p. only-bind P _ (only-the o) λ e. fine e.to

  only_part : (g : Grown) (n : ℕ) (ps qs : List Pair) → Only P (part_at g n ps qs)
  unfolding part_at
  only_part g n [] qs = faulty bad_copy w.bad_copy-is
  only_part g n (p ∷ ps) [] = faulty bad_copy w.bad_copy-is
  only_part g n (p ∷ ps) (q ∷ qs) = only-by (eqb p.kind q.kind && eqb p.sym q.sym) (only-bind P _ (only-kind 0 p _) λ n. only_part g n ps qs) (fine _)

  only-move : (k : ℕ) (s : Places) (e f : Edge) → Only P (move_on k s e f)
  unfolding move_on
  only-move k s e f = only-bind P _ (only-diff _ _) λ missing. only-bind P _ (only-raised k _) λ ds. only-bind P _ (only-extend ds missing) λ ds. fine _

  only-along : (g : Grown) (s : Places) (ps : List Pair) → Only P (along g s ps)
  unfolding along along_pair
  only-along g s [] = fine s
  only-along g s (p ∷ ps) = only-bind P _ (only-bind P _ (only-the _) λ e. only-bind P _ (only-the _) λ f. only-move p.kind s e f) λ s. only-along g s ps

  -- there are frames enough, or 6 may be said
  module _ (z : Bounds) (many : P many_rows) (six : (z.rows < z.frames) ⊎ P no_clone) where
    only-graft : (t : ℕ) (s : Places) (g : Grown) (b : Bool) → Only P (graft z t s g b)
    unfolding graft graft_leaf
    only-graft t s g true = clone-only z t many _ g six
    only-graft t s g false = only-bind P _ (only-when P _ bad_copy g w.bad_copy-is) λ g. only-bind P _ (only-extend _ _) λ ds. only-clone z.room t s.first ds g

    only-path : (ps qs : List Pair) (g : Grown) → Only P (handle_common_prefixes z ps qs g)
    unfolding handle_common_prefixes shadowed graft_at
    only-path ps qs g = only-bind P _ (only_part g 0 ps qs) λ c. only-bind P _ (only-kind 1 c.shadow _) λ t. only-bind P _ (only-along g _ c.rest) λ s. only-graft t s g _

    only-convert : (R : List Rule) (g : Grown) → Only P (convert_all z.room 1 R g)
    only-convert R g = only-all P z.room w.bad_copy-is w.sixth_reduce-is w.no_edge-is 1 R g

    only-command : (R : List Rule) (c : Command) (g : Grown) → Only P (handle_command z R c g)
    unfolding handle_command
    only-command R conversions g = only-convert R g
    only-command R (path ps qs) g = only-path ps qs g
    only-command R bad g = faulty bad_copy w.bad_copy-is

    only-commands : (R : List Rule) (cs : List Command) (g : Grown) → Only P (handle_commands z R cs g)
    unfolding handle_commands
    only-commands R [] g = fine g
    only-commands R (c ∷ cs) g = only-bind P _ (only-command R c g) λ g. only-commands R cs g

    only-last : (R : List Rule) (g : Grown) (b : Bool) → Only P (convert_last z R g b)
    unfolding convert_last
    only-last R g true = fine g
    only-last R g false = only-convert R g

    -- what a build is refused with after its rules are placed
    pub only-tend : (R : List Rule) (cs : List Command) (g : Grown) → Only P (tend z R cs g)
    unfolding tend
    only-tend R cs g = only-bind P _ (only-commands R cs g) λ g. only-last R g (asked cs)

    only-build : P collides → (R : List Rule) (cs : List Command) → Only P (build z R cs)
    unfolding build
    only-build c R cs = only-bind P _ (only-plant P z.room c w.no_node-is w.no_edge-is R) λ g. only-tend R cs g

abbrev Not : ℕ → Fault → Type 0
Not k y = fault_number y ≢ k

-- a number below those of the rows
rowwise : (k : ℕ) → k < 12 → Rowwise (Not k)
unfolding fault_number
rowwise k h = record {
  bad_copy-is = λ e. omega arith;
  far_offset-is = λ e. omega arith;
  sixth_reduce-is = λ e. omega arith;
  no_node-is = λ e. omega arith;
  no_edge-is = λ e. omega arith;
}

-- one frame more than the rows that may be taken up is always enough
pub frames-enough : (z : Bounds) → z.rows < z.frames → (R : List Rule) (cs : List Command) → build z R cs ≢ no no_clone
unfolding fault_number
frames-enough z h R cs e = only-not (Not 6) (only-build (Not 6) (rowwise 6 (omega arith)) z (λ e. omega arith) (inl h) (λ e. omega arith) R cs) no_clone e refl

-- a refusal that the rest does not say comes from before it
before : (x : Res Fault Grown) (f : Grown → Res Fault Grown) → ((g : Grown) → Only (Not 11) (f g)) → (bind x f ≡ no collides) ↔ (x ≡ no collides)
unfolding bind fault_number
before (ok g) f h = (λ e. absurd (only-not (Not 11) (h g) collides e refl), λ e. let k : ◌≡◌ {A = ℕ} 0 1 = cc in absurd (omega arith))
before (no y) f h = (λ e. cc, λ e. cc)

-- a build answers 11 exactly if a body collides with an earlier one's and those before it have room, whatever the commands and the frames are
pub build-collides : (z : Bounds) (R : List Rule) (cs : List Command) → ((q : Rule) → Among q R → q.body ≢ [])
    → (build z R cs ≡ no collides) ↔ ((0 < z.room.nodes) × Collision z.room R)
unfolding build fault_number
build-collides z R cs x =
    let b = before (plant z.room R) (λ g. tend z R cs g) λ g. only-tend (Not 11) (rowwise 11 (omega arith)) z (λ e. omega arith) (inr λ e. omega arith) R cs g in
    let p = plant-collides z.room R x in
    (λ e. p.0 (b.0 e), λ k. b.1 (p.1 k))
