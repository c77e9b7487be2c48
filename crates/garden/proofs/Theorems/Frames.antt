-- More frames change nothing, unless a clone had none (6).
use Rattle.std.specs.Prelude.{◌≡◌, Bool, ltb, length}
use Rattle.std.proofs.Math.Path.{refl}
use Rattle.std.proofs.Math.Bool.{true, false}
use mathlib.Core.List.{List, [], ◌∷◌}
use Rattle.std.proofs.Math.Option.{Option, some, none}
use Prim.Native.Nat.{ℕ, zero, suc, ◌≤◌}
use Rattle.std.proofs.Common.{arith}
use borrow.Author.Tests.{ltb-true, lt-ltb}
use Rattle.words.specs.Outcome.{Res, ok, no, bind, when}
use Rattle.words.specs.Numbers.{Fault, many_rows, no_clone}
use Rattle.rules.specs.Rules.{Rule}
use Rattle.rows.specs.Rows.{Edge}
use Rattle.tree.specs.Grow.{Grown}
use Rattle.garden.specs.Garden.{Bounds, Pair, Command, conversions, path, bad, Cloning, Begun, begin, clones, clone_branches, Places, graft, graft_at, handle_common_prefixes, handle_command, handle_commands, convert_last, asked, tend, build}

-- the same, or the first had no frame
pub data Ext {A : Type 0} : Res Fault A → Res Fault A → Type 0 where
  same : (x : Res Fault A) → Ext x x
  full : (x : Res Fault A) → Ext (no no_clone) x

bind-ext : {A B : Type 0} {x y : Res Fault A} (f h : A → Res Fault B) → Ext x y → ((a : A) → Ext (f a) (h a)) → Ext (bind x f) (bind y h)
unfolding bind
bind-ext f h (same (ok a)) e = e a
bind-ext f h (same (no y)) e = same (no y)
bind-ext f h (full x) e = full _

abbrev with_frames : Bounds → ℕ → Bounds
with_frames z n = record { room = z.room; frames = n; rows = z.rows }

module _ (z : Bounds) (n : ℕ) (h : z.frames ≤ n) where
  when-ext : {A : Type 0} (k : ℕ) (a : A) (b : Bool) → ltb k z.frames ≡ b → Ext (when b no_clone a) (when (ltb k n) no_clone a)
  unfolding when
  when-ext k a false e = full _
  when-ext k a true e = rw (lt-ltb k n (omega (arith, ltb-true k z.frames e))) (same _)

  begin-ext : (g : Grown) (o : Option Cloning) (cs : List Begun) → Ext (begin z.frames g o cs) (begin n g o cs)
  unfolding begin
  begin-ext g none cs = same _
  begin-ext g (some c) cs = when-ext (length cs) _ (ltb (length cs) z.frames) refl

  rows_ext : (es : List Edge) {x y : Res Fault Grown} (f k : Edge → List Edge → Res Fault Grown) → Ext x y → ((e : Edge) (es : List Edge) → Ext (f e es) (k e es))
      → Ext {A = Grown} (elim es [ [] ↦ x | e ∷ es ↦ f e es ]) (elim es [ [] ↦ y | e ∷ es ↦ k e es ])
  rows_ext [] f k p q = p
  rows_ext (e ∷ es) f k p q = q e es

  clones-ext : (t k : ℕ) (cs : List Begun) (g : Grown) → Ext (clones z t k cs g) (clones (with_frames z n) t k cs g)
  unfolding clones
  clones-ext t zero [] g = same _
  clones-ext t zero (c ∷ cs) g = rows_ext c.rows (λ e es. no many_rows) (λ e es. no many_rows) (clones-ext t zero cs g) λ e es. same _
  clones-ext t (suc k) [] g = same _
  clones-ext t (suc k) (c ∷ cs) g = rows_ext c.rows _ _ (clones-ext t (suc k) cs g)
      λ e es. bind-ext _ _ (same _) λ u. bind-ext _ _ (begin-ext u.grown u.next _) λ cs. clones-ext t k cs u.grown

  clone-ext : (t : ℕ) (c : Cloning) (g : Grown) → Ext (clone_branches z t c g) (clone_branches (with_frames z n) t c g)
  unfolding clone_branches
  clone-ext t c g = bind-ext _ _ (begin-ext g (some c) []) λ cs. clones-ext t z.rows cs g

  graft-ext : (t : ℕ) (s : Places) (g : Grown) (b : Bool) → Ext (graft z t s g b) (graft (with_frames z n) t s g b)
  unfolding graft
  graft-ext t s g true = clone-ext t _ g
  graft-ext t s g false = same _

  path-ext : (ps qs : List Pair) (g : Grown) → Ext (handle_common_prefixes z ps qs g) (handle_common_prefixes (with_frames z n) ps qs g)
  unfolding handle_common_prefixes graft_at
  path-ext ps qs g = bind-ext _ _ (same _) λ c. bind-ext _ _ (same _) λ t. bind-ext _ _ (same _) λ s. graft-ext t s g _

  command-ext : (R : List Rule) (c : Command) (g : Grown) → Ext (handle_command z R c g) (handle_command (with_frames z n) R c g)
  unfolding handle_command
  command-ext R conversions g = same _
  command-ext R (path ps qs) g = path-ext ps qs g
  command-ext R bad g = same _

  commands-ext : (R : List Rule) (cs : List Command) (g : Grown) → Ext (handle_commands z R cs g) (handle_commands (with_frames z n) R cs g)
  unfolding handle_commands
  commands-ext R [] g = same _
  commands-ext R (c ∷ cs) g = bind-ext _ _ (command-ext R c g) λ g. commands-ext R cs g

  last-ext : (R : List Rule) (g : Grown) (b : Bool) → Ext (convert_last z R g b) (convert_last (with_frames z n) R g b)
  unfolding convert_last
  last-ext R g true = same _
  last-ext R g false = same _

  build-ext : (R : List Rule) (cs : List Command) → Ext (build z R cs) (build (with_frames z n) R cs)
  unfolding build tend
  build-ext R cs = bind-ext _ _ (same _) λ g. bind-ext _ _ (commands-ext R cs g) λ g. last-ext R g (asked cs)

-- a build that is not refused with 6 is the same with more frames
pub more-frames : (z : Bounds) (n : ℕ) → z.frames ≤ n → (R : List Rule) (cs : List Command) → (build z R cs ≡ no no_clone → ⊥)
    → build (with_frames z n) R cs ≡ build z R cs
more-frames z n h R cs d = by (build-ext z n h R cs) d
  where
    by : {x y : Res Fault Grown} → Ext x y → (x ≡ no no_clone → ⊥) → y ≡ x
    by (same x) d = refl
    by (full x) d = absurd (d refl)
