-- What reduces do to the length of the list.
use Rattle.std.specs.Prelude.{◌≡◌, refl, Bool, true, false, List, [], ◌∷◌, ℕ, suc, ◌+◌, ◌≤◌, ◌<◌, length}
use Rattle.std.proofs.Math.Option.{Option, some, none}
use Rattle.std.proofs.Common.{arith, ltb-true, ltb-false}
use Rattle.words.specs.Outcome.{Res, ok, no, bind, when}
use Rattle.words.specs.Numbers.{Why, misfit, no_entry}
use Rattle.rules.specs.Rules.{Rule, slots}
use Rattle.rows.specs.Rows.{Reduce}
use Rattle.formula.specs.Reducing.{Trees, flat, reduce_by, reduce, reduce_all}
use Rattle.formula.proofs.Theorems.Flat.{length-merge}

-- what k reduces of these trees can come to: each adds one entry, if there is room
pub data Reduced (room : ℕ) (ts : Trees) (k : ℕ) : Res Why Trees → Type 0 where
  done : (us : Trees) → length (flat us) ≡ length (flat ts) + k → (length (flat ts) ≤ room → length (flat us) ≤ room) → Reduced room ts k (ok us)
  unfit : Reduced room ts k (no misfit)
  crowded : room < length (flat ts) + k → Reduced room ts k (no no_entry)

when-reduced : (room : ℕ) (ts us : Trees) (b : Bool) → length (flat us) ≡ length (flat ts) + 1 → (b ≡ true → length (flat ts) < room)
    → (b ≡ false → room ≤ length (flat ts)) → Reduced room ts 1 (when b no_entry us)
unfolding when
when-reduced room ts us true e g h = done us e λ l. omega (arith, e, g refl)
when-reduced room ts us false e g h = crowded (omega (arith, h refl))

-- a test that refuses, and what follows it
pub bind-when : {A B : Type 0} (P : Res Why B → Type 0) (b : Bool) (y : Why) (a : A) (f : A → Res Why B) → P (no y) → (b ≡ true → P (f a))
    → P (bind (when b y a) f)
unfolding bind when
bind-when P true y a f h g = g refl
bind-when P false y a f h g = h

pub reduce_by-reduced : (room r o : ℕ) (ts : Trees) (q : Option Rule) → Reduced room ts 1 (reduce_by room r o ts q)
unfolding reduce_by
reduce_by-reduced room r o ts none = unfit
reduce_by-reduced room r o ts (some q) = bind-when (Reduced room ts 1) _ misfit ts _ unfit λ b.
    when-reduced room ts _ _ (omega (arith, length-merge r (slots q.body) o ts)) (ltb-true _ _) (ltb-false _ _)

-- one reduce, then the others
then-reduced : (room k : ℕ) (ts : Trees) (x : Res Why Trees) (f : Trees → Res Why Trees) → Reduced room ts 1 x
    → ((us : Trees) → Reduced room us k (f us)) → Reduced room ts (suc k) (bind x f)
unfolding bind
then-reduced room k ts x f unfit h = unfit
then-reduced room k ts x f (crowded c) h = crowded (omega (arith, c))
then-reduced room k ts x f (done us e i) h = more (f us) (h us)
  where
    more : (y : Res Why Trees) → Reduced room us k y → Reduced room ts (suc k) y
    more y (done vs d j) = done vs (omega (arith, d, e)) λ l. j (i l)
    more y unfit = unfit
    more y (crowded c) = crowded (omega (arith, c, e))

pub reduce_all-reduced : (R : List Rule) (room : ℕ) (ds : List Reduce) (ts : Trees) → Reduced room ts (length ds) (reduce_all R room ds ts)
unfolding reduce_all reduce
reduce_all-reduced R room [] ts = done ts (omega arith) λ l. l
reduce_all-reduced R room (d ∷ ds) ts = then-reduced room _ ts _ _ (reduce_by-reduced room d.rule d.offset ts _) (reduce_all-reduced R room ds)
