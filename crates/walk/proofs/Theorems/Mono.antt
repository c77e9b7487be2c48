-- More room and a larger allowance change nothing, unless the walk ran out of what was enlarged.
use Rattle.std.specs.Prelude.{◌≡◌, Bool, ◌≢◌, ltb}
use Rattle.std.proofs.Math.Path.{refl}
use Rattle.std.proofs.Math.Bool.{true, false}
use Rattle.std.proofs.lemmas.Bool.{false≢true}
use mathlib.Core.List.{List, [], ◌∷◌}
use Rattle.std.proofs.Math.Option.{Option, some, none}
use Prim.Native.Nat.{ℕ, zero, suc, ◌≤◌, ◌<◌}
use Rattle.std.proofs.Common.{le_of_suc-le-suc, not-suc-le-zero, arith, ltb-true, ltb-false, lt-ltb}
use Rattle.words.specs.Outcome.{Res, ok, no, bind, when}
use Rattle.words.specs.Numbers.{no_pass, Why, no_frame, no_entry, number}
use Rattle.rules.specs.Rules.{Rule, rule_at}
use Rattle.rows.specs.Rows.{Reduce, Edge}
use Rattle.formula.specs.Reducing.{Trees, reduce_by, reduce, reduce_all}
use Rattle.walk.specs.Walk.{Tables, Room, State, Turn, on, end, Choice, follow, step_by, root_step, converted, convert_by, unwanted, pop_by, goal_by, complete, leaf, token, branch, pass_by, pass, Walked, after, run, walk}

-- refused for want of room that was enlarged
data Scarce (m m' : Room) : Why → Type 0 where
  frames : m.frames < m'.frames → Scarce m m' no_frame
  list : m.list < m'.list → Scarce m m' no_entry

-- the same, or refused so
data Ext (m m' : Room) (A : Type 0) : Res Why A → Res Why A → Type 0 where
  same : {x : Res Why A} → Ext m m' A x x
  full : {y : Why} {x : Res Why A} → Scarce m m' y → Ext m m' A (no y) x

-- more room
pub record More (m m' : Room) : Type 0 where
  pub frames : m.frames ≤ m'.frames
  pub list : m.list ≤ m'.list

bind-same : {m m' : Room} {A B : Type 0} {f g : A → Res Why B} (x : Res Why A) → ((a : A) → Ext m m' B (f a) (g a)) → Ext m m' B (bind x f) (bind x g)
unfolding bind
bind-same (ok a) h = h a
bind-same (no y) h = same

bind-ext : {m m' : Room} {A B : Type 0} {f g : A → Res Why B} {x y : Res Why A} → Ext m m' A x y → ((a : A) → Ext m m' B (f a) (g a))
    → Ext m m' B (bind x f) (bind y g)
unfolding bind
bind-ext (same {x}) h = bind-same x h
bind-ext (full c) h = full c

wider : (n l l' : ℕ) → l ≤ l' → ltb n l ≡ true → ltb n l' ≡ true
wider n l l' h e = lt-ltb n l' (omega (arith, ltb-true n l e))

enlarged : (n l l' : ℕ) → ltb n l ≡ false → ltb n l' ≡ true → l < l'
enlarged n l l' e f = omega (arith, ltb-false n l e, ltb-true n l' f)

when-ext : {m m' : Room} {A : Type 0} (b b' : Bool) (y : Why) (a : A) → (b ≡ true → b' ≡ true) → (b ≡ false → b' ≡ true → Scarce m m' y)
    → Ext m m' A (when b y a) (when b' y a)
unfolding when
when-ext true true y a h r = same
when-ext true false y a h r = absurd (false≢true (h refl))
when-ext false true y a h r = full (r refl refl)
when-ext false false y a h r = same

module _ (m m' : Room) (h : More m m') where
  reduce_by-ext : (r o : ℕ) (s : Trees) (q : Option Rule) → Ext m m' Trees (reduce_by m.list r o s q) (reduce_by m'.list r o s q)
  unfolding reduce_by
  reduce_by-ext r o s none = same
  reduce_by-ext r o s (some q) = bind-ext same λ s. when-ext _ _ no_entry _ (wider _ _ _ h.list) λ e f. list (enlarged _ _ _ e f)

  reduce_all-ext : (R : List Rule) (ds : List Reduce) (s : Trees) → Ext m m' Trees (reduce_all R m.list ds s) (reduce_all R m'.list ds s)
  unfolding reduce_all reduce
  reduce_all-ext R [] s = same
  reduce_all-ext R (d ∷ ds) s = bind-ext (reduce_by-ext d.rule d.offset s (rule_at R d.rule)) (reduce_all-ext R ds)

  module _ (T : Tables) (goal : ℕ) (statement : List ℕ) where
    follow-ext : (fs : List ℕ) (s : State) (e : Edge) (ts : Trees)
        → Ext m m' Turn (follow T goal statement m fs s e ts) (follow T goal statement m' fs s e ts)
    unfolding follow
    follow-ext fs s e ts = bind-ext (reduce_all-ext T.rules e.reduces ts) λ ts. same

    step_by-ext : (fs : List ℕ) (s : State) (ts : Trees) (e : Option Edge)
        → Ext m m' Turn (step_by T goal statement m fs s ts e) (step_by T goal statement m' fs s ts e)
    unfolding step_by
    step_by-ext fs s ts none = same
    step_by-ext fs s ts (some e) = follow-ext fs s e ts

    root_step-ext : (s : State) (t : ℕ) (ts : Trees) → Ext m m' Turn (root_step T goal statement m s t ts) (root_step T goal statement m' s t ts)
    unfolding root_step
    root_step-ext s t ts = step_by-ext s.frames s ts _

    converted-ext : (s : State) (t : ℕ) (fs : List ℕ) (ts : Trees)
        → Ext m m' Turn (converted T goal statement m s t fs ts) (converted T goal statement m' s t fs ts)
    unfolding converted
    converted-ext s t [] ts = same
    converted-ext s t (f ∷ fs) ts = step_by-ext fs s ts _

    convert_by-ext : (s : State) (t : ℕ) (ts : Trees) (c : Option Choice)
        → Ext m m' Turn (convert_by T goal statement m s t ts c) (convert_by T goal statement m' s t ts c)
    unfolding convert_by reduce
    convert_by-ext s t ts none = root_step-ext s t ts
    convert_by-ext s t ts (some k) = bind-ext (reduce_by-ext k.rule 0 ts _) (converted-ext s k.to s.frames)

    unwanted-ext : (s : State) (t : ℕ) (ts : Trees) (xs : List ℕ)
        → Ext m m' Turn (unwanted T goal statement m s t ts xs) (unwanted T goal statement m' s t ts xs)
    unfolding unwanted
    unwanted-ext s t ts [] = convert_by-ext s t ts _
    unwanted-ext s t ts (x ∷ xs) = root_step-ext s t ts

    pop_by-ext : (s : State) (t : ℕ) (ts : Trees) (fs : List ℕ) (e : Option Edge)
        → Ext m m' Turn (pop_by T goal statement m s t ts fs e) (pop_by T goal statement m' s t ts fs e)
    unfolding pop_by
    pop_by-ext s t ts fs none = unwanted-ext s t ts _
    pop_by-ext s t ts fs (some e) = follow-ext fs s e ts

    goal_by-ext : (s : State) (t : ℕ) (ts : Trees) (xs : List ℕ) (b : Bool)
        → Ext m m' Turn (goal_by T goal statement m s t ts xs b) (goal_by T goal statement m' s t ts xs b)
    unfolding goal_by
    goal_by-ext s t ts xs false = unwanted-ext s t ts xs
    goal_by-ext s t ts [] true = same
    goal_by-ext s t ts (x ∷ xs) true = root_step-ext s t ts

    complete-ext : (s : State) (t : ℕ) (fs : List ℕ) (ts : Trees)
        → Ext m m' Turn (complete T goal statement m s t fs ts) (complete T goal statement m' s t fs ts)
    unfolding complete
    complete-ext s t [] ts = goal_by-ext s t ts _ _
    complete-ext s t (f ∷ fs) ts = pop_by-ext s t ts fs _

    leaf-ext : (s : State) (r : ℕ) (q : Option Rule) → Ext m m' Turn (leaf T goal statement m s r q) (leaf T goal statement m' s r q)
    unfolding leaf reduce
    leaf-ext s r none = same
    leaf-ext s r (some q) = bind-ext (reduce_by-ext r 0 s.trees _) (complete-ext s q.result s.frames)

    token-ext : (s : State) (x : ℕ) (xs : List ℕ) (e : Option Edge)
        → Ext m m' Turn (token T goal statement m s x xs e) (token T goal statement m' s x xs e)
    unfolding token
    token-ext s x xs none = bind-ext same λ n. when-ext _ _ no_frame _ (wider _ _ _ h.frames) λ e f. frames (enlarged _ _ _ e f)
    token-ext s x xs (some e) = follow-ext _ _ e _

    branch-ext : (s : State) (xs : List ℕ) → Ext m m' Turn (branch T goal statement m s xs) (branch T goal statement m' s xs)
    unfolding branch
    branch-ext s [] = same
    branch-ext s (x ∷ xs) = token-ext s x xs _

    pass_by-ext : (s : State) (k : ℕ) → Ext m m' Turn (pass_by T goal statement m s k) (pass_by T goal statement m' s k)
    unfolding pass_by
    pass_by-ext s zero = branch-ext s _
    pass_by-ext s (suc r) = leaf-ext s (suc r) _

    pass-ext : (s : State) → Ext m m' Turn (pass T goal statement m s) (pass T goal statement m' s)
    unfolding pass
    pass-ext s = pass_by-ext s _

-- the walk did not run out of what was enlarged
pub record Enough (a a' : ℕ) (m m' : Room) (w : Walked) : Type 0 where
  pub passes : a < a' → w.number ≢ no_pass
  pub frames : m.frames < m'.frames → w.number ≢ number no_frame
  pub list : m.list < m'.list → w.number ≢ number no_entry

module _ (a a' : ℕ) (m m' : Room) (n : ℕ) (f f' : State → Walked) (g : (s : State) → Enough a a' m m' (f s) → f' s ≡ f s) where
  after_same : (x : Res Why Turn) → Enough a a' m m' (after n f x) → after n f' x ≡ after n f x
  unfolding after number
  after_same (no w) y = refl
  after_same (ok (end l)) y = refl
  after_same (ok (on s)) y = g s y

  after-ext : {x x' : Res Why Turn} → Ext m m' Turn x x' → Enough a a' m m' (after n f x) → after n f' x' ≡ after n f x
  unfolding after number
  after-ext (same {x}) y = after_same x y
  after-ext (full (frames l)) y = absurd (y.frames l refl)
  after-ext (full (list l)) y = absurd (y.list l refl)

-- one pass fewer is allowed
fewer : (a a' : ℕ) (m m' : Room) (w : Walked) → Enough (suc a) (suc a') m m' w → Enough a a' m m' w
fewer a a' m m' w y = record { passes = λ l. y.passes (omega arith); frames = y.frames; list = y.list }

module _ (T : Tables) (goal : ℕ) (statement : List ℕ) (m m' : Room) (h : More m m') where
  run-same : (a a' n : ℕ) (s : State) → a ≤ a'
      → Enough a a' m m' (run (pass T goal statement) a m n s) → run (pass T goal statement) a' m' n s ≡ run (pass T goal statement) a m n s
  unfolding run
  run-same zero zero n s le y = refl
  run-same zero (suc a') n s le y = absurd (y.passes (omega arith) refl)
  run-same (suc a) zero n s le y = absurd (not-suc-le-zero le)
  run-same (suc a) (suc a') n s le y =
      after-ext (suc a) (suc a') m m' (suc n) _ _ (λ s z. run-same a a' (suc n) s (le_of_suc-le-suc le) (fewer a a' m m' _ z))
      (pass-ext m m' h T goal statement s) y

pub walk_same : (T : Tables) (provable logic a a' : ℕ) (m m' : Room) (ts : List ℕ) → More m m' → a ≤ a'
    → Enough a a' m m' (walk T provable logic a m ts) → walk T provable logic a' m' ts ≡ walk T provable logic a m ts
unfolding walk
walk_same T provable logic a a' m m' [] h le y = refl
walk_same T provable logic a a' m m' (t ∷ xs) h le y = run-same T _ _ m m' h a a' 0 _ le y

-- the walk did not run out of passes, frames or list
pub record Roomy (a : Walked) : Type 0 where
  pub passes : a.number ≢ no_pass
  pub frames : a.number ≢ number no_frame
  pub list : a.number ≢ number no_entry

pub walk-mono : (T : Tables) (provable logic a a' : ℕ) (m m' : Room) (ts : List ℕ) → More m m' → a ≤ a'
    → Roomy (walk T provable logic a m ts) → walk T provable logic a' m' ts ≡ walk T provable logic a m ts
walk-mono T provable logic a a' m m' ts h le y =
    walk_same T provable logic a a' m m' ts h le (record { passes = λ l. y.passes; frames = λ l. y.frames; list = λ l. y.list })
