-- What a pass can do, as a list of cases with their facts: the laws of the walk go by these cases and not by the definition of a pass.
use Rattle.std.specs.Prelude.{◌≡◌, Bool, ◌&&◌, ◌||◌, not, ◌≢◌, eqb, length}
use Rattle.std.proofs.Math.Path.{refl}
use Rattle.std.proofs.Common.{ap, arith, ltb-false}
use Rattle.std.proofs.Math.Bool.{true, false}
use Rattle.std.proofs.lemmas.Bool.{false≢true, eqb-false}
use mathlib.Core.List.{List, [], ◌∷◌}
use Rattle.std.proofs.Math.Option.{Option, some, none, some-injective, none-ne-some}
use Prim.Native.Nat.{ℕ, zero, suc, pred, ◌+◌, ◌≤◌, ◌<◌}
use Rattle.words.specs.Limits.{most_reduces}
use Rattle.words.specs.Outcome.{Res, ok, no, bind, when}
use Rattle.words.specs.Numbers.{Why, unparseable, too_short, misfit, no_frame, no_entry}
use Rattle.words.proofs.Theorems.Tests.{and_r}
use Rattle.rules.specs.Rules.{Rule, source}
use Rattle.rows.specs.Rows.{Edge}
use Rattle.formula.specs.Check.{check}
use Rattle.formula.specs.Reducing.{Trees, flat, reduce}
use Rattle.walk.proofs.Theorems.Reduced.{Reduced, done, unfit, crowded, bind-when, reduce_by-reduced, reduce_all-reduced}
use Rattle.walk.specs.Walk.{Tables, Room, State, Turn, on, end, Choice, present, comes_from, wanted, conversion, follow, step_by, root_step, finish, converted, convert_by, unwanted, pop_by, goal_by, complete, leaf, token, branch, pass_by, pass}

-- ---- what is asked of the tables

-- node 0 is a branch, and a variable edge of node 0 leads to a branch
pub record Fair (T : Tables) : Type 0 where
  pub root : T.word 0 ≡ 0
  pub level : (t : ℕ) (e : Edge) → T.edge 0 1 t ≡ some e → T.word e.to ≡ 0

-- an edge that is found has at most five reduces
abbrev pub Slim : Tables → Type 0
Slim T = (n k t : ℕ) (e : Edge) → T.edge n k t ≡ some e → length e.reduces ≤ most_reduces

-- ---- a pass

abbrev pub entries : State → ℕ
entries s = length (flat s.trees)

module _ (T : Tables) (goal : ℕ) (statement : List ℕ) (m : Room) where
  -- a list of n entries after a pass that added at most k, and none past the room
  pub record Grows (s : State) (n k : ℕ) : Type 0 where
    pub few : Slim T → n ≤ entries s + k
    pub fits : entries s ≤ m.list → n ≤ m.list

  -- why it is refused
  pub data Cause (s : State) : Why → Type 0 where
    here : (x : ℕ) (xs : List ℕ) → s.rest ≡ x ∷ xs → Cause s (unparseable s.at)
    noted : T.word s.node ≢ 0 → Cause s (unparseable s.last)
    ended : s.rest ≡ [] → Cause s (too_short (pred s.at))
    misfits : Cause s misfit
    frames : (x : ℕ) (xs : List ℕ) → s.rest ≡ x ∷ xs → s.node ≢ 0 → m.frames ≤ length s.frames → Cause s no_frame
    taking : (x : ℕ) (xs : List ℕ) → s.rest ≡ x ∷ xs → (Slim T → m.list < entries s + most_reduces) → Cause s no_entry
    closing : T.word s.node ≢ 0 → (Slim T → m.list < entries s + suc most_reduces) → Cause s no_entry
    popping : (f : ℕ) (fs : List ℕ) → T.word s.node ≢ 0 → s.frames ≡ f ∷ fs → (Slim T → m.list < entries s + suc (suc most_reduces)) → Cause s no_entry

  -- `takes` and `pushes` at a branch with a token left; `pops`, `roots` and `ends` at a leaf
  pub data Pass (s : State) : Res Why Turn → Type 0 where
    halts : (y : Why) → Cause s y → Pass s (no y)
    takes : (x : ℕ) (xs : List ℕ) (e : Edge) (ts : Trees) → s.rest ≡ x ∷ xs → Grows s (length (flat ts)) most_reduces
        → Pass s (ok (on (record { node = e.to; frames = s.frames; trees = ts; rest = xs; at = suc s.at; last = s.at })))
    pushes : (x : ℕ) (xs : List ℕ) → s.rest ≡ x ∷ xs → T.word s.node ≡ 0 → s.node ≢ 0
        → Pass s (ok (on (record { node = 0; frames = s.node ∷ s.frames; trees = s.trees; rest = x ∷ xs; at = s.at; last = s.at })))
    pops : (f : ℕ) (fs : List ℕ) (e : Edge) (ts : Trees) → T.word s.node ≢ 0 → s.frames ≡ f ∷ fs
        → Grows s (length (flat ts)) (suc (suc most_reduces))
        → Pass s (ok (on (record { node = e.to; frames = fs; trees = ts; rest = s.rest; at = s.at; last = s.last })))
    roots : (t : ℕ) (e : Edge) (ts : Trees) → T.word s.node ≢ 0 → T.edge 0 1 t ≡ some e
        → Grows s (length (flat ts)) (suc most_reduces)
        → Pass s (ok (on (record { node = e.to; frames = s.frames; trees = ts; rest = s.rest; at = s.at; last = s.last })))
    ends : (l : List ℕ) → T.word s.node ≢ 0 → check T.rules goal statement l ≡ true → Grows s (length l) 2 → Pass s (ok (end l))

  -- a refused reduce refuses the pass
  bind-view : (s : State) (ts : Trees) (k : ℕ) (x : Res Why Trees) (f : Trees → Res Why Turn) → Reduced m.list ts k x
      → (m.list < length (flat ts) + k → Cause s no_entry) → ((us : Trees) → length (flat us) ≡ length (flat ts) + k
      → (length (flat ts) ≤ m.list → length (flat us) ≤ m.list) → Pass s (f us)) → Pass s (bind x f)
  unfolding bind
  bind-view s ts k x f (done us e i) c h = h us e i
  bind-view s ts k x f unfit c h = halts misfit misfits
  bind-view s ts k x f (crowded r) c h = halts no_entry (c r)

  -- the conversion that is chosen goes to a wanted typecode
  chosen-wanted : (qs : List Rule) (c : ℕ) (fs : List ℕ) (t : ℕ) (k : Choice) → conversion T goal statement qs c fs t ≡ some k
      → wanted T goal statement fs k.to ≡ true
  unfolding conversion
  chosen-wanted [] c fs t k h = absurd (none-ne-some k h)
  chosen-wanted (q ∷ qs) c fs t k h = by (comes_from (source q.body) t) (wanted T goal statement fs q.result) refl (chosen-wanted qs (suc c) fs t k) h
    where
      by : (a b : Bool) → wanted T goal statement fs q.result ≡ b
          → (conversion T goal statement qs (suc c) fs t ≡ some k → wanted T goal statement fs k.to ≡ true)
          → elim (a && b) [ true ↦ some (record { rule = c; to = q.result }) | false ↦ conversion T goal statement qs (suc c) fs t ] ≡ some k
          → wanted T goal statement fs k.to ≡ true
      by true true w later e = rw (← (ap (λ (x : Choice). x.to) (some-injective _ _ e))) w
      by true false w later e = later e
      by false b w later e = later e

  -- after reduces at a leaf that added d entries, a variable edge is followed
  module _ (s : State) (z : T.word s.node ≢ 0) (ts : Trees) (d : ℕ) (g : length (flat ts) ≡ entries s + d)
      (i : entries s ≤ m.list → length (flat ts) ≤ m.list) where
    follow-view : (fs : List ℕ) (n t : ℕ) (e : Edge) → T.edge n 1 t ≡ some e
        → ((Slim T → m.list < entries s + (d + most_reduces)) → Cause s no_entry)
        → ((us : Trees) → Grows s (length (flat us)) (d + most_reduces)
        → Pass s (ok (on (record { node = e.to; frames = fs; trees = us; rest = s.rest; at = s.at; last = s.last }))))
        → Pass s (follow T goal statement m fs s e ts)
    unfolding follow
    follow-view fs n t e h c k = bind-view s ts _ _ _ (reduce_all-reduced T.rules m.list e.reduces ts)
        (λ r. c λ slim. omega (arith, r, g, slim n 1 t e h))
        λ us a j. k us (record { few = λ slim. omega (arith, a, g, slim n 1 t e h); fits = λ l. j (i l) })

  -- a frame is popped, by the tree's own typecode or by one that it was converted to
  pop-view : (s : State) (z : T.word s.node ≢ 0) (ts : Trees) (d : ℕ) → d ≤ 2 → length (flat ts) ≡ entries s + d
      → (entries s ≤ m.list → length (flat ts) ≤ m.list) → (f : ℕ) (fs : List ℕ) → s.frames ≡ f ∷ fs → (t : ℕ) (e : Edge) → T.edge f 1 t ≡ some e
      → Pass s (follow T goal statement m fs s e ts)
  pop-view s z ts d l g i f fs r t e h = follow-view s z ts d g i fs f t e h (λ c. popping f fs z r λ slim. omega (arith, c slim))
      λ us k. pops f fs e us z r (record { few = λ slim. omega (arith, k.few slim); fits = k.fits })

  -- at a leaf, after its own reduce
  module _ (s : State) (z : T.word s.node ≢ 0) (ts : Trees) (g : length (flat ts) ≡ entries s + 1)
      (i : entries s ≤ m.list → length (flat ts) ≤ m.list) where
    root_by-view : (t : ℕ) (o : Option Edge) → T.edge 0 1 t ≡ o → Pass s (step_by T goal statement m s.frames s ts o)
    unfolding step_by
    root_by-view t none h = halts _ (noted z)
    root_by-view t (some e) h = follow-view s z ts 1 g i s.frames 0 t e h (closing z) λ us. roots t e us z h

    root_step-view : (t : ℕ) → Pass s (root_step T goal statement m s t ts)
    unfolding root_step
    root_step-view t = root_by-view t _ refl

    finish-view : (us : Trees) → Grows s (length (flat us)) 2 → Pass s (finish T goal statement us)
    unfolding finish
    finish-view us h = bind-when (Pass s) _ misfit (flat us) _ (halts misfit misfits) λ b. ends (flat us) z (and_r (eqb (length us) 1) _ b) h

    popped-view : (us : Trees) → length (flat us) ≡ entries s + 2 → (entries s ≤ m.list → length (flat us) ≤ m.list)
        → (f : ℕ) (fs : List ℕ) → s.frames ≡ f ∷ fs → (t : ℕ) → (o : Option Edge) → T.edge f 1 t ≡ o → present o ≡ true
        → Pass s (step_by T goal statement m fs s us o)
    unfolding step_by present
    popped-view us d j f fs r t none h w = absurd (false≢true w)
    popped-view us d j f fs r t (some e) h w = pop-view s z us 2 (omega arith) d j f fs r t e h

    converted-view : (us : Trees) → length (flat us) ≡ entries s + 2 → (entries s ≤ m.list → length (flat us) ≤ m.list)
        → (t : ℕ) (fs : List ℕ) → s.frames ≡ fs → wanted T goal statement fs t ≡ true → Pass s (converted T goal statement m s t fs us)
    unfolding converted wanted
    converted-view us d j t [] r w = finish-view us (record { few = λ slim. omega (arith, d); fits = j })
    converted-view us d j t (f ∷ fs) r w = popped-view us d j f fs r t _ refl w

    convert_by-view : (t : ℕ) (o : Option Choice) → conversion T goal statement T.rules 1 s.frames t ≡ o
        → Pass s (convert_by T goal statement m s t ts o)
    unfolding convert_by reduce
    convert_by-view t none h = root_step-view t
    convert_by-view t (some k) h = bind-view s ts 1 _ _ (reduce_by-reduced m.list k.rule 0 ts _)
        (λ r. closing z λ slim. omega (arith, r, g))
        λ us d j. converted-view us (omega (arith, d, g)) (λ l. j (i l)) k.to s.frames refl (chosen-wanted T.rules 1 s.frames t k h)

    unwanted-view : (t : ℕ) (xs : List ℕ) → Pass s (unwanted T goal statement m s t ts xs)
    unfolding unwanted
    unwanted-view t [] = convert_by-view t _ refl
    unwanted-view t (x ∷ xs) = root_step-view t

    pop_by-view : (t f : ℕ) (fs : List ℕ) → s.frames ≡ f ∷ fs → (o : Option Edge) → T.edge f 1 t ≡ o → Pass s (pop_by T goal statement m s t ts fs o)
    unfolding pop_by
    pop_by-view t f fs r none h = unwanted-view t _
    pop_by-view t f fs r (some e) h = pop-view s z ts 1 (omega arith) g i f fs r t e h

    goal_by-view : (t : ℕ) (xs : List ℕ) (b : Bool) → Pass s (goal_by T goal statement m s t ts xs b)
    unfolding goal_by
    goal_by-view t xs false = unwanted-view t xs
    goal_by-view t [] true = finish-view ts (record { few = λ slim. omega (arith, g); fits = i })
    goal_by-view t (x ∷ xs) true = root_step-view t

    complete-view : (t : ℕ) (fs : List ℕ) → s.frames ≡ fs → Pass s (complete T goal statement m s t fs ts)
    unfolding complete
    complete-view t [] r = goal_by-view t _ _
    complete-view t (f ∷ fs) r = pop_by-view t f fs r _ refl

  leaf-view : (s : State) → T.word s.node ≢ 0 → (r : ℕ) (q : Option Rule) → Pass s (leaf T goal statement m s r q)
  unfolding leaf reduce
  leaf-view s z r none = halts misfit misfits
  leaf-view s z r (some q) = bind-view s s.trees 1 _ _ (reduce_by-reduced m.list r 0 s.trees _)
      (λ c. closing z λ slim. omega (arith, c)) λ ts g i. complete-view s z ts g i q.result s.frames refl

  not-or : (a b : Bool) → not (a || b) ≡ true → a ≡ false
  not-or true b h = absurd (false≢true h)
  not-or false b h = refl

  -- a node that becomes a frame
  push-view : (s : State) (b : Bool) (o : Turn) → (b ≡ false → Cause s no_frame) → (b ≡ true → Pass s (ok o)) → Pass s (when b no_frame o)
  unfolding when
  push-view s true o c h = h refl
  push-view s false o c h = halts no_frame (c refl)

  module _ (s : State) (z : T.word s.node ≡ 0) where
    token-view : (x : ℕ) (xs : List ℕ) → s.rest ≡ x ∷ xs → (o : Option Edge) → T.edge s.node 0 x ≡ o → Pass s (token T goal statement m s x xs o)
    unfolding token follow
    token-view x xs r (some e) h = bind-view s s.trees _ _ _ (reduce_all-reduced T.rules m.list e.reduces s.trees)
        (λ c. taking x xs r λ slim. omega (arith, c, slim s.node 0 x e h))
        λ ts d i. takes x xs e ts r (record { few = λ slim. omega (arith, d, slim s.node 0 x e h); fits = i })
    token-view x xs r none h = bind-when (Pass s) _ (unparseable s.at) s.node _ (halts _ (here x xs r)) λ b.
        push-view s _ _ (λ c. frames x xs r (eqb-false _ _ (not-or _ _ b)) (ltb-false _ _ c)) λ c. pushes x xs r z (eqb-false _ _ (not-or _ _ b))

    branch-view : (xs : List ℕ) → s.rest ≡ xs → Pass s (branch T goal statement m s xs)
    unfolding branch
    branch-view [] r = halts _ (ended r)
    branch-view (x ∷ xs) r = token-view x xs r _ refl

  pass_by-view : (s : State) (k : ℕ) → T.word s.node ≡ k → Pass s (pass_by T goal statement m s k)
  unfolding pass_by
  pass_by-view s zero z = branch-view s z _ refl
  pass_by-view s (suc r) z = leaf-view s (λ e. omega (arith, z, e)) (suc r) _

  pub view : (s : State) → Pass s (pass T goal statement m s)
  unfolding pass
  view s = pass_by-view s _ refl
