-- The parts of a pass: each answer of the code is what the definition says.
use mathlib.Core.Path.{◌≡◌, refl, sym, subst, ◌∙◌}
use mathlib.Core.Bool.{Bool, true, false, not}
use mathlib.Core.List.{List, [], ◌∷◌}
use mathlib.Core.Option.{Option, some, none}
use Prim.Native.Nat.{ℕ, zero, suc, pred, ◌+◌, ◌-◌, ◌/◌, ◌≤◌, ◌<◌}
use native.Mathlib.Nat.{sub-zero}
use native.Mathlib.Numerals.{add-one}
use native.Mathlib.Omega.{arith}
use lib.Dec.{ltb, eqb}
use lib.ListN.{length, get_or, set, take, drop, drop_of_length-le, length-set}
use borrow.Author.Tests.{eq-eqb, ne_eqb, lt-ltb, le-ltb, ltb-false}
use lib.Seq.{drop-cons}
use Rattle.words.specs.Outcome.{Res, bind, when}
use Rattle.words.specs.Limits.{row_width, most_reduces}
use Rattle.words.specs.Numbers as reasons
use Rattle.walk.specs.declared.refusal.Why.{Why}
use Rattle.rules.specs.Rules.{the_rules, rule_of}
use Rattle.words.proofs.Theorems.Parts.{part-all}
use Rattle.words.proofs.Theorems.Tests.{failed, passed}
use Rattle.words.specs.declared.NodeNo.{NodeNo}
use Rattle.words.specs.declared.SymbolNo.{SymbolNo}
use Rattle.rules.specs.Code.{Starts, Missing}
use Rattle.rows.specs.Rows.{Reduce, Edge, edge_of, edges_of, find, bare}
use Rattle.rows.specs.Code.{looks_up, edge_is, Holds, row_at}
use Rattle.rows.specs.declared.Edge as edge
use Rattle.rows.proofs.Theorems.Lookup.{row-found, none_found}
use Rattle.formula.specs.Check.{check}
use Rattle.formula.specs.Reducing.{Trees, flat, reduce, reduce_all}
use Rattle.formula.specs.Code as formula
use Rattle.formula.proofs.Theorems.Held.{trees-count}
use Rattle.formula.specs.declared.Trees as held
use Rattle.formula.specs.declared.Unfit.{Unfit}
use Rattle.formula.specs.declared.Unfit.TheVariants.{TooFew, Full}
use Rattle.std.specs.Prelude.{Result, Ok, Err, Option as Held, Some, None}
use Rattle.walk.specs.Walk.{Tables, tables_of, Room, State, Choice, conversion, follow, step_by, root_step, finish, converted, convert_by, unwanted, pop_by, goal_by, complete, leaf, token, branch}
use Rattle.walk.specs.Code.{tables, room_of, stack, state_of, Chooses, Placed, Follows, Roots, Opens, Branches, Lies, Finishes, Bare, Framed, Stood, Ready, stand_at, under, at_node, Unwanted, Completes, Leaves, choice_of, Steps, with_trees, Converted, Closes}
use Rattle.walk.specs.declared.Wish.{Wish}
use Rattle.walk.specs.declared.Wish.TheVariants.{Goal, Frame}
use Rattle.walk.specs.declared.Stand.{Stand}
use Rattle.walk.specs.declared.At.{At}
use Rattle.walk.specs.declared.refusal.Why.TheVariants.{Unparseable, TooShort, Misfit, NoFrame}
use Rattle.walk.specs.declared.Step.{Step}
use Rattle.walk.specs.declared.Step.TheVariants.{On, End}
use Rattle.walk.specs.Fit.{Fit}
use Rattle.walk.specs.Refused.{why_of, refusal}
use Rattle.walk.specs.declared.Choice as chosen
use Rattle.walk.proofs.Laws.{stack-length, stack_push, stack_top, bare-none}

-- ---- an edge that is followed

-- a reduce's refusal is the pass's
refusal-is : (u : Unfit) → why_of (refusal u) ≡ formula.unfit u
refusal-is TooFew = refl
refusal-is Full = refl

module _ (rs : List ℕ) (room : ℕ) {h : edge.Edge} {e : Edge} (d : Holds h e) (s : At) (ls ws : List ℕ) where
  abbrev all : Res reasons.Why Trees
  all = reduce_all (the_rules rs) room (edge_is h).reduces (formula.trees_of s.trees ls ws)

  abbrev To : List ℕ → List ℕ → Edge → Result Step Why → Type 0
  To ls' ws' x q = Follows rs room x s ls ws q ls' ws'

  pub follow-on : {ls' ws' : List ℕ} (us : held.Trees) → formula.Gives room (Ok us) ls' ws' all
      → To ls' ws' e (Ok (On (record { node = h.to; frames = s.frames; trees = us; token = s.token; last = s.last })))
  unfolding follow tables_of bind
  follow-on {ls'} {ws'} us g =
      subst (λ (x : Edge). To ls' ws' x (Ok (On (record { node = h.to; frames = s.frames; trees = us; token = s.token; last = s.last })))) d.says λ ns es st ts fs goal p.
      record { turned = rw (← g.outcome); whole = (record { begun = p.begun; token = p.token; frames = p.frames }, g.inside) }

  pub follow-refused : {ls' ws' : List ℕ} (u : Unfit) → formula.Gives room (Err u) ls' ws' all → To ls' ws' e (Err (refusal u))
  unfolding follow tables_of bind
  follow-refused {ls'} {ws'} u g =
      subst (λ (x : Edge). To ls' ws' x (Err (refusal u))) d.says λ ns es st ts fs goal p. record { turned = rw (← g.outcome, refusal-is u); whole = tt }

none-reduced : (ds : List Reduce) → ltb 0 (length ds) ≡ false → ds ≡ []
none-reduced [] e = refl
none-reduced (d ∷ ds) e = absurd (omega (arith, ltb-false 0 (suc (length ds)) e))

-- an edge without reduces: its end alone is read
pub follow-bare : (rs : List ℕ) (room : ℕ) (e : Edge) (s : At) (ls ws : List ℕ) {b : Bool} {q : At} → b ≡ ltb 0 (length e.reduces) → b ≡ false
    → q ≡ at_node s e.to → formula.Inside room s.trees ls ws → Follows rs room e s ls ws (Ok (On q)) ls ws
unfolding follow tables_of bind reduce_all
follow-bare rs room e s ls ws h z o i =
    subst (λ (x : At). Follows rs room e s ls ws (Ok (On x)) ls ws) (sym o) λ ns es st ts fs goal p.
    record { turned = rw (none-reduced e.reduces (sym h ∙ z)); whole = (record { begun = p.begun; token = p.token; frames = p.frames }, i) }

-- ---- a variable edge that is looked up and followed

module _ (rs es : List ℕ) (room n t : ℕ) (s : At) (ls ws : List ℕ) {f : Held ℕ} (l : f ≡ looks_up es n 1 t) where
  pub step-none : f ≡ None → Steps rs es room n t s ls ws (Err (Unparseable s.last)) ls ws
  unfolding step_by
  step-none e ns st ts fs goal p = record { turned = rw (none_found es n 1 t l e); whole = tt }

  pub step_row : (row : ℕ) → f ≡ Some row → {r : Result Step Why} {ls' ws' : List ℕ} → Follows rs room (edge_of (row_at es row)) s ls ws r ls' ws'
      → Steps rs es room n t s ls ws r ls' ws'
  unfolding step_by
  step_row row e g ns st ts fs goal p = rw (row-found es n 1 t l row e).finds (g ns es st ts fs goal p)

pub step-root : (rs es : List ℕ) (room t : ℕ) (s : At) (ls ws : List ℕ) {r : Result Step Why} {ls' ws' : List ℕ} → Steps rs es room 0 t s ls ws r ls' ws'
    → Roots rs es room t s ls ws r ls' ws'
unfolding root_step tables_of
step-root rs es room t s ls ws g = g

-- what is asked of the row that a look-up finds
pub slim-row : {es js : List ℕ} → Fit es js → (n k t : ℕ) {f : Held ℕ} → f ≡ looks_up es n k t → (row : ℕ) → f ≡ Some row
    → (row < length es / row_width) × (length (edge_of (row_at es row)).reduces ≤ most_reduces)
slim-row {es = es} h n k t l row e = let w = row-found es n k t l row e in (w.within, h.slim n k t (edge_of (row_at es row)) w.finds)

-- ---- a node that becomes a frame

module _ (es : List ℕ) (s : At) (fs : List ℕ) where
  pub open-root : eqb s.node.0 0 ≡ true → Opens es s fs (Err (Unparseable s.token)) fs
  unfolding token tables_of bind when
  open-root e R ns st ts ls ws goal room x xs d p h = record { turned = rw e; whole = tt }

  module _ (z : eqb s.node.0 0 ≡ false) {b : Bool} (l : b ≡ not (bare (edges_of es) s.node.0)) where
    pub open-bare : not b ≡ true → Opens es s fs (Err (Unparseable s.token)) fs
    unfolding token tables_of bind when
    open-bare e R ns st ts ls ws goal room x xs d p h =
        let q : not (bare (edges_of es) s.node.0) ≡ false = failed l e in
        record { turned = rw (z, q); whole = tt }

    module _ (e : not b ≡ false) where
      pub open_full : length fs ≤ s.frames → Opens es s fs (Err NoFrame) fs
      unfolding token tables_of bind when
      open_full f R ns st ts ls ws goal room x xs d p h =
          let q : not (bare (edges_of es) s.node.0) ≡ true = passed l e in
          record { turned = rw (z, q, stack-length s.frames fs, le-ltb s.frames (length fs) f); whole = tt }

      pub open-on : s.frames < length fs → Opens es s fs
          (Ok (On (record { node = record { 0 = 0 }; frames = s.frames + 1; trees = s.trees; token = s.token; last = s.token })))
          (set fs s.frames s.node.0)
      unfolding token tables_of bind when
      open-on f R ns st ts ls ws goal room x xs d p h =
          let q : not (bare (edges_of es) s.node.0) ≡ true = passed l e in
          record {
            turned = rw (
              z,
              q,
              stack-length s.frames fs,
              lt-ltb s.frames (length fs) f,
              stack_push s.frames fs s.node.0 f,
              d,
            );
            whole = (record { begun = p.begun; token = p.token; frames = simp length-set (omega arith) }, h);
          }

-- ---- a pass at a branch

pred-one : (n : ℕ) → pred n ≡ n - 1
pred-one zero = refl
pred-one (suc n) = omega arith

module _ (rs es ts : List ℕ) (room : ℕ) (s : At) (fs ls ws : List ℕ) where
  pub branch-ended : length ts ≤ s.token → Branches rs es ts room s fs ls ws (Err (TooShort (s.token - 1))) fs ls ws
  unfolding branch
  branch-ended h ns st goal = record { turned = rw (drop_of_length-le ts {i = s.token} h, pred-one s.token); whole = tt }

  -- at a token
  module _ (p : Placed s ts fs) (i : formula.Inside room s.trees ls ws) (h : s.token < length ts) {f : Held ℕ}
      (l : f ≡ looks_up es s.node.0 0 (get_or ts s.token 0)) where
    pub branch-open : f ≡ None → {r : Result Step Why} {fs' : List ℕ} → Opens es s fs r fs' → Branches rs es ts room s fs ls ws r fs' ls ws
    unfolding branch tables_of
    branch-open e g ns st goal =
        let d = drop-cons ts s.token 0 h in
        rw (d, none_found es s.node.0 0 (get_or ts s.token 0) l e) (rw d at (g (the_rules rs) ns st ts ls ws goal room _ _ d p i))

    pub branch-taken : (row : ℕ) → f ≡ Some row → {r : Result Step Why} {ls' ws' : List ℕ}
        → Follows rs room (edge_of (row_at es row))
        (record { node = s.node; frames = s.frames; trees = s.trees; token = s.token + 1; last = s.token }) ls ws r ls' ws'
        → Branches rs es ts room s fs ls ws r fs ls' ws'
    unfolding branch token follow tables_of
    branch-taken row e g ns st goal =
        let q = g ns es st ts fs goal (record { begun = omega arith; token = omega arith; frames = p.frames }) in
        rw (drop-cons ts s.token 0 h, (row-found es s.node.0 0 (get_or ts s.token 0) l row e).finds) (rw (add-one s.token) at q)

-- ---- the end of a walk

module _ (rs : List ℕ) (goal : ℕ) (ts : List ℕ) (us : held.Trees) (ls ws : List ℕ) (i : Lies us ls ws) where
  one-tree : length (formula.trees_of us ls ws) ≡ us.count
  one-tree = trees-count i.0 us ls ws i.1

  pub finish-few : (us.count ≡ 1 → ⊥) → Finishes rs goal ts us ls ws (Err Misfit) ws
  unfolding finish bind when
  finish-few z ns es fs room = record { turned = rw (one-tree, ne_eqb us.count 1 z); whole = tt }

  -- the check, of the list in the slice and the tokens after the typecode
  module _ (one : us.count ≡ 1) {b : Bool} (c : b ≡ check (the_rules rs) goal (take (length ts - 1) (drop 1 ts)) (take (us.len - 0) (drop 0 ls))) (ws' : List ℕ) where
    checked : b ≡ check (the_rules rs) goal (drop 1 ts) (flat (formula.trees_of us ls ws))
    checked = rw i.1.list (rw (part-all ts 1, sub-zero us.len) at c)

    pub finish-fails : not b ≡ true → Finishes rs goal ts us ls ws (Err Misfit) ws'
    unfolding finish bind when tables_of
    finish-fails e ns es fs room = record { turned = rw (one-tree, eq-eqb us.count 1 one, failed checked e); whole = tt }

    pub finish-ends : not b ≡ false → Finishes rs goal ts us ls ws (Ok (End us.len)) ws'
    unfolding finish bind when tables_of
    finish-ends e ns es fs room = record {
      turned = rw (one-tree, eq-eqb us.count 1 one, passed checked e, i.1.list);
      whole = (omega (arith, i.1.fits, i.1.lent), omega (arith, i.1.fits, i.1.words));
    }

-- ---- a tree that is complete and not wanted

module _ (rs es ts : List ℕ) (p : Stand) (ls ws : List ℕ) {r : Result Step Why} {ls' ws' : List ℕ} (t : ℕ) where
  pub unwanted-token : p.at.token < length ts → Roots rs es p.room t p.at ls ws r ls' ws' → Unwanted rs es ts p ls ws r ls' ws' t
  unfolding unwanted
  unwanted-token h g ns fs q =
      let d = drop-cons ts p.at.token 0 h in
      rw d (rw d at (g ns (drop 1 ts) ts fs p.goal.0 q.placed))

  module _ (h : length ts ≤ p.at.token) {k : Held chosen.Choice} (l : Chooses es p.wish (the_rules rs) t k) where
    pub unwanted-none : k ≡ None → Roots rs es p.room t p.at ls ws r ls' ws' → Unwanted rs es ts p ls ws r ls' ws' t
    unfolding unwanted convert_by tables_of
    unwanted-none e g ns fs q =
        let d = drop_of_length-le ts {i = p.at.token} h in
        let o : none ≡ conversion (tables rs ns es) p.goal.0 (drop 1 ts) (the_rules rs) 1 (stack p.at.frames fs) t =
        rw e at (l (the_rules rs) ns (drop 1 ts) p.goal.0 (stack p.at.frames fs) q.wish) in
        rw (d, ← o) (rw d at (g ns (drop 1 ts) ts fs p.goal.0 q.placed))

    pub unwanted-by : (c : chosen.Choice) → k ≡ Some c → Closes rs es ts p ls ws r ls' ws' (choice_of c) → Unwanted rs es ts p ls ws r ls' ws' t
    unfolding unwanted convert_by tables_of
    unwanted-by c e g ns fs q =
        let d = drop_of_length-le ts {i = p.at.token} h in
        let o : some (choice_of c) ≡ conversion (tables rs ns es) p.goal.0 (drop 1 ts) (the_rules rs) 1 (stack p.at.frames fs) t =
        rw e at (l (the_rules rs) ns (drop 1 ts) p.goal.0 (stack p.at.frames fs) q.wish) in
        rw (d, ← o) (rw d at (g ns fs q))

-- ---- a tree that is complete

pub goal-bare : (w : Wish) (g : SymbolNo) → w ≡ Goal g → Bare w
goal-bare w g e = rw e tt

pub frame-framed : (w : Wish) (n : ℕ) (f : NodeNo) → w ≡ Frame f → Framed w n → 1 ≤ n
frame-framed w n f e h = rw e at h

module _ {ts : List ℕ} {p : Stand} {fs : List ℕ} (q : Stood p ts fs) where
  on-top : (top : NodeNo) → p.wish ≡ Frame top → stack p.at.frames fs ≡ top.0 ∷ stack (p.at.frames - 1) fs
  on-top top w = stack_top p.at.frames fs p.goal.0 top (sym w ∙ q.wish)

  none_left : Bare p.wish → stack p.at.frames fs ≡ []
  none_left b = bare-none p.wish p.goal.0 (stack p.at.frames fs) b q.wish

module _ (rs es ts : List ℕ) (p : Stand) (ls ws : List ℕ) {r : Result Step Why} {ls' ws' : List ℕ} (t : ℕ) where
  -- with a frame
  module _ (top : NodeNo) (w : p.wish ≡ Frame top) {f : Held ℕ} (l : f ≡ looks_up es top.0 1 t) where
    pub pop-none : f ≡ None → Unwanted rs es ts p ls ws r ls' ws' t → Completes rs es ts p ls ws r ls' ws' t
    unfolding complete pop_by tables_of
    pop-none e g ns fs q = let d = on-top q top w in rw (d, none_found es top.0 1 t l e) (rw d at (g ns fs q))

    pub pop-row : (row : ℕ) → f ≡ Some row → Follows rs p.room (edge_of (row_at es row)) (under p.at) ls ws r ls' ws'
        → Completes rs es ts p ls ws r ls' ws' t
    unfolding complete pop_by follow tables_of
    pop-row row e g ns fs q =
        let i = q.placed in
        let v = g ns es (drop 1 ts) ts fs p.goal.0 (record { begun = i.begun; token = i.token; frames = omega (arith, i.frames) }) in
        rw (on-top q top w, (row-found es top.0 1 t l row e).finds) v

  -- without
  module _ (b : Bare p.wish) where
    pub bottom-other : eqb t p.goal.0 ≡ false → Unwanted rs es ts p ls ws r ls' ws' t → Completes rs es ts p ls ws r ls' ws' t
    unfolding complete goal_by
    bottom-other h g ns fs q = let d = none_left q b in rw (d, h) (rw d at (g ns fs q))

    pub bottom-token : eqb t p.goal.0 ≡ true → p.at.token < length ts → Roots rs es p.room t p.at ls ws r ls' ws'
        → Completes rs es ts p ls ws r ls' ws' t
    unfolding complete goal_by
    bottom-token e h g ns fs q =
        let d = none_left q b in
        let k = drop-cons ts p.at.token 0 h in
        rw (d, e, k) (rw (d, k) at (g ns (drop 1 ts) ts fs p.goal.0 q.placed))

-- the goal, and no token left
pub bottom-ends : (rs es ts : List ℕ) (p : Stand) (ls ws : List ℕ) {r : Result Step Why} {ws' : List ℕ} (t : ℕ) → Bare p.wish → eqb t p.goal.0 ≡ true
    → length ts ≤ p.at.token → Finishes rs p.goal.0 ts p.at.trees ls ws r ws' → Completes rs es ts p ls ws r ls ws' t
unfolding complete goal_by
bottom-ends rs es ts p ls ws t b e h g ns fs q =
    rw (none_left q b, e, drop_of_length-le ts {i = p.at.token} h) (g ns es fs p.room)

-- ---- a pass at a leaf

-- what an edge leads to does not ask which frames and trees there were before
step_by-other : (T : Tables) (goal : ℕ) (st : List ℕ) (m : Room) (s : State) (gs : List ℕ) (us : Trees) (fs : List ℕ) (vs : Trees) (o : Option Edge)
    → step_by T goal st m fs s vs o
    ≡ step_by T goal st m fs (record { node = s.node; frames = gs; trees = us; rest = s.rest; at = s.at; last = s.last }) vs o
unfolding step_by follow
step_by-other T goal st m s gs us fs vs none = refl
step_by-other T goal st m s gs us fs vs (some e) = refl

-- what a complete tree comes to does not ask which trees there were before
module _ (T : Tables) (goal : ℕ) (st : List ℕ) (m : Room) (s : State) (us : Trees) where
  abbrev other : State
  other = record { node = s.node; frames = s.frames; trees = us; rest = s.rest; at = s.at; last = s.last }

  root_step-other : (t : ℕ) (vs : Trees) → root_step T goal st m s t vs ≡ root_step T goal st m other t vs
  unfolding root_step
  root_step-other t vs = step_by-other T goal st m s s.frames us s.frames vs _

  converted-other : (t : ℕ) (fs : List ℕ) (vs : Trees) → converted T goal st m s t fs vs ≡ converted T goal st m other t fs vs
  unfolding converted
  converted-other t [] vs = refl
  converted-other t (f ∷ fs) vs = step_by-other T goal st m s s.frames us fs vs _

  convert_by-other : (t : ℕ) (vs : Trees) (o : Option Choice) → convert_by T goal st m s t vs o ≡ convert_by T goal st m other t vs o
  unfolding convert_by
  convert_by-other t vs none = root_step-other t vs
  convert_by-other t vs (some k) = λ i. bind (reduce T.rules m.list k.rule 0 vs) λ ws. converted-other k.to s.frames ws i

  unwanted-other : (t : ℕ) (vs : Trees) (xs : List ℕ) → unwanted T goal st m s t vs xs ≡ unwanted T goal st m other t vs xs
  unfolding unwanted
  unwanted-other t vs [] = convert_by-other t vs _
  unwanted-other t vs (x ∷ xs) = root_step-other t vs

  pop_by-other : (t : ℕ) (vs : Trees) (fs : List ℕ) (o : Option Edge) → pop_by T goal st m s t vs fs o ≡ pop_by T goal st m other t vs fs o
  unfolding pop_by follow
  pop_by-other t vs fs none = unwanted-other t vs _
  pop_by-other t vs fs (some e) = refl

  goal_by-other : (t : ℕ) (vs : Trees) (xs : List ℕ) (b : Bool) → goal_by T goal st m s t vs xs b ≡ goal_by T goal st m other t vs xs b
  unfolding goal_by
  goal_by-other t vs xs false = unwanted-other t vs xs
  goal_by-other t vs [] true = refl
  goal_by-other t vs (x ∷ xs) true = root_step-other t vs

  complete-other : (t : ℕ) (fs : List ℕ) (vs : Trees) → complete T goal st m s t fs vs ≡ complete T goal st m other t fs vs
  unfolding complete
  complete-other t [] vs = goal_by-other t vs _ _
  complete-other t (f ∷ fs) vs = pop_by-other t vs fs _

-- it stands there with the trees that a reduce left, too
stood-with : {p : Stand} {ts fs : List ℕ} → Stood p ts fs → (us : held.Trees) → Stood (stand_at p (with_trees p.at us)) ts fs
stood-with q us =
    let n = q.placed in
    record { placed = record { begun = n.begun; token = n.token; frames = n.frames }; wish = q.wish }

-- and is ready there
pub ready_with : {ts : List ℕ} {p : Stand} {ls ws : List ℕ} → Ready ts p ls ws → {ls' ws' : List ℕ} {o : Res reasons.Why Trees}
    → (us : held.Trees) → formula.Gives p.room (Ok us) ls' ws' o → Ready ts (stand_at p (with_trees p.at us)) ls' ws'
ready_with h us g = record {
  short = h.short;
  begun = h.begun;
  token = h.token;
  framed = h.framed;
  inside = g.inside;
}

-- the conversion
module _ (rs es ts : List ℕ) (p : Stand) (ls ws : List ℕ) {r : Result Step Why} {ws' : List ℕ} (t : ℕ) where
  pub converted-ends : Bare p.wish → Finishes rs p.goal.0 ts p.at.trees ls ws r ws' → Converted rs es ts p ls ws r ls ws' t
  unfolding converted
  converted-ends b g ns fs q = rw (none_left q b) (g ns es fs p.room)

  pub converted-pops : {ls' : List ℕ} (top : NodeNo) → p.wish ≡ Frame top → Steps rs es p.room top.0 t (under p.at) ls ws r ls' ws'
      → Converted rs es ts p ls ws r ls' ws' t
  unfolding converted tables_of
  converted-pops top w g ns fs q =
      let i = q.placed in
      let v = g ns (drop 1 ts) ts fs p.goal.0 (record { begun = i.begun; token = i.token; frames = omega (arith, i.frames) }) in
      let gs = stack (p.at.frames - 1) fs in
      let us = formula.trees_of p.at.trees ls ws in
      let s : State = record { node = p.at.node.0; frames = top.0 ∷ gs; trees = us; rest = drop p.at.token ts; at = p.at.token; last = p.at.last } in
      rw (on-top q top w, step_by-other (tables rs ns es) p.goal.0 (drop 1 ts) (room_of p.room fs) s gs us gs us (find (edges_of es) top.0 1 t)) v

module _ (rs es ts : List ℕ) (p : Stand) (ls ws : List ℕ) (k : Choice) where
  abbrev reduced : Res reasons.Why Trees
  reduced = reduce (the_rules rs) p.room k.rule 0 (formula.trees_of p.at.trees ls ws)

  pub close-done : {ls' ws' : List ℕ} (us : held.Trees) → formula.Gives p.room (Ok us) ls' ws' reduced → {w : Result Step Why} {ls'' ws'' : List ℕ}
      → Converted rs es ts (stand_at p (with_trees p.at us)) ls' ws' w ls'' ws'' k.to → Closes rs es ts p ls ws w ls'' ws'' k
  unfolding convert_by bind tables_of
  close-done {ls'} {ws'} us g h ns fs q =
      let c = converted-other (tables rs ns es) p.goal.0 (drop 1 ts) (room_of p.room fs) (state_of p.at ts fs ls ws) (formula.trees_of us ls' ws') k.to (stack p.at.frames fs) (formula.trees_of us ls' ws') in
      rw (← g.outcome, c) (h ns fs (stood-with q us))

  pub close-refused : {ls' ws' : List ℕ} (u : Unfit) → formula.Gives p.room (Err u) ls' ws' reduced → Closes rs es ts p ls ws (Err (refusal u)) ls' ws' k
  unfolding convert_by bind tables_of
  close-refused u g ns fs q = record { turned = rw (← g.outcome, refusal-is u); whole = tt }

module _ (rs es ts : List ℕ) (p : Stand) (ls ws : List ℕ) (c : ℕ) where
  pub leaf-missing : Missing rs c → Leaves rs es ts p ls ws (Err Misfit) ls ws c
  unfolding leaf
  leaf-missing h ns fs q = record { turned = rw h.unnamed; whole = tt }

  module _ (i : ℕ) (s : Starts rs c i) where
    abbrev one : Res reasons.Why Trees
    one = reduce (the_rules rs) p.room c 0 (formula.trees_of p.at.trees ls ws)

    pub leaf-done : {ls' ws' : List ℕ} (us : held.Trees) → formula.Gives p.room (Ok us) ls' ws' one → {w : Result Step Why} {ls'' ws'' : List ℕ} {t : ℕ}
        → t ≡ (rule_of (take (length rs - i) (drop i rs))).result
        → Completes rs es ts (stand_at p (with_trees p.at us)) ls' ws' w ls'' ws'' t → Leaves rs es ts p ls ws w ls'' ws'' c
    unfolding leaf bind tables_of
    leaf-done {ls'} {ws'} us g d h ns fs q =
        let k = complete-other (tables rs ns es) p.goal.0 (drop 1 ts) (room_of p.room fs) (state_of p.at ts fs ls ws) (formula.trees_of us ls' ws') (rule_of (drop i rs)).result (stack p.at.frames fs) (formula.trees_of us ls' ws') in
        rw (s.named, ← g.outcome, k, ← (rw (part-all rs i) at d)) (h ns fs (stood-with q us))

    pub leaf-refused : {ls' ws' : List ℕ} (u : Unfit) → formula.Gives p.room (Err u) ls' ws' one → Leaves rs es ts p ls ws (Err (refusal u)) ls' ws' c
    unfolding leaf bind tables_of
    leaf-refused u g ns fs q = record { turned = rw (s.named, ← g.outcome, refusal-is u); whole = tt }
