-- A pass, the passes under an allowance, and the walk.
use mathlib.Core.Path.{◌≡◌, refl, sym, ap, subst, ◌∙◌}
use mathlib.Core.Bool.{true}
use mathlib.Core.List.{List, [], ◌∷◌}
use Prim.Native.Nat.{ℕ, zero, suc, ◌+◌, ◌-◌, ◌≤◌, ◌<◌}
use native.Mathlib.Nat.{not-suc-le-zero, sub-zero}
use native.Mathlib.Numerals.{add-one}
use native.Mathlib.Omega.{arith}
use lib.Dec.{leb}
use lib.ListN.{length, get_or, drop}
use borrow.Author.Tests.{leb-false}
use lib.Seq.{length-take-le}
use Rattle.words.specs.Outcome.{Res, lesser}
use Rattle.words.specs.Limits.{most_tokens}
use Rattle.words.specs.Numbers.{accepted, no_pass, Why, number, place}
use Rattle.rules.specs.Rules.{the_rules, rule_at, rules_good}
use Rattle.words.proofs.Theorems.Tests.{by-test, lesser-le}
use Rattle.rules.proofs.Theorems.Words.{rules-good}
use Rattle.rows.specs.Rows.{tables_good}
use Rattle.rules.specs.Code.{Indexed, Ruled}
use Rattle.rows.specs.Code.{Firsts}
use Rattle.rows.proofs.Theorems.Fair.{tables-tabled}
use Rattle.words.specs.declared.RuleNo.{RuleNo}
use Rattle.words.specs.declared.SymbolNo.{SymbolNo}
use Rattle.formula.specs.Code as formula
use Rattle.formula.proofs.Theorems.Held.{trees-none, inside-none}
use Rattle.walk.specs.Walk.{Tables, tables_of, Room, State, leaf, branch, pass_by, pass, Turn, Walked, refused, after, run, start, wanted_of, walk}
use Rattle.walk.specs.Code.{tables, room_of, stack, state_of, Placed, wish_of, Stood, Ready, Branches, Leaves, node_is, Passes, start_at, Lent, Answer, Answers, turn_of}
use Rattle.walk.specs.declared.Wish.{Wish}
use Rattle.walk.specs.declared.Stand.{Stand}
use Rattle.walk.specs.declared.Held.{Held}
use Rattle.walk.proofs.Laws.{framed}
use Rattle.walk.specs.declared.refusal.Why as code
use Rattle.walk.proofs.Theorems.Ample.{tables-slim, walk-ample}
use Rattle.walk.specs.declared.At.{At}
use Rattle.walk.specs.declared.Step.{Step}
use Rattle.walk.specs.declared.Step.TheVariants.{On, End}
use Rattle.std.specs.Prelude.{Result, Ok, Err, Option, Some, None}
use Rattle.walk.specs.Fit.{Fit}
use Rattle.walk.specs.Refused.{why_of}

-- ---- one pass

pub leaf-word : (w : ℕ) → (w ≡ 0 → ⊥) → Some (record { 0 = w }) ≡ node_is w
leaf-word zero h = absurd (h refl)
leaf-word (suc w) h = refl

module _ (T : Tables) (goal : ℕ) (st : List ℕ) (m : Room) (s : State) where
  pass_by-branch : (w : ℕ) → None ≡ node_is w → pass_by T goal st m s w ≡ branch T goal st m s s.rest
  unfolding pass_by
  pass_by-branch zero h = refl
  pass_by-branch (suc w) h = let z : ◌≡◌ {A = ℕ} 0 1 = cc in absurd (omega arith)

  pass_by-leaf : (w : ℕ) (c : RuleNo) → Some c ≡ node_is w → pass_by T goal st m s w ≡ leaf T goal st m s c.0 (rule_at T.rules c.0)
  unfolding pass_by
  pass_by-leaf zero c h = let z : ◌≡◌ {A = ℕ} 0 1 = cc in absurd (omega arith)
  pass_by-leaf (suc w) c h =
      let e : c ≡ record { 0 = suc w } = cc in
      let d : c.0 ≡ suc w = ap (λ (x : RuleNo). x.0) e in
      rw d

module _ (rs ns es ts : List ℕ) (p : Stand) (fs ls ws : List ℕ) {q : Option RuleNo}
    (e : q ≡ node_is (get_or ns p.at.node.0 0)) where
  pub pass-branch : {r : Result Step code.Why} {fs' ls' ws' : List ℕ} → q ≡ None → Branches rs es ts p.room p.at fs ls ws r fs' ls' ws'
      → Passes rs ns es p.goal.0 ts p.room p.at fs ls ws r fs' ls' ws'
  unfolding pass tables_of
  pass-branch z g =
      rw (pass_by-branch (tables rs ns es) p.goal.0 (drop 1 ts) (room_of p.room fs) (state_of p.at ts fs ls ws) _ (sym z ∙ e))
      (g ns (drop 1 ts) p.goal.0)

  pub pass-leaf : {r : Result Step code.Why} {ls' ws' : List ℕ} (c : RuleNo) → q ≡ Some c → Stood p ts fs → Leaves rs es ts p ls ws r ls' ws' c.0
      → Passes rs ns es p.goal.0 ts p.room p.at fs ls ws r fs ls' ws'
  unfolding pass tables_of
  pass-leaf c z h g =
      rw (pass_by-leaf (tables rs ns es) p.goal.0 (drop 1 ts) (room_of p.room fs) (state_of p.at ts fs ls ws) _ c (sym z ∙ e))
      (g ns fs h)

-- ---- passes under an allowance

module _ (next : Room → State → Res Why Turn) (m : Room) (n : ℕ) (s : State) where
  run_none : (a : ℕ) → a ≡ 0 → run next a m n s ≡ refused no_pass 0 n
  unfolding run
  run_none a e = rw e

  run_more : (a : ℕ) → 0 < a → run next a m n s ≡ after (n + 1) (λ q. run next (a - 1) m (n + 1) q) (next m s)
  unfolding run
  run_more zero h = absurd (not-suc-le-zero h)
  run_more (suc a) h = let e : suc a - 1 ≡ a = omega arith in rw (e, add-one n)

-- what a walk has at every pass
pub record Going (ts : List ℕ) (room : ℕ) (s : At) (fs ls ws : List ℕ) : Type 0 where
  pub short : length ts ≤ most_tokens
  pub placed : Placed s ts fs
  pub inside : formula.Inside room s.trees ls ws

pub going_start : (ts fs ls ws : List ℕ) {room : ℕ} → 1 ≤ length ts → length ts ≤ most_tokens → Lent room (length ls) (length ws)
    → Going ts room start_at fs ls ws
going_start ts fs ls ws {room} one most l = record {
  short = most;
  placed = record { begun = omega arith; token = one; frames = omega arith };
  inside = inside-none room ls ws (l.list, l.work) l.words;
}

-- so it is ready for one, with what is wanted there
pub going-ready : {ts : List ℕ} (goal : SymbolNo) (room : ℕ) (s : At) {fs ls ws : List ℕ} → Going ts room s fs ls ws
    → (w : Wish) → w ≡ wish_of goal.0 (stack s.frames fs) →
    let p : Stand = record { goal = goal; wish = w; room = room; at = s } in
    Ready ts p ls ws × Stood p ts fs
going-ready goal room s {fs} g w e = (
  record {
    short = g.short;
    begun = g.placed.begun;
    token = g.placed.token;
    framed = rw e (framed s.frames fs goal.0);
    inside = g.inside;
  },
  record { placed = g.placed; wish = e },
)

module _ (rs ns es ts : List ℕ) (h : Held) (fs₀ : List ℕ) where
  abbrev from : Room → ℕ → ℕ → State → Walked
  from m k n s = run (pass (tables rs ns es) h.goal.0 (drop 1 ts)) k m n s

  abbrev the_walk : Walked
  the_walk = from (room_of h.room fs₀) h.allowance 0 (start (drop 1 ts))

  -- n passes are made, and what is left comes to the walk from its start
  pub record Walking (s : At) (n : ℕ) (fs ls ws : List ℕ) : Type 0 where
    pub made : n ≤ h.allowance
    pub kept : length fs ≡ length fs₀
    pub going : Going ts h.room s fs ls ws
    pub same : from (room_of h.room fs) (h.allowance - n) n (state_of s ts fs ls ws) ≡ the_walk

  pub walking_start : (ls ws : List ℕ) → Going ts h.room start_at fs₀ ls ws → Walking start_at 0 fs₀ ls ws
  unfolding start stack
  walking_start ls ws r = record { made = omega arith; kept = refl; going = r; same = rw (sub-zero h.allowance, trees-none ls ws) }

  module _ (s : At) (n : ℕ) (fs ls ws : List ℕ) (w : Walking s n fs ls ws) where
    abbrev left : ℕ
    left = h.allowance - n

    -- the allowance is used up
    pub walking-out : h.allowance ≤ n → Answers (record { number = no_pass; place = 0; length = 0; passes = n }) ls the_walk
    walking-out g = subst (Answers (record { number = no_pass; place = 0; length = 0; passes = n }) ls)
        (sym (run_none (pass (tables rs ns es) h.goal.0 (drop 1 ts)) (room_of h.room fs) n (state_of s ts fs ls ws) left (omega arith)) ∙ w.same)
        (record { walked = refl; length = refl; within = omega arith })

    -- a further pass
    module _ (l : n < h.allowance) {r : Result Step code.Why} {fs' ls' ws' : List ℕ} (g : Passes rs ns es h.goal.0 ts h.room s fs ls ws r fs' ls' ws') where
      further : after (n + 1) (λ q. from (room_of h.room fs) (left - 1) (n + 1) q) (turn_of r ts fs' ls' ws') ≡ the_walk
      further = rw g.turned (sym (run_more (pass (tables rs ns es) h.goal.0 (drop 1 ts)) (room_of h.room fs) n (state_of s ts fs ls ws) left (omega arith)) ∙ w.same)

      pub walking_on : (q : At) → r ≡ Ok (On q) → length fs' ≡ length fs → Walking q (n + 1) fs' ls' ws'
      unfolding after
      walking_on q e k =
          let p : Placed q ts fs' × formula.Inside h.room q.trees ls' ws' = rw e at g.whole in
          let less : h.allowance - (n + 1) ≡ left - 1 = omega arith in
          record {
            made = omega arith;
            kept = k ∙ w.kept;
            going = record { short = w.going.short; placed = p.0; inside = p.1 };
            same = rw (less, k) (rw e at further);
          }

      pub end_fits : (k : ℕ) → r ≡ Ok (End k) → k ≤ formula.most_room
      end_fits k e = let p : (k ≤ length ls') × (k ≤ formula.most_room) = rw e at g.whole in p.1

      pub walking-end : (k : ℕ) → r ≡ Ok (End k) → Answers (record { number = accepted; place = 0; length = k; passes = n + 1 }) ls' the_walk
      unfolding after
      walking-end k e =
          let p : (k ≤ length ls') × (k ≤ formula.most_room) = rw e at g.whole in
          subst (Answers (record { number = accepted; place = 0; length = k; passes = n + 1 }) ls') (rw e at further)
          (record { walked = refl; length = sym (length-take-le k ls' p.0); within = p.0 })

      pub walking-stop : (y : code.Why) → r ≡ Err y → (k p : ℕ) → k ≡ number (why_of y) → p ≡ place (why_of y)
          → Answers (record { number = k; place = p; length = 0; passes = n + 1 }) ls' the_walk
      unfolding after
      walking-stop y e k p d l =
          subst (Answers (record { number = k; place = p; length = 0; passes = n + 1 }) ls') (rw e at further)
          (record { walked = rw (d, l); length = refl; within = omega arith })

-- ---- the walk

pub tables-ruled : (p l : ℕ) (rs is : List ℕ) → rules_good p l rs ≡ true → Indexed rs is → Ruled rs is
tables-ruled p l rs is r x = record { good = rules-good p l rs r; index = x }

pub tables-fit : (rs ns es js : List ℕ) → tables_good (length (the_rules rs)) ns es ≡ true → Firsts es js → Fit es js
unfolding tables_of
tables-fit rs ns es js g y = record { rows = tables-tabled (length (the_rules rs)) ns es js g y; slim = tables-slim (the_rules rs) ns es g }

pub room-lent : (l w room : ℕ) → room ≡ lesser (lesser l w) formula.most_room → Lent room l w
room-lent l w room e =
    let c = (lesser-le (lesser l w) formula.most_room).0 in
    record {
      list = omega (arith, c, (lesser-le l w).0);
      work = omega (arith, c, (lesser-le l w).1);
      words = omega (arith, (lesser-le (lesser l w) formula.most_room).1);
    }

module _ (T : Tables) (p l a : ℕ) where
  walk-run : (m : Room) (ts : List ℕ) → 1 ≤ length ts
      → walk T p l a m ts ≡ run (pass T (wanted_of p l (get_or ts 0 0)) (drop 1 ts)) a m 0 (start (drop 1 ts))
  unfolding walk
  walk-run m [] h = absurd (not-suc-le-zero h)
  walk-run m (t ∷ xs) h = refl

-- a walk with no more list room than a word can count
module _ (rs ns es : List ℕ) (p l a : ℕ) (ts fs : List ℕ) (g : tables_good (length (the_rules rs)) ns es ≡ true) (two : 2 ≤ length ts) (most : length ts ≤ most_tokens) where
  abbrev walks : ℕ → Walked
  walks room = walk (tables rs ns es) p l a (room_of room fs) ts

  capped : (xs : List ℕ) → 1 ≤ length xs → length xs ≤ most_tokens → (n : ℕ) → formula.most_room ≤ n
      → walk (tables rs ns es) p l a (room_of n fs) xs ≡ walk (tables rs ns es) p l a (room_of formula.most_room fs) xs
  capped [] one few n h = absurd (not-suc-le-zero one)
  capped (t ∷ xs) one few n h = walk-ample (the_rules rs) ns es g p l a (room_of n fs) t xs formula.most_room (omega arith) h

  same-walk : (n : ℕ) → walks (lesser n formula.most_room) ≡ walks n
  same-walk n = by-test (λ (k : ℕ). walks k ≡ walks n) (leb n formula.most_room) (λ e. refl)
      (λ e. sym (capped ts (omega arith) most n (omega (arith, leb-false n formula.most_room e))))

  pub walk-answers : (n room goal : ℕ) → room ≡ lesser n formula.most_room → goal ≡ wanted_of p l (get_or ts 0 0) → {w : Answer} {ls : List ℕ}
      → Answers w ls (run (pass (tables rs ns es) goal (drop 1 ts)) a (room_of room fs) 0 (start (drop 1 ts))) → Answers w ls (walks n)
  walk-answers n room goal e d {w} {ls} h =
      subst (Answers w ls) (sym (walk-run (tables rs ns es) p l a (room_of (lesser n formula.most_room) fs) ts (omega arith)) ∙ same-walk n) (rw (e, d) at h)
