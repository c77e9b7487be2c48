-- What the entry points' proofs share: a result of the code as a value of its definition.
use mathlib.Core.Path.{◌≡◌, refl, sym, ◌∙◌, ap, subst}
use mathlib.Core.Bool.{Bool, true, false, not}
use mathlib.Core.List.{List, [], ◌∷◌, ◌++◌}
use mathlib.Core.Logic.{◌≢◌}
use Prim.Native.Nat.{ℕ, zero, suc, ◌*◌, ◌-◌, ◌/◌, ◌≤◌, ◌<◌}
use native.Mathlib.Nat.{sub-zero}
use native.Mathlib.Omega.{arith}
use lib.ListN.{length, get_or, drop, take}
use Rattle.words.specs.Limits.{most_tokens, most_nodes, most_edges, row_width, most_taken}
use Rattle.words.specs.Lent.{zeros, padded, cleared_from}
use Rattle.words.specs.Outcome.{Res, lesser, Demand, demand, first_fault}
use lib.Dec.{ltb}
use borrow.Author.Tests.{lt-ltb, le-ltb}
use Rattle.words.proofs.Theorems.Faults.{met, unmet, clear, fault-stays}
use Rattle.words.proofs.Theorems.Parts.{part-all}
use Rattle.rules.specs.Rules.{the_rules, rules_good}
use Rattle.rows.specs.Rows.{tables_good}
use Rattle.formula.specs.Check.{check}
use Rattle.walk.specs.Walk.{Walked, wanted_of, walk}
use Rattle.walk.specs.Walk as passes
use Rattle.walk.specs.Code.{Answers}
use Rattle.walk.specs.declared.Walked as walked
use Rattle.walk.specs.declared.Halted.{Halted}
use Rattle.walk.specs.Code as walks
use Rattle.words.specs.Numbers.{accepted, too_few_tokens, bad_tables, too_many_tokens, bad_rules, misfit, number, Fault, fault_number}
use Rattle.tree.specs.Grow.{Grown, Room}
use Rattle.tree.specs.Code.{room_of, fault_of, Holding, Grows}
use Rattle.tree.specs.declared.Fault as why
use Rattle.std.specs.Prelude.{Result, Ok, Err}
use Rattle.tree.specs.declared.Counts.{Counts}
use Rattle.tree.specs.declared.Room as lent
use Rattle.garden.specs.Garden.{the_commands}
use Rattle.garden.specs.Garden as garden
use Rattle.garden.specs.Code.{bounds_of}
use Rattle.desk.specs.Entry.{Built, not_built, build_room, garden_bounds, built_by, build_after, build_gives, Asked, Lent, parsed, ground_demands, parse_demands, walk_after, walk_of, verify_demands, verify_gives}
use Rattle.desk.specs.Code.{built_is, answer_of, Raised, parsed_is, Tried}
use Rattle.desk.specs.declared.Answer.{Answer}
use Rattle.desk.specs.declared.Made.{Made}
use Rattle.desk.proofs.Theorems.Promises.{Asks, past, none-fails}
use Rattle.words.proofs.Theorems.Tests.{lesser-le}

module _ (provable logic : ℕ) (rules tokens list : List ℕ) (work : ℕ) where
  pub verified : (number : ℕ) (after : List ℕ) → number ≡ first_fault (verify_demands provable logic rules tokens list work) → after ≡ zeros work
      → record { number = number; place = 0; length = 0; passes = 0; work-words = after } ≡ verify_gives provable logic rules tokens list work
  unfolding verify_gives
  verified number after e f = λ i. record { number = e i; place = 0; length = 0; passes = 0; work-words = f i }

  -- the check decides, by what the code's check says of the tokens after the first
  pub decided : (goal : ℕ) (b : Bool) → Asks provable logic rules tokens list work → goal ≡ wanted_of provable logic (get_or tokens 0 0)
      → b ≡ check (the_rules rules) goal (take (length tokens - 1) (drop 1 tokens)) list
      → first_fault (verify_demands provable logic rules tokens list work) ≡ first_fault (demand b (number misfit) ∷ [])
  unfolding verify_gives
  decided goal b h g e = past provable logic rules tokens list work h
      ∙ ap (λ (x : Bool). first_fault (demand x (number misfit) ∷ [])) (sym (e ∙ rw (part-all tokens 1, g)))

-- ---- a build

-- the words that a refused build leaves
cleared-all : (ws : List ℕ) (n : ℕ) → length ws ≡ n → cleared_from ws 0 ≡ zeros n
cleared-all ws n e = rw (e, sub-zero n)

pub raised-no : (b : Built) (k : ℕ) (ns es : List ℕ) (nodes edges frames : ℕ) → b ≡ not_built k nodes edges frames → length ns ≡ nodes → length es ≡ edges
    → Raised b (record { number = k; nodes = 0; edges = 0 }) ns es frames
raised-no b k ns es nodes edges frames h d e = rw h (record {
  number = refl;
  node-count = refl;
  edge_count = refl;
  nodes-in = omega arith;
  edges-in = omega arith;
  node-words = cleared-all ns nodes d;
  edge-words = cleared-all es edges e;
  frame-words = refl;
})

-- the room that is asked for lies within the slices and the limits
pub record Fits (z : lent.Room) (nodes edges : ℕ) : Type 0 where
  pub nodes-in : z.nodes ≤ nodes
  pub nodes-few : z.nodes ≤ most_nodes
  pub edges-in : row_width * z.edges ≤ edges
  pub edges_few : z.edges ≤ most_edges

pub room_fits : (z : lent.Room) (nodes edges : ℕ) → room_of z ≡ build_room nodes edges → Fits z nodes edges
room_fits z nodes edges h =
    let a : z.nodes ≡ lesser nodes most_nodes = ap (λ (x : Room). x.nodes) h in
    let b : z.edges ≡ lesser (edges / row_width) most_edges = ap (λ (x : Room). x.edges) h in
    let n = lesser-le nodes most_nodes in
    let e = lesser-le (edges / row_width) most_edges in
    record {
      nodes-in = omega (arith, a, n.0);
      nodes-few = omega (arith, a, n.1);
      edges-in = omega (arith, b, e.0);
      edges_few = omega (arith, b, e.1);
    }

pub raised-ok : (b : Built) (z : lent.Room) (x : Res Fault Grown) (c : Counts) (ns es : List ℕ) (nodes edges frames : ℕ) → b ≡ built_by nodes edges frames x
    → length ns ≡ nodes → length es ≡ edges → z.nodes ≤ nodes → row_width * z.edges ≤ edges → Holding z x c ns es
    → Raised b (record { number = accepted; nodes = c.nodes; edges = c.edges }) ns es frames
unfolding built_by
raised-ok b z x c ns es nodes edges frames h d e p q s = rw (h, s.grows) (record {
  number = refl;
  node-count = s.node-count;
  edge_count = s.edge_count;
  nodes-in = omega (arith, s.nodes-in);
  edges-in = omega (arith, s.edges-in);
  node-words = rw (s.nodes, d);
  edge-words = rw (s.edges, e);
  frame-words = refl;
})

module _ (provable logic : ℕ) (rules commands : List ℕ) (nodes edges frames : ℕ) where
  pub build-bad : rules_good provable logic rules ≡ false → build_gives provable logic rules commands nodes edges frames ≡ not_built bad_rules nodes edges frames
  unfolding build_gives build_after
  build-bad h = ap (build_after rules commands nodes edges frames) (unmet h bad_rules [])

  build-grown : rules_good provable logic rules ≡ true → build_gives provable logic rules commands nodes edges frames
      ≡ built_by nodes edges frames (garden.build (garden_bounds nodes edges frames) (the_rules rules) (the_commands commands))
  unfolding build_gives build_after
  build-grown h = ap (build_after rules commands nodes edges frames) (met h bad_rules [] ∙ none-fails)

  -- what the growing left in the slices, by what it answered
  module _ (h : rules_good provable logic rules ≡ true) (z : lent.Room) (e : room_of z ≡ build_room nodes edges) (r : Result Counts why.Fault) (ns es : List ℕ)
      (d : length ns ≡ nodes) (f : length es ≡ edges) (m : Grows z (garden.build (bounds_of z frames) (the_rules rules) (the_commands commands)) r ns es) where
    grown : build_gives provable logic rules commands nodes edges frames ≡ built_by nodes edges frames (garden.build (bounds_of z frames) (the_rules rules) (the_commands commands))
    grown = build-grown h
        ∙ ap (λ (x : Room). built_by nodes edges frames (garden.build (record { room = x; frames = frames / row_width; rows = most_taken }) (the_rules rules) (the_commands commands))) (sym e)

    pub raised-on : (c : Counts) → r ≡ Ok c
        → Raised (build_gives provable logic rules commands nodes edges frames) (record { number = accepted; nodes = c.nodes; edges = c.edges }) ns es frames
    raised-on c a =
        let s = subst (λ x. Grows z (garden.build (bounds_of z frames) (the_rules rules) (the_commands commands)) x ns es) a m in
        let k = room_fits z nodes edges e in
        raised-ok _ z _ c ns es nodes edges frames grown d f k.nodes-in k.edges-in s

    pub raised-refused : (y : why.Fault) (k : ℕ) → r ≡ Err y → k ≡ fault_number (fault_of y)
        → Raised (build_gives provable logic rules commands nodes edges frames) (record { number = k; nodes = 0; edges = 0 }) ns es frames
    unfolding built_by
    raised-refused y k a g =
        let s = subst (λ x. Grows z (garden.build (bounds_of z frames) (the_rules rules) (the_commands commands)) x ns es) a m in
        raised-no _ k ns es nodes edges frames (grown ∙ rw (s, g)) d f

-- counts of what stands there are small
pub counts-small : (z : lent.Room) (x : Res Fault Grown) (c : Counts) (r : Result Counts why.Fault) (ns es : List ℕ) → z.nodes ≤ most_nodes → z.edges ≤ most_edges → Grows z x r ns es → r ≡ Ok c
    → (c.nodes ≤ most_nodes) × (c.edges ≤ most_edges)
counts-small z x c r ns es h k s a =
    let t = subst (λ y. Grows z x y ns es) a s in
    (omega (arith, t.nodes-in), omega (arith, t.edges-in))

pub built : (b : Built) (m : Made) (ns es ns' es' fs' : List ℕ) (frames : ℕ) → Raised b m ns es frames → ns' ≡ cleared_from ns m.nodes
    → es' ≡ cleared_from es (row_width * m.edges) → fs' ≡ zeros frames → built_is m ns' es' fs' ≡ b
built b m ns es ns' es' fs' frames r d e f = λ i. record {
  number = r.number i;
  nodes = r.node-count i;
  edges = r.edge_count i;
  node-words = (d ∙ r.node-words) i;
  edge-words = (e ∙ r.edge-words) i;
  frame-words = (f ∙ r.frame-words) i;
}

-- ---- a parse

-- the table check, by the count of the rules
pub counted-tables : {r : Bool} {n m : ℕ} (ns es : List ℕ) → n ≡ m → r ≡ tables_good n ns es → r ≡ tables_good m ns es
counted-tables ns es e h = h ∙ ap (λ (k : ℕ). tables_good k ns es) e

module _ (q : Asked) (a : ℕ) (m : passes.Room) where
  refused-by : (k : ℕ) → k ≢ 0 → walk_after q a m k ≡ passes.refused k 0 0
  unfolding walk_after
  refused-by zero z = absurd (z refl)
  refused-by (suc k) z = refl

  pub tried-fault : (k : ℕ) (list : List ℕ) → k ≡ first_fault (parse_demands q) → k ≢ 0
      → Tried (walk_of q a m) (record { number = k; place = 0; length = 0; passes = 0 }) list
  unfolding walk_of
  tried-fault k list e z = rw (← e, refused-by k z)
      (record { number = refl; place = refl; counted = refl; passes = refl; within = omega arith; listed = refl })

-- ---- rules and tables, before all else

module _ (p l : ℕ) (rs ns es : List ℕ) where
  pub grounds : first_fault (ground_demands p l rs ns es) ≡ 0 → (rules_good p l rs ≡ true) × (tables_good (length (the_rules rs)) ns es ≡ true)
  grounds h =
      let a = clear _ bad_rules _ (omega arith) h in
      let b = clear _ bad_tables _ (omega arith) a.others in
      (a.passed, b.passed)

  -- their refusal comes first
  pub ground-first : (ds : List Demand) (k : ℕ) → k ≡ first_fault (ground_demands p l rs ns es) → k ≢ 0 → k ≡ first_fault (ground_demands p l rs ns es ++ ds)
  ground-first ds zero e z = absurd (z refl)
  ground-first ds (suc n) e z = sym (fault-stays (ground_demands p l rs ns es) ds n (sym e))

  module _ (g : rules_good p l rs ≡ true) (t : tables_good (length (the_rules rs)) ns es ≡ true) where
    -- and where there is none the other demands decide
    pub ground-passed : (ds : List Demand) → first_fault (ground_demands p l rs ns es ++ ds) ≡ first_fault ds
    ground-passed ds = met g bad_rules _ ∙ met t bad_tables ds

module _ (q : Asked) (g : rules_good q.provable q.logic q.rules ≡ true) (t : tables_good (length (the_rules q.rules)) q.nodes q.edges ≡ true) where
  by_length : first_fault (parse_demands q) ≡ first_fault (demand (not (ltb (length q.tokens) 2)) too_few_tokens ∷ demand (not (ltb most_tokens (length q.tokens))) too_many_tokens ∷ [])
  by_length = ground-passed q.provable q.logic q.rules q.nodes q.edges g t _

  pub few-tokens : length q.tokens < 2 → too_few_tokens ≡ first_fault (parse_demands q)
  few-tokens h = sym (by_length ∙ unmet (ap not (lt-ltb (length q.tokens) 2 h)) too_few_tokens _)

  module _ (h : 2 ≤ length q.tokens) where
    long : first_fault (parse_demands q) ≡ first_fault (demand (not (ltb most_tokens (length q.tokens))) too_many_tokens ∷ [])
    long = by_length ∙ met (ap not (le-ltb (length q.tokens) 2 h)) too_few_tokens _

    pub many-tokens : most_tokens < length q.tokens → too_many_tokens ≡ first_fault (parse_demands q)
    many-tokens k = sym (long ∙ unmet (ap not (lt-ltb most_tokens (length q.tokens) k)) too_many_tokens [])

    pub fit-tokens : length q.tokens ≤ most_tokens → first_fault (parse_demands q) ≡ 0
    unfolding first_fault
    fit-tokens k = long ∙ met (ap not (le-ltb most_tokens (length q.tokens) k)) too_many_tokens []

-- what the walk answered, as what is answered
pub tried-walk : (o w : Walked) (r : Result walked.Walked Halted) (list : List ℕ) → Answers (walks.answer_of r) list o → o ≡ w
    → Tried w (answer_of r) list
tried-walk o w r list h e =
    let p = h.walked ∙ e in
    record {
      number = ap (λ (v : Walked). v.number) p;
      place = ap (λ (v : Walked). v.place) p;
      counted = h.length ∙ ap (λ (v : Walked). length v.list) e;
      passes = ap (λ (v : Walked). v.passes) p;
      within = h.within;
      listed = ap (λ (v : Walked). v.list) p;
    }

pub parsed-whole : (s : Lent) (w : Walked) (r : Answer) (list frames' list' work' : List ℕ) → Tried w r list → length list ≡ s.list
    → frames' ≡ zeros s.frames → list' ≡ cleared_from list r.length → work' ≡ zeros s.work → parsed_is r frames' list' work' ≡ parsed s w
unfolding parsed
parsed-whole s w r list frames' list' work' t e f l k =
    let z : list' ≡ padded w.list s.list = l ∙ rw (t.listed, e) in
    λ i. record {
      number = t.number i;
      place = t.place i;
      length = t.counted i;
      passes = t.passes i;
      frame-words = f i;
      list-words = z i;
      work-words = k i;
    }
