-- The promises, about what the entry points give back, for any words at all.
use Rattle.std.specs.Prelude.{◌≡◌, Bool, List, [], ◌∷◌, ◌≢◌, ◌↔◌, eqb, get_or, take, drop}
use Rattle.std.proofs.Math.Path.{refl, ap}
use Rattle.std.proofs.Common.{sym, ◌∙◌}
use Rattle.std.proofs.Math.Bool.{true, false, not}
use Rattle.std.proofs.lemmas.Bool.{false≢true}
use Rattle.std.proofs.Math.Option.{Option, some, none}
use Prim.Native.Nat.{ℕ, zero, suc, ◌+◌, ◌*◌, ◌-◌, ◌/◌, ◌≤◌, ◌<◌}
use Rattle.std.proofs.Math.Nat.{sub-zero}
use native.Mathlib.Omega.{arith}
use Rattle.std.proofs.Math.ListN.{length, length-replicate}
use Rattle.std.proofs.Math.Seq.{take_at}
use borrow.Author.Tests.{ltb-false, not-true, le-ltb}
use Rattle.words.specs.Limits.{most_tokens, most_nodes, most_edges, row_width, most_taken}
use Rattle.words.specs.Lent.{zeros, padded}
use Rattle.words.specs.Outcome.{Res, ok, no, pick, lesser, Demand, demand, first_fault}
use Rattle.words.specs.Numbers.{too_few_tokens, no_pass, bad_tables, too_many_tokens, bad_rules, misfit, no_frame, no_entry, number, Fault, collides, no_node, no_edge, sixth_reduce, far_offset, bad_copy, many_rows, no_clone, fault_number}
use Rattle.words.proofs.Theorems.Tests.{lesser-le, lesser-is}
use Rattle.words.proofs.Theorems.Faults.{met, clear, none_left, one_more, fault-is}
use Rattle.rules.specs.Rules.{Rule, symbol, the_rules, rules_good}
use Rattle.rules.proofs.Theorems.Proper.{Proper, rules-proper}
use Rattle.rows.specs.Rows.{Edge, edges_of, edge_words, find, tables_good}
use Rattle.rows.proofs.Theorems.Fair.{RowOk, found, tables-fair}
use Rattle.rows.proofs.Theorems.Words.{edge_words-length}
use Rattle.words.proofs.Theorems.Parts.{padded-length}
use Rattle.tree.specs.Grow.{Grown, grow}
use Rattle.tree.proofs.Theorems.Collide.{Among, first, later, Collision}
use Rattle.garden.specs.Garden.{the_commands}
use Rattle.garden.specs.Garden as garden
use Rattle.garden.proofs.Theorems.Alone.{no-commands, conversions-alone}
use Rattle.garden.proofs.Theorems.Built.{built-inv, built-tables-pass}
use Rattle.garden.proofs.Theorems.Faults.{build-collides}
use Rattle.garden.proofs.Theorems.Faults as refusals
use Rattle.garden.proofs.Theorems.Frames as clones
use Rattle.formula.specs.Check.{check}
use Rattle.formula.specs.Meaning.{Tree}
use Rattle.formula.proofs.Theorems.Check.{check_sound, check-complete, unique}
use Rattle.walk.specs.Walk.{Tables, tables_of, Walked, wanted_of, walk}
use Rattle.walk.specs.Walk as passes
use Rattle.walk.proofs.Theorems.Mono.{More, Roomy, walk-mono}
use Rattle.walk.proofs.Theorems.Ample.{tables-ok, tables-slim}
use Rattle.walk.proofs.Theorems.Bound.{walk-bound}
use Rattle.walk.proofs.Theorems.Frames.{walk-frames}
use Rattle.walk.proofs.Theorems.Length.{walk-list}
use Rattle.walk.proofs.Theorems.Within.{walk-within}
use Rattle.walk.proofs.Theorems.Sound.{walk-checked, walk-unlisted, walk-numbers, walk-placeless, walk-place}
use Rattle.desk.specs.Entry.{Built, not_built, built_by, build_after, build_room, garden_bounds, build_gives, Parsed, Lent, walk_room, parsed, the_tables, Asked, parse_demands, walk_after, walk_of, parse_gives, verify_gives, Means}

-- ---- determined: what an entry point gives back is a value of its definition, so two results that meet it are one, every lent word included

pub determined : {A : Type 0} {d x y : A} → x ≡ d → y ≡ d → x ≡ y
determined e f = e ∙ sym f

-- ---- what the demands before a walk say

pub record Passed (q : Asked) : Type 0 where
  pub rules : rules_good q.provable q.logic q.rules ≡ true
  pub tables : tables_good (length (the_rules q.rules)) q.nodes q.edges ≡ true
  pub long : 2 ≤ length q.tokens
  pub short : length q.tokens ≤ most_tokens

pub demands-passed : (q : Asked) → first_fault (parse_demands q) ≡ 0 → Passed q
demands-passed q h =
    let a = clear _ bad_rules _ (omega arith) h in
    let b = clear _ bad_tables _ (omega arith) a.others in
    let c = clear _ too_few_tokens _ (omega arith) b.others in
    let d = clear _ too_many_tokens _ (omega arith) c.others in
    record {
      rules = a.passed;
      tables = b.passed;
      long = ltb-false _ _ (not-true _ c.passed);
      short = ltb-false _ _ (not-true _ d.passed);
    }

-- ---- a parse, by its two ways: a refusal before the walk, or the walk

module _ (q : Asked) where
  abbrev walked : ℕ → passes.Room → Walked
  walked a m = walk (the_tables q.rules q.nodes q.edges) q.provable q.logic a m q.tokens

  after-by : (P : Walked → Type 0) (a : ℕ) (m : passes.Room) (k : ℕ) → (k ≡ 0 → P (walked a m)) → (k ≢ 0 → P (passes.refused k 0 0))
      → P (walk_after q a m k)
  unfolding walk_after
  after-by P a m zero h r = h refl
  after-by P a m (suc k) h r = r λ e. omega arith

  -- no demand fails
  pub walk-goes : (a : ℕ) (m : passes.Room) → first_fault (parse_demands q) ≡ 0
      → walk (the_tables q.rules q.nodes q.edges) q.provable q.logic a m q.tokens ≡ walk_of q a m
  unfolding walk_of walk_after
  walk-goes a m h = rw h

  -- a refusal before the walk is one of four
  early : (n : ℕ) → n ≢ bad_rules → n ≢ bad_tables → n ≢ too_few_tokens → n ≢ too_many_tokens → first_fault (parse_demands q) ≢ 0 → first_fault (parse_demands q) ≢ n
  early n a b c d = fault-is (λ k. k ≢ 0 → k ≢ n) (λ z. absurd (z refl))
      (one_more (λ z e. a (sym e)) (one_more (λ z e. b (sym e)) (one_more (λ z e. c (sym e)) (one_more (λ z e. d (sym e)) none_left))))

  -- a fact of the walk's number, and of no refusal before it
  number_is : (n a : ℕ) (m : passes.Room) → n ≢ bad_rules → n ≢ bad_tables → n ≢ too_few_tokens → n ≢ too_many_tokens → (Passed q → (walked a m).number ≢ n) → (walk_of q a m).number ≢ n
  unfolding walk_of
  number_is n a m h₁ h₂ h₃ h₄ h = after-by (λ w. w.number ≢ n) a m (first_fault (parse_demands q)) (λ z. h (demands-passed q z)) (early n h₁ h₂ h₃ h₄)

  -- ---- more_room

  after-mono : (a a' : ℕ) (m m' : passes.Room) → More m m' → a ≤ a' → (k : ℕ) → Roomy (walk_after q a m k) → walk_after q a' m' k ≡ walk_after q a m k
  unfolding walk_after
  after-mono a a' m m' h le zero y = walk-mono _ _ _ a a' m m' _ h le y
  after-mono a a' m m' h le (suc k) y = refl

  pub walk_of-mono : (a a' : ℕ) (m m' : passes.Room) → More m m' → a ≤ a' → Roomy (walk_of q a m) → walk_of q a' m' ≡ walk_of q a m
  unfolding walk_of
  walk_of-mono a a' m m' h le y = after-mono a a' m m' h le (first_fault (parse_demands q)) y

-- no slice is shorter
pub record Wider (s s' : Lent) : Type 0 where
  pub frames : s.frames ≤ s'.frames
  pub list : s.list ≤ s'.list
  pub work : s.work ≤ s'.work

pub room-grows : (s s' : Lent) → Wider s s' → More (walk_room s) (walk_room s')
room-grows s s' w =
    let h = lesser-le s.list s.work in
    record { frames = w.frames; list = lesser-is s'.list s'.work (lesser s.list s.work) (omega (arith, w.list, h.0)) (omega (arith, w.work, h.1)) }

-- the list that a parse leaves in its slice
abbrev pub list_of : Parsed → List ℕ
list_of r = take r.length r.list-words

pub list-of : (s : Lent) (w : Walked) → list_of (parsed s w) ≡ w.list
unfolding parsed
list-of s w = take_at w.list (zeros (s.list - length w.list)) (length w.list) refl

-- the same answer: number, place, list and passes
pub record Same (x y : Parsed) : Type 0 where
  pub number : x.number ≡ y.number
  pub place : x.place ≡ y.place
  pub length : x.length ≡ y.length
  pub list : list_of x ≡ list_of y
  pub passes : x.passes ≡ y.passes

parsed-same : (s s' : Lent) (w w' : Walked) → w' ≡ w → Same (parsed s' w') (parsed s w)
unfolding parsed
parsed-same s s' w w' e = record {
  number = ap (λ (v : Walked). v.number) e;
  place = ap (λ (v : Walked). v.place) e;
  length = ap (λ (v : Walked). length v.list) e;
  list = list-of s' w' ∙ ap (λ (v : Walked). v.list) e ∙ sym (list-of s w);
  passes = ap (λ (v : Walked). v.passes) e;
}

-- a parse did not run short
pub record Enough (r : Parsed) : Type 0 where
  pub passes : r.number ≢ no_pass
  pub frames : r.number ≢ number no_frame
  pub list : r.number ≢ number no_entry

pub more_room : (q : Asked) (a a' : ℕ) (s s' : Lent) → a ≤ a' → Wider s s' → Enough (parse_gives q a s) → Same (parse_gives q a' s') (parse_gives q a s)
unfolding parse_gives parsed
more_room q a a' s s' le w y = parsed-same s s' _ _
    (walk_of-mono q a a' (walk_room s) (walk_room s') (room-grows s s' w) le (record { passes = y.passes; frames = y.frames; list = y.list }))

-- ---- a token outside the range of symbols matches nothing

pub no-match : (q : Asked) → Passed q → (n k x : ℕ) → symbol x ≡ false → (the_tables q.rules q.nodes q.edges).edge n k x ≡ none
unfolding tables_of
no-match q p n k x h = go (find (edges_of q.edges) n k x) refl
  where
    go : (o : Option Edge) → find (edges_of q.edges) n k x ≡ o → o ≡ none
    go none e = refl
    go (some d) e =
        let r = found (RowOk _ q.nodes) (edges_of q.edges) n k x d (tables-fair _ q.nodes q.edges p.tables).rows e in
        absurd (false≢true (sym h ∙ ap symbol (sym r.3) ∙ r.0.symbol-in))

-- ---- four-n: n tokens after the typecode; and the rooms that are always enough

-- a statement with tokens after its typecode
by-tokens : (ts : List ℕ) (P : List ℕ → Type 0) → 2 ≤ length ts → ((t : ℕ) (xs : List ℕ) → ts ≡ t ∷ xs → 1 ≤ length xs → P (t ∷ xs)) → P ts
by-tokens [] P h f = absurd (omega arith)
by-tokens (t ∷ xs) P h f = f t xs refl (omega arith)

module _ (q : Asked) (a : ℕ) (s : Lent) where
  abbrev answers : List ℕ → Walked
  answers ts = walk (the_tables q.rules q.nodes q.edges) q.provable q.logic a (walk_room s) ts

  pub four-n : 4 * (length q.tokens - 1) ≤ a → (parse_gives q a s).number ≢ no_pass
  unfolding parse_gives parsed
  four-n h = number_is q no_pass a (walk_room s) (λ e. omega arith) (λ e. omega arith) (λ e. omega arith) (λ e. omega arith)
      λ p. by-tokens q.tokens (λ ts. (answers ts).number ≢ no_pass) p.long
      λ t xs e l. walk-bound _ (tables-ok (the_rules q.rules) q.nodes q.edges p.tables) _ _ a (walk_room s) t xs l (omega (arith, ap length e))

  pub frames-enough : length q.tokens ≤ s.frames + 2 → (parse_gives q a s).number ≢ number no_frame
  unfolding parse_gives parsed number
  frames-enough h = number_is q (number no_frame) a (walk_room s) (λ e. omega arith) (λ e. omega arith) (λ e. omega arith) (λ e. omega arith)
      λ p. by-tokens q.tokens (λ ts. (answers ts).number ≢ number no_frame) p.long
      λ t xs e l. walk-frames _ (tables-ok (the_rules q.rules) q.nodes q.edges p.tables).root _ _ a (walk_room s) t xs (omega (arith, ap length e))

  pub list-enough : 18 * (length q.tokens - 1) ≤ 7 + s.list → 18 * (length q.tokens - 1) ≤ 7 + s.work → (parse_gives q a s).number ≢ number no_entry
  unfolding parse_gives parsed number
  list-enough h k = number_is q (number no_entry) a (walk_room s) (λ e. omega arith) (λ e. omega arith) (λ e. omega arith) (λ e. omega arith)
      λ p. by-tokens q.tokens (λ ts. (answers ts).number ≢ number no_entry) p.long
      λ t xs e l.
      let r : 18 * length xs - 7 ≤ lesser s.list s.work = lesser-is s.list s.work (18 * length xs - 7) (omega (arith, ap length e)) (omega (arith, ap length e)) in
      walk-list _ (tables-ok (the_rules q.rules) q.nodes q.edges p.tables) (tables-slim (the_rules q.rules) q.nodes q.edges p.tables) _ _ a (walk_room s) t xs (omega (arith, r))

-- ---- yes-exactly: the check alone says 0 exactly for a list that means the statement

-- what is asked besides
pub record Asks (provable logic : ℕ) (rules tokens list : List ℕ) (work : ℕ) : Type 0 where
  pub good : rules_good provable logic rules ≡ true
  pub long : 2 ≤ length tokens
  pub short : length tokens ≤ most_tokens
  pub room : length list ≤ work

module _ (provable logic : ℕ) (rules tokens list : List ℕ) (work : ℕ) where
  pub yes-asks : (verify_gives provable logic rules tokens list work).number ≡ 0 → Asks provable logic rules tokens list work
  unfolding verify_gives number
  yes-asks h =
      let a = clear _ bad_rules _ (omega arith) h in
      let b = clear _ too_few_tokens _ (omega arith) a.others in
      let c = clear _ too_many_tokens _ (omega arith) b.others in
      let d = clear _ (number no_entry) _ (omega arith) c.others in
      record {
        good = a.passed;
        long = ltb-false _ _ (not-true _ b.passed);
        short = ltb-false _ _ (not-true _ c.passed);
        room = ltb-false _ _ (not-true _ d.passed);
      }

  -- past the other demands the check decides
  abbrev pub checked : Bool
  checked = check (the_rules rules) (wanted_of provable logic (get_or tokens 0 0)) (drop 1 tokens) list

  pub past : Asks provable logic rules tokens list work → (verify_gives provable logic rules tokens list work).number ≡ first_fault (demand checked (number misfit) ∷ [])
  unfolding verify_gives
  past h = met h.good bad_rules _ ∙ met (ap not (le-ltb _ _ h.long)) too_few_tokens _ ∙ met (ap not (le-ltb _ _ h.short)) too_many_tokens _
      ∙ met (ap not (le-ltb _ _ h.room)) (number no_entry) _

checked-means : (R : List Rule) (provable logic : ℕ) (tokens list : List ℕ) → 2 ≤ length tokens
    → (check R (wanted_of provable logic (get_or tokens 0 0)) (drop 1 tokens) list ≡ true) ↔ Means R provable logic tokens list
checked-means R provable logic [] list h = absurd (omega arith)
checked-means R provable logic (t ∷ xs) list h = (check_sound R _ xs list, check-complete R _ xs list)

pub none-fails : first_fault [] ≡ 0
unfolding first_fault
none-fails = refl

pub yes-exactly : (provable logic : ℕ) (rules tokens list : List ℕ) (work : ℕ) → Asks provable logic rules tokens list work
    → ((verify_gives provable logic rules tokens list work).number ≡ 0) ↔ Means (the_rules rules) provable logic tokens list
unfolding number
yes-exactly provable logic rules tokens list work h =
    let m = checked-means (the_rules rules) provable logic tokens list h.long in
    let p = past provable logic rules tokens list work h in (
      λ e. m.0 (clear _ (number misfit) [] (omega arith) (sym p ∙ e)).passed,
      λ t. p ∙ met (m.1 t) (number misfit) [] ∙ none-fails,
    )

-- ---- one-meaning: two trees with one list have the same typecode and the same tokens

pub one-meaning : (R : List Rule) {t t' : ℕ} {ts ts' l : List ℕ} → Tree R t ts l → Tree R t' ts' l → (t ≡ t') × (ts ≡ ts')
one-meaning R p p' = unique R p p'

-- ---- accepted-means: what a parse accepts means the statement

accepted-by : (q : Asked) (a : ℕ) (m : passes.Room) → (walk_of q a m).number ≡ 0 → Means (the_rules q.rules) q.provable q.logic q.tokens (walk_of q a m).list
unfolding walk_of tables_of
accepted-by q a m = after-by q (λ w. w.number ≡ 0 → Means (the_rules q.rules) q.provable q.logic q.tokens w.list) a m (first_fault (parse_demands q))
    (λ z. by-tokens q.tokens (λ ts. (walk (the_tables q.rules q.nodes q.edges) q.provable q.logic a m ts).number ≡ 0
    → Means (the_rules q.rules) q.provable q.logic ts (walk (the_tables q.rules q.nodes q.edges) q.provable q.logic a m ts).list) (demands-passed q z).long
    λ t xs _ _ e. check_sound (the_rules q.rules) _ xs _ (walk-checked (the_tables q.rules q.nodes q.edges) _ _ a m t xs e))
    λ z e. absurd (z e)

pub accepted-means : (q : Asked) (a : ℕ) (s : Lent) → (parse_gives q a s).number ≡ 0 → Means (the_rules q.rules) q.provable q.logic q.tokens (list_of (parse_gives q a s))
unfolding parse_gives parsed
accepted-means q a s e = rw (list-of s (walk_of q a (walk_room s))) (accepted-by q a (walk_room s) e)

-- ---- places: 2 and 3 come with the place of a token after the typecode, and no other answer with a place

-- of n tokens, the typecode among them
pub record Points (n number place : ℕ) : Type 0 where
  pub unparseable : number ≡ 2 → (1 ≤ place) × (place < n)
  pub too_short : number ≡ 3 → (1 ≤ place) × (place < n)
  pub others : number ≢ 2 → number ≢ 3 → place ≡ 0

points-walk : (q : Asked) (a : ℕ) (m : passes.Room) → Passed q → let w = walked q a m in Points (length q.tokens) w.number w.place
unfolding tables_of
points-walk q a m p =
    let T = the_tables q.rules q.nodes q.edges in
    let z = (tables-ok (the_rules q.rules) q.nodes q.edges p.tables).root in
    by-tokens q.tokens (λ ts. let w = walk T q.provable q.logic a m ts in Points (length ts) w.number w.place) p.long λ t xs _ l.
    let at = walk-place T q.provable q.logic a m t xs z l in
    record {
      unparseable = λ e. let r = at (omega arith) (omega arith) in (r.0, omega (arith, r.1));
      too_short = λ e. let r = at (omega arith) (omega arith) in (r.0, omega (arith, r.1));
      others = walk-placeless T q.provable q.logic a m t xs;
    }

pub places : (q : Asked) (a : ℕ) (s : Lent) → Points (length q.tokens) (parse_gives q a s).number (parse_gives q a s).place
unfolding parse_gives parsed walk_of
places q a s = after-by q (λ w. Points (length q.tokens) w.number w.place) a (walk_room s) (first_fault (parse_demands q))
    (λ z. points-walk q a (walk_room s) (demands-passed q z))
    λ z. record {
      unparseable = λ e. absurd (early q 2 (λ e. omega arith) (λ e. omega arith) (λ e. omega arith) (λ e. omega arith) z e);
      too_short = λ e. absurd (early q 3 (λ e. omega arith) (λ e. omega arith) (λ e. omega arith) (λ e. omega arith) z e);
      others = λ e f. refl;
    }

-- ---- refused-zeros: a refusal leaves zeros in every slice lent for writing

unlisted : (q : Asked) (a : ℕ) (m : passes.Room) → (walk_of q a m).number ≢ 0 → (walk_of q a m).list ≡ []
unfolding walk_of
unlisted q a m = after-by q (λ w. w.number ≢ 0 → w.list ≡ []) a m (first_fault (parse_demands q))
    (λ z. by-tokens q.tokens (λ ts. (walk (the_tables q.rules q.nodes q.edges) q.provable q.logic a m ts).number ≢ 0
    → (walk (the_tables q.rules q.nodes q.edges) q.provable q.logic a m ts).list ≡ []) (demands-passed q z).long
    λ t xs _ _ n. walk-unlisted _ _ _ a m t xs n)
    λ z n. refl

-- a parse: frame and work slices are zero whatever the answer
pub record Cleared (s : Lent) (r : Parsed) : Type 0 where
  pub length : r.length ≡ 0
  pub frames : r.frame-words ≡ zeros s.frames
  pub list : r.list-words ≡ zeros s.list
  pub work : r.work-words ≡ zeros s.work

pub refused-zeros-parse : (q : Asked) (a : ℕ) (s : Lent) → (parse_gives q a s).number ≢ 0 → Cleared s (parse_gives q a s)
unfolding parse_gives parsed
refused-zeros-parse q a s n =
    let e = unlisted q a (walk_room s) n in
    record { length = ap length e; frames = refl; list = ap (λ (l : List ℕ). padded l s.list) e ∙ rw sub-zero; work = refl }

-- a build
pub record Empty (nodes edges frames : ℕ) (r : Built) : Type 0 where
  pub node-count : r.nodes ≡ 0
  pub edge_count : r.edges ≡ 0
  pub node-zeros : r.node-words ≡ zeros nodes
  pub edge-zeros : r.edge-words ≡ zeros edges
  pub frame-zeros : r.frame-words ≡ zeros frames

module _ (rules commands : List ℕ) (nodes edges frames : ℕ) where
  empty-by : (k : ℕ) → Empty nodes edges frames (not_built k nodes edges frames)
  empty-by k = record { node-count = refl; edge_count = refl; node-zeros = refl; edge-zeros = refl; frame-zeros = refl }

  built-empty : (o : Res Fault Grown) → (built_by nodes edges frames o).number ≢ 0 → Empty nodes edges frames (built_by nodes edges frames o)
  unfolding built_by
  built-empty (ok g) n = absurd (n refl)
  built-empty (no y) n = empty-by (fault_number y)

  after-empty : (k : ℕ) → (build_after rules commands nodes edges frames k).number ≢ 0 → Empty nodes edges frames (build_after rules commands nodes edges frames k)
  unfolding build_after
  after-empty zero n = built-empty _ n
  after-empty (suc k) n = empty-by (suc k)

  pub refused-zeros-build : (provable logic : ℕ) → (build_gives provable logic rules commands nodes edges frames).number ≢ 0
      → Empty nodes edges frames (build_gives provable logic rules commands nodes edges frames)
  unfolding build_gives
  refused-zeros-build provable logic n = after-empty _ n

-- the check alone clears its work slice whatever it answers
pub refused-zeros-verify : (provable logic : ℕ) (rules tokens list : List ℕ) (work : ℕ) → (verify_gives provable logic rules tokens list work).work-words ≡ zeros work
unfolding verify_gives
refused-zeros-verify provable logic rules tokens list work = refl

-- ---- lengths-kept: each slice comes back as long as it was lent, so the list and the tables fit

pub record AsLent (s : Lent) (r : Parsed) : Type 0 where
  pub frames : length r.frame-words ≡ s.frames
  pub list : length r.list-words ≡ s.list
  pub work : length r.work-words ≡ s.work

pub listed_in : (q : Asked) (a : ℕ) (s : Lent) → length (walk_of q a (walk_room s)).list ≤ s.list
unfolding walk_of
listed_in q a s = after-by q (λ w. length w.list ≤ s.list) a (walk_room s) (first_fault (parse_demands q))
    (λ z. omega (arith, walk-within (the_tables q.rules q.nodes q.edges) q.provable q.logic a (walk_room s) q.tokens, (lesser-le s.list s.work).0))
    (λ z. omega arith)

pub lengths-kept-parse : (q : Asked) (a : ℕ) (s : Lent) → AsLent s (parse_gives q a s)
unfolding parse_gives parsed
lengths-kept-parse q a s =
    record { frames = length-replicate s.frames 0; list = padded-length (walk_of q a (walk_room s)).list s.list (listed_in q a s); work = length-replicate s.work 0 }

pub lengths-kept-verify : (provable logic : ℕ) (rules tokens list : List ℕ) (work : ℕ)
    → length (verify_gives provable logic rules tokens list work).work-words ≡ work
unfolding verify_gives
lengths-kept-verify provable logic rules tokens list work = length-replicate work 0

module _ (provable logic : ℕ) (rules commands : List ℕ) (nodes edges frames : ℕ) where
  abbrev AllKept : Built → Type 0
  AllKept b = (length b.node-words ≡ nodes) × (length b.edge-words ≡ edges) × (length b.frame-words ≡ frames)

  not-built-kept : (k : ℕ) → AllKept (not_built k nodes edges frames)
  not-built-kept k = (length-replicate nodes 0, length-replicate edges 0, length-replicate frames 0)

  built-kept : rules_good provable logic rules ≡ true → (o : Res Fault Grown)
      → garden.build (garden_bounds nodes edges frames) (the_rules rules) (the_commands commands) ≡ o → AllKept (built_by nodes edges frames o)
  unfolding built_by
  built-kept r (no y) h = not-built-kept (fault_number y)
  built-kept r (ok g) h =
      let i = built-inv provable logic rules (garden_bounds nodes edges frames) (the_commands commands) r g h in (
        padded-length g.nodes nodes (omega (arith, i.nodes-in, (lesser-le nodes most_nodes).0)),
        padded-length (edge_words g.edges) edges (omega (arith, edge_words-length g.edges, i.edges-in, (lesser-le (edges / row_width) most_edges).0)),
        length-replicate frames 0,
      )

  after_kept : (k : ℕ) → first_fault (demand (rules_good provable logic rules) bad_rules ∷ []) ≡ k → AllKept (build_after rules commands nodes edges frames k)
  unfolding build_after
  after_kept zero h = built-kept (clear _ bad_rules _ (omega arith) h).passed _ refl
  after_kept (suc k) h = not-built-kept (suc k)

  pub lengths-kept-build : AllKept (build_gives provable logic rules commands nodes edges frames)
  unfolding build_gives
  lengths-kept-build = after_kept _ refl

-- ---- built-tables-pass: tables that a build answered 0 for, cut to its counts, are never bad for a parse with the same rules

-- the tables of a build, cut to its counts
abbrev pub nodes_in : Built → List ℕ
nodes_in b = take b.nodes b.node-words

abbrev pub edges_in : Built → List ℕ
edges_in b = take (row_width * b.edges) b.edge-words

pub fault-not-0 : (y : Fault) → fault_number y ≢ 0
unfolding fault_number
fault-not-0 collides e = omega arith
fault-not-0 no_node e = omega arith
fault-not-0 no_edge e = omega arith
fault-not-0 sixth_reduce e = omega arith
fault-not-0 far_offset e = omega arith
fault-not-0 bad_copy e = omega arith
fault-not-0 many_rows e = omega arith
fault-not-0 no_clone e = omega arith

module _ (provable logic : ℕ) (rules commands : List ℕ) (nodes edges frames : ℕ) where
  abbrev Good : Built → Type 0
  Good b = b.number ≡ 0 → tables_good (length (the_rules rules)) (nodes_in b) (edges_in b) ≡ true

  built-good : rules_good provable logic rules ≡ true → (o : Res Fault Grown)
      → garden.build (garden_bounds nodes edges frames) (the_rules rules) (the_commands commands) ≡ o → Good (built_by nodes edges frames o)
  unfolding built_by
  built-good r (no y) h e = absurd (fault-not-0 y e)
  built-good r (ok g) h e = rw (
    take_at g.nodes (zeros (nodes - length g.nodes)) (length g.nodes) refl,
    take_at (edge_words g.edges) (zeros (edges - length (edge_words g.edges))) (row_width * length g.edges) (edge_words-length g.edges),
  ) (built-tables-pass provable logic rules (garden_bounds nodes edges frames) (the_commands commands) (lesser-le nodes most_nodes).1 (lesser-le (edges / row_width) most_edges).1 r g h)

  after-good : (k : ℕ) → first_fault (demand (rules_good provable logic rules) bad_rules ∷ []) ≡ k → Good (build_after rules commands nodes edges frames k)
  unfolding build_after
  after-good zero h e = built-good (clear _ bad_rules _ (omega arith) h).passed _ refl e
  after-good (suc k) h e = absurd (omega arith)

  pub built-passes : Good (build_gives provable logic rules commands nodes edges frames)
  unfolding build_gives
  built-passes = after-good _ refl

-- the tables of a build, with a statement
abbrev pub asked_of : ℕ → ℕ → List ℕ → Built → List ℕ → Asked
asked_of provable logic rules b tokens = record { provable = provable; logic = logic; rules = rules; nodes = nodes_in b; edges = edges_in b; tokens = tokens }

-- no walk says that tables are bad
not-walked : (q : Asked) (a : ℕ) (m : passes.Room) → Passed q → (walk (the_tables q.rules q.nodes q.edges) q.provable q.logic a m q.tokens).number ≢ bad_tables
not-walked q a m p = by-tokens q.tokens (λ ts. (walk (the_tables q.rules q.nodes q.edges) q.provable q.logic a m ts).number ≢ bad_tables) p.long
    λ t xs _ _ e. omega (arith, (walk-numbers (the_tables q.rules q.nodes q.edges) q.provable q.logic a m t xs).1)

-- tables that pass are not what is refused
not-8 : (b c : Bool) (ds : List Demand) → (b ≡ true → c ≡ true) → first_fault ds ≢ bad_tables → first_fault (demand b bad_rules ∷ demand c bad_tables ∷ ds) ≢ bad_tables
unfolding first_fault
not-8 true true ds h r = r
not-8 true false ds h r = λ e. false≢true (h refl)
not-8 false c ds h r = λ e. omega arith

pub built-tables-pass-parse : (provable logic : ℕ) (rules commands : List ℕ) (nodes edges frames : ℕ) → let b = build_gives provable logic rules commands nodes edges frames in
    b.number ≡ 0 → (tokens : List ℕ) (a : ℕ) (s : Lent) → (parse_gives (asked_of provable logic rules b tokens) a s).number ≢ bad_tables
unfolding parse_gives parsed walk_of
built-tables-pass-parse provable logic rules commands nodes edges frames e tokens a s =
    let q = asked_of provable logic rules (build_gives provable logic rules commands nodes edges frames) tokens in
    after-by q (λ w. w.number ≢ bad_tables) a (walk_room s) (first_fault (parse_demands q)) (λ z. not-walked q a (walk_room s) (demands-passed q z))
    λ z. not-8 _ _ _ (λ r. built-passes provable logic rules commands nodes edges frames e) (fault-is (λ k. k ≢ bad_tables) (λ e. omega arith) (one_more (λ e. omega arith) (one_more (λ e. omega arith) none_left)))

-- ---- what a build is refused with, and what garden says

-- a fault by its number
unfoldable fault_at : ℕ → Fault
fault_at k = pick (eqb k 11) collides (pick (eqb k 12) no_node (pick (eqb k 13) no_edge (pick (eqb k 14) sixth_reduce (pick (eqb k 15) far_offset
    (pick (eqb k 16) bad_copy (pick (eqb k 17) many_rows no_clone))))))

fault-at : (y : Fault) → fault_at (fault_number y) ≡ y
unfolding fault_at fault_number
fault-at collides = refl
fault-at no_node = refl
fault-at no_edge = refl
fault-at sixth_reduce = refl
fault-at far_offset = refl
fault-at bad_copy = refl
fault-at many_rows = refl
fault-at no_clone = refl

faulted : (nodes edges frames : ℕ) (y : Fault) (o : Res Fault Grown) → ((built_by nodes edges frames o).number ≡ fault_number y) ↔ (o ≡ no y)
unfolding built_by
faulted nodes edges frames y (ok g) = (λ e. absurd (fault-not-0 y (sym e)), λ e. let z : ◌≡◌ {A = ℕ} 0 1 = cc in absurd (omega arith))
faulted nodes edges frames y (no x) = (λ e. ap no (sym (fault-at x) ∙ ap fault_at e ∙ fault-at y), λ e. cc)

-- ---- collide-exactly: a build answers 11 exactly if a body equals, begins or continues an earlier placed one

-- good rules have bodies
bodied : (R : List Rule) → Proper R → (r : Rule) → Among r R → r.body ≢ []
bodied R a r = by r R a
  where
    by : (r : Rule) (R : List Rule) → Proper R → Among r R → r.body ≢ []
    by r R a (first S) e = omega (arith, a.0.some_item, ap length e)
    by r R a (later p S i) e = by r S a.1 i e

pub collide-exactly : (provable logic : ℕ) (rules commands : List ℕ) (nodes edges frames : ℕ) → rules_good provable logic rules ≡ true → 1 ≤ nodes
    → ((build_gives provable logic rules commands nodes edges frames).number ≡ 11) ↔ Collision (build_room nodes edges) (the_rules rules)
unfolding build_gives build_after fault_number
collide-exactly provable logic rules commands nodes edges frames h n =
    let b = garden_bounds nodes edges frames in
    let c = build-collides b (the_rules rules) (the_commands commands) (bodied (the_rules rules) (rules-proper provable logic rules h)) in
    let m = faulted nodes edges frames collides (garden.build b (the_rules rules) (the_commands commands)) in
    let z : 1 ≤ lesser nodes most_nodes = lesser-is nodes most_nodes 1 n (omega arith) in
    let e : first_fault (demand (rules_good provable logic rules) bad_rules ∷ []) ≡ 0 = met h bad_rules [] ∙ none-fails in
    rw e (λ k. (c.0 (m.0 k)).1, λ k. m.1 (c.1 (z, k)))

-- ---- no-commands-build: without command words, and with the conversions alone, whatever the frames, a build is the tree of the rules

-- the tree of good rules
abbrev pub plainly : ℕ → ℕ → List ℕ → ℕ → ℕ → ℕ → Built
plainly provable logic rules nodes edges frames = pick (rules_good provable logic rules)
    (built_by nodes edges frames (grow (build_room nodes edges) (the_rules rules))) (not_built bad_rules nodes edges frames)

module _ (rules commands : List ℕ) (nodes edges frames : ℕ) where
  plain_by : garden.build (garden_bounds nodes edges frames) (the_rules rules) (the_commands commands) ≡ grow (build_room nodes edges) (the_rules rules) → (b : Bool)
      → build_after rules commands nodes edges frames (first_fault (demand b bad_rules ∷ []))
      ≡ pick b (built_by nodes edges frames (grow (build_room nodes edges) (the_rules rules))) (not_built bad_rules nodes edges frames)
  unfolding build_after first_fault
  plain_by e true = ap (built_by nodes edges frames) e
  plain_by e false = refl

pub no-commands-build : (provable logic : ℕ) (rules : List ℕ) (nodes edges frames : ℕ)
    → (build_gives provable logic rules [] nodes edges frames ≡ plainly provable logic rules nodes edges frames)
    × (build_gives provable logic rules (2 ∷ []) nodes edges frames ≡ plainly provable logic rules nodes edges frames)
unfolding build_gives
no-commands-build provable logic rules nodes edges frames =
    let b = garden_bounds nodes edges frames in (
      plain_by rules [] nodes edges frames (no-commands b (the_rules rules)) (rules_good provable logic rules),
      plain_by rules (2 ∷ []) nodes edges frames (conversions-alone b (the_rules rules)) (rules_good provable logic rules),
    )

-- ---- more-frames: a longer frame slice changes nothing but its own zeros, unless there was no frame for a clone (6)

-- the same, with so many words of frames
abbrev pub framed : ℕ → Built → Built
framed n b = record { number = b.number; nodes = b.nodes; edges = b.edges; node-words = b.node-words; edge-words = b.edge-words; frame-words = zeros n }

module _ (rules commands : List ℕ) (nodes edges frames : ℕ) where
  built-framed : (n : ℕ) (o : Res Fault Grown) → built_by nodes edges n o ≡ framed n (built_by nodes edges frames o)
  unfolding built_by
  built-framed n (ok g) = refl
  built-framed n (no y) = refl

  more_by : (n : ℕ) → frames ≤ n → (b : Bool) → (build_after rules commands nodes edges frames (first_fault (demand b bad_rules ∷ []))).number ≢ 6
      → build_after rules commands nodes edges n (first_fault (demand b bad_rules ∷ []))
      ≡ framed n (build_after rules commands nodes edges frames (first_fault (demand b bad_rules ∷ [])))
  unfolding build_after first_fault fault_number
  more_by n h true d =
      let m = faulted nodes edges frames no_clone (garden.build (garden_bounds nodes edges frames) (the_rules rules) (the_commands commands)) in
      let e = clones.more-frames (garden_bounds nodes edges frames) (n / row_width) (omega arith) (the_rules rules) (the_commands commands) λ e. d (m.1 e) in
      ap (built_by nodes edges n) e ∙ built-framed n _
  more_by n h false d = refl

  pub more-frames : (provable logic n : ℕ) → frames ≤ n → (build_gives provable logic rules commands nodes edges frames).number ≢ 6
      → build_gives provable logic rules commands nodes edges n ≡ framed n (build_gives provable logic rules commands nodes edges frames)
  unfolding build_gives
  more-frames provable logic n h d = more_by n h (rules_good provable logic rules) d

-- ---- frames-enough-build: with 16,385 frames, one more than the rows that a garden path may take up, a build is never refused with 6

module _ (rules commands : List ℕ) (nodes edges frames : ℕ) (h : row_width * suc most_taken ≤ frames) where
  enough-by : (b : Bool) → (build_after rules commands nodes edges frames (first_fault (demand b bad_rules ∷ []))).number ≢ 6
  unfolding build_after first_fault fault_number
  enough-by true e = refusals.frames-enough (garden_bounds nodes edges frames) (omega arith) (the_rules rules) (the_commands commands)
      ((faulted nodes edges frames no_clone (garden.build (garden_bounds nodes edges frames) (the_rules rules) (the_commands commands))).0 e)
  enough-by false e = omega arith

  pub frames-enough-build : (provable logic : ℕ) → (build_gives provable logic rules commands nodes edges frames).number ≢ 6
  unfolding build_gives
  frames-enough-build provable logic = enough-by (rules_good provable logic rules)
