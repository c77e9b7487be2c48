-- The promises about a batch, for any words at all. That two results which meet the definition are one is `determined` in `Promises`, as for every entry point.
use Rattle.std.specs.Prelude.{◌≡◌, Bool, true, false, not, ◌≢◌, leb, get_or, take, drop}
use Rattle.std.proofs.Math.Path.{refl, ap}
use Rattle.std.proofs.Common.{sym, ◌∙◌, arith, length-append, length-drop, take-append-drop, take_at, drop_at, length-take-le, leb-true, leb-false, ltb-false, le-ltb, eq-eqb, ne_eqb}
use Rattle.std.proofs.lemmas.Bool.{false≢true, not-true}
use mathlib.Core.List.{List, [], ◌∷◌, ◌++◌, append_assoc}
use Prim.Native.Nat.{ℕ, zero, suc, ◌+◌, ◌*◌, ◌-◌, ◌≤◌, ◌<◌}
use Rattle.std.proofs.Math.Nat.{sub-zero}
use Rattle.std.proofs.Math.ListN.{length}
use Rattle.std.proofs.lemmas.List.{length-replicate}
use Rattle.words.specs.Lent.{zeros}
use Rattle.words.specs.Numbers.{accepted, no_pass, bad_tables, bad_rules, no_room, wrong_size, no_frame, no_entry, number}
use Rattle.words.specs.Outcome.{Res, ok, no, bind, pick, demand, first_fault}
use Rattle.words.specs.Counted.{counted, lists_from, lists_of, the_lists}
use Rattle.words.proofs.Theorems.Faults.{met, clear, none_left, one_more, fault-is}
use Rattle.words.proofs.Theorems.Counted.{lists-whole}
use Rattle.words.proofs.Theorems.Parts.{padded-length}
use Rattle.rules.specs.Rules.{the_rules, rules_good}
use Rattle.rows.specs.Rows.{tables_good}
use Rattle.walk.specs.Walk.{Walked}
use Rattle.desk.specs.Entry.{Parsed, Means, walk_room, walk_of, parsed, parse_gives}
use Rattle.desk.specs.Entry as single
use Rattle.desk.specs.Batch.{Asked, Lent, one, left, walk_one, walks_from, answer_width, answer_words, list_words, Batch, batched, whole, cut_at, index_size, batch_demands, batch_after, batch_gives}
use Rattle.desk.proofs.Theorems.Promises.{list_of, list-of, Wider, room-grows, walk_of-mono, Enough, more_room, four-n, frames-enough, list-enough, listed_in, none-fails, accepted-means}

-- ---- what the demands say

pub record Fit (q : Asked) (s : Lent) : Type 0 where
  pub rules : rules_good q.provable q.logic q.rules ≡ true
  pub tables : tables_good (length (the_rules q.rules)) q.nodes q.edges ≡ true
  pub statements : whole (lists_of q.statements) ≡ true
  pub answers : answer_width * length (the_lists q.statements) ≤ s.answers
  pub index : index_size q ≤ s.index

fits : (q : Asked) (s : Lent) → first_fault (batch_demands q s) ≡ 0 → Fit q s
fits q s h =
    let a = clear _ bad_rules _ (omega arith) h in
    let b = clear _ bad_tables _ (omega arith) a.others in
    let c = clear _ wrong_size _ (omega arith) b.others in
    let d = clear _ no_room _ (omega arith) c.others in
    let e = clear _ no_room _ (omega arith) d.others in
    record {
      rules = a.passed;
      tables = b.passed;
      statements = c.passed;
      answers = ltb-false _ _ (not-true _ d.passed);
      index = ltb-false _ _ (not-true _ e.passed);
    }

number-after : (q : Asked) (a : ℕ) (s : Lent) (k : ℕ) → (batch_after q a s k).number ≡ k
unfolding batch_after batched
number-after q a s zero = refl
number-after q a s (suc k) = refl

-- the number is that of the first demand that fails
number_of : (q : Asked) (a : ℕ) (s : Lent) → (batch_gives q a s).number ≡ first_fault (batch_demands q s)
unfolding batch_gives
number_of q a s = number-after q a s (first_fault (batch_demands q s))

-- a batch is accepted exactly where it fits
pub accepted-fits : (q : Asked) (a : ℕ) (s : Lent) → (batch_gives q a s).number ≡ 0 → Fit q s
accepted-fits q a s h = fits q s (sym (number_of q a s) ∙ h)

pub fits-fails-none : (q : Asked) (s : Lent) → Fit q s → first_fault (batch_demands q s) ≡ 0
fits-fails-none q s f = met f.rules bad_rules _ ∙ met f.tables bad_tables _ ∙ met f.statements wrong_size _
    ∙ met (ap not (le-ltb _ _ f.answers)) no_room _ ∙ met (ap not (le-ltb _ _ f.index)) no_room _ ∙ none-fails

pub fits-accepted : (q : Asked) (a : ℕ) (s : Lent) → Fit q s → (batch_gives q a s).number ≡ 0
fits-accepted q a s f = number_of q a s ∙ fits-fails-none q s f

-- and is then its walks, one after another
abbrev walks_of : Asked → ℕ → Lent → List Walked
walks_of q a s = walks_from q a s.slices 0 (the_lists q.statements)

given : (q : Asked) (a : ℕ) (s : Lent) → (batch_gives q a s).number ≡ 0 → batch_gives q a s ≡ batched accepted 0 s (walks_of q a s)
unfolding batch_gives batch_after
given q a s h = let e : first_fault (batch_demands q s) ≡ 0 = sym (number_of q a s) ∙ h in rw e

-- ---- each-as-parse: each answer and each list is that of `parse`, with the list words still free

-- the list words that are used before statement i, with `used` of them before the first
unfoldable pub used_from : Asked → ℕ → single.Lent → ℕ → List (List ℕ) → ℕ → ℕ
used_from q a s used ts zero = used
used_from q a s used [] (suc i) = used
used_from q a s used (t ∷ ts) (suc i) = used_from q a s (used + (parse_gives (one q t) a (left s used)).length) ts i

abbrev pub used_before : Asked → ℕ → Lent → ℕ → ℕ
used_before q a s i = used_from q a s.slices 0 (the_lists q.statements) i

-- what `parse` gives for statement i
abbrev pub parse_of : Asked → ℕ → Lent → ℕ → Parsed
parse_of q a s i = parse_gives (one q (get_or (the_lists q.statements) i [])) a (left s.slices (used_before q a s i))

-- statement i of a batch has this answer and this list
pub record AsParse (i used : ℕ) (answer-words list-words : List ℕ) (p : Parsed) : Type 0 where
  pub number : get_or answer-words (answer_width * i) 0 ≡ p.number
  pub place : get_or answer-words (answer_width * i + 1) 0 ≡ p.place
  pub length : get_or answer-words (answer_width * i + 2) 0 ≡ p.length
  pub passes : get_or answer-words (answer_width * i + 3) 0 ≡ p.passes
  pub list : take p.length (drop used list-words) ≡ list_of p

-- a word further on
further : (a b c d : ℕ) (ws : List ℕ) (k k' : ℕ) {x : ℕ} → k' ≡ suc (suc (suc (suc k))) → get_or ws k 0 ≡ x → get_or (a ∷ b ∷ c ∷ d ∷ ws) k' 0 ≡ x
further a b c d ws k k' e h = rw e h

later : (i used : ℕ) (a b c d : ℕ) (answers list list' : List ℕ) (p : Parsed) → list' ≡ list → AsParse i used answers list p
    → AsParse (suc i) used (a ∷ b ∷ c ∷ d ∷ answers) list' p
later i used a b c d answers list list' p e h = record {
  number = further a b c d answers (answer_width * i) (answer_width * suc i) (omega arith) h.number;
  place = further a b c d answers (answer_width * i + 1) (answer_width * suc i + 1) (omega arith) h.place;
  length = further a b c d answers (answer_width * i + 2) (answer_width * suc i + 2) (omega arith) h.length;
  passes = further a b c d answers (answer_width * i + 3) (answer_width * suc i + 3) (omega arith) h.passes;
  list = rw e h.list;
}

-- the first answer; `before` stands in the list slice already
here : (q : single.Asked) (a : ℕ) (s : single.Lent) (before more zs ys : List ℕ) (used : ℕ) → length before ≡ used → let w = walk_of q a (walk_room s) in
    AsParse 0 used (w.number ∷ w.place ∷ length w.list ∷ w.passes ∷ ys) (before ++ ((w.list ++ more) ++ zs)) (parse_gives q a s)
unfolding parse_gives parsed
here q a s before more zs ys used h =
    let w = walk_of q a (walk_room s) in
    let e : drop used (before ++ ((w.list ++ more) ++ zs)) ≡ (w.list ++ more) ++ zs = drop_at before ((w.list ++ more) ++ zs) used h in
    record {
      number = refl;
      place = refl;
      length = refl;
      passes = refl;
      list = ap (take (length w.list)) (e ∙ append_assoc w.list more zs) ∙ take_at w.list (more ++ zs) (length w.list) refl ∙ sym (list-of s w);
    }

module _ (q : Asked) (a : ℕ) (s : single.Lent) where
  as-parse : (ts : List (List ℕ)) (before ys zs : List ℕ) (n : ℕ) → length before ≡ n → (i : ℕ) → i < length ts → let ws = walks_from q a s n ts in let used = used_from q a s n ts i in
      AsParse i used (answer_words ws ++ ys) (before ++ (list_words ws ++ zs)) (parse_gives (one q (get_or ts i [])) a (left s used))
  unfolding walks_from used_from answer_words list_words parse_gives parsed
  as-parse [] before ys zs n e i h = absurd (omega arith)
  as-parse (t ∷ ts) before ys zs n e zero h = here (one q t) a (left s n) before _ zs _ n e
  as-parse (t ∷ ts) before ys zs n e (suc i) h =
      let l = (walk_one q a s n t).list in
      let m = n + length l in
      let used = used_from q a s m ts i in
      later i used _ _ _ _ _ ((before ++ l) ++ (list_words (walks_from q a s m ts) ++ zs)) _ (parse_gives (one q (get_or ts i [])) a (left s used)) (simp append_assoc)
      (as-parse ts (before ++ l) ys zs m (length-append before l ∙ ap (λ (k : ℕ). k + length l) e) i (omega arith))

pub each-as-parse : (q : Asked) (a : ℕ) (s : Lent) → let r = batch_gives q a s in r.number ≡ 0 → (i : ℕ) → i < length (the_lists q.statements)
    → AsParse i (used_before q a s i) r.answer-words r.list-words (parse_of q a s i)
unfolding batched
each-as-parse q a s h i l = rw (given q a s h) (as-parse q a s.slices (the_lists q.statements) [] _ _ 0 refl i l)

-- ---- batch-means: so the list of an accepted statement means it

pub batch-means : (q : Asked) (a : ℕ) (s : Lent) → let r = batch_gives q a s in r.number ≡ 0 → (i : ℕ) → i < length (the_lists q.statements) → get_or r.answer-words (answer_width * i) 0 ≡ 0
    → Means (the_rules q.rules) q.provable q.logic (get_or (the_lists q.statements) i []) (take (get_or r.answer-words (answer_width * i + 2) 0) (drop (used_before q a s i) r.list-words))
batch-means q a s h i l e =
    let c = each-as-parse q a s h i l in
    rw (c.length, c.list) (accepted-means (one q (get_or (the_lists q.statements) i [])) a (left s.slices (used_before q a s i)) (sym c.number ∙ e))

-- ---- batch-refused-zeros: refused, both counts are 0 and every word of every slice is

pub record Nothing (s : Lent) (r : Batch) : Type 0 where
  pub statements : r.statements ≡ 0
  pub words : r.words ≡ 0
  pub frames : r.frame-words ≡ zeros s.slices.frames
  pub list : r.list-words ≡ zeros s.slices.list
  pub work : r.work-words ≡ zeros s.slices.work
  pub answers : r.answer-words ≡ zeros s.answers
  pub index : r.index-words ≡ zeros s.index

nothing-after : (q : Asked) (a : ℕ) (s : Lent) (k : ℕ) → k ≢ 0 → Nothing s (batch_after q a s k)
unfolding batch_after batched answer_words list_words
nothing-after q a s zero h = absurd (h refl)
nothing-after q a s (suc k) h =
    record { statements = refl; words = refl; frames = refl; list = rw sub-zero; work = refl; answers = rw sub-zero; index = refl }

pub batch-refused-zeros : (q : Asked) (a : ℕ) (s : Lent) → (batch_gives q a s).number ≢ 0 → Nothing s (batch_gives q a s)
unfolding batch_gives
batch-refused-zeros q a s h = nothing-after q a s (first_fault (batch_demands q s)) λ e. h (number_of q a s ∙ e)

-- ---- batch-lengths-kept: each slice comes back as long as it was lent, so answers and lists fit

pub walks-length : (q : Asked) (a : ℕ) (s : single.Lent) (used : ℕ) (ts : List (List ℕ)) → length (walks_from q a s used ts) ≡ length ts
unfolding walks_from
walks-length q a s used [] = refl
walks-length q a s used (t ∷ ts) = ap suc (walks-length q a s (used + length (walk_one q a s used t).list) ts)

answers-length : (ws : List Walked) → length (answer_words ws) ≡ answer_width * length ws
unfolding answer_words
answers-length [] = refl
answers-length (w ∷ ws) = omega (arith, answers-length ws)

-- packed, the lists are never longer than their slice
lists-within : (q : Asked) (a : ℕ) (s : single.Lent) (used : ℕ) (ts : List (List ℕ)) → used ≤ s.list → used + length (list_words (walks_from q a s used ts)) ≤ s.list
unfolding walks_from list_words
lists-within q a s used [] h = omega arith
lists-within q a s used (t ∷ ts) h =
    let l = (walk_one q a s used t).list in
    let k : length l ≤ s.list - used = listed_in (one q t) a (left s used) in
    omega (arith, length-append l (list_words (walks_from q a s (used + length l) ts)), lists-within q a s (used + length l) ts (omega arith))

pub record AsLent (s : Lent) (r : Batch) : Type 0 where
  pub frames : length r.frame-words ≡ s.slices.frames
  pub list : length r.list-words ≡ s.slices.list
  pub work : length r.work-words ≡ s.slices.work
  pub answers : length r.answer-words ≡ s.answers
  pub index : length r.index-words ≡ s.index

kept_by : (n p : ℕ) (s : Lent) (ws : List Walked) → length (list_words ws) ≤ s.slices.list → answer_width * length ws ≤ s.answers → AsLent s (batched n p s ws)
unfolding batched
kept_by n p s ws h k = record {
  frames = length-replicate s.slices.frames 0;
  list = padded-length (list_words ws) s.slices.list h;
  work = length-replicate s.slices.work 0;
  answers = padded-length (answer_words ws) s.answers (omega (arith, answers-length ws));
  index = length-replicate s.index 0;
}

kept-after : (q : Asked) (a : ℕ) (s : Lent) (k : ℕ) → first_fault (batch_demands q s) ≡ k → AsLent s (batch_after q a s k)
unfolding batch_after list_words
kept-after q a s zero e = kept_by _ _ s (walks_of q a s)
    (omega (arith, lists-within q a s.slices 0 (the_lists q.statements) (omega arith)))
    (omega (arith, (fits q s e).answers, walks-length q a s.slices 0 (the_lists q.statements)))
kept-after q a s (suc k) e = kept_by _ _ s [] (omega arith) (omega arith)

pub batch-lengths-kept : (q : Asked) (a : ℕ) (s : Lent) → AsLent s (batch_gives q a s)
unfolding batch_gives
batch-lengths-kept q a s = kept-after q a s _ refl

-- ---- batch-numbers: the number is 0, 7, 8, 10 or 22, and a place comes with 22 alone

pub batch-numbers : (q : Asked) (a : ℕ) (s : Lent) → let k = (batch_gives q a s).number in k ≢ 0 → k ≢ 7 → k ≢ 8 → k ≢ 10 → k ≡ 22
batch-numbers q a s = rw (number_of q a s) (fault-is (λ k. k ≢ 0 → k ≢ 7 → k ≢ 8 → k ≢ 10 → k ≡ 22) (λ z _ _ _. absurd (z refl))
    (one_more (λ _ _ _ z. absurd (z refl)) (one_more (λ _ _ z _. absurd (z refl)) (one_more (λ _ _ _ _. refl)
    (one_more (λ _ z _ _. absurd (z refl)) (one_more (λ _ z _ _. absurd (z refl)) none_left))))))

-- 22 is said of words that are not whole
cut_by : (a b c d e : Bool) → first_fault (demand a bad_rules ∷ demand b bad_tables ∷ demand c wrong_size ∷ demand d no_room ∷ demand e no_room ∷ []) ≡ 22 → c ≡ false
unfolding first_fault
cut_by false b c d e h = absurd (omega arith)
cut_by true false c d e h = absurd (omega arith)
cut_by true true false d e h = refl
cut_by true true true false e h = absurd (omega arith)
cut_by true true true true false h = absurd (omega arith)
cut_by true true true true true h = absurd (omega arith)

cut-is : (x : Res ℕ (List (List ℕ))) → whole x ≡ false → x ≡ no (cut_at x)
cut-is (ok ls) e = absurd (false≢true (sym e))
cut-is (no i) e = refl

place_after : (q : Asked) (a : ℕ) (s : Lent) (k : ℕ) → (k ≢ 22 → (batch_after q a s k).place ≡ 0) × (k ≡ 22 → (batch_after q a s k).place ≡ cut_at (lists_of q.statements))
unfolding batch_after batched
place_after q a s zero = (λ _. refl, λ e. absurd (omega arith))
place_after q a s (suc k) = (λ n. rw (ne_eqb (suc k) 22 n), λ e. rw (eq-eqb (suc k) 22 e))

pub batch-place : (q : Asked) (a : ℕ) (s : Lent) → (batch_gives q a s).number ≢ 22 → (batch_gives q a s).place ≡ 0
unfolding batch_gives
batch-place q a s h = (place_after q a s (first_fault (batch_demands q s))).0 λ e. h (number_of q a s ∙ e)

-- i whole statements, and then a count that passes the end
pub record Cut (i : ℕ) (ws : List ℕ) : Type 0 where
  pub before : List (List ℕ)
  pub count : ℕ
  pub rest : List ℕ
  pub words : ws ≡ counted before ++ count ∷ rest
  pub number : length before ≡ i
  pub passes-end : length rest < count

-- a refusal further on
still : (x : Res ℕ (List (List ℕ))) (l : List ℕ) (j : ℕ) → bind x (λ ls. ok (l ∷ ls)) ≡ no j → x ≡ no j
unfolding bind
still (ok ls) l j e = absurd (let z : ◌≡◌ {A = ℕ} 0 1 = cc in omega arith)
still (no i) l j e = e

cut-same : (i j : ℕ) → ◌≡◌ {A = Res ℕ (List (List ℕ))} (no i) (no j) → i ≡ j
cut-same i j e = ap cut_at e

cut-further : (n i j : ℕ) (ws : List ℕ) → n ≤ length ws → Cut i (drop n ws) → suc i ≡ j → Cut j (n ∷ ws)
unfolding counted
cut-further n i j ws h c e = record {
  before = take n ws ∷ c.before;
  count = c.count;
  rest = c.rest;
  words = rw (length-take-le n ws h, append_assoc, ← c.words, take-append-drop);
  number = ap suc c.number ∙ e;
  passes-end = c.passes-end;
}

-- reading from statement i on
cut-from : (k i : ℕ) (ws : List ℕ) (j : ℕ) → length ws ≤ k → lists_from k i ws ≡ no j → (i ≤ j) × Cut (j - i) ws
unfolding lists_from bind counted
cut-from zero i [] j h e = absurd (let z : ◌≡◌ {A = ℕ} 0 1 = cc in omega arith)
cut-from zero i (n ∷ ws) j h e = absurd (omega arith)
cut-from (suc k) i [] j h e = absurd (let z : ◌≡◌ {A = ℕ} 0 1 = cc in omega arith)
cut-from (suc k) i (n ∷ ws) j h e = by (leb n (length ws)) refl e
    λ e. cut-from k (suc i) (drop n ws) j (omega (arith, length-drop n ws)) e
  where
    got : (x : Res ℕ (List (List ℕ))) → bind x (λ ls. ok (take n ws ∷ ls)) ≡ no j → x ≡ no j
    got x e = still x (take n ws) j e

    by : (b : Bool) → leb n (length ws) ≡ b → pick b (bind (lists_from k (suc i) (drop n ws)) (λ ls. ok (take n ws ∷ ls))) (no i) ≡ no j
        → (lists_from k (suc i) (drop n ws) ≡ no j → (suc i ≤ j) × Cut (j - suc i) (drop n ws)) → (i ≤ j) × Cut (j - i) (n ∷ ws)
    by false t e r =
        let z : i ≡ j = cut-same i j e in
        (omega arith, record { before = []; count = n; rest = ws; words = refl; number = omega arith; passes-end = omega (arith, leb-false n (length ws) t) })
    by true t e r =
        let c = r (got (lists_from k (suc i) (drop n ws)) e) in
        (omega (arith, c.0), cut-further n (j - suc i) (j - i) ws (leb-true n (length ws) t) c.1 (omega (arith, c.0)))

cut-shape : (ws : List ℕ) (i : ℕ) → lists_of ws ≡ no i → Cut i ws
cut-shape ws i e = rw sub-zero at (cut-from (length ws) 0 ws i (omega arith) e).1

-- 22: the place is the number of the first statement whose count passes the end
pub batch-cut : (q : Asked) (a : ℕ) (s : Lent) → (batch_gives q a s).number ≡ 22 → Cut (batch_gives q a s).place q.statements
unfolding batch_gives
batch-cut q a s h =
    let e : first_fault (batch_demands q s) ≡ 22 = sym (number_of q a s) ∙ h in
    let c = cut-is (lists_of q.statements) (cut_by _ _ _ _ _ e) in
    cut-shape q.statements _ (c ∙ ap no (sym ((place_after q a s (first_fault (batch_demands q s))).1 e)))

-- ---- batch-counts: an accepted batch counts its statements, and the list words that their parses used

used_all : (q : Asked) (a : ℕ) (s : single.Lent) (used : ℕ) (ts : List (List ℕ)) → used + length (list_words (walks_from q a s used ts)) ≡ used_from q a s used ts (length ts)
unfolding walks_from list_words used_from parse_gives parsed
used_all q a s used [] = omega arith
used_all q a s used (t ∷ ts) =
    let l = (walk_one q a s used t).list in
    let e : used + length (l ++ list_words (walks_from q a s (used + length l) ts)) ≡ (used + length l) + length (list_words (walks_from q a s (used + length l) ts)) =
    omega (arith, length-append l (list_words (walks_from q a s (used + length l) ts))) in
    e ∙ used_all q a s (used + length l) ts

pub batch-counts : (q : Asked) (a : ℕ) (s : Lent) → let r = batch_gives q a s in r.number ≡ 0
    → (r.statements ≡ length (the_lists q.statements)) × (r.words ≡ used_before q a s (length (the_lists q.statements)))
unfolding batched
batch-counts q a s h =
    let ts = the_lists q.statements in
    rw (given q a s h) (walks-length q a s.slices 0 ts, omega (arith, used_all q a s.slices 0 ts))

-- ---- batch-more-room: with more of everything the answers and the lists are the same, unless a statement ran short

-- not 5, 6 or 7
pub record NotShort (n : ℕ) : Type 0 where
  pub passes : n ≢ no_pass
  pub frames : n ≢ number no_frame
  pub list : n ≢ number no_entry

-- of every statement's number
abbrev pub NoneShort : Batch → Type 0
NoneShort r = (i : ℕ) → i < r.statements → NotShort (get_or r.answer-words (answer_width * i) 0)

not_short : {n m : ℕ} → n ≡ m → NotShort n → NotShort m
not_short e h = record { passes = λ z. h.passes (e ∙ z); frames = λ z. h.frames (e ∙ z); list = λ z. h.list (e ∙ z) }

-- the same answers and lists in two batches
pub record Same (r r' : Batch) : Type 0 where
  pub statements : r'.statements ≡ r.statements
  pub words : r'.words ≡ r.words
  pub answers : take (answer_width * r.statements) r'.answer-words ≡ take (answer_width * r.statements) r.answer-words
  pub lists : take r.words r'.list-words ≡ take r.words r.list-words

fronts : (xs ys zs : List ℕ) (n : ℕ) → length xs ≡ n → take n (xs ++ ys) ≡ take n (xs ++ zs)
fronts xs ys zs n e = take_at xs ys n e ∙ sym (take_at xs zs n e)

same_by : (s s' : Lent) (ws ws' : List Walked) → ws' ≡ ws → Same (batched accepted 0 s ws) (batched accepted 0 s' ws')
unfolding batched
same_by s s' ws ws' e = record {
  statements = ap length e;
  words = ap (λ (vs : List Walked). length (list_words vs)) e;
  answers = rw e (fronts (answer_words ws) _ _ (answer_width * length ws) (answers-length ws));
  lists = rw e (fronts (list_words ws) _ _ (length (list_words ws)) refl);
}

module _ (q : Asked) (a a' : ℕ) (s s' : single.Lent) (le : a ≤ a') (w : Wider s s') where
  one-mono : (used : ℕ) (t : List ℕ) → Enough (parse_gives (one q t) a (left s used)) → walk_one q a' s' used t ≡ walk_one q a s used t
  unfolding parse_gives parsed
  one-mono used t y =
      let v : Wider (left s used) (left s' used) = record { frames = w.frames; list = omega (arith, w.list); work = w.work } in
      walk_of-mono (one q t) a a' (walk_room (left s used)) (walk_room (left s' used)) (room-grows (left s used) (left s' used) v) le
      (record { passes = y.passes; frames = y.frames; list = y.list })

  walks-mono : (used : ℕ) (ts : List (List ℕ)) → ((i : ℕ) → i < length ts → Enough (parse_gives (one q (get_or ts i [])) a (left s (used_from q a s used ts i))))
      → walks_from q a' s' used ts ≡ walks_from q a s used ts
  unfolding walks_from used_from parse_gives parsed
  walks-mono used [] h = refl
  walks-mono used (t ∷ ts) h =
      let r = walks-mono (used + length (walk_one q a s used t).list) ts λ i l. h (suc i) (omega arith) in
      ap (λ (v : Walked). v ∷ walks_from q a' s' (used + length v.list) ts) (one-mono used t (h 0 (omega arith))) ∙ ap (λ (vs : List Walked). walk_one q a s used t ∷ vs) r

pub batch-more-room : (q : Asked) (a a' : ℕ) (s s' : Lent) → a ≤ a' → Wider s.slices s'.slices → (batch_gives q a s).number ≡ 0 → (batch_gives q a' s').number ≡ 0
    → NoneShort (batch_gives q a s) → Same (batch_gives q a s) (batch_gives q a' s')
batch-more-room q a a' s s' le w h h' n =
    let e = walks-mono q a a' s.slices s'.slices le w 0 (the_lists q.statements) λ i l.
    let y = not_short (each-as-parse q a s h i l).number (n i (omega (arith, (batch-counts q a s h).0))) in
    record { passes = y.passes; frames = y.frames; list = y.list } in
    rw (given q a s h, given q a' s' h') (same_by s s' _ _ e)

-- ---- batch-enough: room that is always enough

parse-within : (q : single.Asked) (a : ℕ) (s : single.Lent) → (parse_gives q a s).length ≤ s.list
unfolding parse_gives parsed
parse-within q a s = listed_in q a s

-- a list has at most 18 entries for each token after the typecode
list-most : (q : single.Asked) (a : ℕ) (s : single.Lent) → 4 * (length q.tokens - 1) ≤ a → length q.tokens ≤ s.frames + 2 → 18 * (length q.tokens - 1) ≤ 7 + s.work
    → (parse_gives q a s).length ≤ 18 * (length q.tokens - 1)
list-most q a s h f k = by (leb n s.list) refl
  where
    n : ℕ
    n = 18 * (length q.tokens - 1)

    by : (b : Bool) → leb n s.list ≡ b → (parse_gives q a s).length ≤ n
    by false e = omega (arith, leb-false n s.list e, parse-within q a s)
    by true e =
        let z : single.Lent = record { frames = s.frames; list = n; work = s.work } in
        let y : Enough (parse_gives q a z) = record { passes = four-n q a z h; frames = frames-enough q a z f; list = list-enough q a z (omega arith) k } in
        omega (arith, (more_room q a a z s (omega arith) (record { frames = omega arith; list = leb-true n s.list e; work = omega arith }) y).length, parse-within q a z)

-- 18 list words for each token after a typecode
unfoldable pub entries_for : List (List ℕ) → ℕ
entries_for [] = 0
entries_for (t ∷ ts) = 18 * (length t - 1) + entries_for ts

-- enough for statements that have at most n tokens each after the typecode
pub record Sized (n : ℕ) (ts : List (List ℕ)) (a : ℕ) (s : single.Lent) : Type 0 where
  pub longest : (i : ℕ) → i < length ts → length (get_or ts i []) ≤ suc n
  pub passes : 4 * n ≤ a
  pub frames : n ≤ s.frames + 1
  pub list : entries_for ts ≤ s.list
  pub work : 18 * n ≤ 7 + s.work

module _ (q : Asked) (n a : ℕ) (s : single.Lent) (p : 4 * n ≤ a) (f : n ≤ s.frames + 1) (k : 18 * n ≤ 7 + s.work) where
  each-enough : (used : ℕ) (ts : List (List ℕ)) → ((i : ℕ) → i < length ts → length (get_or ts i []) ≤ suc n) → used + entries_for ts ≤ s.list
      → (i : ℕ) → i < length ts → Enough (parse_gives (one q (get_or ts i [])) a (left s (used_from q a s used ts i)))
  unfolding used_from entries_for
  each-enough used [] h u i l = absurd (omega arith)
  each-enough used (t ∷ ts) h u zero l =
      let m = h 0 (omega arith) in
      record {
        passes = four-n (one q t) a (left s used) (omega (arith, m));
        frames = frames-enough (one q t) a (left s used) (omega (arith, m));
        list = list-enough (one q t) a (left s used) (omega arith) (omega (arith, m));
      }
  each-enough used (t ∷ ts) h u (suc i) l =
      let m = h 0 (omega arith) in
      let b = list-most (one q t) a (left s used) (omega (arith, m)) (omega (arith, m)) (omega (arith, m)) in
      each-enough (used + (parse_gives (one q t) a (left s used)).length) ts (λ j g. h (suc j) (omega arith)) (omega (arith, b)) i (omega arith)

-- 18 list words for each word of the statement slice are never fewer
counted-entries : (ts : List (List ℕ)) → entries_for ts ≤ 18 * length (counted ts)
unfolding entries_for counted
counted-entries [] = omega arith
counted-entries (t ∷ ts) = omega (arith, counted-entries ts, length-append t (counted ts))

pub entries-most : (ws : List ℕ) → entries_for (the_lists ws) ≤ 18 * length ws
unfolding entries_for
entries-most ws = by (lists_of ws) refl
  where
    by : (x : Res ℕ (List (List ℕ))) → lists_of ws ≡ x → entries_for (the_lists ws) ≤ 18 * length ws
    by (ok ts) e = omega (arith, counted-entries (the_lists ws), ap length (lists-whole ws ts e).1)
    by (no i) e = rw e (omega arith)

pub batch-enough : (q : Asked) (n a : ℕ) (s : Lent) → (batch_gives q a s).number ≡ 0 → Sized n (the_lists q.statements) a s.slices → NoneShort (batch_gives q a s)
batch-enough q n a s h z i l =
    let g : i < length (the_lists q.statements) = omega (arith, (batch-counts q a s h).0) in
    let y = each-enough q n a s.slices z.passes z.frames z.work 0 (the_lists q.statements) z.longest (omega (arith, z.list)) i g in
    not_short (sym (each-as-parse q a s h i g).number) (record { passes = y.passes; frames = y.frames; list = y.list })
