-- What the batch's proofs share: its refusals, its index, and its result as a value of its definition.
use mathlib.Core.Path.{◌≡◌, refl, sym, ◌∙◌, ap}
use mathlib.Core.Bool.{true, false, not}
use mathlib.Core.List.{List, [], ◌∷◌, ◌++◌, append_assoc}
use mathlib.Core.Logic.{◌≢◌}
use Prim.Native.Nat.{ℕ, zero, suc, ◌+◌, ◌*◌, ◌-◌, ◌≤◌, ◌<◌}
use native.Mathlib.Omega.{arith}
use lib.Dec.{ltb, eqb}
use lib.ListN.{length, take, drop, length-drop, length-append}
use lib.Seq.{take_at, drop_at, length-take-le}
use borrow.Author.Tests.{lt-ltb, le-ltb}
use borrow.Rule.Slice.PartMut.{post_of, put_mid, same_len_mid}
use Rattle.words.specs.Lent.{zeros, cleared_from}
use Rattle.words.specs.Numbers.{no_room, wrong_size}
use Rattle.words.specs.Outcome.{Res, ok, no, pick, Demand, demand, first_fault}
use Rattle.words.specs.Counted.{lists_of, lists_in, the_lists}
use Rattle.words.specs.Code.{how_many}
use Rattle.std.specs.Prelude.{Result, Ok, Err}
use Rattle.words.specs.declared.Cut.{Cut}
use Rattle.words.proofs.Theorems.Faults.{met, unmet, none_left, one_more, fault-is}
use Rattle.rules.specs.Rules.{the_rules, rules_good}
use Rattle.rows.specs.Rows.{tables_good}
use Rattle.desk.specs.Entry.{ground_demands}
use Rattle.desk.specs.Batch.{Asked, Lent, Batch, answer_width, answer_words, list_words, walks_from, whole, cut_at, index_size, batch_demands, batched, batch_after, batch_gives}
use Rattle.desk.specs.Code.{Packed, TriedMany, batch_is}
use Rattle.desk.specs.declared.Batch as declared
use Rattle.desk.proofs.Theorems.Batches.{walks-length}
use Rattle.desk.proofs.Laws.{ground-passed}

-- ---- counted words

whole-lists : (x : Res ℕ (List (List ℕ))) (n : ℕ) → Ok n ≡ how_many 0 x → (whole x ≡ true) × (n ≡ length (lists_in x))
whole-lists (ok ls) n e = (refl, let z : n ≡ 0 + length ls = cc in omega (arith, z))
whole-lists (no i) n e = absurd (let z : ◌≡◌ {A = ℕ} 0 1 = cc in omega arith)

cut-lists : (x : Res ℕ (List (List ℕ))) (i : ℕ) → Err (record { 0 = i }) ≡ how_many 0 x → (whole x ≡ false) × (i ≡ cut_at x)
cut-lists (ok ls) i e = absurd (let z : ◌≡◌ {A = ℕ} 0 1 = cc in omega arith)
cut-lists (no j) i e = (refl, let z : ◌≡◌ {A = Cut} (record { 0 = i }) (record { 0 = j }) = cc in ap (λ (k : Cut). k.0) z)

module _ (ws : List ℕ) {r : Result ℕ Cut} (e : r ≡ how_many 0 (lists_of ws)) where
  pub are-whole : (n : ℕ) → r ≡ Ok n → (whole (lists_of ws) ≡ true) × (n ≡ length (the_lists ws))
  are-whole n h = whole-lists (lists_of ws) n (sym h ∙ e)

  pub are-cut : (k : Cut) → r ≡ Err k → (whole (lists_of ws) ≡ false) × (k.0 ≡ cut_at (lists_of ws))
  are-cut k h = cut-lists (lists_of ws) k.0 (sym h ∙ e)

-- ---- which demand fails

module _ (q : Asked) (s : Lent) (g : rules_good q.provable q.logic q.rules ≡ true) (t : tables_good (length (the_rules q.rules)) q.nodes q.edges ≡ true) where
  abbrev rooms : List Demand
  rooms = demand (not (ltb s.answers (answer_width * length (the_lists q.statements)))) no_room ∷ demand (not (ltb s.index (index_size q))) no_room ∷ []

  past-ground : first_fault (batch_demands q s) ≡ first_fault (demand (whole (lists_of q.statements)) wrong_size ∷ rooms)
  past-ground = ground-passed q.provable q.logic q.rules q.nodes q.edges g t _

  pub cut-first : whole (lists_of q.statements) ≡ false → wrong_size ≡ first_fault (batch_demands q s)
  cut-first h = sym (past-ground ∙ unmet h wrong_size rooms)

  module _ (h : whole (lists_of q.statements) ≡ true) where
    past-whole : first_fault (batch_demands q s) ≡ first_fault rooms
    past-whole = past-ground ∙ met h wrong_size rooms

    pub few-answers : s.answers < answer_width * length (the_lists q.statements) → no_room ≡ first_fault (batch_demands q s)
    few-answers l = sym (past-whole ∙ unmet (ap not (lt-ltb s.answers (answer_width * length (the_lists q.statements)) l)) no_room _)

    module _ (l : answer_width * length (the_lists q.statements) ≤ s.answers) where
      past-answers : first_fault (batch_demands q s) ≡ first_fault (demand (not (ltb s.index (index_size q))) no_room ∷ [])
      past-answers = past-whole ∙ met (ap not (le-ltb s.answers (answer_width * length (the_lists q.statements)) l)) no_room _

      pub few-index : s.index < index_size q → no_room ≡ first_fault (batch_demands q s)
      few-index k = sym (past-answers ∙ unmet (ap not (lt-ltb s.index (index_size q) k)) no_room [])

-- a refusal of rules or tables has no place
pub ground-place : (p l : ℕ) (rs ns es : List ℕ) (k : ℕ) → k ≡ first_fault (ground_demands p l rs ns es) → (n : ℕ) → 0 ≡ pick (eqb k wrong_size) n 0
ground-place p l rs ns es k e n =
    let b : eqb k wrong_size ≡ false = rw e (fault-is (λ (m : ℕ). eqb m wrong_size ≡ false) refl (one_more refl (one_more refl none_left))) in
    rw b

-- ---- what is given back

module _ (q : Asked) (a : ℕ) (s : Lent) (list answers : List ℕ) (l : length list ≡ s.slices.list) (k : length answers ≡ s.answers) where
  pub tried-refused : (n place : ℕ) → n ≡ first_fault (batch_demands q s) → n ≢ 0 → place ≡ pick (eqb n wrong_size) (cut_at (lists_of q.statements)) 0
      → TriedMany (batch_gives q a s) (record { number = n; place = place; statements = 0; words = 0 }) list answers
  unfolding batch_gives batch_after batched list_words answer_words
  tried-refused zero place e z p = absurd (z refl)
  tried-refused (suc n) place e z p = rw (← e) (record {
    number = refl;
    place = p;
    statements = refl;
    words = refl;
    list-in = omega arith;
    answers-in = omega arith;
    list-words = rw l;
    answer-words = rw k;
  })

  pub tried-accepted : first_fault (batch_demands q s) ≡ 0 → (used count : ℕ) → count ≡ length (the_lists q.statements)
      → Packed (walks_from q a s.slices 0 (the_lists q.statements)) used list answers
      → TriedMany (batch_gives q a s) (record { number = 0; place = 0; statements = count; words = used }) list answers
  unfolding batch_gives batch_after batched
  tried-accepted e used count c p =
      let ws = walks_from q a s.slices 0 (the_lists q.statements) in
      let n : count ≡ length ws = c ∙ sym (walks-length q a s.slices 0 (the_lists q.statements)) in
      rw e (record {
        number = refl;
        place = refl;
        statements = n;
        words = p.counted;
        list-in = p.within;
        answers-in = rw n p.room;
        list-words = rw (p.listed, l);
        answer-words = rw (n, p.answered, k);
      })

-- ---- the index: its two parts, filled one after the other

take-most : (k : ℕ) (xs : List ℕ) → length (take k xs) ≤ k
take-most zero xs = omega arith
take-most (suc k) [] = omega arith
take-most (suc k) (x ∷ xs) = omega (arith, take-most k xs)

pub take-few : (k : ℕ) (xs : List ℕ) (b : ℕ) → k ≤ b → length (take k xs) ≤ b
take-few k xs b h = omega (arith, take-most k xs)

pub second-length : (index p : List ℕ) (n m : ℕ) → length p ≡ n → n ≤ m → m ≤ length index → length (take (m - n) (drop n (put_mid 0 (n - 0) index p))) ≡ m - n
second-length index p n m a h k =
    let e : n - 0 ≡ n = omega arith in
    length-take-le (m - n) _ (rw (drop_at p _ n a) (omega (arith, e, length-drop (n - 0) index)))

-- both parts, and with the rest after them
abbrev both-parts : List ℕ → List ℕ → List ℕ → ℕ → ℕ → List ℕ
both-parts index p r n m = put_mid n (m - n) (put_mid 0 (n - 0) index p) r

abbrev pub three : List ℕ → List ℕ → List ℕ → ℕ → ℕ → List ℕ → List ℕ
three index p r n m t = put_mid m (length (both-parts index p r n m) - m) (both-parts index p r n m) t

pub three-kept : (index p r : List ℕ) (n m : ℕ) (t : List ℕ) → length p ≡ length (take (n - 0) (drop 0 index))
    → length r ≡ length (take (m - n) (drop n (put_mid 0 (n - 0) index p)))
    → length t ≡ length (take (length (both-parts index p r n m) - m) (drop m (both-parts index p r n m))) → length (three index p r n m t) ≡ length index
three-kept index p r n m t a b c =
    same_len_mid m (length (both-parts index p r n m) - m) (both-parts index p r n m) t c ∙ same_len_mid n (m - n) (put_mid 0 (n - 0) index p) r b
    ∙ same_len_mid 0 (n - 0) index p a

module _ (index p r : List ℕ) (n m : ℕ) (a : length p ≡ n) (b : length r ≡ m - n) (h : n ≤ m) where
  abbrev two : List ℕ
  two = both-parts index p r n m

  front : take n (put_mid 0 (n - 0) index p) ≡ p
  front = take_at p _ n a

  both : length (p ++ r) ≡ m
  both = omega (arith, length-append p r, a, b)

  fronts : take m two ≡ p ++ r
  fronts = rw (front, ← (append_assoc p r (post_of n (m - n) (put_mid 0 (n - 0) index p)))) (take_at (p ++ r) _ m both)

  -- with the third part after them
  module _ (t : List ℕ) where
    abbrev all : List ℕ
    all = three index p r n m t

    three-is : all ≡ p ++ (r ++ (t ++ post_of m (length two - m) two))
    three-is = rw (fronts, append_assoc p r (t ++ post_of m (length two - m) two))

    pub three-long : m ≤ length all
    three-long =
        let x = t ++ post_of m (length two - m) two in
        rw three-is (omega (arith, length-append p (r ++ x), length-append r x, a, b))

    pub first_part : take (n - 0) (drop 0 all) ≡ p
    first_part = rw three-is (take_at p _ (n - 0) (omega (arith, a)))

    pub second-part : take (m - n) (drop n all) ≡ r
    second-part = rw (three-is, drop_at p (r ++ (t ++ post_of m (length two - m) two)) n a) (take_at r _ (m - n) b)

    pub third-length : length t ≡ length (take (length two - m) (drop m two)) → length t ≡ length all - m
    third-length e =
        let z = same_len_mid m (length two - m) two t e in
        let l = length-take-le (length two - m) (drop m two) (omega (arith, length-drop m two)) in
        omega (arith, e, z, l)

    pub third-part : (k : ℕ) → length t ≡ k → take k (drop m all) ≡ t
    third-part k e = rw (fronts, drop_at (p ++ r) (t ++ post_of m (length two - m) two) m both) (take_at t _ k e)

-- ---- cleared

pub rest-zeros : (q : Asked) (a : ℕ) (s : Lent) → ((batch_gives q a s).frame-words ≡ zeros s.slices.frames) × ((batch_gives q a s).work-words ≡ zeros s.slices.work)
    × ((batch_gives q a s).index-words ≡ zeros s.index)
unfolding batch_gives batch_after batched
rest-zeros q a s = by (first_fault (batch_demands q s))
  where
    by : (k : ℕ) → ((batch_after q a s k).frame-words ≡ zeros s.slices.frames) × ((batch_after q a s k).work-words ≡ zeros s.slices.work)
        × ((batch_after q a s k).index-words ≡ zeros s.index)
    by zero = (refl, refl, refl)
    by (suc k) = (refl, refl, refl)

pub batch-whole : (s : Lent) (b : Batch) (m : declared.Batch) (list answers frames' list' work' answers' index' : List ℕ) → TriedMany b m list answers
    → b.frame-words ≡ frames' → b.work-words ≡ work' → b.index-words ≡ index'
    → list' ≡ cleared_from list m.words → answers' ≡ cleared_from answers (answer_width * m.statements) → batch_is m frames' list' work' answers' index' ≡ b
batch-whole s b m list answers frames' list' work' answers' index' t f w x l c = λ i. record {
  number = t.number i;
  place = t.place i;
  statements = t.statements i;
  words = t.words i;
  frame-words = sym f i;
  list-words = (l ∙ t.list-words) i;
  work-words = sym w i;
  answer-words = (c ∙ t.answer-words) i;
  index-words = sym x i;
}
