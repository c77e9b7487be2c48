-- What a read gives back: by its refusals, and without one.
use Prim.Native.Nat.{ℕ, zero, suc, ◌*◌, ◌/◌, ◌≤◌}
use Rattle.std.specs.Prelude.{◌≡◌, refl, Bool, true, false, not, List, [], ◌∷◌, ◌≢◌, eqb, ltb, length}
use Rattle.std.proofs.Common.{sym, ap, ◌∙◌, arith, ltb-false, le-ltb}
use Rattle.std.proofs.lemmas.Bool.{false≢true, not-true}
use Rattle.std.proofs.Math.ListN.{length-replicate}
use Rattle.words.specs.Counted.{counted}
use Rattle.words.specs.Numbers.{accepted, no_room, bad_rules, cut_short, unknown_kind, wrong_size, wrong_order}
use Rattle.words.specs.Outcome.{Res, ok, no, demand, first_fault}
use Rattle.words.proofs.Theorems.Faults.{clear, Each, none_left, one_more, fault-is}
use Rattle.words.proofs.Theorems.Parts.{padded-length}
use Rattle.words.proofs.Theorems.Tests.{by-test}
use Rattle.rules.specs.Rules.{rules_good}
use Rattle.package.specs.Package.{Package, the_end, kind_of, record_demands, Refusal, refusal, ended, after_head, scan, says, Read, not_read, read_demands, read_after, read_by, read_gives}
use Rattle.package.proofs.Theorems.Records.{after-record}
use Rattle.package.proofs.Theorems.Few.{says-few}

-- ---- bytes that are refused are refused with 20 or more

abbrev Numbered : Res Refusal Package → Type 0
Numbered (ok p) = Unit {0}
Numbered (no y) = cut_short ≤ y.number

ended-numbered : (k : ℕ) (p : Package) (bs : List ℕ) → Numbered (ended k p bs)
unfolding ended
ended-numbered k p [] = tt
ended-numbered k p (b ∷ bs) = omega arith

head-numbered : (next : ℕ → ℕ → Package → List ℕ → Res Refusal Package) → ((k last : ℕ) (p : Package) (bs : List ℕ) → Numbered (next k last p bs))
    → (k : ℕ) (p : Package) (bs : List ℕ) (n : ℕ) → (n ≢ 0 → cut_short ≤ n) → Numbered (after_head next k p bs n)
unfolding after_head
head-numbered next r k p bs (suc n) h = h (λ e. omega arith)
head-numbered next r k p bs zero h =
    rw (← (after-record next k p bs (eqb (kind_of bs) the_end) refl))
    (by-test Numbered (eqb (kind_of bs) the_end) (λ _. ended-numbered (suc k) _ _) λ _. r (suc k) (kind_of bs) _ _)

record-numbers : (last : ℕ) (bs : List ℕ) → Each (λ k. k ≢ 0 → cut_short ≤ k) (record_demands last bs)
record-numbers last bs =
    one_more {k = wrong_order} (λ z. omega arith) (one_more {k = cut_short} (λ z. omega arith) (one_more {k = unknown_kind} (λ z. omega arith)
    (one_more {k = wrong_size} (λ z. omega arith) (one_more {k = wrong_order} (λ z. omega arith) none_left))))

scan-numbered : (f k last : ℕ) (p : Package) (bs : List ℕ) → Numbered (scan f k last p bs)
unfolding scan
scan-numbered zero k last p bs = omega arith
scan-numbered (suc f) k last p bs =
    head-numbered (λ k last p bs. scan f k last p bs) (λ k last p bs. scan-numbered f k last p bs) k p bs (first_fault (record_demands last bs))
    (fault-is (λ k. k ≢ 0 → cut_short ≤ k) (λ z. absurd (z refl)) (record-numbers last bs))

says-numbered : (bs : List ℕ) → Numbered (says bs)
unfolding says
says-numbered bs = scan-numbered (length bs) 0 0 _ bs

-- ---- refused-zeros: a refusal leaves zeros in both slices

abbrev Empty : ℕ → ℕ → Read → Type 0
Empty n m g = g.number ≢ accepted → g ≡ not_read n m (refusal g.number g.place)

empty-after : (n m : ℕ) (q : Package) (k : ℕ) → Empty n m (read_after n m q k)
unfolding read_after
empty-after n m q zero h = absurd (h refl)
empty-after n m q (suc k) h = refl

empty-by : (n m : ℕ) (x : Res Refusal Package) → Empty n m (read_by n m x)
unfolding read_by
empty-by n m (no y) h = refl
empty-by n m (ok q) h = empty-after n m q (first_fault (read_demands n m q)) h

pub refused-zeros-read : (bs : List ℕ) (n m : ℕ) → (read_gives bs n m).number ≢ accepted
    → read_gives bs n m ≡ not_read n m (refusal (read_gives bs n m).number (read_gives bs n m).place)
unfolding read_gives
refused-zeros-read bs n m = empty-by n m (says bs)

-- ---- a read that is not refused

pub record Got (bs : List ℕ) (n m : ℕ) : Type 0 where
  pub q : Package
  pub said : says bs ≡ ok q
  pub rules-in : length q.rules ≤ n
  pub words-in : length (counted q.statements) ≤ m
  pub good : rules_good q.provable q.logic q.rules ≡ true
  pub gives : read_gives bs n m ≡ read_after n m q 0

gives-by : (bs : List ℕ) (n m : ℕ) (q : Package) (k : ℕ) → says bs ≡ ok q → first_fault (read_demands n m q) ≡ k → read_gives bs n m ≡ read_after n m q k
unfolding read_gives read_by
gives-by bs n m q k e f = rw (e, f)

got-after : (bs : List ℕ) (n m : ℕ) (q : Package) (k : ℕ) → says bs ≡ ok q → first_fault (read_demands n m q) ≡ k → (read_after n m q k).number ≡ accepted → Got bs n m
unfolding read_after
got-after bs n m q (suc k) e f h = absurd (omega arith)
got-after bs n m q zero e f h =
    let s = ltb n (length q.rules) in
    let t = ltb m (length (counted q.statements)) in
    let c = demand (rules_good q.provable q.logic q.rules) bad_rules ∷ [] in
    let one = clear (not s) no_room (demand (not t) no_room ∷ c) (omega arith) f in
    let two = clear (not t) no_room c (omega arith) one.others in
    let three = clear (rules_good q.provable q.logic q.rules) bad_rules [] (omega arith) two.others in
    record {
      q = q;
      said = e;
      rules-in = ltb-false n (length q.rules) (not-true s one.passed);
      words-in = ltb-false m (length (counted q.statements)) (not-true t two.passed);
      good = three.passed;
      gives = gives-by bs n m q 0 e f;
    }

got-by : (bs : List ℕ) (n m : ℕ) (x : Res Refusal Package) → says bs ≡ x → Numbered x → (read_by n m x).number ≡ accepted → Got bs n m
unfolding read_by
got-by bs n m (no y) e k h = absurd (omega arith)
got-by bs n m (ok q) e k h = got-after bs n m q (first_fault (read_demands n m q)) e refl h

pub got : (bs : List ℕ) (n m : ℕ) → (read_gives bs n m).number ≡ accepted → Got bs n m
unfolding read_gives
got bs n m h = got-by bs n m (says bs) refl (says-numbered bs) h

-- and what it gives
pub gets : (bs : List ℕ) (n m : ℕ) (q : Package) → says bs ≡ ok q → length q.rules ≤ n → length (counted q.statements) ≤ m
    → rules_good q.provable q.logic q.rules ≡ true → read_gives bs n m ≡ read_after n m q 0
unfolding first_fault
gets bs n m q e h k g =
    let s = le-ltb n (length q.rules) h in
    let t = le-ltb m (length (counted q.statements)) k in
    gives-by bs n m q 0 e (rw (s, t, g))

-- ---- lengths-kept: each slice comes back as long as it was lent

module _ (bs : List ℕ) (n m : ℕ) where
  kept_by : (k : ℕ) → (read_gives bs n m).number ≡ k → (length (read_gives bs n m).rule-words ≡ n) × (length (read_gives bs n m).statement-words ≡ m)
  unfolding read_after
  kept_by zero e =
      let g = got bs n m e in
      rw g.gives (padded-length g.q.rules n g.rules-in, padded-length (counted g.q.statements) m g.words-in)
  kept_by (suc k) e = rw (refused-zeros-read bs n m (λ z. omega arith)) (length-replicate n 0, length-replicate m 0)

  pub lengths-kept-read : (length (read_gives bs n m).rule-words ≡ n) × (length (read_gives bs n m).statement-words ≡ m)
  lengths-kept-read = kept_by _ refl

-- ---- read-enough: rules need no more than three words for every eight bytes, statements no more than one for every four

enough-fault : (a b d : Bool) → a ≡ true → b ≡ true → first_fault (demand a no_room ∷ demand b no_room ∷ demand d bad_rules ∷ []) ≢ no_room
unfolding first_fault
enough-fault true true true h k e = omega arith
enough-fault true true false h k e = omega arith
enough-fault true false d h k e = absurd (false≢true k)
enough-fault false b d h k e = absurd (false≢true h)

after-number : (n m : ℕ) (q : Package) (k : ℕ) → (read_after n m q k).number ≡ k
unfolding read_after
after-number n m q zero = refl
after-number n m q (suc k) = refl

enough-by : (bs : List ℕ) (n m : ℕ) (x : Res Refusal Package) → says bs ≡ x → Numbered x → 3 * length bs / 8 ≤ n → length bs / 4 ≤ m → (read_by n m x).number ≢ no_room
unfolding read_by
enough-by bs n m (no y) e k h j = λ z. omega arith
enough-by bs n m (ok q) e k h j =
    let f = says-few bs q e in
    let s = le-ltb n (length q.rules) (omega (arith, f.rules)) in
    let t = le-ltb m (length (counted q.statements)) (omega (arith, f.words)) in
    λ z. enough-fault (not (ltb n (length q.rules))) (not (ltb m (length (counted q.statements)))) (rules_good q.provable q.logic q.rules)
    (ap not s) (ap not t) (sym (after-number n m q (first_fault (read_demands n m q))) ∙ z)

pub read-enough : (bs : List ℕ) (n m : ℕ) → 3 * length bs / 8 ≤ n → length bs / 4 ≤ m → (read_gives bs n m).number ≢ no_room
unfolding read_gives
read-enough bs n m h k = enough-by bs n m (says bs) refl (says-numbered bs) h k
