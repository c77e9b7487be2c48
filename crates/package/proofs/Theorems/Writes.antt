-- What a write gives back: by its refusals, and without one.
use Rattle.std.specs.Prelude.{ℕ, zero, suc, ◌+◌, ◌*◌, ◌≤◌, ◌<◌, ◌≡◌, Bool, true, false, not, List, [], ◌∷◌, ◌≢◌, ltb, length}
use Rattle.std.proofs.Math.Path.{refl}
use Rattle.std.proofs.Common.{sym, ap, ◌∙◌, ltb-false, lt-ltb, le-ltb}
use Rattle.std.proofs.lemmas.Bool.{false≢true, not-true}
use native.Mathlib.Omega.{arith}
use Rattle.std.proofs.lemmas.List.{length-replicate}
use Rattle.words.specs.Limits.{most_rules}
use Rattle.words.specs.Lent.{padded}
use Rattle.words.specs.Counted.{counted, lists_of, the_lists}
use Rattle.words.specs.Numbers.{accepted, no_room, bad_rules, wrong_size}
use Rattle.words.specs.Outcome.{Res, ok, no, pick, Demand, demand, first_fault}
use Rattle.words.proofs.Theorems.Counted.{lists-whole}
use Rattle.words.proofs.Theorems.Faults.{met, unmet, clear}
use Rattle.words.proofs.Theorems.Parts.{padded-length}
use Rattle.words.proofs.Theorems.Tests.{by-test}
use Rattle.rules.specs.Rules.{the_rules, good_rules, rules_good}
use Rattle.rules.proofs.Theorems.Words.{rules-good}
use Rattle.package.specs.Package.{Package, written, short, Written, not_written, write_after, write_lists, write_by, write_gives}
use Rattle.package.specs.Code.{package_of}
use Rattle.package.proofs.Theorems.Lengths.{package-length}

abbrev pub write_demands : ℕ → Package → List Demand
write_demands room q = demand (short q.statements) wrong_size ∷ demand (not (ltb room (length (written q)))) no_room ∷ []

pub write-lists : (p l : ℕ) (rs ss : List ℕ) (room : ℕ) → rules_good p l rs ≡ true → lists_of ss ≡ ok (the_lists ss)
    → write_gives p l rs ss room ≡ write_lists (package_of p l rs ss) room
unfolding write_gives write_by
write-lists p l rs ss room g e = rw (g, e)

pub lists-by : (room : ℕ) (q : Package) (n : ℕ) → first_fault (write_demands room q) ≡ n → write_lists q room ≡ write_after room (written q) n
unfolding write_lists
lists-by room q n e = rw e

pub no-fault : (q : Package) (room : ℕ) → short q.statements ≡ true → length (written q) ≤ room → first_fault (write_demands room q) ≡ 0
unfolding first_fault
no-fault q room b h =
    let t = not (ltb room (length (written q))) in
    met b wrong_size (demand t no_room ∷ []) ∙ met (ap not (le-ltb room (length (written q)) h)) no_room []

abbrev pub wrote : ℕ → List ℕ → Written
wrote room bs = record { number = accepted; place = 0; length = length bs; bytes = padded bs room }

-- a write that is not refused
pub record Fine (p l : ℕ) (rs ss : List ℕ) (room : ℕ) : Type 0 where
  pub judged : rules_good p l rs ≡ true
  pub good : good_rules 0 most_rules rs ≡ true
  pub lists : lists_of ss ≡ ok (the_lists ss)
  pub words : counted (the_lists ss) ≡ ss
  pub brief : short (the_lists ss) ≡ true
  pub fits : length (written (package_of p l rs ss)) ≤ room
  pub gives : write_gives p l rs ss room ≡ wrote room (written (package_of p l rs ss))

record FineLists (q : Package) (room : ℕ) : Type 0 where
  brief : short q.statements ≡ true
  fits : length (written q) ≤ room
  gives : write_lists q room ≡ wrote room (written q)

fine-after : (q : Package) (room n : ℕ) → first_fault (write_demands room q) ≡ n → (write_after room (written q) n).number ≡ accepted → FineLists q room
unfolding write_after
fine-after q room zero e h =
    let t = ltb room (length (written q)) in
    let one = clear (short q.statements) wrong_size (demand (not t) no_room ∷ []) (omega arith) e in
    let two = clear (not t) no_room [] (omega arith) one.others in
    record {
      brief = one.passed;
      fits = ltb-false room (length (written q)) (not-true t two.passed);
      gives = lists-by room q 0 e;
    }
fine-after q room (suc n) e h = absurd (omega arith)

fine-lists : (q : Package) (room : ℕ) → (write_lists q room).number ≡ accepted → FineLists q room
unfolding write_lists
fine-lists q room h = fine-after q room (first_fault (write_demands room q)) refl h

fine-by : (p l : ℕ) (rs ss : List ℕ) (room : ℕ) (b : Bool) (x : Res ℕ (List (List ℕ))) → rules_good p l rs ≡ b → lists_of ss ≡ x
    → (pick b (write_by p l rs room x) (not_written room bad_rules)).number ≡ accepted → (write_gives p l rs ss room).number ≡ accepted → Fine p l rs ss room
unfolding write_by
fine-by p l rs ss room false x g e h z = absurd (omega arith)
fine-by p l rs ss room true (no i) g e h z = absurd (omega arith)
fine-by p l rs ss room true (ok ls) g e h z =
    let w = lists-whole ss ls e in
    let all : lists_of ss ≡ ok (the_lists ss) = e ∙ ap ok (sym w.0) in
    let o = write-lists p l rs ss room g all in
    let f = fine-lists (package_of p l rs ss) room (sym (ap (λ (v : Written). v.number) o) ∙ z) in
    record { judged = g; good = rules-good p l rs g; lists = all; words = w.1; brief = f.brief; fits = f.fits; gives = o ∙ f.gives }

pub fine-gives : (p l : ℕ) (rs ss : List ℕ) (room : ℕ) → (write_gives p l rs ss room).number ≡ accepted → Fine p l rs ss room
unfolding write_gives
fine-gives p l rs ss room h = fine-by p l rs ss room (rules_good p l rs) (lists_of ss) refl refl h h

-- a refused one has no bytes but zeros
abbrev Empty : ℕ → Written → Type 0
Empty room g = g.number ≢ accepted → g ≡ not_written room g.number

empty-after : (room : ℕ) (bs : List ℕ) (n : ℕ) → Empty room (write_after room bs n)
unfolding write_after
empty-after room bs zero h = absurd (h refl)
empty-after room bs (suc n) h = refl

empty-by : (p l : ℕ) (rs : List ℕ) (room : ℕ) (x : Res ℕ (List (List ℕ))) → Empty room (write_by p l rs room x)
unfolding write_by write_lists
empty-by p l rs room (no i) h = refl
empty-by p l rs room (ok ls) h =
    let q : Package = record { provable = p; logic = l; rules = rs; statements = ls } in
    empty-after room (written q) (first_fault (write_demands room q)) h

pub refused-zeros-write : (p l : ℕ) (rs ss : List ℕ) (room : ℕ) → (write_gives p l rs ss room).number ≢ accepted
    → write_gives p l rs ss room ≡ not_written room (write_gives p l rs ss room).number
unfolding write_gives
refused-zeros-write p l rs ss room = by-test (λ g. Empty room g) (rules_good p l rs) (λ _. empty-by p l rs room (lists_of ss)) λ _ h. refl

-- ---- lengths-kept: the bytes come back as many as they were lent

module _ (p l : ℕ) (rs ss : List ℕ) (room : ℕ) where
  kept_by : (k : ℕ) → (write_gives p l rs ss room).number ≡ k → length (write_gives p l rs ss room).bytes ≡ room
  kept_by zero e =
      let f = fine-gives p l rs ss room e in
      rw f.gives (padded-length (written (package_of p l rs ss)) room f.fits)
  kept_by (suc k) e = rw (refused-zeros-write p l rs ss room (λ z. omega arith)) (length-replicate room 0)

  pub lengths-kept-write : length (write_gives p l rs ss room).bytes ≡ room
  lengths-kept-write = kept_by _ refl

-- ---- write-enough: the bytes that a package takes, from how many rules, statements and words it has

abbrev pub write_room : List ℕ → List ℕ → ℕ
write_room rs ss = 20 + 6 * length (the_rules rs) + 4 * length rs + 2 * length (the_lists ss) + 4 * length ss

room-is : (p l : ℕ) (rs ss : List ℕ) → rules_good p l rs ≡ true → counted (the_lists ss) ≡ ss → length (written (package_of p l rs ss)) ≡ write_room rs ss
room-is p l rs ss g e = package-length (package_of p l rs ss) (rules-good p l rs g) ∙ rw e

after-number : (room : ℕ) (bs : List ℕ) (n : ℕ) → (write_after room bs n).number ≡ n
unfolding write_after
after-number room bs zero = refl
after-number room bs (suc n) = refl

enough-fault : (b : Bool) (d : Bool) → d ≡ true → first_fault (demand b wrong_size ∷ demand d no_room ∷ []) ≢ no_room
unfolding first_fault
enough-fault true true h e = omega arith
enough-fault false d h e = omega arith
enough-fault true false h e = absurd (false≢true h)

enough-by : (p l : ℕ) (rs ss : List ℕ) (room : ℕ) (x : Res ℕ (List (List ℕ))) → rules_good p l rs ≡ true → lists_of ss ≡ x → write_room rs ss ≤ room
    → (write_by p l rs room x).number ≢ no_room
unfolding write_by write_lists
enough-by p l rs ss room (no i) g e h = λ z. omega arith
enough-by p l rs ss room (ok ls) g e h =
    let w = lists-whole ss ls e in
    let q : Package = record { provable = p; logic = l; rules = rs; statements = ls } in
    let n : length (written q) ≡ write_room rs ss = ap (λ (x : List (List ℕ)). length (written (record { provable = p; logic = l; rules = rs; statements = x }))) (sym w.0) ∙ room-is p l rs ss g w.1 in
    λ z. enough-fault (short ls) (not (ltb room (length (written q)))) (ap not (le-ltb room (length (written q)) (omega arith)))
    (sym (after-number room (written q) (first_fault (write_demands room q))) ∙ z)

module _ (p l : ℕ) (rs ss : List ℕ) (room : ℕ) where
  pub write-enough : write_room rs ss ≤ room → (write_gives p l rs ss room).number ≢ no_room
  unfolding write_gives
  write-enough h = by-test (λ w. w.number ≢ no_room) (rules_good p l rs) {y = not_written room bad_rules} (λ g. enough-by p l rs ss room (lists_of ss) g refl h) λ _ z. omega arith

  -- it is the exact room: so many bytes are written, and with less room the answer is 7
  pub write-length : (write_gives p l rs ss room).number ≡ accepted → (write_gives p l rs ss room).length ≡ write_room rs ss
  write-length e =
      let f = fine-gives p l rs ss room e in
      ap (λ (w : Written). w.length) f.gives ∙ room-is p l rs ss f.judged f.words

  pub write-tight : (less : ℕ) → (write_gives p l rs ss room).number ≡ accepted → less < write_room rs ss → (write_gives p l rs ss less).number ≡ no_room
  write-tight less e h =
      let f = fine-gives p l rs ss room e in
      let q = package_of p l rs ss in
      let n = room-is p l rs ss f.judged f.words in
      let t = not (ltb less (length (written q))) in
      let k : first_fault (write_demands less q) ≡ no_room =
      met f.brief wrong_size (demand t no_room ∷ []) ∙ unmet (ap not (lt-ltb less (length (written q)) (omega arith))) no_room [] in
      ap (λ (w : Written). w.number) (write-lists p l rs ss less f.judged f.lists ∙ lists-by less q no_room k) ∙ after-number less (written q) no_room
