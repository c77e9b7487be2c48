-- `write`, before a byte is written, and before the bytes after it are cleared.
use Rattle.std.proofs.Common.{◌≡◌, ℕ, suc, ◌+◌, ◌≤◌, ◌<◌, refl, sym, ap, ◌∙◌, true, false, not, List, [], ◌∷◌, ltb, arith, length, take, drop, lt-ltb, take_at, Ok, Err}
use native.Mathlib.Nat.{sub-zero}
use Rattle.words.specs.Code.{code, how_many}
use Rattle.words.specs.declared.Cut.{Cut}
use Rattle.words.specs.declared.Refusal.{Refusal}
use Rattle.words.specs.declared.Refusal.TheVariants.{NoRoom, BadRules, WrongSize}
use Rattle.words.specs.Lent.{padded, zeros}
use Rattle.words.specs.Counted.{counted, lists_of, the_lists}
use Rattle.words.specs.Numbers.{no_room, wrong_size}
use Rattle.words.specs.Outcome.{Res, ok, no, Demand, demand, first_fault}
use Rattle.words.proofs.Theorems.Counted.{lists-whole}
use Rattle.words.proofs.Theorems.Faults.{met, unmet}
use Rattle.rules.specs.Rules.{rules_good}
use Rattle.package.specs.Package.{short, written, Written, not_written, write_after, write_by, write_gives}
use Rattle.package.specs.Code.{pasted, package_of, Weighed, Composed}
use Rattle.package.proofs.Theorems.Writes.{write_demands, write-lists, lists-by, no-fault, Fine, fine-gives, refused-zeros-write}
use Rattle.package.proofs.Pasting.{pasted_length}
use Rattle.package.proofs.Ranks.{refused-some}

-- the words are whole statements, n of them
pub record Statements (ss : List ℕ) (n : ℕ) : Type 0 where
  pub lists : lists_of ss ≡ ok (the_lists ss)
  pub words : counted (the_lists ss) ≡ ss
  pub count : n ≡ length (the_lists ss)

whole_by : (ss : List ℕ) (n : ℕ) (x : Res ℕ (List (List ℕ))) → lists_of ss ≡ x → how_many 0 x ≡ Ok n → Statements ss n
whole_by ss n (ok ls) e h =
    let w = lists-whole ss ls e in
    let z : 0 + length ls ≡ n = cc in
    record { lists = e ∙ ap ok (sym w.0); words = w.1; count = omega (arith, ap length w.0) }
whole_by ss n (no i) e h = absurd (let z : ◌≡◌ {A = ℕ} 0 1 = cc in omega arith)

pub statements-are : (ss : List ℕ) (n : ℕ) → Ok n ≡ how_many 0 (lists_of ss) → Statements ss n
statements-are ss n h = whole_by ss n (lists_of ss) refl (sym h)

cut_by : (c : Cut) (x : Res ℕ (List (List ℕ))) → how_many 0 x ≡ Err c → (i : ℕ) × (x ≡ no i)
cut_by c (ok ls) h = absurd (let z : ◌≡◌ {A = ℕ} 0 1 = cc in omega arith)
cut_by c (no j) h = (j, refl)

refused-weighs : (room : ℕ) (y : Refusal) → Weighed (not_written room (code y)) (Err y)
refused-weighs room y = record { number = refl; place = refl; counted = refl }

module _ (p l : ℕ) (rs ss : List ℕ) (room : ℕ) where
  pub weighed-bad : false ≡ rules_good p l rs → Weighed (write_gives p l rs ss room) (Err BadRules)
  unfolding write_gives
  weighed-bad g = rw (← g) (refused-weighs room BadRules)

  pub weighed-cut : (c : Cut) → true ≡ rules_good p l rs → Err c ≡ how_many 0 (lists_of ss) → Weighed (write_gives p l rs ss room) (Err WrongSize)
  unfolding write_gives write_by
  weighed-cut c g h = rw (← g, (cut_by c (lists_of ss) (sym h)).1) (refused-weighs room WrongSize)

  weighed-refused : (n : ℕ) (y : Refusal) → true ≡ rules_good p l rs → lists_of ss ≡ ok (the_lists ss) → first_fault (write_demands room (package_of p l rs ss)) ≡ suc n
      → suc n ≡ code y → Weighed (write_gives p l rs ss room) (Err y)
  unfolding write_after
  weighed-refused n y g e f h =
      rw (write-lists p l rs ss room (sym g) e, lists-by room (package_of p l rs ss) (suc n) f, h) (refused-weighs room y)

  -- what is demanded once no statement is too long
  abbrev room_demand : List Demand
  room_demand = demand (not (ltb room (length (written (package_of p l rs ss))))) no_room ∷ []

  pub weighed-long : (n : ℕ) → true ≡ rules_good p l rs → Statements ss n → false ≡ short (the_lists ss) → Weighed (write_gives p l rs ss room) (Err WrongSize)
  weighed-long n g s b = weighed-refused 21 WrongSize g s.lists (unmet (sym b) wrong_size room_demand) refl

  pub weighed-tight : (n : ℕ) → true ≡ rules_good p l rs → Statements ss n → true ≡ short (the_lists ss) → room < length (written (package_of p l rs ss))
      → Weighed (write_gives p l rs ss room) (Err NoRoom)
  weighed-tight n g s b h =
      weighed-refused 6 NoRoom g s.lists (met (sym b) wrong_size room_demand ∙ unmet (ap not (lt-ltb room (length (written (package_of p l rs ss))) h)) no_room []) refl

  pub weighed-fine : (n m : ℕ) → true ≡ rules_good p l rs → Statements ss n → true ≡ short (the_lists ss) → m ≤ room
      → m ≡ length (written (package_of p l rs ss)) → Weighed (write_gives p l rs ss room) (Ok m)
  unfolding write_after
  weighed-fine n m g s b h e =
      rw (write-lists p l rs ss room (sym g) s.lists, lists-by room (package_of p l rs ss) 0 (no-fault (package_of p l rs ss) room (sym b) (rw e at h)))
      (record { number = refl; place = refl; counted = e })

  -- ---- before the bytes after it are cleared

  pub fine : (n : ℕ) → Weighed (write_gives p l rs ss room) (Ok n) → Fine p l rs ss room
  fine n e = fine-gives p l rs ss room (sym e.number)

pub composed-refused : (p l : ℕ) (rs ss bs : List ℕ) (y : Refusal) → Weighed (write_gives p l rs ss (length bs)) (Err y) → Composed (write_gives p l rs ss (length bs)) (Err y) bs
composed-refused p l rs ss bs y e =
    let n = refused-zeros-write p l rs ss (length bs) (λ z. omega (arith, refused-some y, e.number, z)) in
    record {
      number = e.number;
      place = e.place;
      counted = e.counted;
      within = omega arith;
      bytes = ap zeros (sub-zero (length bs)) ∙ sym (ap (λ (v : Written). v.bytes) n);
    }

pub composed-written : (p l : ℕ) (rs ss d bs : List ℕ) (n : ℕ) → Weighed (write_gives p l rs ss (length d)) (Ok n) → Fine p l rs ss (length d)
    → bs ≡ pasted d 0 (written (package_of p l rs ss)) → Composed (write_gives p l rs ss (length d)) (Ok n) bs
composed-written p l rs ss d bs n e f b =
    let all = written (package_of p l rs ss) in
    let k : n ≡ length all = e.counted ∙ ap (λ (v : Written). v.length) f.gives in
    let m : length bs ≡ length d = ap length b ∙ pasted_length d 0 all (omega (arith, f.fits)) in
    let t : take n bs ≡ all = rw (k, b) (take_at all (drop (0 + length all) d) (length all) refl) in
    record {
      number = e.number;
      place = e.place;
      counted = e.counted;
      within = omega (arith, f.fits);
      bytes = ap (λ (x : List ℕ). padded x (length bs)) t ∙ ap (λ (n : ℕ). padded all n) m ∙ sym (ap (λ (v : Written). v.bytes) f.gives);
    }
