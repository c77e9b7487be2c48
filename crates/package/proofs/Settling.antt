-- `read`, before its slices are cleared.
use Rattle.std.proofs.Common.{◌≡◌, ℕ, zero, suc, ◌≤◌, ◌<◌, refl, sym, ap, ◌∙◌, Bool, true, false, not, List, [], ◌∷◌, ltb, arith, length, take, lt-ltb, le-ltb, Ok, Err, ◌⊎◌, inl, inr}
use native.Mathlib.Nat.{sub-zero}
use Rattle.words.specs.Code.{code}
use Rattle.words.specs.declared.Refusal as why
use Rattle.words.specs.declared.Refusal.TheVariants.{NoRoom, BadRules}
use Rattle.words.specs.Lent.{zeros, padded, cleared_from}
use Rattle.words.specs.Counted.{counted}
use Rattle.words.specs.Numbers.{accepted, no_room, bad_rules}
use Rattle.words.specs.Outcome.{Res, ok, no, pick, Demand, demand, first_fault}
use Rattle.words.proofs.Theorems.Faults.{met, unmet}
use Rattle.rules.specs.Rules.{rules_good}
use Rattle.package.specs.Package.{Package, Refusal, refusal, says, not_read, read_demands, read_after, read_by, read_gives}
use Rattle.package.specs.Code.{Holds, Stands, Scanned, RefusedWhole, Settled}
use Rattle.package.specs.declared.scan.Contents.{Contents}
use Rattle.words.specs.declared.Refused.{Refused}
use Rattle.package.proofs.Ranks.{refused-some}

-- no record was refused
pub record Said (bs : List ℕ) (r : Contents) (rs ss : List ℕ) : Type 0 where
  pub p : Package
  pub all : says bs ≡ ok p
  pub stands : Stands r p rs ss

pub said : (bs : List ℕ) (r : Contents) (rs ss : List ℕ) → Scanned (says bs) (Ok r) rs ss → Said bs r rs ss
said bs r rs ss s = by_all (says bs) refl s
  where
    by_all : (x : Res Refusal Package) → says bs ≡ x → Scanned x (Ok r) rs ss → Said bs r rs ss
    by_all (ok p) e s = record { p = p; all = e; stands = s }
    by_all (no y) e s = absurd s

-- a refusal clears both slices
refused-settled : (e : Refused) (rs ss : List ℕ) (n k : ℕ) → code e.why ≡ n → e.place ≡ k → Settled (not_read (length rs) (length ss) (refusal n k)) (Err e) rs ss
refused-settled e rs ss n k f g = record {
  number = f;
  place = g;
  provable = refl;
  logic = refl;
  rules = refl;
  statements = refl;
  words = refl;
  rules-in = omega arith;
  words-in = omega arith;
  rule-words = ap zeros (sub-zero (length rs));
  statement-words = ap zeros (sub-zero (length ss));
}

pub settled-scan : (bs : List ℕ) (e : Refused) (rs ss : List ℕ) → Scanned (says bs) (Err e) rs ss → Settled (read_gives bs (length rs) (length ss)) (Err e) rs ss
unfolding read_gives read_by
settled-scan bs e rs ss s = by_fault (says bs) s
  where
    by_fault : (x : Res Refusal Package) → Scanned x (Err e) rs ss → Settled (read_by (length rs) (length ss) x) (Err e) rs ss
    by_fault (ok p) s = absurd s
    by_fault (no y) s = refused-settled e rs ss y.number y.place s.0 s.1

-- what is demanded once the rule words fit, and once the statement words do too
abbrev after_words : Package → List Demand
after_words p = demand (rules_good p.provable p.logic p.rules) bad_rules ∷ []

abbrev after_rules : ℕ → Package → List Demand
after_rules statements p = demand (not (ltb statements (length (counted p.statements)))) no_room ∷ after_words p

-- the faults of what was read, by the code's counts
short-rules : (bs : List ℕ) (r : Contents) (rs ss : List ℕ) → (s : Said bs r rs ss) → length rs < r.rules
    → first_fault (read_demands (length rs) (length ss) s.p) ≡ no_room
short-rules bs r rs ss s h =
    let p = s.p in
    unmet (ap not (lt-ltb (length rs) (length p.rules) (omega (arith, s.stands.rules)))) no_room
    (after_rules (length ss) p)

roomy-rules : (bs : List ℕ) (r : Contents) (rs ss : List ℕ) → (s : Said bs r rs ss) → r.rules ≤ length rs
    → first_fault (read_demands (length rs) (length ss) s.p)
    ≡ first_fault (after_rules (length ss) s.p)
roomy-rules bs r rs ss s h =
    let p = s.p in
    met (ap not (le-ltb (length rs) (length p.rules) (omega (arith, s.stands.rules)))) no_room
    (after_rules (length ss) p)

short-words : (bs : List ℕ) (r : Contents) (rs ss : List ℕ) → (s : Said bs r rs ss) → r.rules ≤ length rs → length ss < r.words
    → first_fault (read_demands (length rs) (length ss) s.p) ≡ no_room
short-words bs r rs ss s h k =
    let p = s.p in
    roomy-rules bs r rs ss s h ∙ unmet (ap not (lt-ltb (length ss) (length (counted p.statements)) (omega (arith, s.stands.words)))) no_room
    (after_words p)

-- the rules are judged where they stand
good-fault : (b : Bool) → first_fault (demand b bad_rules ∷ []) ≡ pick b accepted bad_rules
unfolding first_fault
good-fault true = refl
good-fault false = refl

rules-fault : (bs : List ℕ) (r : Contents) (rs ss : List ℕ) (b : Bool) → (s : Said bs r rs ss) → r.rules ≤ length rs → r.words ≤ length ss
    → rules_good r.codes.provable.0 r.codes.logic.0 (take r.rules rs) ≡ b → first_fault (read_demands (length rs) (length ss) s.p) ≡ pick b accepted bad_rules
rules-fault bs r rs ss b s h k e =
    let p = s.p in
    let t = s.stands in
    let front : take r.rules rs ≡ p.rules = rw t.rules (t.rule-words (omega (arith, t.rules))) in
    let good : rules_good p.provable p.logic p.rules ≡ b = rw (← t.provable, ← t.logic, ← front) e in
    roomy-rules bs r rs ss s h ∙ met (ap not (le-ltb (length ss) (length (counted p.statements)) (omega (arith, t.words)))) no_room
    (after_words p)
    ∙ good-fault (rules_good p.provable p.logic p.rules) ∙ rw good

after-number : (p : Package) (rs ss : List ℕ) (y : why.Refusal) (n : ℕ) → 1 ≤ n → code y ≡ n
    → Settled (read_after (length rs) (length ss) p n) (Err (record { why = y; place = 0 })) rs ss
unfolding read_after
after-number p rs ss y zero k e = absurd (omega arith)
after-number p rs ss y (suc n) k e = refused-settled (record { why = y; place = 0 }) rs ss (suc n) 0 e refl

settled-refused : (bs : List ℕ) (r : Contents) (rs ss : List ℕ) (y : why.Refusal) (e : Refused) → (s : Said bs r rs ss) → RefusedWhole y e
    → first_fault (read_demands (length rs) (length ss) s.p) ≡ code y → Settled (read_gives bs (length rs) (length ss)) (Err e) rs ss
unfolding read_gives read_by
settled-refused bs r rs ss y e s w h = rw (s.all, h, w) (after-number s.p rs ss y (code y) (refused-some y) refl)

pub settled-short : (bs : List ℕ) (r : Contents) (rs ss : List ℕ) (e : Refused) → Said bs r rs ss
    → (length rs < r.rules) ⊎ (r.rules ≤ length rs × (length ss < r.words)) → RefusedWhole NoRoom e → Settled (read_gives bs (length rs) (length ss)) (Err e) rs ss
settled-short bs r rs ss e s (inl h) w = settled-refused bs r rs ss NoRoom e s w (short-rules bs r rs ss s h)
settled-short bs r rs ss e s (inr h) w = settled-refused bs r rs ss NoRoom e s w (short-words bs r rs ss s h.0 h.1)

pub settled-bad : (bs : List ℕ) (r : Contents) (rs ss : List ℕ) (e : Refused) → Said bs r rs ss → r.rules ≤ length rs → r.words ≤ length ss
    → false ≡ rules_good r.codes.provable.0 r.codes.logic.0 (take r.rules rs) → RefusedWhole BadRules e
    → Settled (read_gives bs (length rs) (length ss)) (Err e) rs ss
settled-bad bs r rs ss e s h k b w = settled-refused bs r rs ss BadRules e s w (rules-fault bs r rs ss false s h k (sym b))

front_kept : (s ws : List ℕ) (n : ℕ) → n ≡ length ws → Holds s ws → n ≤ length s → cleared_from s n ≡ padded ws (length s)
front_kept s ws n e h k = ap (λ (l : List ℕ). padded l (length s)) (ap (λ (m : ℕ). take m s) e ∙ h (omega arith))

pub settled-read : (bs : List ℕ) (r : Contents) (rs ss : List ℕ) → (s : Said bs r rs ss) → r.rules ≤ length rs → r.words ≤ length ss
    → true ≡ rules_good r.codes.provable.0 r.codes.logic.0 (take r.rules rs) → Settled (read_gives bs (length rs) (length ss)) (Ok r) rs ss
unfolding read_gives read_by read_after
settled-read bs r rs ss s h k b =
    let t = s.stands in
    let z = rules-fault bs r rs ss true s h k (sym b) in
    rw (s.all, z) (record {
      number = refl;
      place = refl;
      provable = t.provable;
      logic = t.logic;
      rules = t.rules;
      statements = t.statements;
      words = t.words;
      rules-in = h;
      words-in = k;
      rule-words = front_kept rs s.p.rules r.rules t.rules t.rule-words h;
      statement-words = front_kept ss (counted s.p.statements) r.words t.words t.statement-words k;
    })
