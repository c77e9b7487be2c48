-- One rule taken off those that are left.
use Rattle.std.proofs.Common.{◌≡◌, ℕ, zero, suc, ◌+◌, ◌-◌, ◌≤◌, ◌<◌, true, List, [], ◌∷◌, length, arith, refl, Some, Bor}
use native.Mathlib.Numerals.{add-one}
use Rattle.std.proofs.lemmas.Bool.{false≢true}
use Rattle.words.specs.Limits.{most_rules}
use Rattle.words.proofs.Theorems.Tests.{and_l, and_r}
use Rattle.words.specs.declared.RuleNo.{RuleNo}
use Rattle.rules.specs.Rules.{Rule, rest_of, rule_of, rules_of, good_rule, good_rules}
use Rattle.rules.specs.Code.{a_rule}
use Rattle.rules.specs.Order.{Left, TakesRule}
use Rattle.rules.specs.declared.order.Rules.{Rules}
use Rattle.std.proofs.lemmas.Iterator.{YieldsList}
use Rattle.std.proofs.lemmas.Iterator.Consumers.{YieldsList-from_shown}

-- where words are left, a good rule stands first, and good rules follow it
pub record Taken (n : ℕ) (ws : List ℕ) : Type 0 where
  pub words : 0 < length ws
  pub rule : a_rule ws ≡ true
  pub after : Left (n + 1) (rest_of ws)

by : (n k : ℕ) (ws : List ℕ) → n ≤ most_rules → most_rules - n ≡ k → good_rules 0 k ws ≡ true → 0 < length ws → Taken n ws
unfolding good_rules
by n k [] m e g h = absurd (omega arith)
by n zero (w ∷ ws) m e g h = absurd (false≢true g)
by n (suc k) (w ∷ ws) m e g h =
    let j : most_rules - (n + 1) ≡ k = omega (arith, e, m) in
    record {
      words = h;
      rule = and_l (good_rule 0 (w ∷ ws)) (good_rules 0 k (rest_of (w ∷ ws))) g;
      after = (omega (arith, e), rw j (and_r (good_rule 0 (w ∷ ws)) (good_rules 0 k (rest_of (w ∷ ws))) g));
    }

pub taken : (n : ℕ) (ws : List ℕ) → Left n ws → 0 < length ws → Taken n ws
taken n ws l h = by n _ ws l.0 refl l.1 h

none-left : (k : ℕ) (ws : List ℕ) → length ws ≡ 0 → length (rules_of k ws) ≡ 0
unfolding rules_of
none-left zero ws h = refl
none-left (suc k) [] h = refl
none-left (suc k) (w ∷ ws) h = absurd (omega arith)

one-more : (k : ℕ) (ws : List ℕ) → 0 < length ws → rules_of (k + 1) ws ≡ rule_of ws ∷ rules_of k (rest_of ws)
unfolding rules_of
one-more k [] h = absurd (omega arith)
one-more k (w ∷ ws) h = rw (add-one k) refl

-- what the iterator gives is the rules
abbrev pub rules_left : Rules → List Rule
rules_left s = rules_of (most_rules - s.taken) s.words.now

takes-one : (s t : Rules) (x : RuleNo × Bor (List ℕ)) → TakesRule (λ s. s.taken) (λ s. s.words.now) s (Some x) t
    → rules_left s ≡ rule_of x.1.now ∷ rules_left t
takes-one s t x h =
    let a = (taken s.taken s.words.now s.good h.0).after.0 in
    let k : most_rules - s.taken ≡ most_rules - t.taken + 1 = omega (arith, h.4, a) in
    rw (k, h.3, h.5) (one-more (most_rules - t.taken) s.words.now h.0)

pub yields_rules : (s : Rules) → YieldsList (TakesRule (λ s. s.taken) (λ s. s.words.now)) (λ x. rule_of x.1.now) s (rules_left s)
yields_rules s =
    YieldsList-from_shown (TakesRule (λ s. s.taken) (λ s. s.words.now)) (λ x. rule_of x.1.now) rules_left
    (λ s t h. none-left _ s.words.now h) (λ s x t h. takes-one s t x h) s
