-- The rules of a slice one after another, each with its number.
use Rattle.std.specs.Prelude.{ℕ, ◌+◌, ◌-◌, ◌≤◌, ◌<◌, ◌≡◌, true, List, Option, MatchOption, length}
use Rattle.std.specs.Borrow.{Bor}
use Rattle.words.specs.Limits.{most_rules}
use Rattle.words.specs.declared.RuleNo.{RuleNo}
use Rattle.rules.specs.Rules.{rest_of, good_rules}
use Rattle.rules.specs.Code.{a_rule}

-- n rules were taken off the front, and what is left is good rules
abbrev pub Left : ℕ → List ℕ → Type 0
Left n ws = (n ≤ most_rules) × (good_rules 0 (most_rules - n) ws ≡ true)

module _ {S : Type 0} (taken : S → ℕ) (left : S → List ℕ) where
  -- from s to t: the rule that stands first, with its number, and then what follows it is left; or no rule, where no word is left
  abbrev pub TakesRule : S → Option (RuleNo × Bor (List ℕ)) → S → Type 0
  TakesRule s r t = MatchOption r (length (left s) ≡ 0) (λ x.
      (0 < length (left s)) × (a_rule (left s) ≡ true) × (x.0.0 ≡ taken s + 1) × (x.1.now ≡ left s)
      × (taken t ≡ taken s + 1) × (left t ≡ rest_of (left s)))
