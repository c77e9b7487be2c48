-- The rules that are left in a loop that takes one after another off the front.
use Rattle.std.proofs.Common.{◌≡◌, ℕ, zero, suc, ◌+◌, ◌≤◌, ◌<◌, true, List, [], ◌∷◌, length, drop, arith, refl}
use Rattle.std.proofs.lemmas.Bool.{false≢true}
use Rattle.words.specs.Limits.{most_rules}
use Rattle.words.proofs.Theorems.Tests.{and_l, and_r}
use Rattle.rules.specs.Rules.{size_of, rest_of, rules_of, the_rules, good_rule, good_rules}
use Rattle.rules.proofs.Theorems.Words.{GoodRule, good-rule}

-- n rules are taken off, and at most k stand in what is left
pub record Tail (ws : List ℕ) (n : ℕ) (rest : List ℕ) : Type 0 where
  pub k : ℕ
  pub most : n + k ≡ most_rules
  pub good : good_rules 0 k rest ≡ true
  pub counted : n + length (rules_of k rest) ≡ length (the_rules ws)

pub tail-start : (ws : List ℕ) → good_rules 0 most_rules ws ≡ true → Tail ws 0 ws
tail-start ws g = record { k = most_rules; most = omega arith; good = g; counted = omega arith }

-- where words are left, a good rule stands first
pub record First (ws : List ℕ) (n : ℕ) (rest : List ℕ) : Type 0 where
  pub rule : good_rule 0 rest ≡ true
  pub whole : GoodRule rest
  pub few : n < most_rules
  pub next : Tail ws (n + 1) (drop (size_of rest) rest)

first-by : (k : ℕ) (ws : List ℕ) (n : ℕ) (rest : List ℕ) → n + k ≡ most_rules → good_rules 0 k rest ≡ true
    → n + length (rules_of k rest) ≡ length (the_rules ws) → 0 < length rest → First ws n rest
unfolding good_rules rules_of
first-by k ws n [] m g c h = absurd (omega arith)
first-by zero ws n (w ∷ rest) m g c h = absurd (false≢true g)
first-by (suc k) ws n (w ∷ rest) m g c h =
    let r = and_l (good_rule 0 (w ∷ rest)) (good_rules 0 k (rest_of (w ∷ rest))) g in
    let s = and_r (good_rule 0 (w ∷ rest)) (good_rules 0 k (rest_of (w ∷ rest))) g in
    record {
      rule = r;
      whole = good-rule 0 (w ∷ rest) r;
      few = omega arith;
      next = record { k = k; most = omega arith; good = s; counted = omega (arith, c) };
    }

pub first : (ws : List ℕ) (n : ℕ) (rest : List ℕ) → Tail ws n rest → 0 < length rest → First ws n rest
first ws n rest t h = first-by t.k ws n rest t.most t.good t.counted h

end-by : (k : ℕ) (rest : List ℕ) → length rest ≡ 0 → length (rules_of k rest) ≡ 0
unfolding rules_of
end-by zero rest h = refl
end-by (suc k) [] h = refl
end-by (suc k) (w ∷ rest) h = absurd (omega arith)

pub tail-end : (ws : List ℕ) (n : ℕ) (rest : List ℕ) → Tail ws n rest → length rest ≡ 0 → n ≡ length (the_rules ws)
tail-end ws n rest t h = omega (arith, t.counted, end-by t.k rest h)

-- the first rule's words are all there
pub whole_first : (ws : List ℕ) → good_rule 0 ws ≡ true → (1 < length ws) × (size_of ws ≤ length ws)
whole_first ws g = ((good-rule 0 ws g).two, (good-rule 0 ws g).fits)
