-- What good rule words say of the rules that are read from them.
use Rattle.std.specs.Prelude.{◌≡◌, true, not, ◌&&◌, List, [], ◌∷◌, ℕ, zero, suc, ◌≤◌, ltb, eqb, length}
use Rattle.words.specs.Limits.{most_rules}
use Rattle.words.proofs.Theorems.Tests.{and_l, and_r}
use Rattle.rules.specs.Rules.{Item, con, slot, Rule, body_words, rest_of, item_of, items_of, rule_of, rules_of, the_rules, symbol, third, good_items, good_rule, good_rules, rules_good}
use Rattle.rules.proofs.Theorems.Every.{All, chain-at}
use Rattle.rules.proofs.Theorems.Words.{good-rule, body-count}

abbrev pub ItemOk : Item → Type 0
ItemOk (con c) = symbol c ≡ true
ItemOk (slot t) = symbol t ≡ true

pub record RuleOk (q : Rule) : Type 0 where
  pub some_item : 1 ≤ length q.body
  pub items-ok : All ItemOk q.body

abbrev pub Proper : List Rule → Type 0
Proper R = All RuleOk R

item_ok : (k s : ℕ) → symbol s ≡ true → ItemOk (item_of k s)
item_ok zero s h = h
item_ok (suc k) s h = h

items-ok-of : (ws : List ℕ) → good_items ws ≡ true → All ItemOk (items_of ws)
unfolding good_items items_of
items-ok-of [] g = tt
items-ok-of (k ∷ []) g = tt
items-ok-of (k ∷ s ∷ []) g = tt
items-ok-of (k ∷ s ∷ v ∷ ws) g =
    let c = chain-at (not (ltb 1 k)) (symbol s ∷ third k v ∷ good_items ws ∷ []) g in
    (item_ok k s (c 1), items-ok-of ws (c 3))

rule-ok : (p : ℕ) (ws : List ℕ) → good_rule p ws ≡ true → RuleOk (rule_of ws)
rule-ok p ws g = record { some_item = (body-count p ws g).0; items-ok = items-ok-of (body_words ws) (good-rule p ws g).items }

pub proper : (p k : ℕ) (ws : List ℕ) → good_rules p k ws ≡ true → Proper (rules_of k ws)
unfolding good_rules rules_of
proper p zero ws g = tt
proper p (suc k) [] g = tt
proper p (suc k) (w ∷ ws) g =
    let r = good_rule p (w ∷ ws) in
    let l = good_rules p k (rest_of (w ∷ ws)) in
    (rule-ok p (w ∷ ws) (and_l r l g), proper p k (rest_of (w ∷ ws)) (and_r r l g))

pub rules-proper : (p l : ℕ) (ws : List ℕ) → rules_good p l ws ≡ true → Proper (the_rules ws)
unfolding rules_good
rules-proper p l ws g = proper p most_rules ws (and_r (not (eqb p l) && symbol p && symbol l) (good_rules p most_rules ws) g)
