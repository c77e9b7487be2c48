-- What the words of good rules say, word by word and rule by rule.
use Rattle.std.specs.Prelude.{◌≡◌, refl, Bool, true, false, not, ◌&&◌, List, [], ◌∷◌, ◌++◌, ◌≢◌, ℕ, zero, suc, ◌+◌, ◌*◌, ◌-◌, ◌/◌, ◌≤◌, ◌<◌, eqb, ltb, leb, length, take, drop, get_or}
use Rattle.std.proofs.Common.{sym, ap, subst, ◌∙◌, add-one, not-suc-le-zero, arith, drop_of_length-le, length-drop, drop-cons, drop-drop, length-take-le, get_or-drop, get_or-take, ltb-true, ltb-false, leb-true, eqb-true, ne_eqb}
use Rattle.std.proofs.lemmas.Bool.{false≢true, not-true}
use Rattle.std.proofs.Math.Option.{none, some, some-injective, none-ne-some}
use Rattle.std.proofs.Math.Numerals.{add-two}
use Rattle.std.proofs.Math.ListN.{get_elem?}
use Rattle.words.specs.Limits.{most_items, most_rules}
use Rattle.words.specs.Outcome.{pick}
use Rattle.words.proofs.Theorems.Tests.{and_l, and_r, by-test}
use Rattle.rules.specs.Rules.{Item, con, slot, Rule, item_width, size_of, body_words, rest_of, item_of, items_of, variables, rule_of, rules_of, the_rules, rule_at, slots, source, symbol, third, good_items, absent, distinct, good_body, good_head, good_rule, good_rules, rules_good, Stretch, no_stretch, stretch_from}
use Rattle.rules.proofs.Theorems.Every.{chain-at}

-- ---- a body, from word i on

pub items-good-end : (ws : List ℕ) (i : ℕ) → length ws ≤ i → good_items (drop i ws) ≡ true
unfolding good_items
items-good-end ws i h = rw (drop_of_length-le ws h)

pub items-good-odd : (ws : List ℕ) (i : ℕ) → i < length ws → length ws - i < item_width → good_items (drop i ws) ≡ false
unfolding good_items
items-good-odd ws i h k = by (ltb (suc i) (length ws)) refl
  where
    by : (b : Bool) → ltb (suc i) (length ws) ≡ b → good_items (drop i ws) ≡ false
    by true e =
        let a : suc i < length ws = ltb-true (suc i) (length ws) e in
        rw (drop-cons ws i 0 h, drop-cons ws (suc i) 0 a, drop_of_length-le ws {i = suc (suc i)} (omega arith))
    by false e = rw (drop-cons ws i 0 h, drop_of_length-le ws {i = suc i} (ltb-false (suc i) (length ws) e))

-- an item of a body, word by word
pub three : (ws : List ℕ) (i : ℕ) → i + 2 < length ws
    → drop i ws ≡ get_or ws i 0 ∷ get_or ws (i + 1) 0 ∷ get_or ws (i + 2) 0 ∷ drop (i + item_width) ws
three ws i h =
    let a : i < length ws = omega arith in
    let b : suc i < length ws = omega arith in
    let c : suc (suc i) < length ws = omega arith in
    let e : i + item_width ≡ suc (suc (suc i)) = omega arith in
    rw (drop-cons ws i 0 a, drop-cons ws (suc i) 0 b, drop-cons ws (suc (suc i)) 0 c, e, add-one, add-two)

pub items-good-step : (ws : List ℕ) (i : ℕ) → i + 2 < length ws
    → good_items (drop i ws) ≡ not (ltb 1 (get_or ws i 0)) && symbol (get_or ws (i + 1) 0) && third (get_or ws i 0) (get_or ws (i + 2) 0)
    && good_items (drop (i + item_width) ws)
unfolding good_items
items-good-step ws i h = rw (three ws i h)

pub items-end : (ws : List ℕ) (i : ℕ) → length ws ≤ i → items_of (drop i ws) ≡ []
unfolding items_of
items-end ws i h = rw (drop_of_length-le ws h)

pub items-step : (ws : List ℕ) (i : ℕ) → i + 2 < length ws
    → items_of (drop i ws) ≡ item_of (get_or ws i 0) (get_or ws (i + 1) 0) ∷ items_of (drop (i + item_width) ws)
unfolding items_of
items-step ws i h = rw (three ws i h)

-- good items at word i: one whole item, then good items
pub record GoodItem (ws : List ℕ) (i : ℕ) : Type 0 where
  pub whole : i + 2 < length ws
  pub kind : get_or ws i 0 ≤ 1
  pub named : symbol (get_or ws (i + 1) 0) ≡ true
  pub varied : third (get_or ws i 0) (get_or ws (i + 2) 0) ≡ true
  pub rest : good_items (drop (i + item_width) ws) ≡ true

pub good-item : (ws : List ℕ) (i : ℕ) → i < length ws → good_items (drop i ws) ≡ true → GoodItem ws i
good-item ws i h g = by (ltb (length ws - i) item_width) refl
  where
    by : (b : Bool) → ltb (length ws - i) item_width ≡ b → GoodItem ws i
    by true e = absurd (false≢true (sym (items-good-odd ws i h (ltb-true (length ws - i) item_width e)) ∙ g))
    by false e =
        let w : i + 2 < length ws = omega (arith, ltb-false (length ws - i) item_width e) in
        let k = not (ltb 1 (get_or ws i 0)) in
        let s = symbol (get_or ws (i + 1) 0) in
        let v = third (get_or ws i 0) (get_or ws (i + 2) 0) in
        let r = good_items (drop (i + item_width) ws) in
        let a = chain-at k (s ∷ v ∷ r ∷ []) (sym (items-good-step ws i w) ∙ g) in
        record {
          whole = w;
          kind = ltb-false 1 (get_or ws i 0) (not-true (ltb 1 (get_or ws i 0)) (a 0));
          named = a 1;
          varied = a 2;
          rest = a 3;
        }

-- how many items a body has
pub items-count : (ws : List ℕ) → length (items_of ws) ≡ length ws / item_width
unfolding items_of
items-count [] = refl
items-count (k ∷ []) = refl
items-count (k ∷ s ∷ []) = refl
items-count (k ∷ s ∷ v ∷ ws) = omega (arith, items-count ws)

-- item j of a body stands at word 3j
pub item-within : (ws : List ℕ) (j : ℕ) → j < length (items_of ws) → item_width * j + 2 < length ws
item-within ws j h = omega (arith, items-count ws)

item-at : (ws : List ℕ) (j : ℕ) → item_width * j + 2 < length ws
    → get_elem? (items_of ws) j ≡ some (item_of (get_or ws (item_width * j) 0) (get_or ws (item_width * j + 1) 0))
unfolding items_of
item-at [] j h = absurd (omega arith)
item-at (k ∷ []) j h = absurd (omega arith)
item-at (k ∷ s ∷ []) j h = absurd (omega arith)
item-at (k ∷ s ∷ v ∷ ws) zero h = refl
item-at (k ∷ s ∷ v ∷ ws) (suc j) h =
    let e : item_width * suc j + 1 ≡ suc (suc (suc (item_width * j + 1))) = omega arith in
    let d : item_width * suc j ≡ suc (suc (suc (item_width * j))) = omega arith in
    rw (e, d) (item-at ws j (omega arith))

module _ (ws : List ℕ) (j : ℕ) (h : j < length (items_of ws)) where
  pub item-con : get_or ws (item_width * j) 0 ≡ 0 → get_elem? (items_of ws) j ≡ some (con (get_or ws (item_width * j + 1) 0))
  item-con z = rw z at (item-at ws j (item-within ws j h))

  pub item-slot : get_or ws (item_width * j) 0 ≢ 0 → get_elem? (items_of ws) j ≡ some (slot (get_or ws (item_width * j + 1) 0))
  item-slot z = item-at ws j (item-within ws j h) ∙ rw (of-slot (get_or ws (item_width * j) 0) (get_or ws (item_width * j + 1) 0) z)
    where
      of-slot : (k s : ℕ) → k ≢ 0 → item_of k s ≡ slot s
      of-slot zero s h = absurd (h refl)
      of-slot (suc k) s h = refl

-- an item in its place, from the front and from the end
pub from-item : {A : Type 0} (xs : List A) (j : ℕ) (x : A) → get_elem? xs j ≡ some x → drop j xs ≡ x ∷ drop (suc j) xs
from-item [] zero x e = absurd (none-ne-some x e)
from-item [] (suc j) x e = absurd (none-ne-some x e)
from-item (y ∷ xs) zero x e = ap (λ z. z ∷ xs) (some-injective y x e)
from-item (y ∷ xs) (suc j) x e = from-item xs j x e

pub to_item : {A : Type 0} (xs : List A) (j : ℕ) (x : A) → get_elem? xs j ≡ some x → take (suc j) xs ≡ take j xs ++ x ∷ []
to_item [] zero x e = absurd (none-ne-some x e)
to_item [] (suc j) x e = absurd (none-ne-some x e)
to_item (y ∷ xs) zero x e = ap (λ z. z ∷ []) (some-injective y x e)
to_item (y ∷ xs) (suc j) x e = ap (λ (zs : List _). y ∷ zs) (to_item xs j x e)

-- ---- the slots of a body, from word i on

slots-of : (k s : ℕ) (b : List Item) → k ≤ 1 → slots (item_of k s ∷ b) ≡ k + slots b
unfolding slots
slots-of zero s b h = let e : slots b ≡ 0 + slots b = omega arith in e
slots-of (suc zero) s b h = let e : suc (slots b) ≡ 1 + slots b = omega arith in e
slots-of (suc (suc k)) s b h = absurd (omega arith)

pub slots-step : (ws : List ℕ) (i : ℕ) → i + 2 < length ws → get_or ws i 0 ≤ 1
    → slots (items_of (drop i ws)) ≡ get_or ws i 0 + slots (items_of (drop (i + item_width) ws))
slots-step ws i h k = rw (items-step ws i h) (slots-of (get_or ws i 0) (get_or ws (i + 1) 0) (items_of (drop (i + item_width) ws)) k)

pub slots_end : (ws : List ℕ) (i : ℕ) → length ws ≤ i → slots (items_of (drop i ws)) ≡ 0
unfolding slots
slots_end ws i h = rw (items-end ws i h)

-- ---- the variables of a body, from word i on

pub variables-end : (ws : List ℕ) (i : ℕ) → length ws ≤ i → variables (drop i ws) ≡ []
unfolding variables
variables-end ws i h = rw (drop_of_length-le ws h)

-- a constant has none, and a slot has its own
variables-con : (k s v : ℕ) (ws : List ℕ) → k ≤ 1 → (k ≡ 1 → ⊥) → variables (k ∷ s ∷ v ∷ ws) ≡ variables ws
unfolding variables
variables-con zero s v ws b h = refl
variables-con (suc k) s v ws b h = absurd (h (omega arith))

variables-slot : (k s v : ℕ) (ws : List ℕ) → k ≡ 1 → variables (k ∷ s ∷ v ∷ ws) ≡ v ∷ variables ws
unfolding variables
variables-slot zero s v ws h = absurd (omega arith)
variables-slot (suc k) s v ws h = refl

-- no variable is 0, so a constant's third word is no other item's variable
absent-item : (k s v : ℕ) (ws : List ℕ) (x : ℕ) → third k v ≡ true → symbol x ≡ true
    → absent x (variables (k ∷ s ∷ v ∷ ws)) ≡ not (eqb v x) && absent x (variables ws)
unfolding variables absent third symbol
absent-item zero s v ws x t h =
    let a : not (ltb x 1) ≡ true = search and_l in
    let b = ltb-false x 1 (not-true (ltb x 1) a) in
    let e : eqb v x ≡ false = ne_eqb v x (λ q. absurd (omega (arith, eqb-true v 0 t, b))) in
    rw e
absent-item (suc k) s v ws x t h = refl

module _ (ws : List ℕ) (i : ℕ) (g : GoodItem ws i) where
  pub absent-step : (x : ℕ) → symbol x ≡ true
      → absent x (variables (drop i ws)) ≡ not (eqb (get_or ws (i + 2) 0) x) && absent x (variables (drop (i + item_width) ws))
  absent-step x h =
      rw (three ws i g.whole)
      (absent-item (get_or ws i 0) (get_or ws (i + 1) 0) (get_or ws (i + 2) 0) (drop (i + item_width) ws) x g.varied h)

  pub variable : get_or ws i 0 ≡ 1 → symbol (get_or ws (i + 2) 0) ≡ true
  unfolding third
  variable k = rw k at g.varied

  pub distinct-con : (get_or ws i 0 ≡ 1 → ⊥) → distinct (variables (drop i ws)) ≡ distinct (variables (drop (i + item_width) ws))
  distinct-con h =
      rw (three ws i g.whole, variables-con (get_or ws i 0) (get_or ws (i + 1) 0) (get_or ws (i + 2) 0) (drop (i + item_width) ws) g.kind h)

  pub distinct-slot : get_or ws i 0 ≡ 1
      → distinct (variables (drop i ws)) ≡ absent (get_or ws (i + 2) 0) (variables (drop (i + item_width) ws)) && distinct (variables (drop (i + item_width) ws))
  unfolding distinct
  distinct-slot h =
      rw (three ws i g.whole, variables-slot (get_or ws i 0) (get_or ws (i + 1) 0) (get_or ws (i + 2) 0) (drop (i + item_width) ws) h)

-- ---- a good rule that stands first

pub record GoodRule (ws : List ℕ) : Type 0 where
  pub two : 1 < length ws
  pub result : symbol (get_or ws 0 0) ≡ true
  pub filled : 1 ≤ get_or ws 1 0
  pub few : get_or ws 1 0 ≤ most_items
  pub fits : size_of ws ≤ length ws
  pub items : good_items (body_words ws) ≡ true

pub good-rule : (p : ℕ) (ws : List ℕ) → good_rule p ws ≡ true → GoodRule ws
unfolding good_rule good_head good_body
good-rule p ws e =
    let l : not (ltb (length ws) 2) ≡ true = search (and_l, and_r) in
    let a : not (ltb (get_or ws 1 0) 1) ≡ true = search (and_l, and_r) in
    let b : leb (get_or ws 1 0) most_items ≡ true = search (and_l, and_r) in
    let f : not (ltb (length ws) (size_of ws)) ≡ true = search (and_l, and_r) in
    record {
      two = ltb-false (length ws) 2 (not-true (ltb (length ws) 2) l);
      result = search (and_l, and_r) depth 7;
      filled = ltb-false (get_or ws 1 0) 1 (not-true (ltb (get_or ws 1 0) 1) a);
      few = leb-true (get_or ws 1 0) most_items b;
      fits = ltb-false (length ws) (size_of ws) (not-true (ltb (length ws) (size_of ws)) f);
      items = search (and_l, and_r);
    }

-- the body of a good rule
pub body-length : (ws : List ℕ) → GoodRule ws → length (body_words ws) ≡ item_width * get_or ws 1 0
body-length ws g = length-take-le (size_of ws - 2) (drop 2 ws) (omega (arith, length-drop 2 ws, g.fits)) ∙ omega arith

pub body-items : (ws : List ℕ) → GoodRule ws → length (items_of (body_words ws)) ≡ get_or ws 1 0
body-items ws g = omega (arith, items-count (body_words ws), body-length ws g)

pub body-count : (p : ℕ) (ws : List ℕ) → good_rule p ws ≡ true → (1 ≤ length (rule_of ws).body) × (length (rule_of ws).body ≤ most_items)
body-count p ws e = let g = good-rule p ws e in (omega (arith, body-items ws g, g.filled), omega (arith, body-items ws g, g.few))

pub body-word : (ws : List ℕ) (j : ℕ) → j < item_width * get_or ws 1 0 → get_or (body_words ws) j 0 ≡ get_or ws (2 + j) 0
body-word ws j h = get_or-take (size_of ws - 2) (drop 2 ws) j 0 (omega arith) ∙ get_or-drop 2 ws j 0

-- a body of one item
pub one-item : (ws : List ℕ) → GoodRule ws → get_or ws 1 0 ≡ 1 → items_of (body_words ws) ≡ item_of (get_or ws 2 0) (get_or ws 3 0) ∷ []
one-item ws g e =
    let l : length (body_words ws) ≡ item_width = omega (arith, body-length ws g) in
    items-step (body_words ws) 0 (omega arith)
    ∙ rw (body-word ws 0 (omega arith), body-word ws 1 (omega arith), items-end (body_words ws) item_width (omega arith))

-- which rules are conversions, by their words
source-short : (b : List Item) → (length b ≡ 1 → ⊥) → source b ≡ none
unfolding source
source-short [] h = refl
source-short (con c ∷ b) h = refl
source-short (slot u ∷ []) h = absurd (h refl)
source-short (slot u ∷ i ∷ b) h = refl

pub source-long : (ws : List ℕ) → GoodRule ws → (get_or ws 1 0 ≡ 1 → ⊥) → source (items_of (body_words ws)) ≡ none
source-long ws g h = source-short (items_of (body_words ws)) (λ q. h (sym (body-items ws g) ∙ q))

source-item : (k s : ℕ) → (k ≡ 1 → ⊥) → k ≤ 1 → source (item_of k s ∷ []) ≡ none
unfolding source
source-item zero s h b = refl
source-item (suc k) s h b = absurd (h (omega arith))

pub source-con : (ws : List ℕ) → GoodRule ws → get_or ws 1 0 ≡ 1 → (get_or ws 2 0 ≡ 1 → ⊥) → source (items_of (body_words ws)) ≡ none
source-con ws g e h =
    let k = (good-item (body_words ws) 0 (omega (arith, body-length ws g)) g.items).kind in
    rw (one-item ws g e) (source-item (get_or ws 2 0) (get_or ws 3 0) h (omega (arith, k, body-word ws 0 (omega arith))))

pub source-slot : (ws : List ℕ) → GoodRule ws → get_or ws 1 0 ≡ 1 → get_or ws 2 0 ≡ 1 → source (items_of (body_words ws)) ≡ some (get_or ws 3 0)
unfolding source
source-slot ws g e h = rw (one-item ws g e, h)

-- a good rule is one whatever the provable typecode is: no result is 0
head-any : (p t n : ℕ) → good_head p t n ≡ true → good_head 0 t n ≡ true
unfolding good_head symbol
head-any p t n e =
    let a : not (ltb t 1) ≡ true = search (and_l, and_r) in
    let b : not (eqb t p) ≡ true = search (and_l, and_r) in
    let z : eqb t 0 ≡ false = ne_eqb t 0 (λ q. absurd (omega (arith, ltb-false t 1 (not-true (ltb t 1) a)))) in
    rw z (rw (not-true (eqb t p) b) at e)

pub rule-any : (p : ℕ) (ws : List ℕ) → good_rule p ws ≡ true → good_rule 0 ws ≡ true
unfolding good_rule
rule-any p ws e =
    let h : good_head p (get_or ws 0 0) (get_or ws 1 0) ≡ true = search (and_l, and_r) in
    rw (head-any p (get_or ws 0 0) (get_or ws 1 0) h) (rw h at e)

pub rules-any : (p k : ℕ) (ws : List ℕ) → good_rules p k ws ≡ true → good_rules 0 k ws ≡ true
unfolding good_rules
rules-any p zero [] e = refl
rules-any p zero (w ∷ ws) e = e
rules-any p (suc k) [] e = refl
rules-any p (suc k) (w ∷ ws) e =
    rw (rule-any p (w ∷ ws) (and_l _ (good_rules p k (rest_of (w ∷ ws))) e))
    (rules-any p k (rest_of (w ∷ ws)) (and_r (good_rule p (w ∷ ws)) _ e))

pub rules-good : (p l : ℕ) (ws : List ℕ) → rules_good p l ws ≡ true → good_rules 0 most_rules ws ≡ true
unfolding rules_good
rules-good p l ws e =
    let h : good_rules p most_rules ws ≡ true = search (and_l, and_r) in
    rules-any p most_rules ws h

-- ---- rules, from word i on

pub good-end : (p k : ℕ) (ws : List ℕ) (i : ℕ) → length ws ≤ i → good_rules p k (drop i ws) ≡ true
unfolding good_rules
good-end p zero ws i h = rw (drop_of_length-le ws h)
good-end p (suc k) ws i h = rw (drop_of_length-le ws h)

pub good_none : (p : ℕ) (ws : List ℕ) (i : ℕ) → i < length ws → good_rules p 0 (drop i ws) ≡ false
unfolding good_rules
good_none p ws i h = rw (drop-cons ws i 0 h)

pub good-step : (p k : ℕ) (ws : List ℕ) (i : ℕ) → i < length ws → 0 < k
    → good_rules p k (drop i ws) ≡ good_rule p (drop i ws) && good_rules p (k - 1) (drop (i + size_of (drop i ws)) ws)
unfolding good_rules
good-step p zero ws i h z = absurd (not-suc-le-zero z)
good-step p (suc k) ws i h z =
    let e : suc k - 1 ≡ k = omega arith in
    rw (e, ← (drop-drop (size_of (drop i ws)) i ws))
    (subst (λ (l : List ℕ). good_rules p (suc k) l ≡ good_rule p l && good_rules p k (rest_of l)) (sym (drop-cons ws i 0 h)) refl)

pub rules-end : (k : ℕ) (ws : List ℕ) (i : ℕ) → length ws ≤ i → rules_of k (drop i ws) ≡ []
unfolding rules_of
rules-end zero ws i h = refl
rules-end (suc k) ws i h = rw (drop_of_length-le ws h)

pub rules-step : (k : ℕ) (ws : List ℕ) (i : ℕ) → i < length ws → 0 < k
    → rules_of k (drop i ws) ≡ rule_of (drop i ws) ∷ rules_of (k - 1) (drop (i + size_of (drop i ws)) ws)
unfolding rules_of
rules-step zero ws i h z = absurd (not-suc-le-zero z)
rules-step (suc k) ws i h z =
    let e : suc k - 1 ≡ k = omega arith in
    rw (e, ← (drop-drop (size_of (drop i ws)) i ws))
    (subst (λ (l : List ℕ). rules_of (suc k) l ≡ rule_of l ∷ rules_of k (rest_of l)) (sym (drop-cons ws i 0 h)) refl)

pub rules-most : (k : ℕ) (ws : List ℕ) → length (rules_of k ws) ≤ k
unfolding rules_of
rules-most zero ws = omega arith
rules-most (suc k) [] = omega arith
rules-most (suc k) (w ∷ ws) = omega (arith, rules-most k (rest_of (w ∷ ws)))

-- the words of good rules are not many
pub words-most : (p k : ℕ) (ws : List ℕ) → good_rules p k ws ≡ true → length ws ≤ k * (2 + item_width * most_items)
unfolding good_rules
words-most p zero [] e = omega arith
words-most p zero (w ∷ ws) e = absurd (false≢true e)
words-most p (suc k) [] e = omega arith
words-most p (suc k) (w ∷ ws) e =
    let g = good-rule p (w ∷ ws) (and_l _ (good_rules p k (rest_of (w ∷ ws))) e) in
    let r = words-most p k (rest_of (w ∷ ws)) (and_r (good_rule p (w ∷ ws)) _ e) in
    omega (arith, r, length-drop (size_of (w ∷ ws)) (w ∷ ws), g.few)

-- a number past the rules names none, and so does 0
pub rule-past : (R : List Rule) (n : ℕ) → (n ≤ length R → n ≡ 0) → rule_at R n ≡ none
unfolding rule_at
rule-past R zero h = refl
rule-past [] (suc n) h = refl
rule-past (q ∷ R) (suc zero) h = absurd (omega (arith, h (omega arith)))
rule-past (q ∷ R) (suc (suc n)) h = rule-past R (suc n) λ k. absurd (omega (arith, h (omega arith)))

-- what is left after n rules, taken apart
rest_at : (n : ℕ) (R : List Rule) (q : Rule) (qs : List Rule) → drop n R ≡ q ∷ qs
    → (n < length R) × (rule_at R (n + 1) ≡ some q) × (drop (n + 1) R ≡ qs)
unfolding rule_at
rest_at n R q qs e = rw add-one (at n R e)
  where
    at : (n : ℕ) (R : List Rule) → drop n R ≡ q ∷ qs → (n < length R) × (get_elem? R n ≡ some q) × (drop (suc n) R ≡ qs)
    at zero [] e = absurd (omega (arith, ap length e))
    at zero (r ∷ R) e = (omega arith, cc, cc)
    at (suc n) [] e = absurd (omega (arith, ap length e))
    at (suc n) (r ∷ R) e = let h = at n R e in (omega (arith, h.0), h.1, h.2)

-- a loop over the rules: the words from i on are the rules after the first n
pub record Ahead (ws : List ℕ) (i n : ℕ) : Type 0 where
  pub good : good_rules 0 (most_rules - n) (drop i ws) ≡ true
  pub rest : rules_of (most_rules - n) (drop i ws) ≡ drop n (the_rules ws)
  pub passed : n ≤ length (the_rules ws)

-- rule n + 1 stands at word i
pub record Here (ws : List ℕ) (i n : ℕ) : Type 0 where
  pub good : good_rule 0 (drop i ws) ≡ true
  pub fits : i + size_of (drop i ws) ≤ length ws
  pub two : i + 1 < length ws
  pub counted : n < length (the_rules ws)
  pub named : rule_at (the_rules ws) (n + 1) ≡ some (rule_of (drop i ws))
  pub first : drop n (the_rules ws) ≡ rule_of (drop i ws) ∷ drop (n + 1) (the_rules ws)
  pub next : Ahead ws (i + size_of (drop i ws)) (n + 1)

pub ahead-start : (ws : List ℕ) → good_rules 0 most_rules ws ≡ true → Ahead ws 0 0
ahead-start ws g = record { good = g; rest = refl; passed = omega arith }

pub ahead-end : (ws : List ℕ) (i n : ℕ) → Ahead ws i n → length ws ≤ i → n ≡ length (the_rules ws)
ahead-end ws i n a h =
    let e : drop n (the_rules ws) ≡ [] = sym a.rest ∙ rules-end (most_rules - n) ws i h in
    omega (arith, a.passed, length-drop n (the_rules ws), ap length e)

pub ahead-here : (ws : List ℕ) (i n : ℕ) → Ahead ws i n → i < length ws → Here ws i n
ahead-here ws i n a h =
    let z : 0 < most_rules - n = fuel (most_rules - n) a.good in
    let size = size_of (drop i ws) in
    let one : most_rules - n - 1 ≡ most_rules - (n + 1) = omega arith in
    let g : good_rule 0 (drop i ws) && good_rules 0 (most_rules - n - 1) (drop (i + size) ws) ≡ true = sym (good-step 0 (most_rules - n) ws i h z) ∙ a.good in
    let f = good-rule 0 (drop i ws) (and_l _ (good_rules 0 (most_rules - n - 1) (drop (i + size) ws)) g) in
    let s = rest_at n (the_rules ws) (rule_of (drop i ws)) (rules_of (most_rules - n - 1) (drop (i + size) ws)) (sym a.rest ∙ rules-step (most_rules - n) ws i h z) in
    record {
      good = and_l _ (good_rules 0 (most_rules - n - 1) (drop (i + size) ws)) g;
      fits = omega (arith, f.fits, length-drop i ws);
      two = omega (arith, f.two, length-drop i ws);
      counted = s.0;
      named = s.1;
      first = sym a.rest ∙ rules-step (most_rules - n) ws i h z ∙ ap (λ (qs : List Rule). rule_of (drop i ws) ∷ qs) (sym s.2);
      next = record {
        good = rw one at (and_r (good_rule 0 (drop i ws)) _ g);
        rest = rw (← one) (sym s.2);
        passed = omega (arith, s.0);
      };
    }
  where
    -- where words are left, not all rules are passed
    fuel : (k : ℕ) → good_rules 0 k (drop i ws) ≡ true → 0 < k
    fuel zero e = absurd (false≢true (sym (good_none 0 ws i h) ∙ e))
    fuel (suc k) e = omega arith

-- ---- stretches

-- a body's stretch lies within the words
pub stretch-inside : (p k at : ℕ) (ws : List ℕ) (n : ℕ) → good_rules p k ws ≡ true
    → (stretch_from k at ws n).start + (stretch_from k at ws n).length ≤ at + length ws
unfolding good_rules stretch_from
stretch-inside p zero at ws n e = omega arith
stretch-inside p (suc k) at [] n e = omega arith
stretch-inside p (suc k) at (w ∷ ws) zero e = omega arith
stretch-inside p (suc k) at (w ∷ ws) (suc zero) e =
    omega (arith, (good-rule p (w ∷ ws) (and_l _ (good_rules p k (rest_of (w ∷ ws))) e)).fits)
stretch-inside p (suc k) at (w ∷ ws) (suc (suc n)) e =
    let f = (good-rule p (w ∷ ws) (and_l _ (good_rules p k (rest_of (w ∷ ws))) e)).fits in
    let r = stretch-inside p k (at + size_of (w ∷ ws)) (rest_of (w ∷ ws)) (suc n) (and_r (good_rule p (w ∷ ws)) _ e) in
    omega (arith, r, f, length-drop (size_of (w ∷ ws)) (w ∷ ws))

-- and so does what `body` hands back
pub body-inside : (p l : ℕ) (ws : List ℕ) (n : ℕ) →
    let s = pick (rules_good p l ws) (stretch_from most_rules 0 ws n) no_stretch in
    s.start + s.length ≤ length ws
body-inside p l ws n =
    by-test (λ (s : Stretch). s.start + s.length ≤ length ws) (rules_good p l ws)
    (λ e. omega (arith, stretch-inside 0 most_rules 0 ws n (rules-good p l ws e)))
    (λ e. omega arith)
