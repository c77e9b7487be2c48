-- Rules, as a list of words says them, and when the words are bad (10).
-- A rule's words: its result typecode, how many items its body has, and the items, each by three words: its kind, 0 or 1, its constant or
-- typecode, and for a slot the variable that it stands for, which is 0 for a constant.
use Rattle.std.specs.Prelude.{ℕ, zero, suc, ◌+◌, ◌*◌, ◌-◌, Bool, true, false, not, ◌&&◌, List, [], ◌∷◌, leb, ltb, eqb, length, get_or, take, drop}
use Rattle.std.proofs.Math.Option.{Option, none, some}
use Rattle.std.proofs.Math.ListN.{get_elem?}
use Rattle.words.specs.Limits.{most_symbol, most_items, most_rules}

-- one place of a body
pub data Item : Type 0 where
  con : ℕ → Item
  slot : ℕ → Item

pub record Rule : Type 0 where
  pub result : ℕ
  pub body : List Item

-- ---- what the words say

-- the words of an item: its kind, its symbol and its variable
abbrev pub item_width : ℕ
item_width = 3

-- the words of the rule that stands first, those of its body, and what follows it
abbrev pub size_of : List ℕ → ℕ
size_of ws = 2 + item_width * get_or ws 1 0

abbrev pub body_words : List ℕ → List ℕ
body_words ws = take (size_of ws - 2) (drop 2 ws)

abbrev pub rest_of : List ℕ → List ℕ
rest_of ws = drop (size_of ws) ws

abbrev pub item_of : ℕ → ℕ → Item
item_of zero s = con s
item_of (suc k) s = slot s

-- the items of a body: variables are no part of them, since nothing but the rule check asks for them
unfoldable pub items_of : List ℕ → List Item
items_of [] = []
items_of (k ∷ []) = []
items_of (k ∷ s ∷ []) = []
items_of (k ∷ s ∷ v ∷ ws) = item_of k s ∷ items_of ws

-- the variables of a body's slots
unfoldable pub variables : List ℕ → List ℕ
variables [] = []
variables (k ∷ []) = []
variables (k ∷ s ∷ []) = []
variables (zero ∷ s ∷ v ∷ ws) = variables ws
variables (suc k ∷ s ∷ v ∷ ws) = v ∷ variables ws

abbrev pub rule_of : List ℕ → Rule
rule_of ws = record { result = get_or ws 0 0; body = items_of (body_words ws) }

-- the rules of the words, at most k of them
unfoldable pub rules_of : ℕ → List ℕ → List Rule
rules_of zero ws = []
rules_of (suc k) [] = []
rules_of (suc k) (w ∷ ws) = rule_of (w ∷ ws) ∷ rules_of k (rest_of (w ∷ ws))

abbrev pub the_rules : List ℕ → List Rule
the_rules ws = rules_of most_rules ws

-- the rule of a number: rules are numbered from 1
unfoldable pub rule_at : List Rule → ℕ → Option Rule
rule_at R zero = none
rule_at R (suc n) = get_elem? R n

-- the slots of a body
unfoldable pub slots : List Item → ℕ
slots [] = 0
slots (con c ∷ b) = slots b
slots (slot t ∷ b) = suc (slots b)

-- where a body is one slot and nothing else the rule converts, from this typecode
unfoldable pub source : List Item → Option ℕ
source [] = none
source (con c ∷ b) = none
source (slot u ∷ []) = some u
source (slot u ∷ i ∷ b) = none

-- ---- when they are bad

-- a symbol, a typecode or a variable: 1 to 65,535
unfoldable pub symbol : ℕ → Bool
symbol x = not (ltb x 1) && leb x most_symbol

-- the third word of an item of kind k: a slot's variable, and 0 for a constant
unfoldable pub third : ℕ → ℕ → Bool
third zero v = eqb v 0
third (suc k) v = symbol v

-- a body's words: threes, each of a kind that there is, a symbol, and a variable where there is one
unfoldable pub good_items : List ℕ → Bool
good_items [] = true
good_items (k ∷ []) = false
good_items (k ∷ s ∷ []) = false
good_items (k ∷ s ∷ v ∷ ws) = not (ltb 1 k) && symbol s && third k v && good_items ws

-- the variable is none of these
unfoldable pub absent : ℕ → List ℕ → Bool
absent v [] = true
absent v (u ∷ us) = not (eqb u v) && absent v us

-- no variable is named twice
unfoldable pub distinct : List ℕ → Bool
distinct [] = true
distinct (v ∷ vs) = absent v vs && distinct vs

-- good items, and no variable in two slots
unfoldable pub good_body : List ℕ → Bool
good_body ws = good_items ws && distinct (variables ws)

-- a result other than the provable typecode p, and 1 to 32 items
unfoldable pub good_head : ℕ → ℕ → ℕ → Bool
good_head p t n = not (eqb t p) && symbol t && not (ltb n 1) && leb n most_items

-- the rule that stands first is a conversion with equal ends
unfoldable pub equal_ends : List ℕ → Bool
equal_ends ws = eqb (get_or ws 1 0) 1 && eqb (get_or ws 2 0) 1 && eqb (get_or ws 3 0) (get_or ws 0 0)

-- the words begin with a good rule
unfoldable pub good_rule : ℕ → List ℕ → Bool
good_rule p ws =
    not (ltb (length ws) 2) && good_head p (get_or ws 0 0) (get_or ws 1 0) && not (ltb (length ws) (size_of ws)) && good_body (body_words ws)
    && not (equal_ends ws)

-- good rules, at most k of them, and no word left over
unfoldable pub good_rules : ℕ → ℕ → List ℕ → Bool
good_rules p zero [] = true
good_rules p zero (w ∷ ws) = false
good_rules p (suc k) [] = true
good_rules p (suc k) (w ∷ ws) = good_rule p (w ∷ ws) && good_rules p k (rest_of (w ∷ ws))

-- the two typecodes are different ones, and the rules are good; else 10
unfoldable pub rules_good : ℕ → ℕ → List ℕ → Bool
rules_good p l ws = not (eqb p l) && symbol p && symbol l && good_rules p most_rules ws

-- ---- a rule's body as a stretch of the words

pub record Stretch : Type 0 where
  pub start : ℕ
  pub length : ℕ

abbrev pub no_stretch : Stretch
no_stretch = record { start = 0; length = 0 }

-- the body of rule n, looked for among at most k rules that start at word `at`
unfoldable pub stretch_from : ℕ → ℕ → List ℕ → ℕ → Stretch
stretch_from zero at ws n = no_stretch
stretch_from (suc k) at [] n = no_stretch
stretch_from (suc k) at (w ∷ ws) zero = no_stretch
stretch_from (suc k) at (w ∷ ws) (suc zero) = record { start = at + 2; length = size_of (w ∷ ws) - 2 }
stretch_from (suc k) at (w ∷ ws) (suc (suc n)) = stretch_from k (at + size_of (w ∷ ws)) (rest_of (w ∷ ws)) (suc n)

-- the words of a stretch
abbrev pub cut : List ℕ → Stretch → List ℕ
cut ws s = take s.length (drop s.start ws)

-- what a definition that is unfolded here needs
unfoldable pub reading : Unit {0}
unfolding items_of variables rules_of rule_at slots source symbol third good_items absent distinct good_body good_head equal_ends good_rule good_rules rules_good stretch_from
reading = tt
