-- What the code's own types stand for, in the terms of the definitions.
use Rattle.std.specs.Prelude.{ℕ, zero, suc, ◌+◌, ◌*◌, ◌-◌, ◌/◌, ◌%◌, ◌≤◌, ◌<◌, ◌≡◌, Bool, true, Option, Some, None, List, slice_get, length, get_or, drop}
use Rattle.std.proofs.Math.Option as math
use Rattle.std.specs.Borrow.{Bor}
use Rattle.words.specs.Limits.{most_rules}
use Rattle.words.specs.Outcome.{pick}
use Rattle.words.specs.declared.RuleNo.{RuleNo}
use Rattle.words.specs.declared.SymbolNo.{SymbolNo}
use Rattle.rules.specs.Rules.{Item, con, slot, slots, size_of, the_rules, rule_of, rule_at, good_rule, good_rules, rules_good, Stretch, no_stretch, stretch_from, cut}
use Rattle.rules.specs.declared.Codes.{Codes}
use Rattle.rules.specs.declared.Item as coded
use Rattle.rules.specs.declared.Item.TheVariants.{Con, Slot}
use Rattle.rules.specs.declared.Stretch as declared

-- good for some provable typecode: no result is 0, so none is equal to it
abbrev pub a_rule : List ℕ → Bool
a_rule ws = good_rule 0 ws

abbrev pub some_rules : List ℕ → Bool
some_rules ws = good_rules 0 most_rules ws

-- rule n starts at word i, within the words, and its body's stretch stands there
pub record Starts (ws : List ℕ) (n i : ℕ) : Type 0 where
  pub named : rule_at (the_rules ws) n ≡ math.some (rule_of (drop i ws))
  pub good : a_rule (drop i ws) ≡ true
  pub fits : i + size_of (drop i ws) ≤ length ws
  pub stretched : stretch_from most_rules 0 ws n ≡ record { start = i + 2; length = size_of (drop i ws) - 2 }

pub record Missing (ws : List ℕ) (n : ℕ) : Type 0 where
  pub unnamed : rule_at (the_rules ws) n ≡ math.none
  pub unstretched : stretch_from most_rules 0 ws n ≡ no_stretch

-- where rule n starts
abbrev pub Found : List ℕ → ℕ → Option ℕ → Type 0
Found ws n (Some i) = Starts ws n i
Found ws n None = Missing ws n

-- ---- an index: for each rule one word, where it starts and how many slots it has

-- more than a rule has slots
abbrev pub mark : ℕ
mark = 64

-- the word w marks rule n
pub record Marks (ws : List ℕ) (n w : ℕ) : Type 0 where
  pub start : Starts ws n (w / mark)
  pub slots : w % mark ≡ slots (rule_of (drop (w / mark) ws)).body

-- the words of `is` mark the first rules; an empty index marks none
abbrev pub Indexed : List ℕ → List ℕ → Type 0
Indexed ws is = (n : ℕ) → n < length is → Marks ws (n + 1) (get_or is n 0)

-- the word of an index for rule n
abbrev pub marked : List ℕ → ℕ → Option ℕ
marked is zero = None
marked is (suc n) = slice_get is n

-- good rules with an index, which may be empty
pub record Ruled (ws is : List ℕ) : Type 0 where
  pub good : some_rules ws ≡ true
  pub index : Indexed ws is

-- an item that the code holds
abbrev pub item_is : coded.Item → Item
item_is (Con c) = con c.0
item_is (Slot t) = slot t.0

-- a conversion's source
abbrev pub source_of : Option SymbolNo → math.Option ℕ
source_of (Some t) = math.some t.0
source_of None = math.none

abbrev pub stretch_of : declared.Stretch → Stretch
stretch_of s = record { start = s.start; length = s.length }

-- where the body of a rule stands: nowhere if the rules are bad or have no such rule
abbrev pub body_in : Codes → List ℕ → RuleNo → Stretch
body_in codes ws rule = pick (rules_good codes.provable.0 codes.logic.0 ws) (stretch_from most_rules 0 ws rule.0) no_stretch

-- ---- a stretch as a part of the slice

abbrev pub word_bytes : ℕ
word_bytes = 4

-- r is that stretch of the slice s itself: its words, and they stand where they stood
pub record PartOf (s r : Bor (List ℕ)) (x : Stretch) : Type 0 where
  pub words : r.now ≡ cut s.now x
  pub place : r.ref_ptr ≡ (s.ref_ptr.0, x.start * word_bytes + s.ref_ptr.1)
