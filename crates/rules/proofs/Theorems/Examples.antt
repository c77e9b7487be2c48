-- The definitions, computed: the sheet's sets are good and read as its rules; words with one thing wrong are bad.
use Rattle.std.specs.Prelude.{◌≡◌, refl, Bool, true, false, not, ◌&&◌, List, [], ◌∷◌, ◌++◌, ℕ, zero, suc}
use Rattle.std.proofs.Math.Option.{none, some}
use Rattle.words.specs.Limits.{most_rules}
use Rattle.rules.specs.Rules.{con, slot, variables, the_rules, rule_at, slots, source, rules_good, Stretch, no_stretch, stretch_from, cut, reading}
use Rattle.rules.specs.Sheet.{words-S, words-S10, words-T, words-U, words-V, words-W, rules-S, sets}

record Case : Type 0 where
  provable : ℕ
  logic : ℕ
  words : List ℕ

-- with the sheet's typecodes, 1 and 2
abbrev plain : List ℕ → Case
plain ws = record { provable = 1; logic = 2; words = ws }

-- with other typecodes and one good rule
abbrev codes : ℕ → ℕ → Case
codes p l = record { provable = p; logic = l; words = 3 ∷ 1 ∷ 0 ∷ 10 ∷ 0 ∷ [] }

unfoldable judged : Bool → List Case → Bool
judged true [] = true
judged false [] = true
judged true (c ∷ cs) = rules_good c.provable c.logic c.words && judged true cs
judged false (c ∷ cs) = not (rules_good c.provable c.logic c.words) && judged false cs

-- n constants
unfoldable constants : ℕ → List ℕ
constants zero = []
constants (suc n) = 0 ∷ 10 ∷ 0 ∷ constants n

-- n slots, each with a variable of its own
unfoldable slotted : ℕ → List ℕ
slotted zero = []
slotted (suc n) = 1 ∷ 4 ∷ suc n ∷ slotted n

-- n rules of one constant
unfoldable rules : ℕ → List ℕ
rules zero = []
rules (suc n) = 3 ∷ 1 ∷ 0 ∷ 10 ∷ 0 ∷ rules n

unfoldable good : List Case
good =
    plain words-S ∷ plain words-S10 ∷ plain words-T ∷ plain words-U ∷ plain words-V ∷ plain words-W
    -- none at all
    ∷ plain []
    -- each limit itself
    ∷ plain (65535 ∷ 1 ∷ 0 ∷ 65535 ∷ 0 ∷ []) ∷ plain (65535 ∷ 1 ∷ 1 ∷ 1 ∷ 65535 ∷ []) ∷ plain (3 ∷ 32 ∷ constants 32)
    ∷ plain (3 ∷ 32 ∷ slotted 32)
    ∷ codes 65535 1 ∷ codes 1 65535 ∷ plain (rules 2048)
    -- one slot that is the result, but not alone
    ∷ plain (3 ∷ 2 ∷ 1 ∷ 3 ∷ 1 ∷ 1 ∷ 3 ∷ 2 ∷ [])
    -- the result is a constant
    ∷ plain (3 ∷ 1 ∷ 0 ∷ 3 ∷ 0 ∷ [])
    -- variables in any order, and one that is a typecode or a constant elsewhere
    ∷ plain (3 ∷ 3 ∷ 1 ∷ 4 ∷ 9 ∷ 0 ∷ 10 ∷ 0 ∷ 1 ∷ 4 ∷ 10 ∷ []) ∷ plain (3 ∷ 2 ∷ 1 ∷ 4 ∷ 5 ∷ 1 ∷ 5 ∷ 4 ∷ [])
    -- one variable in two rules, with two typecodes
    ∷ plain (3 ∷ 1 ∷ 1 ∷ 4 ∷ 7 ∷ 3 ∷ 1 ∷ 1 ∷ 5 ∷ 7 ∷ [])
    ∷ []

unfoldable bad : List Case
bad =
    -- the result: 0, past the symbols, the provable typecode
    plain (0 ∷ 1 ∷ 0 ∷ 10 ∷ 0 ∷ []) ∷ plain (65536 ∷ 1 ∷ 0 ∷ 10 ∷ 0 ∷ []) ∷ plain (1 ∷ 1 ∷ 0 ∷ 10 ∷ 0 ∷ [])
    -- the body's length
    ∷ plain (3 ∷ 0 ∷ []) ∷ plain (3 ∷ 33 ∷ constants 33)
    -- a kind
    ∷ plain (3 ∷ 1 ∷ 2 ∷ 10 ∷ 1 ∷ [])
    -- a constant, a slot's typecode
    ∷ plain (3 ∷ 1 ∷ 0 ∷ 0 ∷ 0 ∷ []) ∷ plain (3 ∷ 1 ∷ 0 ∷ 65536 ∷ 0 ∷ []) ∷ plain (3 ∷ 1 ∷ 1 ∷ 0 ∷ 1 ∷ []) ∷ plain (3 ∷ 1 ∷ 1 ∷ 65536 ∷ 1 ∷ [])
    -- a constant's third word, a slot's variable
    ∷ plain (3 ∷ 1 ∷ 0 ∷ 10 ∷ 1 ∷ []) ∷ plain (3 ∷ 1 ∷ 1 ∷ 4 ∷ 0 ∷ []) ∷ plain (3 ∷ 1 ∷ 1 ∷ 4 ∷ 65536 ∷ [])
    -- not in the first item
    ∷ plain (3 ∷ 2 ∷ 0 ∷ 10 ∷ 0 ∷ 2 ∷ 10 ∷ 1 ∷ []) ∷ plain (3 ∷ 2 ∷ 0 ∷ 10 ∷ 0 ∷ 0 ∷ 0 ∷ 0 ∷ []) ∷ plain (3 ∷ 2 ∷ 0 ∷ 10 ∷ 0 ∷ 0 ∷ 10 ∷ 1 ∷ [])
    -- a conversion with equal ends
    ∷ plain (3 ∷ 1 ∷ 1 ∷ 3 ∷ 1 ∷ []) ∷ plain (3 ∷ 1 ∷ 1 ∷ 3 ∷ 7 ∷ [])
    -- one variable in two slots: of one typecode, of two, with an item between, not in the first item
    ∷ plain (2 ∷ 2 ∷ 1 ∷ 3 ∷ 7 ∷ 1 ∷ 3 ∷ 7 ∷ []) ∷ plain (2 ∷ 2 ∷ 1 ∷ 3 ∷ 7 ∷ 1 ∷ 4 ∷ 7 ∷ [])
    ∷ plain (2 ∷ 3 ∷ 1 ∷ 3 ∷ 7 ∷ 0 ∷ 8 ∷ 0 ∷ 1 ∷ 3 ∷ 7 ∷ []) ∷ plain (2 ∷ 3 ∷ 1 ∷ 3 ∷ 5 ∷ 1 ∷ 3 ∷ 7 ∷ 1 ∷ 3 ∷ 7 ∷ [])
    -- a word left over, a body cut short, a word alone, items of two words
    ∷ plain (words-S ++ 2 ∷ []) ∷ plain (3 ∷ 2 ∷ 0 ∷ 10 ∷ 0 ∷ 0 ∷ 10 ∷ []) ∷ plain (3 ∷ 2 ∷ 0 ∷ 10 ∷ 0 ∷ 0 ∷ []) ∷ plain (3 ∷ 2 ∷ 0 ∷ 10 ∷ 0 ∷ [])
    ∷ plain (3 ∷ []) ∷ plain (3 ∷ 1 ∷ 0 ∷ 10 ∷ [])
    -- in the last rule
    ∷ plain (words-S ++ 1 ∷ 1 ∷ 0 ∷ 10 ∷ 0 ∷ []) ∷ plain (words-S ++ 2 ∷ 2 ∷ 1 ∷ 3 ∷ 1 ∷ 1 ∷ 3 ∷ 1 ∷ [])
    -- one rule too many
    ∷ plain (rules 2049)
    -- the typecodes
    ∷ codes 2 2 ∷ codes 0 2 ∷ codes 1 0 ∷ codes 65536 2 ∷ codes 1 65536
    ∷ []

good-words : judged true good ≡ true
unfolding judged good constants slotted rules reading sets
good-words = refl

bad-words : judged false bad ≡ true
unfolding judged bad constants rules reading sets
bad-words = refl

-- what the words of set S say
read-S : the_rules words-S ≡ rules-S
unfolding reading sets
read-S = refl

-- the variables of a rule are no part of what is read
read-any : the_rules (2 ∷ 2 ∷ 0 ∷ 10 ∷ 0 ∷ 1 ∷ 2 ∷ 5 ∷ []) ≡ the_rules (2 ∷ 2 ∷ 0 ∷ 10 ∷ 0 ∷ 1 ∷ 2 ∷ 6 ∷ [])
unfolding reading
read-any = refl

-- those of rules 1 and 7
variables-S : variables (cut words-S (stretch_from most_rules 0 words-S 1)) ∷ variables (cut words-S (stretch_from most_rules 0 words-S 7)) ∷ []
    ≡ [] ∷ (1 ∷ 2 ∷ []) ∷ []
unfolding reading sets
variables-S = refl

abbrev body-S : ℕ → Stretch
body-S n = stretch_from most_rules 0 words-S n

abbrev stretch : ℕ → ℕ → Stretch
stretch a n = record { start = a; length = n }

-- rules 1, 7 and 9, and three numbers that name no rule
stretches-S : body-S 1 ∷ body-S 7 ∷ body-S 9 ∷ body-S 0 ∷ body-S 10 ∷ body-S 2049 ∷ []
    ≡ stretch 2 3 ∷ stretch 35 15 ∷ stretch 63 9 ∷ no_stretch ∷ no_stretch ∷ no_stretch ∷ []
unfolding reading sets
stretches-S = refl

cut-S : cut words-S (body-S 7) ≡ 0 ∷ 5 ∷ 0 ∷ 1 ∷ 2 ∷ 1 ∷ 0 ∷ 7 ∷ 0 ∷ 1 ∷ 2 ∷ 2 ∷ 0 ∷ 6 ∷ 0 ∷ []
unfolding reading sets
cut-S = refl

-- rule 0, the last rule and the number after it
numbers-S : rule_at rules-S 0 ∷ rule_at rules-S 9 ∷ rule_at rules-S 10 ∷ []
    ≡ none ∷ some (record { result = 2; body = slot 3 ∷ con 9 ∷ slot 3 ∷ [] }) ∷ none ∷ []
unfolding reading sets
numbers-S = refl

-- the slots of rules 1, 5 and 7, and which of 1, 5, 6 and 8 are conversions
slots-S : slots (con 10 ∷ []) ∷ slots (slot 4 ∷ []) ∷ slots (con 5 ∷ slot 2 ∷ con 7 ∷ slot 2 ∷ con 6 ∷ []) ∷ [] ≡ 0 ∷ 1 ∷ 2 ∷ []
unfolding reading
slots-S = refl

sources-S : source (con 10 ∷ []) ∷ source (slot 4 ∷ []) ∷ source (con 14 ∷ slot 2 ∷ []) ∷ source (slot 3 ∷ con 8 ∷ slot 3 ∷ []) ∷ []
    ≡ none ∷ some 4 ∷ none ∷ none ∷ []
unfolding reading
sources-S = refl
