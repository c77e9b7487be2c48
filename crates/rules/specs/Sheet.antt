-- The rule sets of the training sheet, as words, and those that pin what its starred rows leave open. The slots of a rule have the
-- variables 1, 2 and so on.
use Rattle.std.specs.Prelude.{ℕ, List, [], ◌∷◌, ◌++◌}
use Rattle.rules.specs.Rules.{Item, con, slot, Rule}

-- 1: 2 [c10]; 2: 2 [c11]; 3: 3 [c12]; 4: 4 [c13]; 5: 3 [s4]; 6: 2 [c14 s2]; 7: 2 [c5 s2 c7 s2 c6]; 8: 2 [s3 c8 s3]; 9: 2 [s3 c9 s3]
unfoldable pub words-S : List ℕ
words-S = 2 ∷ 1 ∷ 0 ∷ 10 ∷ 0 ∷ 2 ∷ 1 ∷ 0 ∷ 11 ∷ 0 ∷ 3 ∷ 1 ∷ 0 ∷ 12 ∷ 0 ∷ 4 ∷ 1 ∷ 0 ∷ 13 ∷ 0 ∷ 3 ∷ 1 ∷ 1 ∷ 4 ∷ 1
    ∷ 2 ∷ 2 ∷ 0 ∷ 14 ∷ 0 ∷ 1 ∷ 2 ∷ 1 ∷ 2 ∷ 5 ∷ 0 ∷ 5 ∷ 0 ∷ 1 ∷ 2 ∷ 1 ∷ 0 ∷ 7 ∷ 0 ∷ 1 ∷ 2 ∷ 2 ∷ 0 ∷ 6 ∷ 0
    ∷ 2 ∷ 3 ∷ 1 ∷ 3 ∷ 1 ∷ 0 ∷ 8 ∷ 0 ∷ 1 ∷ 3 ∷ 2 ∷ 2 ∷ 3 ∷ 1 ∷ 3 ∷ 1 ∷ 0 ∷ 9 ∷ 0 ∷ 1 ∷ 3 ∷ 2 ∷ []

-- S with rule 10: 2 [s4 c15 s4]
unfoldable pub words-S10 : List ℕ
words-S10 = words-S ++ 2 ∷ 3 ∷ 1 ∷ 4 ∷ 1 ∷ 0 ∷ 15 ∷ 0 ∷ 1 ∷ 4 ∷ 2 ∷ []

-- 1: 20 [c30]; 2: 21 [s20]; 3: 22 [s21]; 4: 2 [c31 s22]
unfoldable pub words-T : List ℕ
words-T = 20 ∷ 1 ∷ 0 ∷ 30 ∷ 0 ∷ 21 ∷ 1 ∷ 1 ∷ 20 ∷ 1 ∷ 22 ∷ 1 ∷ 1 ∷ 21 ∷ 1 ∷ 2 ∷ 2 ∷ 0 ∷ 31 ∷ 0 ∷ 1 ∷ 22 ∷ 1 ∷ []

-- ---- not of the paper

-- a copied variable edge, whose conversion goes under the top tree: 3 [c12]; 4 [c13]; 3 [s4]; 2 [s3 s3]; 2 [s4 c15]
unfoldable pub words-U : List ℕ
words-U = 3 ∷ 1 ∷ 0 ∷ 12 ∷ 0 ∷ 4 ∷ 1 ∷ 0 ∷ 13 ∷ 0 ∷ 3 ∷ 1 ∷ 1 ∷ 4 ∷ 1
    ∷ 2 ∷ 2 ∷ 1 ∷ 3 ∷ 1 ∷ 1 ∷ 3 ∷ 2 ∷ 2 ∷ 2 ∷ 1 ∷ 4 ∷ 1 ∷ 0 ∷ 15 ∷ 0 ∷ []

-- two conversions on one edge, the later one's reduce first: 20 [c30]; 22 [s21]; 21 [s20]; 2 [c31 s22]
unfoldable pub words-V : List ℕ
words-V = 20 ∷ 1 ∷ 0 ∷ 30 ∷ 0 ∷ 22 ∷ 1 ∷ 1 ∷ 21 ∷ 1 ∷ 21 ∷ 1 ∷ 1 ∷ 20 ∷ 1 ∷ 2 ∷ 2 ∷ 0 ∷ 31 ∷ 0 ∷ 1 ∷ 22 ∷ 1 ∷ []

-- two conversions to one typecode: 20 [c30]; 21 [s23]; 21 [s20]
unfoldable pub words-W : List ℕ
words-W = 20 ∷ 1 ∷ 0 ∷ 30 ∷ 0 ∷ 21 ∷ 1 ∷ 1 ∷ 23 ∷ 1 ∷ 21 ∷ 1 ∷ 1 ∷ 20 ∷ 1 ∷ []

abbrev pub rule : ℕ → List Item → Rule
rule t b = record { result = t; body = b }

unfoldable pub rules-S : List Rule
rules-S = rule 2 (con 10 ∷ []) ∷ rule 2 (con 11 ∷ []) ∷ rule 3 (con 12 ∷ []) ∷ rule 4 (con 13 ∷ []) ∷ rule 3 (slot 4 ∷ [])
    ∷ rule 2 (con 14 ∷ slot 2 ∷ []) ∷ rule 2 (con 5 ∷ slot 2 ∷ con 7 ∷ slot 2 ∷ con 6 ∷ [])
    ∷ rule 2 (slot 3 ∷ con 8 ∷ slot 3 ∷ []) ∷ rule 2 (slot 3 ∷ con 9 ∷ slot 3 ∷ []) ∷ []

unfoldable pub sets : Unit {0}
unfolding words-S words-S10 words-T words-U words-V words-W rules-S
sets = tt
