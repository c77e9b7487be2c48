-- Walks worked out by hand: one table, one claim. Set S is the training sheet's, the other tables are small and made for one point each.
use Rattle.std.specs.Prelude.{◌≡◌, refl, Bool, true, ◌&&◌, List, [], ◌∷◌, ℕ, eqb, replicate}
use Rattle.words.specs.Outcome.{same_words}
use Rattle.rules.specs.Rules.{con, slot, Rule}
use Rattle.rules.specs.Sheet.{rule, rules-S, sets}
use Rattle.rows.specs.Rows.{Reduce}
use Rattle.rows.specs.Sheet.{edge, nodes-S, edges-S, tables}
use Rattle.walk.specs.Walk.{Tables, tables_of, Walked, walk, walking}

-- ---- tables

S : Tables
S = tables_of rules-S nodes-S edges-S

abbrev at : ℕ → ℕ → Reduce
at r o = record { rule = r; offset = o }

-- set T, whose conversions stand in the order in which no chain of two is grown
T : Tables
T = tables_of (rule 20 (con 30 ∷ []) ∷ rule 21 (slot 20 ∷ []) ∷ rule 22 (slot 21 ∷ []) ∷ rule 2 (con 31 ∷ slot 22 ∷ []) ∷ []) (0 ∷ 1 ∷ 0 ∷ 4 ∷ [])
    (edge 0 0 30 1 [] ∷ edge 0 0 31 2 [] ∷ edge 2 1 21 3 (at 3 0 ∷ []) ∷ edge 2 1 22 3 [] ∷ [])

-- the same with a constant after the slot
T32 : Tables
T32 = tables_of (rule 20 (con 30 ∷ []) ∷ rule 21 (slot 20 ∷ []) ∷ rule 22 (slot 21 ∷ []) ∷ rule 2 (con 31 ∷ slot 22 ∷ con 32 ∷ []) ∷ [])
    (0 ∷ 1 ∷ 0 ∷ 0 ∷ 4 ∷ []) (edge 0 0 30 1 [] ∷ edge 0 0 31 2 [] ∷ edge 2 1 21 3 (at 3 0 ∷ []) ∷ edge 2 1 22 3 [] ∷ edge 3 0 32 4 [] ∷ [])

-- a frame at a node whose constant is in the tree already: no grown table has one
early : Tables
early = tables_of (rule 3 (con 10 ∷ []) ∷ rule 4 (slot 3 ∷ con 11 ∷ []) ∷ rule 2 (slot 4 ∷ []) ∷ []) (0 ∷ 0 ∷ 2 ∷ [])
    (edge 0 0 10 1 (at 1 0 ∷ []) ∷ edge 0 0 11 2 [] ∷ edge 1 1 2 1 [] ∷ [])

-- five reduces on every edge. Each token leads to a leaf and from there to a branch that becomes a frame, and each frame is popped by a conversion
five : List Reduce
five = at 1 0 ∷ at 1 0 ∷ at 1 0 ∷ at 1 0 ∷ at 1 0 ∷ []

crowded : Tables
crowded = tables_of (rule 3 (con 10 ∷ []) ∷ rule 4 (slot 3 ∷ []) ∷ []) (0 ∷ 1 ∷ 0 ∷ []) (edge 0 0 10 1 five ∷ edge 0 1 3 2 five ∷ edge 2 1 4 1 five ∷ [])

-- one token, 30, of typecode 20, and two conversions to 21
W : Rule → Rule → Tables
W q r = tables_of (rule 20 (con 30 ∷ []) ∷ q ∷ r ∷ []) (0 ∷ 1 ∷ []) (edge 0 0 30 1 [] ∷ [])

-- 10 leads from node 0 to a branch that no edge leaves
bare_branch : Tables
bare_branch = tables_of [] (0 ∷ 0 ∷ []) (edge 0 0 10 1 [] ∷ [])

-- 10 leads from node 0 to a leaf with this word, after these reduces. Rule 1 has no slot, rule 2 has two
one_leaf : ℕ → List Reduce → Tables
one_leaf w ds = tables_of (rule 2 (con 10 ∷ []) ∷ rule 2 (slot 2 ∷ slot 2 ∷ []) ∷ []) (0 ∷ w ∷ []) (edge 0 0 10 1 ds ∷ [])

-- ---- rows

record Row : Type 0 where
  tables : Tables
  tokens : List ℕ
  allowance : ℕ
  frames : ℕ
  room : ℕ
  number : ℕ
  place : ℕ
  list : List ℕ
  passes : ℕ

abbrev limited : Tables → List ℕ → ℕ → ℕ → ℕ → ℕ → ℕ → List ℕ → ℕ → Row
limited X ts a f r k p l n =
    record { tables = X; tokens = ts; allowance = a; frames = f; room = r; number = k; place = p; list = l; passes = n }

-- ample room
abbrev row : Tables → List ℕ → ℕ → ℕ → List ℕ → ℕ → Row
row X ts k p l n = limited X ts 100 10 20 k p l n

rows : List Row
rows = row S [] 1 0 [] 0
    ∷ row S (1 ∷ 10 ∷ []) 0 0 (1 ∷ []) 2
    ∷ row S (1 ∷ 5 ∷ 10 ∷ 7 ∷ 11 ∷ 6 ∷ []) 0 0 (1 ∷ 2 ∷ 7 ∷ []) 10
    ∷ row S (1 ∷ 13 ∷ 8 ∷ 12 ∷ []) 0 0 (4 ∷ 5 ∷ 3 ∷ 8 ∷ []) 7
    ∷ row S (1 ∷ 13 ∷ 8 ∷ 13 ∷ []) 0 0 (4 ∷ 5 ∷ 4 ∷ 5 ∷ 8 ∷ []) 7
    ∷ row S (3 ∷ 13 ∷ []) 0 0 (4 ∷ 5 ∷ []) 2
    ∷ row S (1 ∷ 13 ∷ []) 3 1 [] 3
    ∷ row S (1 ∷ 10 ∷ 10 ∷ []) 2 1 [] 2
    ∷ row S (1 ∷ 6 ∷ []) 2 1 [] 1
    ∷ row S (1 ∷ 5 ∷ 10 ∷ []) 3 2 [] 5
    ∷ row T (1 ∷ 31 ∷ 30 ∷ []) 0 0 (1 ∷ 2 ∷ 3 ∷ 4 ∷ []) 5
    ∷ row S (1 ∷ 5 ∷ 6 ∷ []) 2 2 [] 3
    -- two frames, and a root step that leaves them
    ∷ row S (1 ∷ 5 ∷ 13 ∷ 8 ∷ 13 ∷ 7 ∷ 10 ∷ 6 ∷ []) 0 0 (4 ∷ 5 ∷ 4 ∷ 5 ∷ 8 ∷ 1 ∷ 7 ∷ []) 15
    -- the goal or a conversion to it with tokens left: root step
    ∷ row S (3 ∷ 12 ∷ 8 ∷ []) 3 2 [] 4
    ∷ row S (3 ∷ 13 ∷ 8 ∷ []) 3 2 [] 4
    -- no token left, and a root step fails
    ∷ row S (3 ∷ 12 ∷ 8 ∷ 12 ∷ []) 2 3 [] 7
    -- at the limits
    ∷ limited S (1 ∷ 5 ∷ 10 ∷ 7 ∷ 11 ∷ 6 ∷ []) 9 1 3 5 0 [] 9
    ∷ limited S (1 ∷ 5 ∷ 10 ∷ 7 ∷ 11 ∷ 6 ∷ []) 10 1 3 0 0 (1 ∷ 2 ∷ 7 ∷ []) 10
    ∷ limited S (1 ∷ 5 ∷ 10 ∷ 7 ∷ 11 ∷ 6 ∷ []) 10 0 3 6 0 [] 2
    ∷ limited S (1 ∷ 5 ∷ 10 ∷ 7 ∷ 11 ∷ 6 ∷ []) 10 1 2 7 0 [] 10
    ∷ limited S (1 ∷ 13 ∷ []) 10 1 1 7 0 [] 2
    ∷ limited S (3 ∷ 13 ∷ []) 10 1 1 7 0 [] 2
    -- conversions: from the tree's typecode, and the first of two
    ∷ row (W (rule 21 (slot 23 ∷ [])) (rule 21 (slot 20 ∷ []))) (21 ∷ 30 ∷ []) 0 0 (1 ∷ 3 ∷ []) 2
    ∷ row (W (rule 21 (slot 20 ∷ [])) (rule 21 (slot 20 ∷ []))) (21 ∷ 30 ∷ []) 0 0 (1 ∷ 2 ∷ []) 2
    -- with a frame left: the conversion, then the reduces of the frame's edge; without one the walk finishes
    ∷ limited T (1 ∷ 31 ∷ 30 ∷ []) 100 1 4 0 0 (1 ∷ 2 ∷ 3 ∷ 4 ∷ []) 5
    ∷ limited T (1 ∷ 31 ∷ 30 ∷ []) 100 1 3 7 0 [] 5
    ∷ limited T (1 ∷ 31 ∷ 30 ∷ []) 100 1 2 7 0 [] 4
    ∷ limited T (1 ∷ 31 ∷ 30 ∷ []) 100 1 1 7 0 [] 4
    ∷ limited T (1 ∷ 31 ∷ 30 ∷ []) 100 1 0 7 0 [] 4
    ∷ row T (21 ∷ 30 ∷ []) 0 0 (1 ∷ 2 ∷ []) 2
    -- the walk goes on from there, to a branch too, and with tokens left there is no conversion
    ∷ row T32 (1 ∷ 31 ∷ 30 ∷ []) 3 2 [] 5
    ∷ row T32 (1 ∷ 31 ∷ 30 ∷ 32 ∷ []) 2 2 [] 4
    ∷ row early (1 ∷ 10 ∷ 11 ∷ []) 3 2 [] 5
    -- eight tokens need 31 passes, 7 frames and 137 list entries
    ∷ limited crowded (2 ∷ replicate 8 10) 31 7 137 3 8 [] 31
    ∷ limited crowded (2 ∷ replicate 8 10) 30 7 137 5 0 [] 30
    ∷ limited crowded (2 ∷ replicate 8 10) 31 6 137 6 0 [] 21
    ∷ limited crowded (2 ∷ replicate 8 10) 31 7 136 7 0 [] 30
    -- look-ups
    ∷ row bare_branch (1 ∷ 10 ∷ 11 ∷ []) 2 2 [] 2
    ∷ row (one_leaf 3 []) (1 ∷ 10 ∷ []) 4 0 [] 2
    -- too few trees, at a leaf and on an edge, whose reduces come before the token is taken
    ∷ row (one_leaf 2 []) (1 ∷ 10 ∷ []) 4 0 [] 2
    ∷ row (one_leaf 1 (at 2 0 ∷ [])) (1 ∷ 10 ∷ []) 4 0 [] 1
    -- the first reduce that fails decides, and of its own faults too few trees comes first
    ∷ limited (one_leaf 1 (at 1 0 ∷ at 2 0 ∷ [])) (1 ∷ 10 ∷ []) 10 1 0 7 0 [] 1
    ∷ limited (one_leaf 1 (at 1 0 ∷ at 2 0 ∷ [])) (1 ∷ 10 ∷ []) 10 1 1 4 0 [] 1
    ∷ limited (one_leaf 1 (at 2 0 ∷ at 1 0 ∷ [])) (1 ∷ 10 ∷ []) 10 1 0 4 0 [] 1
    -- two trees are left
    ∷ row (one_leaf 1 (at 1 0 ∷ [])) (1 ∷ 10 ∷ []) 4 0 [] 2
    ∷ []

agree : Row → Walked → Bool
agree r w = eqb w.number r.number && eqb w.place r.place && same_words w.list r.list && eqb w.passes r.passes

every : List Row → Bool
every [] = true
every (r ∷ rs) = agree r (walk r.tables 1 2 r.allowance (record { frames = r.frames; list = r.room }) r.tokens) && every rs

claim : every rows ≡ true
unfolding every rows agree S T T32 early five crowded W bare_branch one_leaf sets tables same_words walking
claim = refl
