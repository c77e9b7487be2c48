-- Closed examples of the check and of reducing, one table each.
use Rattle.std.specs.Prelude.{◌≡◌, refl, Bool, true, false, ◌&&◌, not, List, [], ◌∷◌, ℕ, eqb}
use Rattle.words.specs.Outcome.{Res, ok, no, same_words, pick}
use Rattle.words.specs.Numbers.{Why, number, numbering}
use Rattle.rules.specs.Rules.{Rule, rule_at, the_rules, reading}
use Rattle.rules.specs.Sheet.{rules-S, words-T, sets}
use Rattle.rows.specs.Rows.{Reduce}
use Rattle.formula.specs.Meaning.{Tree, tree, word, done}
use Rattle.formula.specs.Check.{check, checking}
use Rattle.formula.specs.Reducing.{Trees, reduce_all, reducing}

-- ---- the meaning

-- one tree, built by hand
spelt : Tree rules-S 2 (5 ∷ 10 ∷ 7 ∷ 11 ∷ 6 ∷ []) (1 ∷ 2 ∷ 7 ∷ [])
unfolding rules-S rule_at
spelt = tree 7 _ refl (word (tree 1 _ refl (word done) (word (tree 2 _ refl (word done) (word done))))) done

-- ---- the check

record Asked : Type 0 where
  rules : List Rule
  typecode : ℕ
  tokens : List ℕ
  list : List ℕ
  passes : Bool

abbrev yes : List Rule → ℕ → List ℕ → List ℕ → Asked
yes R t ts l = record { rules = R; typecode = t; tokens = ts; list = l; passes = true }

abbrev refused : ℕ → List ℕ → List ℕ → Asked
refused t ts l = record { rules = rules-S; typecode = t; tokens = ts; list = l; passes = false }

lists : List Asked
lists = yes rules-S 2 (5 ∷ 10 ∷ 7 ∷ 11 ∷ 6 ∷ []) (1 ∷ 2 ∷ 7 ∷ [])
    -- children in the wrong order
    ∷ refused 2 (5 ∷ 10 ∷ 7 ∷ 11 ∷ 6 ∷ []) (2 ∷ 1 ∷ 7 ∷ [])
    ∷ refused 2 (5 ∷ 10 ∷ 7 ∷ 11 ∷ 6 ∷ []) []
    ∷ refused 2 [] []
    -- a slot's typecode: 13 is of typecode 4, and rule 5 makes it 3
    ∷ yes rules-S 2 (13 ∷ 8 ∷ 12 ∷ []) (4 ∷ 5 ∷ 3 ∷ 8 ∷ [])
    ∷ refused 2 (13 ∷ 8 ∷ 13 ∷ []) (4 ∷ 4 ∷ 8 ∷ [])
    ∷ refused 2 (13 ∷ 8 ∷ 12 ∷ []) (4 ∷ 3 ∷ 8 ∷ [])
    ∷ refused 2 (12 ∷ 8 ∷ 13 ∷ []) (3 ∷ 4 ∷ 8 ∷ [])
    -- an entry left over, or two values that would spell it together
    ∷ yes rules-S 2 (10 ∷ []) (1 ∷ [])
    ∷ refused 2 (10 ∷ []) (1 ∷ 1 ∷ [])
    ∷ refused 2 (10 ∷ 11 ∷ []) (1 ∷ 2 ∷ [])
    -- too few entries
    ∷ refused 2 (5 ∷ 7 ∷ 6 ∷ []) (7 ∷ [])
    ∷ refused 2 (5 ∷ 10 ∷ 7 ∷ 10 ∷ 6 ∷ []) (1 ∷ 7 ∷ [])
    -- entries that name no rule
    ∷ refused 2 (10 ∷ []) (0 ∷ [])
    ∷ refused 2 (10 ∷ []) (10 ∷ [])
    ∷ refused 2 (10 ∷ []) (1 ∷ 0 ∷ [])
    -- another typecode
    ∷ yes rules-S 3 (13 ∷ []) (4 ∷ 5 ∷ [])
    ∷ refused 4 (13 ∷ []) (4 ∷ 5 ∷ [])
    ∷ refused 3 (13 ∷ []) (4 ∷ [])
    -- tokens left over, missing, or other ones
    ∷ refused 2 (10 ∷ 10 ∷ []) (1 ∷ [])
    ∷ refused 2 [] (1 ∷ [])
    ∷ refused 2 (5 ∷ 10 ∷ 7 ∷ 11 ∷ []) (1 ∷ 2 ∷ 7 ∷ [])
    ∷ refused 2 (5 ∷ 10 ∷ 8 ∷ 11 ∷ 6 ∷ []) (1 ∷ 2 ∷ 7 ∷ [])
    ∷ yes (the_rules words-T) 2 (31 ∷ 30 ∷ []) (1 ∷ 2 ∷ 3 ∷ 4 ∷ [])
    ∷ []

every_list : List Asked → Bool
every_list [] = true
every_list (a ∷ rest) =
    let b = check a.rules a.typecode a.tokens a.list in
    pick a.passes b (not b) && every_list rest

the-lists : every_list lists ≡ true
unfolding every_list lists sets reading checking
the-lists = refl

-- ---- reducing

-- 0 and the trees, or the refusal's number
record Step : Type 0 where
  room : ℕ
  reduces : List Reduce
  trees : Trees
  number : ℕ
  then : Trees

abbrev at : ℕ → ℕ → Reduce
at o r = record { rule = r; offset = o }

abbrev makes : ℕ → List Reduce → Trees → Trees → Step
makes m ds s s' = record { room = m; reduces = ds; trees = s; number = 0; then = s' }

abbrev says : ℕ → ℕ → List Reduce → Trees → Step
says k m ds s = record { room = m; reduces = ds; trees = s; number = k; then = [] }

-- rules 1, 6 and 7 of S have no slot, one, and two; trees are written with the top one first
steps : List Step
steps = makes 9 (at 0 1 ∷ []) [] ((1 ∷ []) ∷ [])
    ∷ makes 9 (at 0 1 ∷ []) ((2 ∷ []) ∷ []) ((1 ∷ []) ∷ (2 ∷ []) ∷ [])
    ∷ makes 9 (at 1 1 ∷ []) ((2 ∷ []) ∷ (3 ∷ []) ∷ []) ((2 ∷ []) ∷ (1 ∷ []) ∷ (3 ∷ []) ∷ [])
    ∷ makes 9 (at 0 6 ∷ []) ((1 ∷ []) ∷ (2 ∷ []) ∷ []) ((1 ∷ 6 ∷ []) ∷ (2 ∷ []) ∷ [])
    ∷ makes 9 (at 1 6 ∷ []) ((1 ∷ []) ∷ (2 ∷ []) ∷ (3 ∷ []) ∷ []) ((1 ∷ []) ∷ (2 ∷ 6 ∷ []) ∷ (3 ∷ []) ∷ [])
    ∷ makes 9 (at 0 7 ∷ []) ((1 ∷ 6 ∷ []) ∷ (2 ∷ []) ∷ (3 ∷ []) ∷ []) ((2 ∷ 1 ∷ 6 ∷ 7 ∷ []) ∷ (3 ∷ []) ∷ [])
    ∷ makes 9 (at 1 7 ∷ []) ((1 ∷ []) ∷ (2 ∷ []) ∷ (3 ∷ []) ∷ []) ((1 ∷ []) ∷ (3 ∷ 2 ∷ 7 ∷ []) ∷ [])
    -- too few trees
    ∷ says 4 9 (at 0 7 ∷ []) ((1 ∷ []) ∷ [])
    ∷ says 4 9 (at 1 6 ∷ []) ((1 ∷ []) ∷ [])
    ∷ says 4 9 (at 1 1 ∷ []) []
    -- full: a place for each entry, not for each tree
    ∷ says 7 0 (at 0 1 ∷ []) []
    ∷ says 7 3 (at 0 7 ∷ []) ((1 ∷ 6 ∷ []) ∷ (2 ∷ []) ∷ [])
    ∷ makes 4 (at 0 7 ∷ []) ((1 ∷ 6 ∷ []) ∷ (2 ∷ []) ∷ []) ((2 ∷ 1 ∷ 6 ∷ 7 ∷ []) ∷ [])
    -- too few and full
    ∷ says 4 1 (at 0 7 ∷ []) ((1 ∷ []) ∷ [])
    -- no such rule
    ∷ says 4 9 (at 0 0 ∷ []) ((1 ∷ []) ∷ [])
    ∷ says 4 9 (at 0 10 ∷ []) ((1 ∷ []) ∷ [])
    ∷ says 4 0 (at 0 10 ∷ []) []
    -- several, in order: the first that fails decides
    ∷ makes 0 [] ((1 ∷ []) ∷ []) ((1 ∷ []) ∷ [])
    ∷ makes 9 (at 0 6 ∷ at 0 7 ∷ []) ((1 ∷ []) ∷ (2 ∷ []) ∷ []) ((2 ∷ 1 ∷ 6 ∷ 7 ∷ []) ∷ [])
    ∷ makes 9 (at 0 7 ∷ at 0 6 ∷ []) ((1 ∷ []) ∷ (2 ∷ []) ∷ []) ((2 ∷ 1 ∷ 7 ∷ 6 ∷ []) ∷ [])
    ∷ says 7 1 (at 0 1 ∷ at 0 7 ∷ []) ((1 ∷ []) ∷ [])
    ∷ says 4 1 (at 0 7 ∷ at 0 1 ∷ []) ((1 ∷ []) ∷ [])
    ∷ says 4 2 (at 0 6 ∷ at 0 7 ∷ []) ((1 ∷ []) ∷ [])
    ∷ says 7 2 (at 0 6 ∷ at 0 6 ∷ at 0 7 ∷ []) ((1 ∷ []) ∷ [])
    ∷ []

same_trees : Trees → Trees → Bool
same_trees [] [] = true
same_trees [] (t ∷ s) = false
same_trees (t ∷ s) [] = false
same_trees (t ∷ s) (u ∷ v) = same_words t u && same_trees s v

agree : Step → Res Why Trees → Bool
agree w (no y) = eqb (number y) w.number
agree w (ok s) = eqb 0 w.number && same_trees s w.then

every_step : List Step → Bool
every_step [] = true
every_step (w ∷ ws) = agree w (reduce_all rules-S w.room w.reduces w.trees) && every_step ws

the-steps : every_step steps ≡ true
unfolding every_step steps agree same_trees same_words sets numbering reducing
the-steps = refl
