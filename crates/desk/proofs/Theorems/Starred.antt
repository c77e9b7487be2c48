-- The starred sentences of the training sheet: one table, one claim. Each row is computed from the rules' words: built, its tables checked,
-- walked, and everything that comes back compared.
use Rattle.std.specs.Prelude.{◌≡◌, refl, Bool, true, ◌&&◌, List, [], ◌∷◌, ℕ, ◌+◌, ◌*◌, eqb, length, take}
use Rattle.words.specs.Outcome.{same_words}
use Rattle.words.specs.Lent.{zeros, padded}
use Rattle.words.specs.Limits.{row_width}
use Rattle.rules.specs.Sheet.{words-S, words-T, sets}
use Rattle.desk.specs.Entry.{Built, build_gives, Asked, Lent, Parsed, parse_gives, Verified, verify_gives, entering}

-- a set's words, the tokens, and what is to come back
pub data Row : Type 0 where
  parses : (set tokens : List ℕ) (allowance : ℕ) (lent : Lent) (number place : ℕ) (list : List ℕ) (passes : ℕ) → Row
  checks : (set tokens list : List ℕ) (number : ℕ) → Row

-- room for every set of the sheet
unfoldable pub built : List ℕ → Built
built set = build_gives 1 2 set [] 40 480 0

-- a build's tables, cut to its counts, and a statement
unfoldable pub asks : List ℕ → List ℕ → Built → Asked
asks set tokens b = record {
  provable = 1;
  logic = 2;
  rules = set;
  nodes = take b.nodes b.node-words;
  edges = take (row_width * b.edges) b.edge-words;
  tokens = tokens;
}

-- the number, the place, the list and its zeros, the passes, and zeros in the other two slices
unfoldable pub meets : Lent → ℕ → ℕ → List ℕ → ℕ → Parsed → Bool
meets s number place list passes a = eqb a.number number && eqb a.place place && eqb a.length (length list) && eqb a.passes passes
    && same_words a.list-words (padded list s.list) && same_words a.frame-words (zeros s.frames) && same_words a.work-words (zeros s.work)

-- the check's number, and zeros in all else that comes back
unfoldable pub answers : ℕ → ℕ → Verified → Bool
answers number work a = eqb a.number number && eqb a.place 0 && eqb a.length 0 && eqb a.passes 0 && same_words a.work-words (zeros work)

unfoldable pub holds : Row → Bool
holds (parses set tokens allowance lent number place list passes) =
    meets lent number place list passes (parse_gives (asks set tokens (built set)) allowance lent)
holds (checks set tokens list number) = answers number (length list + 3) (verify_gives 1 2 set tokens list (length list + 3))

unfoldable pub every : List Row → Bool
every [] = true
every (w ∷ ws) = holds w && every ws

-- ample room
abbrev pub ample : Lent
ample = record { frames = 10; list = 20; work = 20 }

abbrev pub row : List ℕ → List ℕ → ℕ → ℕ → List ℕ → ℕ → Row
row set tokens number place list passes = parses set tokens 100 ample number place list passes

unfoldable pub opening : Unit {0}
unfolding built asks meets answers holds every same_words sets entering
opening = tt

unfoldable pub starred : List Row
starred = row words-S [] 1 0 [] 0
    ∷ row words-S (1 ∷ []) 1 0 [] 0
    ∷ row words-S (1 ∷ 10 ∷ []) 0 0 (1 ∷ []) 2
    ∷ row words-S (1 ∷ 5 ∷ 10 ∷ 7 ∷ 11 ∷ 6 ∷ []) 0 0 (1 ∷ 2 ∷ 7 ∷ []) 10
    ∷ row words-S (1 ∷ 13 ∷ 8 ∷ 12 ∷ []) 0 0 (4 ∷ 5 ∷ 3 ∷ 8 ∷ []) 7
    ∷ row words-S (1 ∷ 13 ∷ 8 ∷ 13 ∷ []) 0 0 (4 ∷ 5 ∷ 4 ∷ 5 ∷ 8 ∷ []) 7
    ∷ row words-S (3 ∷ 13 ∷ []) 0 0 (4 ∷ 5 ∷ []) 2
    ∷ row words-S (1 ∷ 13 ∷ []) 3 1 [] 3
    ∷ row words-S (1 ∷ 10 ∷ 10 ∷ []) 2 1 [] 2
    ∷ row words-S (1 ∷ 6 ∷ []) 2 1 [] 1
    ∷ row words-S (1 ∷ 5 ∷ 10 ∷ []) 3 2 [] 5
    ∷ row words-T (1 ∷ 31 ∷ 30 ∷ []) 0 0 (1 ∷ 2 ∷ 3 ∷ 4 ∷ []) 5
    ∷ checks words-T (1 ∷ 31 ∷ 30 ∷ []) (1 ∷ 2 ∷ 3 ∷ 4 ∷ []) 0
    ∷ []

pub starred-rows : every starred ≡ true
unfolding starred opening
starred-rows = refl
