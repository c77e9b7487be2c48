-- Rows for what the starred ones leave open, and what a build gives back, word for word.
use Rattle.std.specs.Prelude.{◌≡◌, refl, Bool, true, ◌&&◌, List, [], ◌∷◌, ℕ, zero, suc, ◌+◌, eqb, replicate}
use Rattle.words.specs.Lent.{zeros, padded}
use Rattle.rules.specs.Rules.{Stretch}
use Rattle.rules.specs.Sheet.{words-S, words-S10, words-T, words-U, words-V, words-W}
use Rattle.rows.specs.Rows.{Edge, edges_of, edge_words, leaving}
use Rattle.rows.specs.Sheet.{edge, five, nodes-S, edges-S, tables}
use Rattle.desk.specs.Entry.{body_gives, Built, build_gives, Asked, Lent, parse_gives, verify_gives}
use Rattle.desk.specs.Batch.{Batch, batch_gives, batching}
use Rattle.desk.proofs.Theorems.Starred.{Row, parses, checks, row, ample, every, asks, meets, opening}

abbrev lent : ℕ → ℕ → ℕ → Lent
lent f l w = record { frames = f; list = l; work = w }

-- the ten-pass sentence
abbrev ten : List ℕ
ten = 1 ∷ 5 ∷ 10 ∷ 7 ∷ 11 ∷ 6 ∷ []

-- sets on which the Rust accepts what it should not, or panics
set-1 : List ℕ
set-1 = 2 ∷ 1 ∷ 1 ∷ 4 ∷ 1 ∷ 3 ∷ 1 ∷ 1 ∷ 2 ∷ 1 ∷ 4 ∷ 1 ∷ 0 ∷ 10 ∷ 0 ∷ 2 ∷ 2 ∷ 0 ∷ 11 ∷ 0 ∷ 1 ∷ 3 ∷ 1 ∷ []

set-2 : List ℕ
set-2 = 2 ∷ 1 ∷ 1 ∷ 4 ∷ 1 ∷ 3 ∷ 1 ∷ 1 ∷ 2 ∷ 1 ∷ 4 ∷ 2 ∷ 0 ∷ 14 ∷ 0 ∷ 1 ∷ 3 ∷ 1 ∷ 4 ∷ 1 ∷ 0 ∷ 12 ∷ 0 ∷ []

set-3 : List ℕ
set-3 = 2 ∷ 1 ∷ 0 ∷ 10 ∷ 0 ∷ 2 ∷ 1 ∷ 1 ∷ 4 ∷ 1 ∷ 2 ∷ 2 ∷ 1 ∷ 2 ∷ 1 ∷ 1 ∷ 2 ∷ 2 ∷ 3 ∷ 1 ∷ 1 ∷ 4 ∷ 1 ∷ 3 ∷ 2 ∷ 1 ∷ 3 ∷ 1 ∷ 0 ∷ 10 ∷ 0 ∷ []

set-4 : List ℕ
set-4 = 5 ∷ 1 ∷ 0 ∷ 10 ∷ 0 ∷ 2 ∷ 1 ∷ 1 ∷ 5 ∷ 1 ∷ 3 ∷ 1 ∷ 1 ∷ 2 ∷ 1 ∷ 2 ∷ 2 ∷ 1 ∷ 2 ∷ 1 ∷ 1 ∷ 3 ∷ 2 ∷ []

-- 1: 20 [c30]; 2: 22 [s20]; 3: 21 [s20]; 4: 2 [c31 s23]; 5: 23 [s21]; 6: 23 [s22]
set-5 : List ℕ
set-5 = 20 ∷ 1 ∷ 0 ∷ 30 ∷ 0 ∷ 22 ∷ 1 ∷ 1 ∷ 20 ∷ 1 ∷ 21 ∷ 1 ∷ 1 ∷ 20 ∷ 1 ∷ 2 ∷ 2 ∷ 0 ∷ 31 ∷ 0 ∷ 1 ∷ 23 ∷ 1 ∷ 23 ∷ 1 ∷ 1 ∷ 21 ∷ 1 ∷ 23 ∷ 1 ∷ 1 ∷ 22 ∷ 1 ∷ []

-- 1: 20 [c30]; 2: 21 [s20]; 3: 22 [s21]; 4: 23 [s22]; 5: 2 [c31 s23]
set-6 : List ℕ
set-6 = 20 ∷ 1 ∷ 0 ∷ 30 ∷ 0 ∷ 21 ∷ 1 ∷ 1 ∷ 20 ∷ 1 ∷ 22 ∷ 1 ∷ 1 ∷ 21 ∷ 1 ∷ 23 ∷ 1 ∷ 1 ∷ 22 ∷ 1 ∷ 2 ∷ 2 ∷ 0 ∷ 31 ∷ 0 ∷ 1 ∷ 23 ∷ 1 ∷ []

-- set T with 4: 2 [c31 s22 c32]
set-7 : List ℕ
set-7 = 20 ∷ 1 ∷ 0 ∷ 30 ∷ 0 ∷ 21 ∷ 1 ∷ 1 ∷ 20 ∷ 1 ∷ 22 ∷ 1 ∷ 1 ∷ 21 ∷ 1 ∷ 2 ∷ 3 ∷ 0 ∷ 31 ∷ 0 ∷ 1 ∷ 22 ∷ 1 ∷ 0 ∷ 32 ∷ 0 ∷ []

more : List Row
more = row words-S (1 ∷ 5 ∷ 6 ∷ []) 2 2 [] 3
    -- allowance, frame room, list room; the shorter of list and work is the list room
    ∷ parses words-S ten 9 ample 5 0 [] 9
    ∷ parses words-S ten 10 ample 0 0 (1 ∷ 2 ∷ 7 ∷ []) 10
    ∷ parses words-S ten 0 ample 5 0 [] 0
    ∷ parses words-S ten 10 (lent 0 3 3) 6 0 [] 2
    ∷ parses words-S ten 10 (lent 1 3 3) 0 0 (1 ∷ 2 ∷ 7 ∷ []) 10
    ∷ parses words-S ten 10 (lent 1 2 9) 7 0 [] 10
    ∷ parses words-S ten 10 (lent 1 9 2) 7 0 [] 10
    -- a copied variable edge; the later conversion first; the slot of a conversion; one not tried while tokens are left
    ∷ row words-U (1 ∷ 13 ∷ 12 ∷ []) 0 0 (2 ∷ 3 ∷ 1 ∷ 4 ∷ []) 6
    ∷ row words-V (1 ∷ 31 ∷ 30 ∷ []) 0 0 (1 ∷ 3 ∷ 2 ∷ 4 ∷ []) 5
    ∷ row words-W (21 ∷ 30 ∷ []) 0 0 (1 ∷ 3 ∷ []) 2
    ∷ row words-S (3 ∷ 13 ∷ 8 ∷ []) 3 2 [] 4
    -- the provable typecode is read as the logic one, and no other is
    ∷ row words-S (2 ∷ 10 ∷ []) 0 0 (1 ∷ []) 2
    ∷ row words-S (4 ∷ 10 ∷ []) 2 1 [] 2
    -- tokens outside 1 to 65,535 match nothing
    ∷ row words-S (1 ∷ 0 ∷ []) 2 1 [] 1
    ∷ row words-S (1 ∷ 65546 ∷ []) 2 1 [] 1
    -- where the Rust accepts something else, or panics
    ∷ row set-1 (2 ∷ 11 ∷ 10 ∷ []) 0 0 (3 ∷ 1 ∷ 2 ∷ 4 ∷ []) 5
    ∷ row set-2 (4 ∷ 14 ∷ 12 ∷ []) 0 0 (4 ∷ 1 ∷ 2 ∷ 3 ∷ []) 5
    ∷ row set-3 (3 ∷ 10 ∷ 10 ∷ []) 4 0 [] 4
    ∷ row set-4 (2 ∷ 10 ∷ 10 ∷ []) 0 0 (1 ∷ 2 ∷ 1 ∷ 2 ∷ 3 ∷ 4 ∷ []) 6
    -- at the end with a frame left: the first conversion to what it wants; none where it takes two, and none while tokens are left
    ∷ row set-5 (1 ∷ 31 ∷ 30 ∷ []) 0 0 (1 ∷ 2 ∷ 6 ∷ 4 ∷ []) 5
    ∷ row set-6 (1 ∷ 31 ∷ 30 ∷ []) 2 2 [] 4
    ∷ row words-T (21 ∷ 30 ∷ []) 0 0 (1 ∷ 2 ∷ []) 2
    ∷ parses words-T (1 ∷ 31 ∷ 30 ∷ []) 100 (lent 1 4 4) 0 0 (1 ∷ 2 ∷ 3 ∷ 4 ∷ []) 5
    ∷ parses words-T (1 ∷ 31 ∷ 30 ∷ []) 100 (lent 1 3 4) 7 0 [] 5
    ∷ parses words-T (1 ∷ 31 ∷ 30 ∷ []) 100 (lent 1 4 2) 7 0 [] 4
    ∷ row set-7 (1 ∷ 31 ∷ 30 ∷ []) 3 2 [] 5
    ∷ row set-7 (1 ∷ 31 ∷ 30 ∷ 32 ∷ []) 2 2 [] 4
    -- the check alone
    ∷ checks words-S ten (1 ∷ 2 ∷ 7 ∷ []) 0
    ∷ checks words-S ten (2 ∷ 1 ∷ 7 ∷ []) 4
    ∷ checks words-S ten [] 4
    ∷ checks words-S (1 ∷ 13 ∷ 8 ∷ 13 ∷ []) (4 ∷ 4 ∷ 8 ∷ []) 4
    ∷ checks words-S (1 ∷ 10 ∷ []) (0 ∷ []) 4
    ∷ checks words-S (1 ∷ 10 ∷ []) (10 ∷ []) 4
    ∷ checks words-S (1 ∷ []) (1 ∷ []) 1
    ∷ []

more_rows : every more ≡ true
unfolding more set-1 set-2 set-3 set-4 set-5 set-6 set-7 opening
more_rows = refl

-- ---- the order of refusals, by words that are bad in several ways

-- rules, nodes, edges, tokens
abbrev asked : List ℕ → List ℕ → List ℕ → List ℕ → Asked
asked rs ns es ts = record { provable = 1; logic = 2; rules = rs; nodes = ns; edges = es; tokens = ts }

first : Asked → ℕ → ℕ → Bool
first q number passes = meets ample number 0 [] passes (parse_gives q 100 ample)

orders : Bool
orders = first (asked (7 ∷ []) [] (1 ∷ []) []) 10 0 && first (asked [] [] (1 ∷ []) []) 8 0 && first (asked [] (0 ∷ []) [] []) 1 0
    && first (asked [] (0 ∷ []) [] (replicate 32770 1)) 9 0 && eqb (parse_gives (asked [] (0 ∷ []) [] (replicate 32769 1)) 0 ample).number 5

orders-hold : orders ≡ true
unfolding orders first opening
orders-hold = refl

-- 10, 1, 9, 7, 4
verify-orders : ((verify_gives 1 1 [] [] (1 ∷ []) 0).number ≡ 10) × ((verify_gives 1 2 [] [] (1 ∷ []) 0).number ≡ 1)
    × ((verify_gives 1 2 [] (replicate 32770 1) (1 ∷ []) 0).number ≡ 9) × ((verify_gives 1 2 [] (1 ∷ 1 ∷ []) (1 ∷ []) 0).number ≡ 7)
    × ((verify_gives 1 2 [] (1 ∷ 1 ∷ []) (1 ∷ []) 1).number ≡ 4)
unfolding opening
verify-orders = (refl, refl, refl, refl, refl)

-- ---- garden paths: clones go in key order

-- 1: 3 [c12]; 2: 2 [c10 s3 c11]; 3: 3 [c11]; 4: 3 [c10 s3 c12 c10]; 5: 3 [c10 c10 s3 s2]; 6: 2 [c10 s2 c10]
set-8 : List ℕ
set-8 = 3 ∷ 1 ∷ 0 ∷ 12 ∷ 0 ∷ 2 ∷ 3 ∷ 0 ∷ 10 ∷ 0 ∷ 1 ∷ 3 ∷ 1 ∷ 0 ∷ 11 ∷ 0 ∷ 3 ∷ 1 ∷ 0 ∷ 11 ∷ 0 ∷ 3 ∷ 4 ∷ 0 ∷ 10 ∷ 0 ∷ 1 ∷ 3 ∷ 1 ∷ 0 ∷ 12 ∷ 0 ∷ 0 ∷ 10 ∷ 0 ∷ 3 ∷ 4 ∷ 0 ∷ 10 ∷ 0 ∷ 0 ∷ 10 ∷ 0 ∷ 1 ∷ 3 ∷ 1 ∷ 1 ∷ 2 ∷ 2 ∷ 2 ∷ 3 ∷ 0 ∷ 10 ∷ 0 ∷ 1 ∷ 2 ∷ 1 ∷ 0 ∷ 10 ∷ 0 ∷ []

-- c10 c10 => c10 s3, c10 c10 => c10 s2
paths-8 : List ℕ
paths-8 = 1 ∷ 2 ∷ 2 ∷ 0 ∷ 10 ∷ 0 ∷ 10 ∷ 0 ∷ 10 ∷ 1 ∷ 3 ∷ 1 ∷ 2 ∷ 2 ∷ 0 ∷ 10 ∷ 0 ∷ 10 ∷ 0 ∷ 10 ∷ 1 ∷ 2 ∷ []

-- accepted over the tree that they make if clones go in the order of coming
refused-8 : meets ample 2 7 [] 12 (parse_gives (asks set-8 (1 ∷ 10 ∷ 10 ∷ 10 ∷ 10 ∷ 11 ∷ 10 ∷ 12 ∷ 11 ∷ 12 ∷ 10 ∷ 11 ∷ []) (build_gives 1 2 set-8 paths-8 40 480 400)) 100 ample) ≡ true
unfolding set-8 paths-8 opening
refused-8 = refl

-- ---- builds, word for word

-- set S whole, in slices a little longer than it needs
built-S : build_gives 1 2 words-S [] 19 321 0
    ≡ record { number = 0; nodes = 17; edges = 19; node-words = padded nodes-S 19; edge-words = padded (edge_words edges-S) 321; frame-words = [] }
unfolding opening tables
built-S = refl

-- with rule 10: 20 nodes, 23 edges, and node 17's rows
record Shape : Type 0 where
  number : ℕ
  nodes : ℕ
  edges : ℕ
  of-17 : List Edge

shape : Built → Shape
shape b = record { number = b.number; nodes = b.nodes; edges = b.edges; of-17 = leaving 17 (edges_of b.edge-words) }

built-S10 : shape (build_gives 1 2 words-S10 [] 20 368 0)
    ≡ record { number = 0; nodes = 20; edges = 23; of-17 = edge 17 0 8 13 five ∷ edge 17 0 9 15 five ∷ edge 17 0 15 18 [] ∷ [] }
unfolding shape leaving opening tables
built-S10 = refl

-- conversions 40 to 41, 41 to 42 and so on, the last link first
chain : ℕ → List ℕ
chain zero = []
chain (suc n) = (41 + n) ∷ 1 ∷ 1 ∷ (40 + n) ∷ 1 ∷ chain n

-- number, counts
gives : List ℕ → ℕ → ℕ → ℕ × ℕ × ℕ
gives rules nodes edges = let b = build_gives 1 2 rules [] nodes edges 0 in (b.number, b.nodes, b.edges)

chains : (gives (2 ∷ 2 ∷ 0 ∷ 31 ∷ 0 ∷ 1 ∷ 45 ∷ 1 ∷ chain 5) 9 160 ≡ (0, 3, 7)) × (gives (2 ∷ 2 ∷ 0 ∷ 31 ∷ 0 ∷ 1 ∷ 46 ∷ 1 ∷ chain 6) 9 160 ≡ (14, 0, 0))
unfolding chain gives opening
chains = (refl, refl)

-- exact room builds; one node less is 12, one word of the edges less is 13; an empty table is node 0 alone, which needs room too
rooms : (gives words-S 17 304 ≡ (0, 17, 19)) × (gives words-S 16 304 ≡ (12, 0, 0)) × (gives words-S 17 303 ≡ (13, 0, 0)) × (gives [] 1 0 ≡ (0, 1, 0)) × (gives [] 0 0 ≡ (12, 0, 0))
unfolding gives opening
rooms = (refl, refl, refl, refl, refl)

-- a refused build leaves zeros: bad rules, bodies that collide
zeroed : (build_gives 1 2 (1 ∷ []) [] 2 3 1 ≡ record { number = 10; nodes = 0; edges = 0; node-words = zeros 2; edge-words = zeros 3; frame-words = zeros 1 })
    × (build_gives 1 2 (2 ∷ 1 ∷ 0 ∷ 10 ∷ 0 ∷ 2 ∷ 1 ∷ 0 ∷ 10 ∷ 0 ∷ []) [] 4 40 0
    ≡ record { number = 11; nodes = 0; edges = 0; node-words = zeros 4; edge-words = zeros 40; frame-words = [] })
unfolding opening
zeroed = (refl, refl)

-- ---- garden paths

-- 1: 3 [c20]; 2: 2 [c21]; 3: 2 [s3 c8 s3]; 4: 3 [c5 s3 c9 s3 c6]; 5: 2 [c5 s2 c7 s2 c6]
set-E2 : List ℕ
set-E2 = 3 ∷ 1 ∷ 0 ∷ 20 ∷ 0 ∷ 2 ∷ 1 ∷ 0 ∷ 21 ∷ 0 ∷ 2 ∷ 3 ∷ 1 ∷ 3 ∷ 1 ∷ 0 ∷ 8 ∷ 0 ∷ 1 ∷ 3 ∷ 2 ∷ 3 ∷ 5 ∷ 0 ∷ 5 ∷ 0 ∷ 1 ∷ 3 ∷ 1 ∷ 0 ∷ 9 ∷ 0 ∷ 1 ∷ 3 ∷ 2 ∷ 0 ∷ 6 ∷ 0 ∷ 2 ∷ 5 ∷ 0 ∷ 5 ∷ 0 ∷ 1 ∷ 2 ∷ 1 ∷ 0 ∷ 7 ∷ 0 ∷ 1 ∷ 2 ∷ 2 ∷ 0 ∷ 6 ∷ 0 ∷ []

-- number, counts, and the frames' words
gardened : List ℕ → List ℕ → ℕ → ℕ → ℕ → ℕ × ℕ × ℕ × List ℕ
gardened rules commands nodes edges frames = let b = build_gives 1 2 rules commands nodes edges frames in (b.number, b.nodes, b.edges, b.frame-words)

-- c5 s3 => c5 s2: two frames are needed; with a word less it is 6
paths : (gardened set-E2 (1 ∷ 2 ∷ 2 ∷ 0 ∷ 5 ∷ 1 ∷ 3 ∷ 0 ∷ 5 ∷ 1 ∷ 2 ∷ []) 16 256 32 ≡ (0, 16, 16, zeros 32))
    × (gardened set-E2 (1 ∷ 2 ∷ 2 ∷ 0 ∷ 5 ∷ 1 ∷ 3 ∷ 0 ∷ 5 ∷ 1 ∷ 2 ∷ []) 16 256 31 ≡ (6, 0, 0, zeros 31))
unfolding set-E2 gardened opening
paths = (refl, refl)

-- 1: 2 [c10 s2]; 2: 2 [c10 c10 c10], c10 c10 c10 => c10 s2: without a frame it is 6, though nothing would be copied
frameless : build_gives 1 2 (2 ∷ 2 ∷ 0 ∷ 10 ∷ 0 ∷ 1 ∷ 2 ∷ 1 ∷ 2 ∷ 3 ∷ 0 ∷ 10 ∷ 0 ∷ 0 ∷ 10 ∷ 0 ∷ 0 ∷ 10 ∷ 0 ∷ []) (1 ∷ 3 ∷ 2 ∷ 0 ∷ 10 ∷ 0 ∷ 10 ∷ 0 ∷ 10 ∷ 0 ∷ 10 ∷ 1 ∷ 2 ∷ []) 6 80 15
    ≡ record { number = 6; nodes = 0; edges = 0; node-words = zeros 6; edge-words = zeros 80; frame-words = zeros 15 }
unfolding opening
frameless = refl

-- ---- bodies

stretch : ℕ → ℕ → Stretch
stretch a n = record { start = a; length = n }

bodies : (body_gives 1 2 words-S 1 ≡ stretch 2 3) × (body_gives 1 2 words-S 7 ≡ stretch 35 15) × (body_gives 1 2 words-S 9 ≡ stretch 63 9) × (body_gives 1 2 words-S 0 ≡ stretch 0 0)
    × (body_gives 1 2 words-S 10 ≡ stretch 0 0) × (body_gives 2 1 words-S 1 ≡ stretch 0 0)
unfolding stretch opening
bodies = (refl, refl, refl, refl, refl, refl)

-- ---- batches

-- set S, in slices of so many words: frames, list, work, answers, index; each statement has the two passes for itself
batch-S : List ℕ → ℕ → ℕ → ℕ → ℕ → ℕ → Batch
batch-S statements f l w answers index = batch_gives
    (record { provable = 1; logic = 2; rules = words-S; nodes = nodes-S; edges = edge_words edges-S; statements = statements })
    2 (record { slices = lent f l w; answers = answers; index = index })

-- an accepted batch, with the words that stand in the list slice and in the answer slice
batch-of : ℕ → ℕ → List ℕ → List ℕ → ℕ → ℕ → ℕ → Batch
batch-of statements words list answers f w index = record {
  number = 0;
  place = 0;
  statements = statements;
  words = words;
  frame-words = zeros f;
  list-words = list;
  work-words = zeros w;
  answer-words = answers;
  index-words = zeros index;
}

-- a refused one
no-batch : ℕ → ℕ → ℕ → ℕ → ℕ → ℕ → ℕ → Batch
no-batch number place f l w answers index = record {
  number = number;
  place = place;
  statements = 0;
  words = 0;
  frame-words = zeros f;
  list-words = zeros l;
  work-words = zeros w;
  answer-words = zeros answers;
  index-words = zeros index;
}

-- one list word for two lists; one more than is needed of everything; a refused statement takes no list words; no statements
batches : (batch-S (2 ∷ 1 ∷ 10 ∷ 2 ∷ 1 ∷ 10 ∷ []) 0 1 1 8 27 ≡ batch-of 2 1 (1 ∷ []) (0 ∷ 0 ∷ 1 ∷ 2 ∷ 7 ∷ 0 ∷ 0 ∷ 2 ∷ []) 0 1 27)
    × (batch-S (2 ∷ 1 ∷ 10 ∷ 2 ∷ 1 ∷ 10 ∷ []) 1 3 2 9 28 ≡ batch-of 2 2 (1 ∷ 1 ∷ 0 ∷ []) (0 ∷ 0 ∷ 1 ∷ 2 ∷ 0 ∷ 0 ∷ 1 ∷ 2 ∷ 0 ∷ []) 1 2 28)
    × (batch-S (2 ∷ 1 ∷ 10 ∷ 2 ∷ 1 ∷ 6 ∷ 2 ∷ 1 ∷ 10 ∷ []) 0 2 1 12 27 ≡ batch-of 3 2 (1 ∷ 1 ∷ []) (0 ∷ 0 ∷ 1 ∷ 2 ∷ 2 ∷ 1 ∷ 0 ∷ 1 ∷ 0 ∷ 0 ∷ 1 ∷ 2 ∷ []) 0 1 27)
    × (batch-S [] 0 0 0 0 27 ≡ batch-of 0 0 [] [] 0 0 27)
unfolding batch-S batch-of opening tables batching
batches = (refl, refl, refl, refl)

-- statement 1 is not whole; answers, and the index, one word short
no-batches : (batch-S (2 ∷ 1 ∷ 10 ∷ 3 ∷ 1 ∷ 10 ∷ []) 1 2 1 8 27 ≡ no-batch 22 1 1 2 1 8 27)
    × (batch-S (2 ∷ 1 ∷ 10 ∷ 2 ∷ 1 ∷ 10 ∷ []) 1 2 1 7 27 ≡ no-batch 7 0 1 2 1 7 27)
    × (batch-S (2 ∷ 1 ∷ 10 ∷ 2 ∷ 1 ∷ 10 ∷ []) 1 2 1 8 26 ≡ no-batch 7 0 1 2 1 8 26)
unfolding batch-S no-batch opening tables batching
no-batches = (refl, refl, refl)

-- rules, nodes, edges, statements, answers, index: the batch's own number
batch-number : List ℕ → List ℕ → List ℕ → List ℕ → ℕ → ℕ → ℕ
batch-number rs ns es ss answers index = (batch_gives (record { provable = 1; logic = 2; rules = rs; nodes = ns; edges = es; statements = ss }) 100
    (record { slices = ample; answers = answers; index = index })).number

-- 10, 8, 22, 7 for the answers, 7 for the index, and 0: a statement of no tokens is refused for itself
batch-orders : (batch-number (7 ∷ []) [] (1 ∷ []) (1 ∷ []) 0 0 ≡ 10) × (batch-number [] [] (1 ∷ []) (1 ∷ []) 0 0 ≡ 8)
    × (batch-number [] (0 ∷ []) [] (1 ∷ []) 0 0 ≡ 22) × (batch-number [] (0 ∷ []) [] (0 ∷ []) 3 2 ≡ 7)
    × (batch-number [] (0 ∷ []) [] (0 ∷ []) 4 1 ≡ 7) × (batch-number [] (0 ∷ []) [] (0 ∷ []) 4 2 ≡ 0)
unfolding batch-number opening batching
batch-orders = (refl, refl, refl, refl, refl, refl)
