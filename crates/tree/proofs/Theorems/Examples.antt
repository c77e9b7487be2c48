-- Growing, computed on rules that pin each of its clauses.
use Rattle.std.specs.Prelude.{◌≡◌, refl, Bool, true, ◌&&◌, List, [], ◌∷◌, ◌++◌, ℕ, zero, suc, ◌+◌, eqb, take, drop}
use Rattle.words.specs.Limits.{most_nodes, most_edges}
use Rattle.words.specs.Outcome.{Res, ok, no}
use Rattle.words.specs.Numbers.{Fault, fault_number}
use Rattle.rules.specs.Rules.{Item, con, slot, Rule, the_rules, reading}
use Rattle.rules.specs.Sheet.{rule, rules-S, words-S10, words-T, words-U, words-V, sets}
use Rattle.rows.specs.Rows.{Reduce}
use Rattle.rows.specs.Sheet.{edge, five, nodes-S, edges-S, tables}
use Rattle.tree.specs.Grow.{Grown, Room, grow, place_rules, root_alone, growing}

abbrev room : ℕ → ℕ → Room
room n e = record { nodes = n; edges = e }

abbrev wide : Room
wide = room most_nodes most_edges

abbrev reduce : ℕ → ℕ → Reduce
reduce r o = record { rule = r; offset = o }

-- ---- whole tables

grown-S : grow wide rules-S ≡ ok (record { nodes = nodes-S; edges = edges-S })
unfolding sets tables growing
grown-S = refl

-- node 17 has its own row, and two that are copied from node 12
grown-S10 : grow wide (the_rules words-S10) ≡ ok (record {
  nodes = nodes-S ++ 0 ∷ 0 ∷ 10 ∷ [];
  edges = take 7 edges-S ++ edge 0 1 4 17 [] ∷ (drop 8 edges-S ++ edge 17 0 8 13 five ∷ edge 17 0 9 15 five ∷ edge 17 0 15 18 [] ∷ edge 18 1 4 19 [] ∷ []);
})
unfolding sets tables reading growing
grown-S10 = refl

-- the links in a bad order: the second conversion's row comes too late for the first
grown-T : grow wide (the_rules words-T) ≡ ok (record {
  nodes = 0 ∷ 1 ∷ 0 ∷ 4 ∷ [];
  edges = edge 0 0 30 1 [] ∷ edge 0 0 31 2 [] ∷ edge 2 1 21 3 (reduce 3 0 ∷ []) ∷ edge 2 1 22 3 [] ∷ [];
})
unfolding sets reading growing
grown-T = refl

-- a copied variable edge has the conversion at offset 1; what is copied is then converted itself
grown-U : grow wide (the_rules words-U) ≡ ok (record {
  nodes = 0 ∷ 1 ∷ 2 ∷ 0 ∷ 4 ∷ 0 ∷ 5 ∷ [];
  edges = edge 0 0 12 1 [] ∷ edge 0 0 13 2 [] ∷ edge 0 1 3 3 [] ∷ edge 0 1 4 5 [] ∷ edge 3 1 3 4 [] ∷ edge 3 1 4 4 (reduce 3 0 ∷ [])
      ∷ edge 5 0 15 6 [] ∷ edge 5 1 3 4 (reduce 3 1 ∷ []) ∷ edge 5 1 4 4 (reduce 3 0 ∷ reduce 3 1 ∷ []) ∷ [];
})
unfolding sets reading growing
grown-U = refl

-- two conversions on one edge, the later one first
grown-V : grow wide (the_rules words-V) ≡ ok (record {
  nodes = 0 ∷ 1 ∷ 0 ∷ 4 ∷ [];
  edges = edge 0 0 30 1 [] ∷ edge 0 0 31 2 [] ∷ edge 2 1 20 3 (reduce 3 0 ∷ reduce 2 0 ∷ []) ∷ edge 2 1 21 3 (reduce 2 0 ∷ []) ∷ edge 2 1 22 3 [] ∷ [];
})
unfolding sets reading growing
grown-V = refl

-- c8 is kept, c9 is copied
grown-kept : grow wide (rule 2 (slot 3 ∷ con 8 ∷ []) ∷ rule 2 (slot 3 ∷ con 9 ∷ []) ∷ rule 2 (slot 4 ∷ con 8 ∷ []) ∷ rule 3 (slot 4 ∷ []) ∷ []) ≡ ok (record {
  nodes = 0 ∷ 0 ∷ 1 ∷ 2 ∷ 0 ∷ 3 ∷ [];
  edges = edge 0 1 3 1 [] ∷ edge 0 1 4 4 [] ∷ edge 1 0 8 2 [] ∷ edge 1 0 9 3 [] ∷ edge 4 0 8 5 [] ∷ edge 4 0 9 3 (reduce 4 0 ∷ []) ∷ [];
})
unfolding growing
grown-kept = refl

-- n conversions in a chain, from typecode 40 to 40 + n, the last link first
unfoldable chain : ℕ → List Rule
chain zero = []
chain (suc n) = rule (41 + n) (slot (40 + n) ∷ []) ∷ chain n

-- the chain into a rule's slot
abbrev chained : ℕ → List Rule
chained n = rule 2 (con 31 ∷ slot (40 + n) ∷ []) ∷ chain n

grown-chain : grow wide (chained 5) ≡ ok (record {
  nodes = 0 ∷ 0 ∷ 1 ∷ [];
  edges = edge 0 0 31 1 [] ∷ edge 1 1 40 2 (reduce 6 0 ∷ reduce 5 0 ∷ reduce 4 0 ∷ reduce 3 0 ∷ reduce 2 0 ∷ [])
      ∷ edge 1 1 41 2 (reduce 5 0 ∷ reduce 4 0 ∷ reduce 3 0 ∷ reduce 2 0 ∷ []) ∷ edge 1 1 42 2 (reduce 4 0 ∷ reduce 3 0 ∷ reduce 2 0 ∷ [])
      ∷ edge 1 1 43 2 (reduce 3 0 ∷ reduce 2 0 ∷ []) ∷ edge 1 1 44 2 (reduce 2 0 ∷ []) ∷ edge 1 1 45 2 [] ∷ [];
})
unfolding chain growing
grown-chain = refl

grown-empty : grow wide [] ≡ ok root_alone
unfolding growing
grown-empty = refl

-- a conversion makes no node of its own, but it has its number
placed : place_rules wide 1 (rule 21 (slot 20 ∷ []) ∷ rule 20 (con 30 ∷ []) ∷ []) root_alone
    ≡ ok (record { nodes = 0 ∷ 2 ∷ []; edges = edge 0 0 30 1 [] ∷ [] })
unfolding growing
placed = refl

-- ---- numbers

unfoldable fate : Res Fault Grown → ℕ
fate (no y) = fault_number y
fate (ok g) = 0

record Case : Type 0 where
  room : Room
  rules : List Rule
  number : ℕ

abbrev case : Room → List Rule → ℕ → Case
case z R k = record { room = z; rules = R; number = k }

abbrev body : List Item → Rule
body b = rule 2 b

-- each case has its number
unfoldable met : List Case → Bool
met [] = true
met (c ∷ cs) = eqb (fate (grow c.room c.rules)) c.number && met cs

-- the equal, the longer and the shorter body collide, one or two items off; a branch or another kind does not
unfoldable colliding : List Case
colliding = case wide (body (con 10 ∷ []) ∷ body (con 10 ∷ []) ∷ []) 11
    ∷ case wide (body (con 10 ∷ slot 3 ∷ []) ∷ body (con 10 ∷ slot 3 ∷ []) ∷ []) 11
    ∷ case wide (body (con 10 ∷ []) ∷ body (con 10 ∷ con 11 ∷ []) ∷ []) 11
    ∷ case wide (body (con 10 ∷ []) ∷ body (con 10 ∷ con 11 ∷ con 12 ∷ []) ∷ []) 11
    ∷ case wide (body (con 10 ∷ con 11 ∷ []) ∷ body (con 10 ∷ []) ∷ []) 11
    ∷ case wide (body (con 10 ∷ con 11 ∷ con 12 ∷ []) ∷ body (con 10 ∷ []) ∷ []) 11
    ∷ case wide (body (con 10 ∷ con 11 ∷ []) ∷ body (con 10 ∷ con 12 ∷ []) ∷ []) 0
    ∷ case wide (body (con 10 ∷ []) ∷ body (slot 10 ∷ con 10 ∷ []) ∷ []) 0
    ∷ []

colliding-met : met colliding ≡ true
unfolding met fate colliding growing
colliding-met = refl

-- the nodes or the edges run out; 11 comes first, then 12
unfoldable narrow : List Case
narrow = case (room 0 9) [] 12
    ∷ case (room 1 0) [] 0
    ∷ case (room 1 9) (body (con 10 ∷ []) ∷ []) 12
    ∷ case (room 2 0) (body (con 10 ∷ []) ∷ []) 13
    ∷ case (room 1 0) (body (con 10 ∷ []) ∷ []) 12
    ∷ case (room 2 9) (body (con 10 ∷ con 11 ∷ []) ∷ []) 12
    ∷ case (room 2 1) (body (con 10 ∷ []) ∷ body (con 10 ∷ []) ∷ []) 11
    ∷ case (room 2 1) (body (con 10 ∷ []) ∷ body (con 10 ∷ con 11 ∷ []) ∷ []) 11
    ∷ case (room 17 19) rules-S 0
    ∷ case (room 16 19) rules-S 12
    ∷ case (room 17 18) rules-S 13
    ∷ case (room 20 23) (the_rules words-S10) 0
    ∷ case (room 20 22) (the_rules words-S10) 13
    ∷ []

narrow-met : met narrow ≡ true
unfolding met fate narrow sets reading growing
narrow-met = refl

-- a sixth reduce, though no row is free either
unfoldable crowded : List Case
crowded = case wide (chained 6) 14 ∷ case (room 3 7) (chained 6) 14 ∷ case (room 3 6) (chained 6) 13 ∷ []

crowded-met : met crowded ≡ true
unfolding met fate crowded chain growing
crowded-met = refl

-- typecodes 3 and 4 after c1, and the conversion from 4 to 3 after the others
abbrev joined : List Item → List Item → List Rule → List Rule
joined b c R = body (con 1 ∷ slot 3 ∷ b) ∷ body (con 1 ∷ slot 4 ∷ c) ∷ (R ++ rule 3 (slot 4 ∷ []) ∷ [])

-- from a leaf, to a leaf, from a leaf to a leaf, and a node to itself; nothing to copy is no fault
unfoldable copying : List Case
copying = case wide (joined [] (con 9 ∷ []) []) 16
    ∷ case wide (joined (con 9 ∷ []) [] []) 16
    ∷ case wide (joined [] [] []) 16
    ∷ case wide (body (slot 3 ∷ con 8 ∷ []) ∷ rule 3 (slot 4 ∷ []) ∷ rule 3 (slot 4 ∷ []) ∷ []) 16
    ∷ case wide (joined (con 9 ∷ []) (con 9 ∷ []) []) 0
    ∷ case wide (joined (slot 45 ∷ []) (con 9 ∷ []) (chain 5)) 14
    ∷ case wide (joined (slot 45 ∷ []) [] (chain 5)) 16
    ∷ case (room 5 9) (joined (slot 45 ∷ []) [] (chain 5)) 16
    ∷ []

copying-met : met copying ≡ true
unfolding met fate copying chain growing
copying-met = refl

-- conversions from typecodes 21 to 25 and from 10, all to 20 in the end
abbrev spread : List Rule
spread = rule 20 (slot 21 ∷ []) ∷ rule 21 (slot 22 ∷ []) ∷ rule 22 (slot 23 ∷ []) ∷ rule 23 (slot 24 ∷ []) ∷ rule 24 (slot 25 ∷ []) ∷ rule 20 (slot 10 ∷ []) ∷ []

-- of the rows that are copied the one with the lowest key decides: its sixth reduce though no row is free, or no free row though a later one
-- would have a sixth reduce
unfoldable lowest : List Case
lowest = case (room 6 10) (joined (slot 45 ∷ []) (con 11 ∷ []) (chain 5)) 14
    ∷ case (room 6 16) (joined (slot 20 ∷ []) (con 11 ∷ []) spread) 13
    ∷ case (room 6 17) (joined (slot 20 ∷ []) (con 11 ∷ []) spread) 14
    ∷ []

lowest-met : met lowest ≡ true
unfolding met fate lowest chain growing
lowest-met = refl
