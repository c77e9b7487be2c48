-- Growing the tree: rules in order, then conversions in order. Refusals 11, 12, 13, 14 and 16.
use Rattle.std.specs.Prelude.{Bool, ◌&&◌, not, List, [], ◌∷◌, ◌++◌, ℕ, zero, suc, eqb, ltb, length, get_or}
use Rattle.std.proofs.Math.Option.{Option, some, none}
use Rattle.words.specs.Outcome.{Res, ok, no, bind, when}
use Rattle.words.specs.Numbers.{Fault, collides, no_node, no_edge, sixth_reduce, bad_copy, fault_number}
use Rattle.rules.specs.Rules.{Item, con, slot, Rule, source}
use Rattle.rows.specs.Rows.{Reduce, Edge, below, insert_edge, keyed, find, leaving, with_reduce}

-- the nodes and edges so far
pub record Grown : Type 0 where
  pub nodes : List ℕ
  pub edges : List Edge

-- how many of each there is room for
pub record Room : Type 0 where
  pub nodes : ℕ
  pub edges : ℕ

-- the kind and the symbol of an item's edge
unfoldable pub kind : Item → ℕ
kind (con c) = 0
kind (slot t) = 1

unfoldable pub sym : Item → ℕ
sym (con c) = c
sym (slot t) = t

-- the edge of an item from node n
abbrev pub edge_for : Grown → ℕ → Item → Option Edge
edge_for g n i = find g.edges n (kind i) (sym i)

unfoldable pub branch_at : Grown → ℕ → Bool
branch_at g n = eqb (get_or g.nodes n 0) 0

-- an edge is put at its place, or 13
unfoldable pub add_edge : Room → Grown → Edge → Res Fault Grown
add_edge z g e = when (ltb (length g.edges) z.edges) no_edge (record { nodes = g.nodes; edges = insert_edge e g.edges })

-- a new node with the word w, or 12, and an edge to it from node n, of kind k for symbol s, with no reduces
unfoldable pub add_node : Room → Grown → ℕ → ℕ → ℕ → ℕ → Res Fault Grown
add_node z g n k s w = bind (when (ltb (length g.nodes) z.nodes) no_node (length g.nodes)) λ m.
    add_edge z (record { nodes = g.nodes ++ w ∷ []; edges = g.edges }) (record { from = n; kind = k; sym = s; to = m; reduces = [] })

-- ---- a rule's body from node n: 11 before 12 before 13

-- the last item makes a new leaf; 11 if its edge is there
unfoldable pub place_last : Room → ℕ → Grown → ℕ → Item → Option Edge → Res Fault Grown
place_last z r g n i (some e) = no collides
place_last z r g n i none = add_node z g n (kind i) (sym i) r

-- another item follows its edge, or makes one to a new branch; `rest` places the items after it
unfoldable pub place_inner : Room → Grown → ℕ → Item → (Grown → ℕ → Res Fault Grown) → Option Edge → Res Fault Grown
place_inner z g n i rest (some e) = rest g e.to
place_inner z g n i rest none = bind (add_node z g n (kind i) (sym i) 0) λ g'. rest g' (length g.nodes)

-- 11 if node n is a leaf
unfoldable pub place : Room → ℕ → List Item → Grown → ℕ → Res Fault Grown
place z r [] g n = ok g
place z r (i ∷ []) g n = bind (when (branch_at g n) collides g) λ g. place_last z r g n i (edge_for g n i)
place z r (i ∷ j ∷ b) g n = bind (when (branch_at g n) collides g) λ g. place_inner z g n i (λ g n. place z r (j ∷ b) g n) (edge_for g n i)

-- conversions are skipped
unfoldable pub place_rule : Room → ℕ → Rule → Grown → Option ℕ → Res Fault Grown
place_rule z r q g (some u) = ok g
place_rule z r q g none = place z r q.body g 0

-- rules in order, numbered from r
unfoldable pub place_rules : Room → ℕ → List Rule → Grown → Res Fault Grown
place_rules z r [] g = ok g
place_rules z r (q ∷ qs) g = bind (place_rule z r q g (source q.body)) λ g. place_rules z (suc r) qs g

-- ---- conversions: 16, then for each new row 14, then 13

-- edge e again, from node n with symbol s, the conversion c before its reduces at offset o
unfoldable pub add_converted : Room → Grown → ℕ → ℕ → Edge → Option (List Reduce) → Res Fault Grown
add_converted z g n s e none = no sixth_reduce
add_converted z g n s e (some ds) = add_edge z g (record { from = n; kind = e.kind; sym = s; to = e.to; reduces = ds })

abbrev pub converted : Room → ℕ → ℕ → Grown → ℕ → ℕ → Edge → Res Fault Grown
converted z c o g n s e = add_converted z g n s e (with_reduce (record { rule = c; offset = o }) e.reduces)

-- 0 on a constant edge, 1 on a variable one
unfoldable pub offset_on : ℕ → ℕ
offset_on zero = 0
offset_on (suc k) = 1

-- one row; a key that m has is kept
unfoldable pub copy_row : Room → ℕ → Grown → ℕ → Edge → Option Edge → Res Fault Grown
copy_row z c g m e (some d) = ok g
copy_row z c g m e none = converted z c (offset_on e.kind) g m e.sym e

-- these rows are copied to m, in their order
unfoldable pub copy_branches : Room → ℕ → ℕ → List Edge → Grown → Res Fault Grown
copy_branches z c m [] g = ok g
copy_branches z c m (e ∷ es) g = bind (copy_row z c g m e (find g.edges m e.kind e.sym)) λ g. copy_branches z c m es g

-- two different branches
unfoldable pub apart : Grown → ℕ → ℕ → Bool
apart g n m = not (eqb n m) && branch_at g n && branch_at g m

-- the conversion c from typecode u, at node n with the variable edge e for its result: an edge for u, or the rows that stand now are copied
unfoldable pub convert_to : Room → ℕ → ℕ → Grown → ℕ → Edge → Option Edge → Res Fault Grown
convert_to z c u g n e none = converted z c 0 g n u e
convert_to z c u g n e (some d) = bind (when (apart g e.to d.to) bad_copy g) λ g. copy_branches z c d.to (leaving e.to g.edges) g

unfoldable pub convert_at : Room → ℕ → ℕ → Grown → ℕ → Option Edge → Res Fault Grown
convert_at z c u g n none = ok g
convert_at z c u g n (some e) = convert_to z c u g n e (find g.edges n 1 u)

-- k nodes in number order, from n on
unfoldable pub convert_nodes : Room → ℕ → ℕ → ℕ → ℕ → ℕ → Grown → Res Fault Grown
convert_nodes z c t u zero n g = ok g
convert_nodes z c t u (suc k) n g = bind (convert_at z c u g n (find g.edges n 1 t)) λ g. convert_nodes z c t u k (suc n) g

unfoldable pub convert : Room → ℕ → Rule → Grown → Option ℕ → Res Fault Grown
convert z c q g none = ok g
convert z c q g (some u) = convert_nodes z c q.result u (length g.nodes) 0 g

-- conversions in rule order, numbered from c
unfoldable pub convert_all : Room → ℕ → List Rule → Grown → Res Fault Grown
convert_all z c [] g = ok g
convert_all z c (q ∷ qs) g = bind (convert z c q g (source q.body)) λ g. convert_all z (suc c) qs g

-- ---- the whole

abbrev pub root_alone : Grown
root_alone = record { nodes = 0 ∷ []; edges = [] }

-- node 0 needs room too
unfoldable pub plant : Room → List Rule → Res Fault Grown
plant z R = bind (when (ltb 0 z.nodes) no_node root_alone) λ g. place_rules z 1 R g

unfoldable pub grow : Room → List Rule → Res Fault Grown
grow z R = bind (plant z R) λ g. convert_all z 1 R g

unfoldable pub growing : Unit {0}
unfolding source below insert_edge keyed find leaving with_reduce bind when fault_number kind sym branch_at add_edge add_node place_last place_inner place place_rule place_rules add_converted offset_on copy_row copy_branches apart convert_to convert_at convert_nodes convert convert_all plant grow
growing = tt
