-- What the code's structs and the two lent slices stand for: first for callers of `grow`, then for its parts.
use Rattle.std.specs.Prelude.{Result, Ok, Err, Option, Some, None, ℕ, ◌+◌, ◌*◌, ◌≤◌, ◌<◌, ◌≡◌, true, List, length, get_or, take}
use Rattle.std.proofs.Math.Option as math
use Rattle.words.specs.Limits.{most_nodes, row_width, most_reduces}
use Rattle.words.specs.Outcome.{Res, ok, no, bind, when}
use Rattle.words.specs.Numbers.{Fault, collides, no_node, no_edge, sixth_reduce, far_offset, bad_copy, many_rows, no_clone}
use Rattle.rules.specs.Rules.{Item, rule_of, source}
use Rattle.rules.specs.Every.{All}
use Rattle.rows.specs.Rows.{Reduce, Edge, edge_of, rows_from, edges_of, edge_words, rising, find}
use Rattle.rows.specs.Code.{reduces_are, row_at, Spells, put_in, cleared, place_of}
use Rattle.rows.specs.declared.Key as sought
use Rattle.rows.specs.declared.reduce_list.Reduces as listed
use Rattle.tree.specs.Grow.{Grown, Room, kind, sym, edge_for, branch_at, add_node, place_inner, place_rule, copy_row, convert}
use Rattle.tree.specs.declared.Counts.{Counts}
use Rattle.tree.specs.declared.Room as lent
use Rattle.tree.specs.declared.Fault as why
use Rattle.tree.specs.declared.Fault.TheVariants as code
use Rattle.words.specs.declared.NodeNo.{NodeNo}

abbrev pub room_of : lent.Room → Room
room_of z = record { nodes = z.nodes; edges = z.edges }

abbrev pub fault_of : why.Fault → Fault
fault_of code.Collides = collides
fault_of code.NoNode = no_node
fault_of code.NoEdge = no_edge
fault_of code.SixthReduce = sixth_reduce
fault_of code.FarOffset = far_offset
fault_of code.BadCopy = bad_copy
fault_of code.ManyRows = many_rows
fault_of code.NoClone = no_clone

-- the room lies within the two slices, and node numbers fit
pub record Within (z : lent.Room) (ns es : List ℕ) : Type 0 where
  pub nodes : z.nodes ≤ length ns
  pub few : z.nodes ≤ most_nodes
  pub edges : row_width * z.edges ≤ length es

-- x has grown, and the words before the two counts are its own
pub record Holding (z : lent.Room) (x : Res Fault Grown) (c : Counts) (ns es : List ℕ) : Type 0 where
  pub tree : Grown
  pub grows : x ≡ ok tree
  pub node-count : c.nodes ≡ length tree.nodes
  pub edge_count : c.edges ≡ length tree.edges
  pub nodes-in : c.nodes ≤ z.nodes
  pub edges-in : c.edges ≤ z.edges
  pub nodes : take c.nodes ns ≡ tree.nodes
  pub edges : take (row_width * c.edges) es ≡ edge_words tree.edges

-- the counts after a step, or its refusal
abbrev pub Grew : Type 0
Grew = Result Counts why.Fault

-- grown, or refused alike
abbrev pub Grows : lent.Room → Res Fault Grown → Grew → List ℕ → List ℕ → Type 0
Grows z x (Ok c) ns es = Holding z x c ns es
Grows z x (Err f) ns es = x ≡ no (fault_of f)

-- ---- what stands in the slices while it grows

-- the edges of the first k rows
unfoldable pub edges_in : ℕ → List ℕ → List Edge
edges_in k es = edges_of (take (row_width * k) es)

-- so many nodes and edges of the two slices
abbrev pub grown_of : Counts → List ℕ → List ℕ → Grown
grown_of c ns es = record { nodes = take c.nodes ns; edges = edges_in c.edges es }

abbrev pub grew_of : Grew → List ℕ → List ℕ → Res Fault Grown
grew_of (Ok c) ns es = ok (grown_of c ns es)
grew_of (Err f) ns es = no (fault_of f)

-- the rows so far lie within the slice and rise
pub record Rising (c : Counts) (es : List ℕ) : Type 0 where
  pub fits : row_width * c.edges ≤ length es
  pub order : rising (edges_in c.edges es) ≡ true

-- ---- a look-up

-- a row of those so far, and what is found there
pub record FoundAt (c : Counts) (es : List ℕ) (n k s i : ℕ) : Type 0 where
  pub within : i < c.edges
  pub finds : find (edges_in c.edges es) n k s ≡ math.some (edge_of (row_at es i))

abbrev pub Looks : Counts → List ℕ → ℕ → ℕ → ℕ → Option ℕ → Type 0
Looks c es n k s (Some i) = FoundAt c es n k s i
Looks c es n k s None = find (edges_in c.edges es) n k s ≡ math.none

-- ---- what is in order

-- an edge to one of the first k nodes, with no sixth reduce
pub record Leads (k : ℕ) (e : Edge) : Type 0 where
  pub to_in : e.to < k
  pub few : length e.reduces ≤ most_reduces

-- a row's last word is its age while the tree grows: a number below k
abbrev pub Aged : ℕ → List ℕ → Type 0
Aged k row = get_or row 15 0 < k

-- the edge rows: the room lies within the slice, and the rows but for their ages, which are below their count, are as edges are written, and rise
pub record Rowed (z : lent.Room) (c : Counts) (es : List ℕ) : Type 0 where
  pub within : c.edges ≤ z.edges
  pub fits : row_width * z.edges ≤ length es
  pub words : All Spells (rows_from c.edges es)
  pub aged : All (Aged c.edges) (rows_from c.edges es)
  pub leads : All (Leads c.nodes) (edges_in c.edges es)
  pub order : rising (edges_in c.edges es) ≡ true

-- and the nodes, with the root among them
pub record Stands (z : lent.Room) (c : Counts) (ns es : List ℕ) : Type 0 where
  pub root : 0 < c.nodes
  pub within : c.nodes ≤ z.nodes
  pub fits : z.nodes ≤ length ns
  pub few : z.nodes ≤ most_nodes
  pub rowed : Rowed z c es

-- ---- a step of the code is a step of the definition

-- a step that adds edges alone: after it there are still k nodes
abbrev pub StillRowed : lent.Room → ℕ → Grew → List ℕ → Type 0
StillRowed z k (Ok c) es = Rowed z c es × (c.nodes ≡ k)
StillRowed z k (Err f) es = Unit {0}

pub record Rows (z : lent.Room) (c : Counts) (x : Res Fault Grown) (r : Grew) (ns es : List ℕ) : Type 0 where
  pub answer : grew_of r ns es ≡ x
  pub rowed : StillRowed z c.nodes r es

-- a row more, put in at the place of its key
abbrev pub Puts : Counts → Edge → List ℕ → Grew → List ℕ → Type 0
Puts c e es (Ok d) es' = (d ≡ record { nodes = c.nodes; edges = c.edges + 1 })
    × (es' ≡ put_in es (place_of e.from e.kind e.sym (edges_in c.edges es)) c.edges e)
Puts c e es (Err f) es' = Unit {0}

abbrev pub StillStands : lent.Room → Grew → List ℕ → List ℕ → Type 0
StillStands z (Ok c) ns es = Stands z c ns es
StillStands z (Err f) ns es = Unit {0}

pub record Meets (z : lent.Room) (x : Res Fault Grown) (r : Grew) (ns es : List ℕ) : Type 0 where
  pub answer : grew_of r ns es ≡ x
  pub stands : StillStands z r ns es

-- the end of a build: rows whose last words can be cleared, and those rows then
abbrev pub Ready : Grew → List ℕ → Type 0
Ready (Ok c) es = (row_width * c.edges ≤ length es) × All Spells (rows_from c.edges es)
Ready (Err f) es = Unit {0}

abbrev pub Finishes : Grew → List ℕ → List ℕ → Type 0
Finishes (Ok c) es es' = es' ≡ cleared es c.edges
Finishes (Err f) es es' = Unit {0}

-- the key of an item's edge from a node
abbrev pub key_for : NodeNo → Item → sought.Key
key_for n i = record { from = n; kind = kind i; symbol = record { 0 = sym i } }

-- a new branch for the items that come after
abbrev pub branch_of : Room → Grown → ℕ → ℕ → ℕ → (Grown → ℕ → Res Fault Grown) → Res Fault Grown
branch_of z g n k s rest = bind (add_node z g n k s 0) λ g'. rest g' (length g.nodes)

-- an item that has more after it: 11 at a leaf, else as it is defined
abbrev pub inner_of : Room → Grown → ℕ → Item → (Grown → ℕ → Res Fault Grown) → Res Fault Grown
inner_of z g n i rest = bind (when (branch_at g n) collides g) λ g. place_inner z g n i rest (edge_for g n i)

-- the counts and where the next item of a body is placed, or why it can't be
abbrev pub Placed : Type 0
Placed = Result (Counts × NodeNo) why.Fault

-- `rest` is what comes of the node where they are placed
abbrev pub placed_then : Placed → List ℕ → List ℕ → (Grown → ℕ → Res Fault Grown) → Res Fault Grown
placed_then (Ok (c, n)) ns es rest = rest (grown_of c ns es) n.0
placed_then (Err f) ns es rest = no (fault_of f)

abbrev pub StillAt : lent.Room → Placed → List ℕ → List ℕ → Type 0
StillAt z (Ok (c, n)) ns es = Stands z c ns es × (n.0 < c.nodes)
StillAt z (Err f) ns es = Unit {0}

pub record Places (z : lent.Room) (x : (Grown → ℕ → Res Fault Grown) → Res Fault Grown) (r : Placed) (ns es : List ℕ) : Type 0 where
  pub answer : (rest : Grown → ℕ → Res Fault Grown) → placed_then r ns es rest ≡ x rest
  pub stands : StillAt z r ns es

-- the rule that stands first
abbrev pub place_first : Room → ℕ → List ℕ → Grown → Res Fault Grown
place_first z n ws g = place_rule z n (rule_of ws) g (source (rule_of ws).body)

-- ---- conversions

-- the reduces of an edge with one more, if there is a place for it
abbrev pub reduces_in : Option listed.Reduces → math.Option (List Reduce)
reduces_in (Some r) = math.some (reduces_are r)
reduces_in None = math.none

-- one row, copied to node m
abbrev pub copy_of : Room → ℕ → ℕ → Edge → Grown → Res Fault Grown
copy_of z c m e g = copy_row z c g m e (find g.edges m e.kind e.sym)

abbrev pub convert_first : Room → ℕ → List ℕ → Grown → Res Fault Grown
convert_first z n ws g = convert z n (rule_of ws) g (source (rule_of ws).body)
