-- The entry points: for each, everything that it gives back, as a function of the words handed in and of the lengths of the slices lent.
use Rattle.std.specs.Prelude.{not, List, [], ◌∷◌, ◌++◌, ℕ, zero, suc, ◌/◌, ltb, length, get_or, drop}
use Rattle.words.specs.Limits.{most_rules, most_nodes, most_edges, row_width, most_tokens, most_taken}
use Rattle.words.specs.Lent.{zeros, padded}
use Rattle.words.specs.Numbers.{accepted, too_few_tokens, bad_tables, too_many_tokens, bad_rules, misfit, no_entry, number, Fault, fault_number, numbering}
use Rattle.words.specs.Outcome.{Res, ok, no, pick, lesser, Demand, demand, first_fault}
use Rattle.rules.specs.Rules.{Rule, the_rules, rules_good, Stretch, no_stretch, stretch_from, reading}
use Rattle.rows.specs.Rows.{edges_of, edge_words, tables_good, tabling}
use Rattle.tree.specs.Grow.{Grown}
use Rattle.tree.specs.Grow as tree
use Rattle.garden.specs.Garden.{Bounds, the_commands, gardening}
use Rattle.garden.specs.Garden as garden
use Rattle.formula.specs.Check.{check}
use Rattle.formula.specs.Meaning.{Tree}
use Rattle.walk.specs.Walk.{Tables, tables_of, Walked, wanted_of, walk, walking}
use Rattle.walk.specs.Walk as passes
-- `read` and `write`: what a package's bytes say, what its bytes are, and all that comes back, stand in `package`
pub use Rattle.package.specs.Package.{Read, Written}
unfoldable pub use Rattle.package.specs.Package.{read_gives, write_gives}

-- ---- `body`: where a rule's body stands; an empty stretch for bad rules, or for a number that names no rule

unfoldable pub body_gives : ℕ → ℕ → List ℕ → ℕ → Stretch
body_gives provable logic rules n = pick (rules_good provable logic rules) (stretch_from most_rules 0 rules n) no_stretch

-- ---- `build`

pub record Built : Type 0 where
  pub number : ℕ
  pub nodes : ℕ
  pub edges : ℕ
  pub node-words : List ℕ
  pub edge-words : List ℕ
  pub frame-words : List ℕ

-- refused: counts 0, and zeros in all three slices
abbrev pub not_built : ℕ → ℕ → ℕ → ℕ → Built
not_built k nodes edges frames =
    record { number = k; nodes = 0; edges = 0; node-words = zeros nodes; edge-words = zeros edges; frame-words = zeros frames }

-- the whole rows of the two slices, or the limits, whichever is smaller
abbrev pub build_room : ℕ → ℕ → tree.Room
build_room nodes edges = record { nodes = lesser nodes most_nodes; edges = lesser (edges / row_width) most_edges }

-- a frame for clones has as many words as an edge
abbrev pub garden_bounds : ℕ → ℕ → ℕ → Bounds
garden_bounds nodes edges frames = record { room = build_room nodes edges; frames = frames / row_width; rows = most_taken }

-- frames are zero whatever the answer
unfoldable pub built_by : ℕ → ℕ → ℕ → Res Fault Grown → Built
built_by nodes edges frames (no y) = not_built (fault_number y) nodes edges frames
built_by nodes edges frames (ok g) = record {
  number = accepted;
  nodes = length g.nodes;
  edges = length g.edges;
  node-words = padded g.nodes nodes;
  edge-words = padded (edge_words g.edges) edges;
  frame-words = zeros frames;
}

unfoldable pub build_after : List ℕ → List ℕ → ℕ → ℕ → ℕ → ℕ → Built
build_after rules commands nodes edges frames zero =
    built_by nodes edges frames (garden.build (garden_bounds nodes edges frames) (the_rules rules) (the_commands commands))
build_after rules commands nodes edges frames (suc k) = not_built (suc k) nodes edges frames

-- `nodes`, `edges` and `frames` are the lengths of the slices lent
unfoldable pub build_gives : ℕ → ℕ → List ℕ → List ℕ → ℕ → ℕ → ℕ → Built
build_gives provable logic rules commands nodes edges frames =
    build_after rules commands nodes edges frames (first_fault (demand (rules_good provable logic rules) bad_rules ∷ []))

-- ---- `parse`

pub record Parsed : Type 0 where
  pub number : ℕ
  pub place : ℕ
  pub length : ℕ
  pub passes : ℕ
  pub frame-words : List ℕ
  pub list-words : List ℕ
  pub work-words : List ℕ

-- the lengths of the three slices lent
pub record Lent : Type 0 where
  pub frames : ℕ
  pub list : ℕ
  pub work : ℕ

-- frame room is the frame slice's length, list room the shorter of the list and its work slice
abbrev pub walk_room : Lent → passes.Room
walk_room s = record { frames = s.frames; list = lesser s.list s.work }

-- the list and zeros after it; on a refusal the list is empty
unfoldable pub parsed : Lent → Walked → Parsed
parsed s w = record {
  number = w.number;
  place = w.place;
  length = length w.list;
  passes = w.passes;
  frame-words = zeros s.frames;
  list-words = padded w.list s.list;
  work-words = zeros s.work;
}

abbrev pub the_tables : List ℕ → List ℕ → List ℕ → Tables
the_tables rules nodes edges = tables_of (the_rules rules) nodes (edges_of edges)

-- what is handed in, but for the allowance and the slices lent
pub record Asked : Type 0 where
  pub provable : ℕ
  pub logic : ℕ
  pub rules : List ℕ
  pub nodes : List ℕ
  pub edges : List ℕ
  pub tokens : List ℕ

-- what is asked of rules and tables
abbrev pub ground_demands : ℕ → ℕ → List ℕ → List ℕ → List ℕ → List Demand
ground_demands provable logic rules nodes edges = demand (rules_good provable logic rules) bad_rules
    ∷ demand (tables_good (length (the_rules rules)) nodes edges) bad_tables
    ∷ []

-- in this order, then the walk
abbrev pub parse_demands : Asked → List Demand
parse_demands q = ground_demands q.provable q.logic q.rules q.nodes q.edges
    ++ demand (not (ltb (length q.tokens) 2)) too_few_tokens
    ∷ demand (not (ltb most_tokens (length q.tokens))) too_many_tokens
    ∷ []

unfoldable pub walk_after : Asked → ℕ → passes.Room → ℕ → Walked
walk_after q allowance m zero = walk (the_tables q.rules q.nodes q.edges) q.provable q.logic allowance m q.tokens
walk_after q allowance m (suc k) = passes.refused (suc k) 0 0

-- the walk, or the refusal before it
unfoldable pub walk_of : Asked → ℕ → passes.Room → Walked
walk_of q allowance m = walk_after q allowance m (first_fault (parse_demands q))

unfoldable pub parse_gives : Asked → ℕ → Lent → Parsed
parse_gives q allowance s = parsed s (walk_of q allowance (walk_room s))

-- ---- `verify`, the check alone

-- no room where the work slice is shorter than the list; the check decides last
abbrev pub verify_demands : ℕ → ℕ → List ℕ → List ℕ → List ℕ → ℕ → List Demand
verify_demands provable logic rules tokens list work = demand (rules_good provable logic rules) bad_rules
    ∷ demand (not (ltb (length tokens) 2)) too_few_tokens
    ∷ demand (not (ltb most_tokens (length tokens))) too_many_tokens
    ∷ demand (not (ltb work (length list))) (number no_entry)
    ∷ demand (check (the_rules rules) (wanted_of provable logic (get_or tokens 0 0)) (drop 1 tokens) list) (number misfit)
    ∷ []

pub record Verified : Type 0 where
  pub number : ℕ
  pub place : ℕ
  pub length : ℕ
  pub passes : ℕ
  pub work-words : List ℕ

-- `work` is the length of the slice lent
unfoldable pub verify_gives : ℕ → ℕ → List ℕ → List ℕ → List ℕ → ℕ → Verified
verify_gives provable logic rules tokens list work = record {
  number = first_fault (verify_demands provable logic rules tokens list work);
  place = 0;
  length = 0;
  passes = 0;
  work-words = zeros work;
}

-- ---- what an accepted list means

-- a well typed tree, of the typecode that the statement wants, that spells the tokens after its first
abbrev pub Means : List Rule → ℕ → ℕ → List ℕ → List ℕ → Type 0
Means R provable logic [] l = ⊥
Means R provable logic (t ∷ xs) l = Tree R (wanted_of provable logic t) xs l

unfoldable pub entering : Unit {0}
unfolding first_fault numbering reading tabling gardening walking body_gives built_by build_after build_gives parsed walk_after walk_of parse_gives verify_gives
entering = tt
