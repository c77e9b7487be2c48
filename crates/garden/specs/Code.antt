-- What the code's structs and the lent slices stand for.
use Rattle.std.specs.Prelude.{Result, Ok, Err, Option, Some, None, ℕ, zero, suc, ◌+◌, ◌*◌, ◌-◌, ◌/◌, ◌≤◌, ◌<◌, ◌≡◌, Bool, true, false, ◌&&◌, List, [], ◌∷◌, map, eqb, ltb, length, get_or, drop}
use Rattle.std.proofs.Math.Option as math
use Rattle.std.specs.Borrow.{Bor}
use Rattle.words.specs.Limits.{most_edges, most_taken, row_width, most_reduces}
use Rattle.words.specs.Outcome.{Res, ok, no, pick}
use Rattle.words.specs.Numbers.{Fault, bad_copy}
use Rattle.rules.specs.Every.{All}
use Rattle.rows.specs.Rows.{Reduce, Edge, edge_of, rows_from}
use Rattle.rows.specs.Code.{reduces_are, row_at, written}
use Rattle.rows.specs.declared.reduce_list.Reduces.{Reduces}
use Rattle.tree.specs.Grow.{Grown}
use Rattle.tree.specs.Code.{Grew, room_of, fault_of, grown_of, Stands, Meets}
use Rattle.tree.specs.declared.Counts.{Counts}
use Rattle.tree.specs.declared.Room as lent
use Rattle.words.specs.declared.NodeNo.{NodeNo}
use Rattle.tree.specs.declared.Fault as why-of
use Rattle.tree.specs.declared.Fault.TheVariants as why
use Rattle.garden.specs.Garden.{Bounds, Pair, pairs_of, good_pairs, Command, conversions, path, bad, command_of, command_size, asked, Cloning, Begun, Taken, clones, Parting, Places}
use Rattle.garden.specs.declared.row.Taken as row
use Rattle.garden.specs.declared.row.Cloning as held
use Rattle.garden.specs.declared.clones.Frame as held-frame
use Rattle.garden.specs.declared.path.Places as places
use Rattle.garden.specs.declared.path.Pair as held-pair
use Rattle.garden.specs.declared.path.Parting as held-parting
use Rattle.garden.specs.declared.clones.Stage.{Stage}
use Rattle.garden.specs.declared.Command as coded
use Rattle.garden.specs.declared.Command.TheVariants as command

-- ---- lists of reduces

-- a list, or why there is none
abbrev pub list_of : Result Reduces why-of.Fault → Res Fault (List Reduce)
list_of (Ok r) = ok (reduces_are r)
list_of (Err f) = no (fault_of f)

-- the first of a list is of this rule
unfoldable pub has_rule : ℕ → List Reduce → Bool
has_rule r [] = false
has_rule r (d ∷ ds) = eqb d.rule r

-- ---- the rows of a node that stood

-- the age of a row, its last word while the tree grows, is how many rows there were when it was put in: here are those that were put in
-- when there were fewer than k
unfoldable pub older : ℕ → List (List ℕ) → List (List ℕ)
older k [] = []
older k (row ∷ rows) = pick (ltb (get_or row 15 0) k) (row ∷ older k rows) (older k rows)

-- and of those the edges that leave node n
unfoldable pub stood_from : ℕ → ℕ → List (List ℕ) → List Edge
stood_from n k [] = []
stood_from n k (row ∷ rows) = pick (ltb (get_or row 15 0) k && eqb (edge_of row).from n) (edge_of row ∷ stood_from n k rows) (stood_from n k rows)

-- but the first p
abbrev pub rest_from : ℕ → ℕ → ℕ → List (List ℕ) → List Edge
rest_from n k p rows = drop p (stood_from n k rows)

-- the next one is row i
pub record NextAt (c : Counts) (n k p : ℕ) (ws : List ℕ) (i : ℕ) : Type 0 where
  pub after : p ≤ i
  pub within : i < c.edges
  pub rows : rest_from n k p (rows_from c.edges ws) ≡ edge_of (row_at ws i) ∷ rest_from n k (p + 1) (rows_from c.edges ws)

abbrev pub Nexts : Counts → ℕ → ℕ → ℕ → List ℕ → Option ℕ → Type 0
Nexts c n k p ws (Some i) = NextAt c n k p ws i
Nexts c n k p ws None = rest_from n k p (rows_from c.edges ws) ≡ []

-- a step after which no count is lower and the rows that stood are there, among younger ones
pub record Kept (c : Counts) (es : List ℕ) (d : Counts) (es' : List ℕ) : Type 0 where
  pub nodes : c.nodes ≤ d.nodes
  pub edges : c.edges ≤ d.edges
  pub stood : older c.edges (rows_from d.edges es') ≡ rows_from c.edges es

abbrev pub Keeps : Counts → List ℕ → Grew → List ℕ → Type 0
Keeps c es (Ok d) es' = Kept c es d es'
Keeps c es (Err f) es' = Unit {0}

-- ---- one row of a clone

abbrev pub cloning_of : held.Cloning → Cloning
cloning_of k = record { from = k.from.0; to = k.to.0; stored = reduces_are k.stored }

abbrev pub next_of : Option held.Cloning → math.Option Cloning
next_of (Some k) = math.some (cloning_of k)
next_of None = math.none

-- what comes of a row, or why it is refused
abbrev pub Took : Type 0
Took = Result row.Taken why-of.Fault

abbrev pub taken_of : Took → List ℕ → List ℕ → Res Fault Taken
taken_of (Ok u) ns es = ok (record { grown = grown_of u.counts ns es; next = next_of u.next })
taken_of (Err f) ns es = no (fault_of f)

-- the clone that may begin goes to a node that there is
abbrev pub NextIn : ℕ → Option held.Cloning → Type 0
NextIn n (Some k) = k.to.0 < n
NextIn n None = Unit {0}

-- what stands after it
abbrev pub StillTaken : lent.Room → Took → List ℕ → List ℕ → Type 0
StillTaken z (Ok u) ns es = Stands z u.counts ns es × NextIn u.counts.nodes u.next
StillTaken z (Err f) ns es = Unit {0}

pub record Takes (z : lent.Room) (x : Res Fault Taken) (u : Took) (ns es : List ℕ) : Type 0 where
  pub answer : taken_of u ns es ≡ x
  pub stands : StillTaken z u ns es

abbrev pub TakesKeeping : Counts → List ℕ → Took → List ℕ → Type 0
TakesKeeping c es (Ok u) es' = Kept c es u.counts es'
TakesKeeping c es (Err f) es' = Unit {0}

-- ---- frames

-- a frame as an edge: how many rows stood for its kind, and how many of the node's are taken up for its symbol
abbrev pub frame_is : held-frame.Frame → Edge
frame_is f = record { from = f.clone.from.0; kind = f.stood; sym = f.place; to = f.clone.to.0; reduces = reduces_are f.clone.stored }

-- what it says of these rows
abbrev pub begun_of : List (List ℕ) → Edge → Begun
begun_of rows f = record { rows = rest_from f.from f.kind f.sym rows; to = f.to; stored = f.reduces }

-- the first n frames, the last one first
unfoldable pub frames_in : ℕ → List ℕ → List Edge
frames_in zero fs = []
frames_in (suc n) fs = edge_of (row_at fs n) ∷ frames_in n fs

abbrev pub begun_in : List (List ℕ) → ℕ → List ℕ → List Begun
begun_in rows n fs = map (begun_of rows) (frames_in n fs)

-- it goes to a node that there is, and no more rows stood than there are
pub record FrameOk (c : Counts) (f : Edge) : Type 0 where
  pub to_in : f.to < c.nodes
  pub stood-in : f.kind ≤ c.edges
  pub few : length f.reduces ≤ most_reduces

-- the room of the tables and of a frame slice of n words, and the limit of the paper
abbrev pub bounds_of : lent.Room → ℕ → Bounds
bounds_of z n = record { room = room_of z; frames = n / row_width; rows = most_taken }

-- the clones in the frames are under way; t is the shadow's node
pub record Staged (z : lent.Room) (t : ℕ) (s : Stage) (ns es fs : List ℕ) : Type 0 where
  pub stands : Stands z s.counts ns es
  pub shadow-in : t < s.counts.nodes
  pub few : z.edges ≤ most_edges
  pub depth-in : s.depth ≤ length fs / row_width
  pub frames : All (FrameOk s.counts) (frames_in s.depth fs)

-- what comes of them
abbrev pub stage_of : Bounds → ℕ → Stage → List ℕ → List ℕ → List ℕ → Res Fault Grown
stage_of b t s ns es fs = clones b t s.left (begun_in (rows_from s.counts.edges es) s.depth fs) (grown_of s.counts ns es)

-- how far they are after a turn, or why it is refused
abbrev pub Turned : Type 0
Turned = Result Stage why-of.Fault

abbrev pub turned_of : Bounds → ℕ → Turned → List ℕ → List ℕ → List ℕ → Res Fault Grown
turned_of b t (Ok s) ns es fs = stage_of b t s ns es fs
turned_of b t (Err f) ns es fs = no (fault_of f)

-- a bound on the turns that are left
abbrev pub turns_left : Stage → ℕ
turns_left s = 2 * s.left + s.depth

abbrev pub StillStaged : lent.Room → ℕ → ℕ → Turned → List ℕ → List ℕ → List ℕ → Type 0
StillStaged z t k (Ok s) ns es fs = Staged z t s ns es fs × (turns_left s < k)
StillStaged z t k (Err f) ns es fs = Unit {0}

-- x, with fewer than k turns left
pub record Turns (z : lent.Room) (b : Bounds) (t k : ℕ) (x : Res Fault Grown) (r : Turned) (ns es fs : List ℕ) : Type 0 where
  pub answer : turned_of b t r ns es fs ≡ x
  pub staged : StillStaged z t k r ns es fs

-- a clone begins: a frame more, over the rows that stand
abbrev pub first_frame : Stage → held.Cloning → Edge
first_frame s k = record { from = k.from.0; kind = s.counts.edges; sym = 0; to = k.to.0; reduces = reduces_are k.stored }

abbrev pub Begins : Stage → held.Cloning → Turned → List ℕ → List ℕ → Type 0
Begins s e (Ok u) fs gs = (s.depth < length fs / row_width) × (u ≡ record { counts = s.counts; depth = s.depth + 1; left = s.left })
    × (gs ≡ written fs s.depth (first_frame s e))
Begins s e (Err f) fs gs = (length fs / row_width ≤ s.depth) × (f ≡ why.NoClone)

-- the clone that may begin does
abbrev pub BeginsNext : Stage → Option held.Cloning → Turned → List ℕ → List ℕ → Type 0
BeginsNext s (Some k) r fs gs = Begins s k r fs gs
BeginsNext s None r fs gs = (r ≡ Ok s) × (gs ≡ fs)

-- after a row: one less is left, and the clone that it leads to begins
abbrev pub taking : Stage → Counts → Stage
taking s c = record { counts = c; depth = s.depth; left = s.left - 1 }

abbrev pub AfterRow : Stage → row.Taken → Turned → List ℕ → List ℕ → Type 0
AfterRow s u r fs gs = BeginsNext (taking s u.counts) u.next r fs gs

-- ---- a path

abbrev pub pair_at : List ℕ → ℕ → Pair
pair_at ws i = record { kind = get_or ws i 0; sym = get_or ws (i + 1) 0 }

abbrev pub pair_is : held-pair.Pair → Pair
pair_is p = record { kind = p.kind; sym = p.symbol.0 }

-- the pair that stands first, and the words after it
abbrev pub FirstPair : List ℕ → Option (held-pair.Pair × Bor (List ℕ)) → Type 0
FirstPair ws (Some (p, after)) = (pairs_of ws ≡ pair_is p ∷ pairs_of after.now) × (good_pairs ws ≡ true → good_pairs after.now ≡ true) × (length after.now < length ws)
FirstPair ws None = pairs_of ws ≡ []

-- where the two lists part
abbrev pub Parted : Type 0
Parted = Option held-parting.Parting

abbrev pub parted_of : Parted → Res Fault Parting
parted_of (Some p) = ok (record { node = p.node.0; rest = pairs_of p.rest.now; shadow = pair_is p.shadow })
parted_of None = no bad_copy

abbrev pub PartedIn : Counts → Parted → Type 0
PartedIn c (Some p) = (p.node.0 < c.nodes) × (good_pairs p.rest.now ≡ true)
PartedIn c None = Unit {0}

-- a node that is led to
abbrev pub Reached : Type 0
Reached = Option NodeNo

abbrev pub reached_of : Reached → Res Fault ℕ
reached_of (Some n) = ok n.0
reached_of None = no bad_copy

abbrev pub ReachedIn : Counts → Reached → Type 0
ReachedIn c (Some n) = n.0 < c.nodes
ReachedIn c None = Unit {0}

abbrev pub places_of : places.Places → Places
places_of s = record { first = s.first.0; second = s.second.0; stored = reduces_are s.stored }

-- the two places further on, or why they are not
abbrev pub Moved : Type 0
Moved = Result places.Places why-of.Fault

abbrev pub along_of : Moved → Res Fault Places
along_of (Ok s) = ok (places_of s)
along_of (Err f) = no (fault_of f)

-- two places among so many nodes
pub record Placed (c : Counts) (s : places.Places) : Type 0 where
  pub first-in : s.first.0 < c.nodes
  pub second-in : s.second.0 < c.nodes

abbrev pub StillPlaced : Counts → Moved → Type 0
StillPlaced c (Ok s) = Placed c s
StillPlaced c (Err f) = Unit {0}

pub record Along (c : Counts) (x : Res Fault Places) (r : Moved) : Type 0 where
  pub answer : along_of r ≡ x
  pub placed : StillPlaced c r

-- ---- commands

abbrev pub command_is : coded.Command → Command
command_is command.Conversions = conversions
command_is (command.Path prefix shadow) = path (pairs_of prefix.now) (pairs_of shadow.now)

-- a path's words are pairs
abbrev pub CommandIn : coded.Command → Type 0
CommandIn command.Conversions = Unit {0}
CommandIn (command.Path prefix shadow) = (good_pairs prefix.now ≡ true) × (good_pairs shadow.now ≡ true)

-- the command that stands first, and the words after it
abbrev pub Commands : List ℕ → Option (coded.Command × Bor (List ℕ)) → Type 0
Commands ws (Some (k, rest)) = CommandIn k × (command_is k ≡ command_of ws) × (rest.now ≡ drop (command_size ws) ws)
Commands ws None = bad ≡ command_of ws

-- the commands are handled, and whether the conversions were asked for is known if nothing is refused
abbrev pub Handled : Type 0
Handled = Result (Counts × Bool) why-of.Fault

abbrev pub counts_in : Handled → Grew
counts_in (Ok (c, b)) = Ok c
counts_in (Err f) = Err f

abbrev pub AskedFor : List Command → Handled → Type 0
AskedFor cs (Ok (c, b)) = b ≡ asked cs
AskedFor cs (Err f) = Unit {0}

pub record Handles (z : lent.Room) (cs : List Command) (x : Res Fault Grown) (h : Handled) (ns es : List ℕ) : Type 0 where
  pub meets : Meets z x (counts_in h) ns es
  pub asked-for : AskedFor cs h
