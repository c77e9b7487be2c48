-- What the code's own types and buffers stand for, in the terms of the definitions.
use Rattle.std.specs.Prelude.{ℕ, zero, suc, ◌-◌, ◌≤◌, ◌≡◌, Bool, ◌&&◌, List, [], ◌∷◌, Result, Ok, Err, Option as Held, Some, None}
use Rattle.std.proofs.Math.Option.{Option, none, some}
use lib.ListN.{length, get_or, take, drop}
use Rattle.words.specs.Limits.{most_tokens}
use Rattle.words.specs.Outcome.{Res, ok, no}
use Rattle.words.specs.Numbers as reasons
use Rattle.rules.specs.Rules.{Rule, the_rules, rule_at, source}
use Rattle.rows.specs.Rows.{Edge, edges_of, find}
use Rattle.formula.specs.declared.Trees as held
use Rattle.formula.specs.Code as formula
use Rattle.walk.specs.Walk.{Tables, tables_of, Room, State, Turn, on, end, Choice, comes_from, wanted, conversion, follow, step_by, root_step, finish, converted, convert_by, unwanted, complete, leaf, token, branch, pass, Walked}
use Rattle.walk.specs.declared.At.{At}
use Rattle.walk.specs.declared.Wish.{Wish}
use Rattle.walk.specs.declared.Wish.TheVariants.{Goal, Frame}
use Rattle.walk.specs.declared.Stand.{Stand}
use Rattle.words.specs.declared.RuleNo.{RuleNo}
use Rattle.walk.specs.declared.refusal.Why.{Why}
use Rattle.walk.specs.declared.Step.{Step}
use Rattle.walk.specs.declared.Step.TheVariants.{On, End}
use Rattle.walk.specs.declared.Walked as answer
use Rattle.walk.specs.declared.Halted.{Halted}
use Rattle.words.specs.Code.{code}
use Rattle.walk.specs.declared.Choice as chosen
use Rattle.walk.specs.Refused.{why_of}

-- the tables that the words say
abbrev pub tables : List ℕ → List ℕ → List ℕ → Tables
tables rs ns es = tables_of (the_rules rs) ns (edges_of es)

-- the first n words, the last one first
unfoldable pub stack : ℕ → List ℕ → List ℕ
stack zero ws = []
stack (suc n) ws = get_or ws n 0 ∷ stack n ws

-- ---- a state and a turn

-- over the tokens ts, the frame slice fs, the list ls and the work slice ws
abbrev pub state_of : At → List ℕ → List ℕ → List ℕ → List ℕ → State
state_of s ts fs ls ws = record {
  node = s.node.0;
  frames = stack s.frames fs;
  trees = formula.trees_of s.trees ls ws;
  rest = drop s.token ts;
  at = s.token;
  last = s.last;
}

abbrev pub turn_of : Result Step Why → List ℕ → List ℕ → List ℕ → List ℕ → Res reasons.Why Turn
turn_of (Ok (On s)) ts fs ls ws = ok (on (state_of s ts fs ls ws))
turn_of (Ok (End n)) ts fs ls ws = ok (end (take n ls))
turn_of (Err y) ts fs ls ws = no (why_of y)

-- ---- what lies within the buffers

-- the typecode is taken, and what is in use of tokens and frames is there
pub record Placed (s : At) (ts fs : List ℕ) : Type 0 where
  pub begun : 1 ≤ s.token
  pub token : s.token ≤ length ts
  pub frames : s.frames ≤ length fs

-- a state that goes on is placed, its trees in order; a list that ends the walk is in the slice, and its length is one word
abbrev pub Whole : ℕ → Result Step Why → List ℕ → List ℕ → List ℕ → List ℕ → Type 0
Whole room (Ok (On s)) ts fs ls ws = Placed s ts fs × formula.Inside room s.trees ls ws
Whole room (Ok (End n)) ts fs ls ws = (n ≤ length ls) × (n ≤ formula.most_room)
Whole room (Err y) ts fs ls ws = Unit {0}

-- the answer r is the turn o of the definition
pub record Gives (room : ℕ) (r : Result Step Why) (ts fs ls ws : List ℕ) (o : Res reasons.Why Turn) : Type 0 where
  pub turned : turn_of r ts fs ls ws ≡ o
  pub whole : Whole room r ts fs ls ws

-- ---- what a pass goes by

-- what is wanted with this goal and these frames
abbrev pub wish_of : ℕ → List ℕ → Wish
wish_of goal [] = Goal (record { 0 = goal })
wish_of goal (f ∷ fs) = Frame (record { 0 = f })

-- wanted without frames
abbrev pub Bare : Wish → Type 0
Bare (Goal g) = Unit {0}
Bare (Frame f) = ⊥

-- where a frame wants it there is one
abbrev pub Framed : Wish → ℕ → Type 0
Framed (Goal g) n = Unit {0}
Framed (Frame f) n = 1 ≤ n

-- over the tokens ts and the frame slice fs it stands where it says, and wants what is wanted there
pub record Stood (p : Stand) (ts fs : List ℕ) : Type 0 where
  pub placed : Placed p.at ts fs
  pub wish : p.wish ≡ wish_of p.goal.0 (stack p.at.frames fs)

-- what every pass starts from, but for its frames
pub record Ready (ts : List ℕ) (p : Stand) (ls ws : List ℕ) : Type 0 where
  pub short : length ts ≤ most_tokens
  pub begun : 1 ≤ p.at.token
  pub token : p.at.token ≤ length ts
  pub framed : Framed p.wish p.at.frames
  pub inside : formula.Inside p.room p.at.trees ls ws

-- a state that stands elsewhere
abbrev pub stand_at : Stand → At → Stand
stand_at p s = record { goal = p.goal; wish = p.wish; room = p.room; at = s }

-- with these trees
abbrev pub with_trees : At → held.Trees → At
with_trees s us = record { node = s.node; frames = s.frames; trees = us; token = s.token; last = s.last }

-- at this node
abbrev pub at_node : At → ℕ → At
at_node s n = record { node = record { 0 = n }; frames = s.frames; trees = s.trees; token = s.token; last = s.last }

-- the top frame is popped
abbrev pub under : At → At
under s = record { node = s.node; frames = s.frames - 1; trees = s.trees; token = s.token; last = s.last }

abbrev pub room_of : ℕ → List ℕ → Room
room_of room fs = record { frames = length fs; list = room }

-- ---- conversions at the end, with what is wished; rules, nodes, statement and frames are whatever they are

-- t is wanted or not
abbrev pub Wants : List ℕ → Wish → ℕ → Bool → Type 0
Wants es w t b = (R : List Rule) (ns st : List ℕ) (goal : ℕ) (fs : List ℕ) → w ≡ wish_of goal fs → b ≡ wanted (tables_of R ns (edges_of es)) goal st fs t

-- q is a conversion from t to a wanted typecode or not
abbrev pub Converts : List ℕ → Wish → Rule → ℕ → Bool → Type 0
Converts es w q t b = (R : List Rule) (ns st : List ℕ) (goal : ℕ) (fs : List ℕ) → w ≡ wish_of goal fs
    → b ≡ comes_from (source q.body) t && wanted (tables_of R ns (edges_of es)) goal st fs q.result

abbrev pub choice_of : chosen.Choice → Choice
choice_of k = record { rule = k.rule.0; to = k.to.0 }

abbrev pub chosen_of : Held chosen.Choice → Option Choice
chosen_of (Some k) = some (choice_of k)
chosen_of None = none

-- the first conversion from t to a wanted typecode
abbrev pub Chooses : List ℕ → Wish → List Rule → ℕ → Held chosen.Choice → Type 0
Chooses es w qs t r = (R : List Rule) (ns st : List ℕ) (goal : ℕ) (fs : List ℕ) → w ≡ wish_of goal fs
    → chosen_of r ≡ conversion (tables_of R ns (edges_of es)) goal st qs 1 fs t

-- ---- the parts of a pass. What a part does not read is whatever it is; ls and ws are the list and work slices before, ls' and ws' after

-- the edge e is followed from s
abbrev pub Follows : List ℕ → ℕ → Edge → At → List ℕ → List ℕ → Result Step Why → List ℕ → List ℕ → Type 0
Follows rs room e s ls ws r ls' ws' = (ns es st ts fs : List ℕ) (goal : ℕ) → Placed s ts fs → Gives room r ts fs ls' ws'
    (follow (tables rs ns es) goal st (room_of room fs) (stack s.frames fs) (state_of s ts fs ls ws) e (formula.trees_of s.trees ls ws))

-- the variable edge of node n for t is followed from s
abbrev pub Steps : List ℕ → List ℕ → ℕ → ℕ → ℕ → At → List ℕ → List ℕ → Result Step Why → List ℕ → List ℕ → Type 0
Steps rs es room n t s ls ws r ls' ws' = (ns st ts fs : List ℕ) (goal : ℕ) → Placed s ts fs → Gives room r ts fs ls' ws'
    (step_by (tables rs ns es) goal st (room_of room fs) (stack s.frames fs) (state_of s ts fs ls ws) (formula.trees_of s.trees ls ws) (find (edges_of es) n 1 t))

-- the root step for t
abbrev pub Roots : List ℕ → List ℕ → ℕ → ℕ → At → List ℕ → List ℕ → Result Step Why → List ℕ → List ℕ → Type 0
Roots rs es room t s ls ws r ls' ws' = (ns st ts fs : List ℕ) (goal : ℕ) → Placed s ts fs → Gives room r ts fs ls' ws'
    (root_step (tables rs ns es) goal st (room_of room fs) (state_of s ts fs ls ws) t (formula.trees_of s.trees ls ws))

-- the trees lie within slices of some room
abbrev pub Lies : held.Trees → List ℕ → List ℕ → Type 0
Lies us ls ws = (room : ℕ) × formula.Inside room us ls ws

-- the trees finish the walk of the tokens ts
abbrev pub Finishes : List ℕ → ℕ → List ℕ → held.Trees → List ℕ → List ℕ → Result Step Why → List ℕ → Type 0
Finishes rs goal ts us ls ws r ws' = (ns es fs : List ℕ) (room : ℕ) → Gives room r ts fs ls ws'
    (finish (tables rs ns es) goal (drop 1 ts) (formula.trees_of us ls ws))

-- no constant edge: the node becomes a frame; x is the token at hand
abbrev pub Opens : List ℕ → At → List ℕ → Result Step Why → List ℕ → Type 0
Opens es s fs r fs' = (R : List Rule) (ns st ts ls ws : List ℕ) (goal room x : ℕ) (xs : List ℕ) → drop s.token ts ≡ x ∷ xs → Placed s ts fs
    → formula.Inside room s.trees ls ws
    → Gives room r ts fs' ls ws (token (tables_of R ns (edges_of es)) goal st (room_of room fs) (state_of s ts fs ls ws) x xs none)

-- a pass at a branch
abbrev pub Branches : List ℕ → List ℕ → List ℕ → ℕ → At → List ℕ → List ℕ → List ℕ → Result Step Why → List ℕ → List ℕ → List ℕ → Type 0
Branches rs es ts room s fs ls ws r fs' ls' ws' = (ns st : List ℕ) (goal : ℕ)
    → Gives room r ts fs' ls' ws' (branch (tables rs ns es) goal st (room_of room fs) (state_of s ts fs ls ws) (drop s.token ts))

-- ---- a pass at a leaf, over whatever nodes and frames

module _ (rs es ts : List ℕ) (p : Stand) (ls ws : List ℕ) (r : Result Step Why) (ls' ws' : List ℕ) where
  -- a conversion to t is reduced
  abbrev pub Converted : ℕ → Type 0
  Converted t = (ns fs : List ℕ) → Stood p ts fs → Gives p.room r ts fs ls' ws'
      (converted (tables rs ns es) p.goal.0 (drop 1 ts) (room_of p.room fs) (state_of p.at ts fs ls ws) t (stack p.at.frames fs) (formula.trees_of p.at.trees ls ws))

  -- the conversion k is chosen
  abbrev pub Closes : Choice → Type 0
  Closes k = (ns fs : List ℕ) → Stood p ts fs → Gives p.room r ts fs ls' ws'
      (convert_by (tables rs ns es) p.goal.0 (drop 1 ts) (room_of p.room fs) (state_of p.at ts fs ls ws) k.to (formula.trees_of p.at.trees ls ws) (some k))

  -- a tree of typecode t is complete and not wanted
  abbrev pub Unwanted : ℕ → Type 0
  Unwanted t = (ns fs : List ℕ) → Stood p ts fs → Gives p.room r ts fs ls' ws'
      (unwanted (tables rs ns es) p.goal.0 (drop 1 ts) (room_of p.room fs) (state_of p.at ts fs ls ws) t (formula.trees_of p.at.trees ls ws) (drop p.at.token ts))

  -- a tree of typecode t is complete
  abbrev pub Completes : ℕ → Type 0
  Completes t = (ns fs : List ℕ) → Stood p ts fs → Gives p.room r ts fs ls' ws'
      (complete (tables rs ns es) p.goal.0 (drop 1 ts) (room_of p.room fs) (state_of p.at ts fs ls ws) t (stack p.at.frames fs) (formula.trees_of p.at.trees ls ws))

  -- the leaf's rule is c
  abbrev pub Leaves : ℕ → Type 0
  Leaves c = (ns fs : List ℕ) → Stood p ts fs → Gives p.room r ts fs ls' ws'
      (leaf (tables rs ns es) p.goal.0 (drop 1 ts) (room_of p.room fs) (state_of p.at ts fs ls ws) c (rule_at (the_rules rs) c))

-- ---- passes

-- a node's word: 0 for a branch, else the leaf's rule
abbrev pub node_is : ℕ → Held RuleNo
node_is zero = None
node_is (suc c) = Some (record { 0 = suc c })

-- one pass
abbrev pub Passes : List ℕ → List ℕ → List ℕ → ℕ → List ℕ → ℕ → At → List ℕ → List ℕ → List ℕ → Result Step Why → List ℕ → List ℕ → List ℕ → Type 0
Passes rs ns es goal ts room s fs ls ws r fs' ls' ws' =
    Gives room r ts fs' ls' ws' (pass (tables rs ns es) goal (drop 1 ts) (room_of room fs) (state_of s ts fs ls ws))

-- where a walk starts
abbrev pub start_at : At
start_at = record { node = record { 0 = 0 }; frames = 0; trees = record { count = 0; len = 0 }; token = 1; last = 0 }

-- slices of these lengths have the room
pub record Lent (room l w : ℕ) : Type 0 where
  pub list : room ≤ l
  pub work : room ≤ w
  pub words : room ≤ formula.most_room

-- what is given back, as numbers
pub record Answer : Type 0 where
  pub number : ℕ
  pub place : ℕ
  pub length : ℕ
  pub passes : ℕ

abbrev pub answer_of : Result answer.Walked Halted → Answer
answer_of (Ok w) = record { number = reasons.accepted; place = 0; length = w.length; passes = w.passes }
answer_of (Err h) = record { number = code h.why; place = h.place; length = 0; passes = h.passes }

-- with the list in its slice
abbrev pub walked_of : Answer → List ℕ → Walked
walked_of w ls = record { number = w.number; place = w.place; list = take w.length ls; passes = w.passes }

-- the answer is o, its list in the slice
pub record Answers (w : Answer) (ls : List ℕ) (o : Walked) : Type 0 where
  pub walked : walked_of w ls ≡ o
  pub length : w.length ≡ lib.ListN.length o.list
  pub within : w.length ≤ lib.ListN.length ls
