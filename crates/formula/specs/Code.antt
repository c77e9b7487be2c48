-- What the code's own types stand for, in the terms of the definitions.
use Rattle.std.specs.Prelude.{ℕ, ◌+◌, ◌*◌, ◌/◌, ◌%◌, ◌≤◌, ◌<◌, ◌≡◌, Bool, true, List, [], ◌∷◌, map, reverse, length, take, drop, Result, Ok, Err}
use Rattle.words.specs.Outcome.{Res, ok, no}
use Rattle.words.specs.Numbers.{Why, misfit, no_entry}
use Rattle.rules.specs.Rules.{Item, con, slot, rule_of, the_rules}
use Rattle.rules.specs.Code.{a_rule}
use Rattle.rules.specs.Every.{All}
use Rattle.formula.specs.Reducing.{Trees, flat}
use Rattle.formula.specs.Turns.{still, facing}
use Rattle.formula.specs.declared.Trees as held
use Rattle.formula.specs.declared.Seek.{Seek}
use Rattle.formula.specs.declared.Unfit.{Unfit}
use Rattle.formula.specs.declared.Unfit.TheVariants.{TooFew, Full}
use Rattle.std.specs.declared.ops.ControlFlow.{ControlFlow}
use Rattle.std.specs.declared.ops.ControlFlow.TheVariants.{Continue, Break}

-- a tree's size is one word
abbrev pub most_room : ℕ
most_room = 4294967295

-- words cut into pieces of these sizes
unfoldable pub pieces : List ℕ → List ℕ → List (List ℕ)
pieces [] ws = []
pieces (n ∷ ns) ws = take n ws ∷ pieces ns (drop n ws)

-- the trees that stand in a list slice, with their sizes in a work slice, the bottom tree's first
unfoldable pub trees_of : held.Trees → List ℕ → List ℕ → Trees
trees_of s ls ws = reverse (pieces (take s.count ws) (take s.len ls))

-- they are whole, and both slices have this room
pub record Inside (room : ℕ) (s : held.Trees) (ls ws : List ℕ) : Type 0 where
  pub list : flat (trees_of s ls ws) ≡ take s.len ls
  pub sizes : reverse (map length (trees_of s ls ws)) ≡ take s.count ws
  pub few : s.count ≤ s.len
  pub fits : s.len ≤ room
  pub lent : (room ≤ length ls) × (room ≤ length ws)
  pub words : room ≤ most_room

-- the trees are these, and in order
pub record Stands (room : ℕ) (s : held.Trees) (ls ws : List ℕ) (ts : Trees) : Type 0 where
  pub are : trees_of s ls ws ≡ ts
  pub inside : Inside room s ls ws

-- too few trees are 4, a full list 7
abbrev pub unfit : Unfit → Why
unfit TooFew = misfit
unfit Full = no_entry

-- what the answer of a reduce says
abbrev pub outcome_of : Result held.Trees Unfit → List ℕ → List ℕ → Res Why Trees
outcome_of (Ok s) ls ws = ok (trees_of s ls ws)
outcome_of (Err y) ls ws = no (unfit y)

abbrev pub StillInside : ℕ → Result held.Trees Unfit → List ℕ → List ℕ → Type 0
StillInside room (Ok s) ls ws = Inside room s ls ws
StillInside room (Err y) ls ws = Unit {0}

-- it is this outcome, and trees that it leaves are in order
pub record Gives (room : ℕ) (r : Result held.Trees Unfit) (ls ws : List ℕ) (o : Res Why Trees) : Type 0 where
  pub outcome : outcome_of r ls ws ≡ o
  pub inside : StillInside room r ls ws

-- ---- the check

-- more than a body has items
abbrev pub places : ℕ
places = 64

-- a word of the work slice says where a rule starts and how many of its items are still to be met
unfoldable pub unread : List ℕ → ℕ → List Item
unread rs w = take (w % places) (rule_of (drop (w / places) rs)).body

pub record Pending (rs : List ℕ) (w : ℕ) : Type 0 where
  pub good : a_rule (drop (w / places) rs) ≡ true
  pub left : w % places ≤ length (rule_of (drop (w / places) rs)).body

-- what the bodies on the stack, the entries and the tokens left are to come to; and with an item more
abbrev pub still_of : List ℕ → List ℕ → List ℕ → Seek → List ℕ → Bool
still_of rs ts l s ws = still (the_rules rs) (unread rs) l ts s.entry (take s.depth ws) s.token

abbrev pub facing_of : List ℕ → List ℕ → List ℕ → Item → Seek → List ℕ → Bool
facing_of rs ts l i s ws = facing (the_rules rs) (unread rs) l ts i s.entry (take s.depth ws) s.token

-- each body on the stack has an entry that is gone
pub record Stacked (rs l : List ℕ) (s : Seek) (ws : List ℕ) : Type 0 where
  pub bodies : All (Pending rs) (take s.depth ws)
  pub entries : s.depth + s.entry ≤ length l
  pub room : length l ≤ length ws

-- a turn: the test goes on, or has an answer
abbrev pub Turn : Type 0
Turn = ControlFlow Bool Seek

-- what a turn lowers
abbrev pub weight : Seek → ℕ
weight s = s.token + 2 * s.entry + s.depth

abbrev pub answer_of : List ℕ → List ℕ → List ℕ → Turn → List ℕ → Bool
answer_of rs ts l (Continue s) ws = still_of rs ts l s ws
answer_of rs ts l (Break b) ws = b

abbrev pub Lower : List ℕ → List ℕ → Seek → Turn → List ℕ → Type 0
Lower rs l s (Continue q) ws = Stacked rs l q ws × (weight q < weight s) × (q.token ≤ s.token)
Lower rs l s (Break b) ws = Unit {0}

-- a turn from s says b, now or in the end
pub record Turned (rs ts l : List ℕ) (s : Seek) (b : Bool) (r : Turn) (ws : List ℕ) : Type 0 where
  pub answer : answer_of rs ts l r ws ≡ b
  pub lower : Lower rs l s r ws

-- a slot of typecode t is faced, whatever the tokens are
abbrev pub Fills : List ℕ → List ℕ → ℕ → Seek → List ℕ → Turn → List ℕ → Type 0
Fills rs l t s ws r ws' = (ts : List ℕ) → Turned rs ts l s (facing_of rs ts l (slot t) s ws) r ws'

-- a constant c is faced, whatever the rules, the list and the bodies are
abbrev pub Meets : List ℕ → ℕ → Seek → Turn → Type 0
Meets ts c s r = (rs l ws : List ℕ) → Stacked rs l s ws → Turned rs ts l s (facing_of rs ts l (con c) s ws) r ws

-- a word that stands for the whole body of the rule at word i
pub record Whole (rs : List ℕ) (i w : ℕ) : Type 0 where
  pub start : w / places ≡ i
  pub all : w % places ≡ length (rule_of (drop i rs)).body
