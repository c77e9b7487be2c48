-- What the code that moves the tail once holds and answers, in the terms of `Tail`.
use Rattle.std.specs.Prelude.{ℕ, suc, ◌+◌, ◌-◌, ◌≤◌, ◌≡◌, List, [], ◌∷◌, leb, map, length, take, Result, Ok, Err}
use Rattle.words.specs.Outcome.{Res, ok, no, pick}
use Rattle.words.specs.Numbers.{Why}
use Rattle.formula.specs.Tail.{total, Measured, joined, Entry, Plan}
use Rattle.formula.specs.Code.{most_room, unfit}
use Rattle.formula.specs.declared.Trees as held
use Rattle.formula.specs.declared.Unfit.{Unfit}
use Rattle.formula.specs.declared.sizes.Fit.{Fit}
use Rattle.formula.specs.declared.tail.Entry as coded

-- ---- sizes

-- the first `count` words of a work slice are sizes that come to `len`, within the room
pub record Sized (room : ℕ) (s : held.Trees) (ws : List ℕ) : Type 0 where
  pub sum : total (take s.count ws) ≡ s.len
  pub few : s.count ≤ s.len
  pub fits : s.len ≤ room
  pub lent : room ≤ length ws
  pub words : room ≤ most_room

-- the k trees under the top o are one: p words of the list are below
abbrev pub Joins : held.Trees → ℕ → ℕ → List ℕ → ℕ → List ℕ → Type 0
Joins s k o ws p ws' = record { place = p; sizes = take (s.count + 1 - k) ws' } ≡ joined (s.count - (o + k)) k (take s.count ws)

-- what the answer for a reduce says
abbrev pub measured_of : Result Fit Unfit → List ℕ → Res Why Measured
measured_of (Ok f) ws = ok (record { place = f.place; sizes = take f.trees.count ws })
measured_of (Err y) ws = no (unfit y)

-- the sizes of trees that it leaves are in order, and the list is one entry longer
abbrev pub StillSized : ℕ → held.Trees → Result Fit Unfit → List ℕ → Type 0
StillSized room s (Ok f) ws = Sized room f.trees ws × (f.trees.len ≡ s.len + 1) × (f.place ≤ s.len)
StillSized room s (Err y) ws = Unit {0}

pub record Measures (room : ℕ) (s : held.Trees) (r : Result Fit Unfit) (ws : List ℕ) (o : Res Why Measured) : Type 0 where
  pub outcome : measured_of r ws ≡ o
  pub sized : StillSized room s r ws

-- ---- entries

abbrev pub entry_is : coded.Entry → Entry
entry_is e = record { place = e.place; rule = e.rule.0 }

abbrev pub entries_of : List coded.Entry → List Entry
entries_of es = map entry_is es

-- the first n that a slice holds
abbrev pub entries_in : ℕ → List coded.Entry → List Entry
entries_in n es = entries_of (take n es)

-- how many of these entries are before p, each that is counts for one word more
unfoldable pub rank : ℕ → List Entry → ℕ
rank p [] = 0
rank p (e ∷ es) = pick (leb p e.place) 0 (suc (rank (p - 1) es))

-- ---- all reduces of an edge

-- what the answer for k reduces says
abbrev pub plan_of : ℕ → Result held.Trees Unfit → List ℕ → List coded.Entry → Res Why Plan
plan_of k (Ok s) ws es = ok (record { sizes = take s.count ws; entries = entries_in k es })
plan_of k (Err y) ws es = no (unfit y)

abbrev pub SizedAfter : ℕ → Result held.Trees Unfit → List ℕ → Type 0
SizedAfter room (Ok s) ws = Sized room s ws
SizedAfter room (Err y) ws = Unit {0}

pub record Plans (room k : ℕ) (r : Result held.Trees Unfit) (ws : List ℕ) (es : List coded.Entry) (o : Res Why Plan) : Type 0 where
  pub outcome : plan_of k r ws es ≡ o
  pub sized : SizedAfter room r ws
