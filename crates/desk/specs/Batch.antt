-- `parse_many`: many statements under one set of tables, each answered as `parse` answers it.
use Rattle.std.specs.Prelude.{Bool, true, false, not, List, [], ◌∷◌, ◌++◌, ℕ, zero, suc, ◌+◌, ◌*◌, ◌-◌, eqb, ltb, length}
use Rattle.words.specs.Lent.{zeros, padded}
use Rattle.words.specs.Numbers.{accepted, no_room, wrong_size}
use Rattle.words.specs.Outcome.{Res, ok, no, pick, Demand, demand, first_fault}
use Rattle.words.specs.Counted.{lists_of, the_lists, counting}
use Rattle.rules.specs.Rules.{the_rules}
use Rattle.walk.specs.Walk.{Walked}
use Rattle.desk.specs.Entry.{ground_demands, walk_room, walk_of, entering}
use Rattle.desk.specs.Entry as single

-- what is handed in, but for the allowance and the slices lent; the statements are counted words
pub record Asked : Type 0 where
  pub provable : ℕ
  pub logic : ℕ
  pub rules : List ℕ
  pub nodes : List ℕ
  pub edges : List ℕ
  pub statements : List ℕ

-- the lengths of the slices lent: the three of `parse`, one for the answers, one for an index
pub record Lent : Type 0 where
  pub slices : single.Lent
  pub answers : ℕ
  pub index : ℕ

-- ---- one statement after another

-- what `parse` is asked of one statement
abbrev pub one : Asked → List ℕ → single.Asked
one q tokens =
    record { provable = q.provable; logic = q.logic; rules = q.rules; nodes = q.nodes; edges = q.edges; tokens = tokens }

-- and what it is lent: of the list slice the part that is still free
abbrev pub left : single.Lent → ℕ → single.Lent
left s used = record { frames = s.frames; list = s.list - used; work = s.work }

-- its walk, or the refusal before it
abbrev pub walk_one : Asked → ℕ → single.Lent → ℕ → List ℕ → Walked
walk_one q allowance s used tokens = walk_of (one q tokens) allowance (walk_room (left s used))

-- of all of them, with so many list words used before
unfoldable pub walks_from : Asked → ℕ → single.Lent → ℕ → List (List ℕ) → List Walked
walks_from q allowance s used [] = []
walks_from q allowance s used (t ∷ ts) =
    walk_one q allowance s used t ∷ walks_from q allowance s (used + length (walk_one q allowance s used t).list) ts

-- ---- what stands in the slices

-- the words of an answer: number, place, length of the list, passes
abbrev pub answer_width : ℕ
answer_width = 4

unfoldable pub answer_words : List Walked → List ℕ
answer_words [] = []
answer_words (w ∷ ws) = w.number ∷ w.place ∷ length w.list ∷ w.passes ∷ answer_words ws

-- the lists, one after another
unfoldable pub list_words : List Walked → List ℕ
list_words [] = []
list_words (w ∷ ws) = w.list ++ list_words ws

-- ---- everything that comes back

pub record Batch : Type 0 where
  pub number : ℕ
  pub place : ℕ
  pub statements : ℕ
  pub words : ℕ
  pub frame-words : List ℕ
  pub list-words : List ℕ
  pub work-words : List ℕ
  pub answer-words : List ℕ
  pub index-words : List ℕ

-- the lists and the answers, zeros after them, and zeros in the other slices
unfoldable pub batched : ℕ → ℕ → Lent → List Walked → Batch
batched number place s ws = record {
  number = number;
  place = place;
  statements = length ws;
  words = length (list_words ws);
  frame-words = zeros s.slices.frames;
  list-words = padded (list_words ws) s.slices.list;
  work-words = zeros s.slices.work;
  answer-words = padded (answer_words ws) s.answers;
  index-words = zeros s.index;
}

abbrev pub whole : Res ℕ (List (List ℕ)) → Bool
whole (ok ls) = true
whole (no i) = false

-- the number of the statement that is not whole
abbrev pub cut_at : Res ℕ (List (List ℕ)) → ℕ
cut_at (ok ls) = 0
cut_at (no i) = i

-- where each rule and where each node's rows start, and one word more
abbrev pub index_size : Asked → ℕ
index_size q = length (the_rules q.rules) + length q.nodes + 1

-- in this order, then the statements
abbrev pub batch_demands : Asked → Lent → List Demand
batch_demands q s = ground_demands q.provable q.logic q.rules q.nodes q.edges
    ++ demand (whole (lists_of q.statements)) wrong_size
    ∷ demand (not (ltb s.answers (answer_width * length (the_lists q.statements)))) no_room
    ∷ demand (not (ltb s.index (index_size q))) no_room
    ∷ []

-- refused: the place is that of the statement which is not whole, for that refusal alone, and all is zero
unfoldable pub batch_after : Asked → ℕ → Lent → ℕ → Batch
batch_after q allowance s zero = batched accepted 0 s (walks_from q allowance s.slices 0 (the_lists q.statements))
batch_after q allowance s (suc k) = batched (suc k) (pick (eqb (suc k) wrong_size) (cut_at (lists_of q.statements)) 0) s []

unfoldable pub batch_gives : Asked → ℕ → Lent → Batch
batch_gives q allowance s = batch_after q allowance s (first_fault (batch_demands q s))

unfoldable pub batching : Unit {0}
unfolding entering counting walks_from answer_words list_words batched batch_after batch_gives
batching = tt
