-- What the answers and the slices of the entry points stand for: everything that a call gives back, as one value.
use Rattle.std.specs.Prelude.{Result, Ok, Err, List, [], ◌∷◌, ◌++◌, ◌≡◌, ℕ, ◌*◌, ◌≤◌, length, take}
use Rattle.walk.specs.Walk.{Walked}
use Rattle.words.specs.Limits.{row_width}
use Rattle.words.specs.Lent.{zeros, cleared_from}
use Rattle.walk.specs.Code as walks
use Rattle.words.specs.Code.{code}
use Rattle.walk.specs.declared.Walked as answer
use Rattle.walk.specs.declared.Halted.{Halted}
use Rattle.words.specs.declared.Refusal.{Refusal}
use Rattle.words.specs.declared.Refused.{Refused}
use Rattle.desk.specs.Entry.{Built, Asked, Lent, Parsed, Verified}
use Rattle.desk.specs.Batch.{Batch, answer_width, answer_words, list_words}
use Rattle.desk.specs.Batch as many
use Rattle.rules.specs.declared.Codes.{Codes}
use Rattle.desk.specs.declared.Answer.{Answer}
use Rattle.desk.specs.declared.Made.{Made}
use Rattle.desk.specs.declared.ground.Ground.{Ground}
use Rattle.desk.specs.declared.Batch as declared

abbrev pub verified_is : Answer → List ℕ → Verified
verified_is a work = record { number = a.number; place = a.place; length = a.length; passes = a.passes; work-words = work }

abbrev pub built_is : Made → List ℕ → List ℕ → List ℕ → Built
built_is a nodes edges frames =
    record { number = a.number; nodes = a.nodes; edges = a.edges; node-words = nodes; edge-words = edges; frame-words = frames }

abbrev pub parsed_is : Answer → List ℕ → List ℕ → List ℕ → Parsed
parsed_is a frames list work = record {
  number = a.number;
  place = a.place;
  length = a.length;
  passes = a.passes;
  frame-words = frames;
  list-words = list;
  work-words = work;
}

-- what comes of a call, as it is answered
abbrev pub answer_of : Result answer.Walked Halted → Answer
answer_of r = let a = walks.answer_of r in record { number = a.number; place = a.place; length = a.length; passes = a.passes }

abbrev pub made_of : Result Made Refusal → Made
made_of (Ok m) = m
made_of (Err y) = record { number = code y; nodes = 0; edges = 0 }

abbrev pub batch_of : Result declared.Batch Refused → declared.Batch
batch_of (Ok b) = b
batch_of (Err y) = record { number = code y.why; place = y.place; statements = 0; words = 0 }

-- where nothing has a place
abbrev pub whole_refused : Result declared.Batch Refusal → Result declared.Batch Refused
whole_refused (Ok b) = Ok b
whole_refused (Err y) = Err (record { why = y; place = 0 })

-- a build before its slices are cleared: the number, the counts, and the words that stay; nothing stays in the frames, so many words
pub record Raised (b : Built) (m : Made) (nodes edges : List ℕ) (frames : ℕ) : Type 0 where
  pub number : m.number ≡ b.number
  pub node-count : m.nodes ≡ b.nodes
  pub edge_count : m.edges ≡ b.edges
  pub nodes-in : m.nodes ≤ length nodes
  pub edges-in : row_width * m.edges ≤ length edges
  pub node-words : cleared_from nodes m.nodes ≡ b.node-words
  pub edge-words : cleared_from edges (row_width * m.edges) ≡ b.edge-words
  pub frame-words : zeros frames ≡ b.frame-words

-- a parse before its slices are cleared: the answer, and a list that stands at the front of its slice
pub record Tried (w : Walked) (a : Answer) (list : List ℕ) : Type 0 where
  pub number : a.number ≡ w.number
  pub place : a.place ≡ w.place
  pub counted : a.length ≡ length w.list
  pub passes : a.passes ≡ w.passes
  pub within : a.length ≤ length list
  pub listed : take a.length list ≡ w.list

-- ---- many statements

-- the lists of these walks stand at the front of the list slice, `used` words of it, and their answers at the front of the answer slice
pub record Packed (ws : List Walked) (used : ℕ) (list answers : List ℕ) : Type 0 where
  pub counted : used ≡ length (list_words ws)
  pub within : used ≤ length list
  pub listed : take used list ≡ list_words ws
  pub room : answer_width * length ws ≤ length answers
  pub answered : take (answer_width * length ws) answers ≡ answer_words ws

-- where walks are packed in the two slices, w is packed after them
abbrev pub Following : Walked → ℕ → ℕ → List ℕ → List ℕ → ℕ → List ℕ → List ℕ → Type 0
Following w used i list answers used' list' answers' =
    (ws : List Walked) → Packed ws used list answers → i ≡ answer_width * length ws → Packed (ws ++ (w ∷ [])) used' list' answers'

abbrev pub batch_is : declared.Batch → List ℕ → List ℕ → List ℕ → List ℕ → List ℕ → Batch
batch_is b frames list work answers index = record {
  number = b.number;
  place = b.place;
  statements = b.statements;
  words = b.words;
  frame-words = frames;
  list-words = list;
  work-words = work;
  answer-words = answers;
  index-words = index;
}

-- a batch before its slices are cleared
pub record TriedMany (b : Batch) (m : declared.Batch) (list answers : List ℕ) : Type 0 where
  pub number : m.number ≡ b.number
  pub place : m.place ≡ b.place
  pub statements : m.statements ≡ b.statements
  pub words : m.words ≡ b.words
  pub list-in : m.words ≤ length list
  pub answers-in : answer_width * m.statements ≤ length answers
  pub list-words : cleared_from list m.words ≡ b.list-words
  pub answer-words : cleared_from answers (answer_width * m.statements) ≡ b.answer-words

abbrev pub asked_many : Codes → List ℕ → List ℕ → List ℕ → List ℕ → many.Asked
asked_many codes rules nodes edges statements =
    record { provable = codes.provable.0; logic = codes.logic.0; rules = rules; nodes = nodes; edges = edges; statements = statements }

-- ---- what is handed in, and the lengths of the slices lent

abbrev pub asked : Codes → List ℕ → List ℕ → List ℕ → List ℕ → Asked
asked codes rules nodes edges tokens =
    record { provable = codes.provable.0; logic = codes.logic.0; rules = rules; nodes = nodes; edges = edges; tokens = tokens }

abbrev pub lent : List ℕ → List ℕ → List ℕ → Lent
lent frames list work = record { frames = length frames; list = length list; work = length work }

abbrev pub lent_many : List ℕ → List ℕ → List ℕ → List ℕ → List ℕ → many.Lent
lent_many frames list work answers index = record { slices = lent frames list work; answers = length answers; index = length index }

-- the same over rules and tables that have passed
abbrev pub asked_over : Ground → List ℕ → Asked
asked_over g tokens = asked g.codes g.grammar.book.rules.now g.grammar.nodes.now g.grammar.edges.now tokens

abbrev pub asked_many_over : Ground → List ℕ → many.Asked
asked_many_over g statements = asked_many g.codes g.grammar.book.rules.now g.grammar.nodes.now g.grammar.edges.now statements

-- they are these
pub record Over (g : Ground) (c : Codes) (rs ns es : List ℕ) : Type 0 where
  pub codes : g.codes ≡ c
  pub rules : g.grammar.book.rules.now ≡ rs
  pub nodes : g.grammar.nodes.now ≡ ns
  pub edges : g.grammar.edges.now ≡ es
