-- What the code's own types and slices stand for, in the terms of the definitions.
use Rattle.std.specs.Prelude.{ℕ, suc, ◌+◌, ◌≤◌, ◌<◌, ◌^◌, ◌≡◌, ◌≢◌, List, ◌++◌, length, take, drop, Option, Some, None, Result, Ok, Err}
use Rattle.words.specs.Code.{code}
use Rattle.words.specs.Counted.{counted, the_lists}
use Rattle.words.specs.Lent.{cleared_from}
use Rattle.words.specs.Numbers.{accepted}
use Rattle.words.specs.Outcome.{Res, ok, no, Demand, first_fault}
use Rattle.words.specs.declared.Refusal as why
use Rattle.words.specs.declared.Refusal.TheVariants.{UnknownKind}
use Rattle.package.specs.Bytes.{words_of}
use Rattle.package.specs.Package.{Package, Refusal, typecodes, one_rule, statement, the_end, old_rule, record_size, kind_of, numbered, put_words, Read, Written}
use Rattle.package.specs.declared.kind.Kind.{Kind}
use Rattle.package.specs.declared.kind.Kind.TheVariants.{Typecodes, OneRule, Statement, TheEnd, OldRule}
use Rattle.package.specs.declared.reader.Record.{Record}
use Rattle.words.specs.declared.Refused.{Refused}
use Rattle.package.specs.declared.scan.Contents.{Contents}
use Rattle.package.specs.declared.Package as code-package
use Rattle.package.specs.declared.Written as code-written

-- ---- the kinds of records

abbrev pub kind_number : Kind → ℕ
kind_number Typecodes = typecodes
kind_number OneRule = one_rule
kind_number Statement = statement
kind_number TheEnd = the_end
kind_number OldRule = old_rule

abbrev pub kind_is : Kind → ℕ → Type 0
kind_is k n = n ≡ kind_number k

-- the kind that has this number, or that none has
abbrev pub KnownAs : ℕ → Result Kind why.Refusal → Type 0
KnownAs n (Ok k) = kind_number k ≡ n
KnownAs n (Err y) = (y ≡ UnknownKind) × ((k : Kind) → kind_number k ≢ n)

-- the number of the kind before, 0 if there is none
abbrev pub last_number : Option Kind → ℕ
last_number None = 0
last_number (Some k) = kind_number k

-- ---- the record at a place

-- the record that stands first, or the number of its fault
abbrev pub FoundIn : List Demand → List ℕ → Result Record why.Refusal → Type 0
FoundIn ds bs (Ok r) = (first_fault ds ≡ accepted) × (kind_number r.kind ≡ kind_of bs) × (r.size ≡ record_size bs)
FoundIn ds bs (Err y) = code y ≡ first_fault ds

-- ---- reading

-- words stand at the front of a slice, if it has room for them
abbrev pub Holds : List ℕ → List ℕ → Type 0
Holds s ws = length ws ≤ length s → take (length ws) s ≡ ws

-- words are put from `at` on, if there is room for them
abbrev pub Put : List ℕ → ℕ → List ℕ → List ℕ → Type 0
Put s at ws s' = at + length ws ≤ length s → take (at + length ws) s' ≡ take at s ++ ws

-- an old rule's item is put, its slot with the variable v: the next slot has w
pub record PutItem (s : List ℕ) (at : ℕ) (item : List ℕ) (v w : ℕ) (s' : List ℕ) : Type 0 where
  pub put : Put s at (numbered v (words_of item)) s'
  pub next : (ws : List ℕ) → numbered v (words_of item ++ ws) ≡ numbered v (words_of item) ++ numbered w ws
  pub few : w ≤ suc v

-- what was read so far, and the slices
pub record Stands (r : Contents) (p : Package) (rs ss : List ℕ) : Type 0 where
  pub provable : r.codes.provable.0 ≡ p.provable
  pub logic : r.codes.logic.0 ≡ p.logic
  pub rules : r.rules ≡ length p.rules
  pub statements : r.statements ≡ length p.statements
  pub words : r.words ≡ length (counted p.statements)
  pub rule-words : Holds rs p.rules
  pub statement-words : Holds ss (counted p.statements)

-- one more record's body, whatever was read before it
abbrev pub Takes : Contents → ℕ → List ℕ → Contents → List ℕ → List ℕ → List ℕ → List ℕ → Type 0
Takes p kind body r rs ss rs' ss' = (q : Package) → Stands p q rs ss → Stands r (put_words q kind (words_of body)) rs' ss'

-- counts that can grow by a body's words
pub record Small (p : Contents) : Type 0 where
  pub rules : p.rules < 2 ^ 62
  pub statements : p.statements < 2 ^ 62
  pub words : p.words < 2 ^ 62

-- a fault of the whole package
abbrev pub RefusedWhole : why.Refusal → Refused → Type 0
RefusedWhole y r = r ≡ record { why = y; place = 0 }

-- what all records say
abbrev pub Scanned : Res Refusal Package → Result Contents Refused → List ℕ → List ℕ → Type 0
Scanned (no y) (Err e) rs ss = (code e.why ≡ y.number) × (e.place ≡ y.place)
Scanned (ok p) (Ok r) rs ss = Stands r p rs ss
Scanned (no y) (Ok r) rs ss = ⊥
Scanned (ok p) (Err e) rs ss = ⊥

-- what a read answers: after a refusal all else is 0
abbrev pub answer : Result Contents Refused → code-package.Package
answer (Ok r) = record {
  number = accepted;
  place = 0;
  provable = r.codes.provable.0;
  logic = r.codes.logic.0;
  rules = r.rules;
  statements = r.statements;
  words = r.words;
}
answer (Err e) = record { number = code e.why; place = e.place; provable = 0; logic = 0; rules = 0; statements = 0; words = 0 }

abbrev pub answer_is : Result Contents Refused → code-package.Package → Type 0
answer_is r p = p ≡ answer r

-- everything that a read gives back, as one value
abbrev pub read_is : code-package.Package → List ℕ → List ℕ → Read
read_is r rs ss = record {
  number = r.number;
  place = r.place;
  provable = r.provable;
  logic = r.logic;
  rules = r.rules;
  statements = r.statements;
  words = r.words;
  rule-words = rs;
  statement-words = ss;
}

-- a read before its slices are cleared
pub record Settles (g : Read) (r : code-package.Package) (rs ss : List ℕ) : Type 0 where
  pub number : r.number ≡ g.number
  pub place : r.place ≡ g.place
  pub provable : r.provable ≡ g.provable
  pub logic : r.logic ≡ g.logic
  pub rules : r.rules ≡ g.rules
  pub statements : r.statements ≡ g.statements
  pub words : r.words ≡ g.words
  pub rules-in : r.rules ≤ length rs
  pub words-in : r.words ≤ length ss
  pub rule-words : cleared_from rs r.rules ≡ g.rule-words
  pub statement-words : cleared_from ss r.words ≡ g.statement-words

abbrev pub Settled : Read → Result Contents Refused → List ℕ → List ℕ → Type 0
Settled g r rs ss = Settles g (answer r) rs ss

-- ---- writing

-- a slice with other bytes from `at` on
abbrev pub pasted : List ℕ → ℕ → List ℕ → List ℕ
pasted s at bs = take at s ++ (bs ++ drop (at + length bs) s)

-- there is room for them
abbrev pub Room : List ℕ → ℕ → List ℕ → Type 0
Room s at bs = at + length bs ≤ length s

abbrev pub package_of : ℕ → ℕ → List ℕ → List ℕ → Package
package_of provable logic rules statements = record { provable = provable; logic = logic; rules = rules; statements = the_lists statements }

abbrev pub written_is : code-written.Written → List ℕ → Written
written_is w bs = record { number = w.number; place = w.place; length = w.length; bytes = bs }

-- what a write answers: after a refusal its length is 0
abbrev pub wrote : Result ℕ why.Refusal → code-written.Written
wrote (Ok n) = record { number = accepted; place = 0; length = n }
wrote (Err y) = record { number = code y; place = 0; length = 0 }

abbrev pub wrote_is : Result ℕ why.Refusal → code-written.Written → Type 0
wrote_is r w = w ≡ wrote r

-- a write before a byte is written
pub record Weighs (g : Written) (w : code-written.Written) : Type 0 where
  pub number : w.number ≡ g.number
  pub place : w.place ≡ g.place
  pub counted : w.length ≡ g.length

abbrev pub Weighed : Written → Result ℕ why.Refusal → Type 0
Weighed g r = Weighs g (wrote r)

-- a write before the bytes after it are cleared
pub record Composes (g : Written) (w : code-written.Written) (bs : List ℕ) : Type 0 where
  pub number : w.number ≡ g.number
  pub place : w.place ≡ g.place
  pub counted : w.length ≡ g.length
  pub within : w.length ≤ length bs
  pub bytes : cleared_from bs w.length ≡ g.bytes

abbrev pub Composed : Written → Result ℕ why.Refusal → List ℕ → Type 0
Composed g r bs = Composes g (wrote r) bs
