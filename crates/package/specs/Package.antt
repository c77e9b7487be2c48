-- Rule packages: what bytes say, what is written, and everything that `read` and `write` give back.
-- A package is a row of records. A record is a four-byte length of what follows it, a two-byte kind, and a body of four-byte words.
use Rattle.std.specs.Prelude.{ℕ, zero, suc, ◌+◌, ◌*◌, ◌-◌, ◌%◌, Bool, true, false, not, ◌&&◌, List, [], ◌∷◌, ◌++◌, leb, ltb, eqb, length, get_or, take, drop}
use Rattle.words.specs.Limits.{most_rules}
use Rattle.words.specs.Lent.{zeros, padded}
use Rattle.words.specs.Counted.{counted, lists_of, counting}
use Rattle.words.specs.Numbers.{accepted, no_room, bad_rules, cut_short, unknown_kind, wrong_size, wrong_order}
use Rattle.words.specs.Outcome.{Res, ok, no, pick, Demand, demand, first_fault}
use Rattle.rules.specs.Rules.{item_width, size_of, rest_of, rules_good, reading}
use Rattle.package.specs.Bytes.{little, bytes_of, words_of, word_bytes, bytewise}

-- ---- the kinds of records

-- the provable and the logic typecode
abbrev pub typecodes : ℕ
typecodes = 1

abbrev pub one_rule : ℕ
one_rule = 2

-- the tokens of a statement
abbrev pub statement : ℕ
statement = 3

abbrev pub the_end : ℕ
the_end = 4

-- a rule whose slots do not say their variables
abbrev pub old_rule : ℕ
old_rule = 5

-- what a package says: both typecodes, the words of its rules, and its statements
pub record Package : Type 0 where
  pub provable : ℕ
  pub logic : ℕ
  pub rules : List ℕ
  pub statements : List (List ℕ)

-- before the first record
abbrev pub nothing : Package
nothing = record { provable = 0; logic = 0; rules = []; statements = [] }

-- ---- the record that stands first

abbrev pub length_of : List ℕ → ℕ
length_of bs = little (take 4 bs)

-- all its bytes
abbrev pub record_size : List ℕ → ℕ
record_size bs = 4 + length_of bs

abbrev pub kind_of : List ℕ → ℕ
kind_of bs = little (take 2 (drop 4 bs))

abbrev pub body_of : List ℕ → List ℕ
body_of bs = take (record_size bs - 6) (drop 6 bs)

-- its length is there, is enough for a kind, and does not run past the file
unfoldable pub whole : List ℕ → Bool
whole bs = not (ltb (length bs) 4) && not (ltb (length_of bs) 2) && leb (length_of bs) (length bs - 4)

unfoldable pub known : ℕ → Bool
known kind = not (ltb kind typecodes) && leb kind old_rule

-- the words of an old rule's item: its kind and its symbol
abbrev pub old_width : ℕ
old_width = 2

-- a rule's body: a result, the length of its body, and so many items, each of `width` words
unfoldable pub rule_sized : ℕ → List ℕ → Bool
rule_sized width body = not (ltb (length body) 8) && eqb (length body) (4 * (2 + width * get_or (words_of body) 1 0))

-- a body has the size that its kind asks for
unfoldable pub sized : ℕ → List ℕ → Bool
sized kind body =
    pick (eqb kind typecodes) (eqb (length body) 8)
    (pick (eqb kind one_rule) (rule_sized item_width body)
    (pick (eqb kind old_rule) (rule_sized old_width body) (pick (eqb kind statement) (eqb (length body % 4) 0) (eqb (length body) 0))))

-- an old rule stands where a rule may
unfoldable pub rank : ℕ → ℕ
rank kind = pick (eqb kind old_rule) one_rule kind

-- the typecodes stand first and nowhere else, and no rule comes after a statement; `last` is the kind of the record before, 0 if there is none
unfoldable pub in_order : ℕ → ℕ → Bool
in_order last kind = pick (eqb last 0) (eqb kind typecodes) (not (eqb kind typecodes) && leb (rank last) (rank kind))

-- what is tried at a record, in this order
abbrev pub head_demands : List ℕ → List Demand
head_demands bs = demand (not (eqb (length bs) 0)) wrong_order
    ∷ demand (whole bs) cut_short
    ∷ demand (known (kind_of bs)) unknown_kind
    ∷ demand (sized (kind_of bs) (body_of bs)) wrong_size
    ∷ []

abbrev pub record_demands : ℕ → List ℕ → List Demand
record_demands last bs = head_demands bs ++ demand (in_order last (kind_of bs)) wrong_order ∷ []

-- ---- what bytes say

-- a refusal, and the number of the record where it was met
pub record Refusal : Type 0 where
  pub number : ℕ
  pub place : ℕ

abbrev pub refusal : ℕ → ℕ → Refusal
refusal n k = record { number = n; place = k }

-- an old rule's items with their third words: its slots have the variables v, v + 1 and so on, its constants 0
unfoldable pub numbered : ℕ → List ℕ → List ℕ
numbered v [] = []
numbered v (k ∷ []) = []
numbered v (zero ∷ s ∷ ws) = zero ∷ s ∷ 0 ∷ numbered v ws
numbered v (suc k ∷ s ∷ ws) = suc k ∷ s ∷ v ∷ numbered (suc v) ws

-- an old rule as a rule: its slots have the variables 1, 2 and so on
unfoldable pub renewed : List ℕ → List ℕ
renewed ws = take 2 ws ++ numbered 1 (drop 2 ws)

-- a record's words put to what was read before it
unfoldable pub put_words : Package → ℕ → List ℕ → Package
put_words p kind ws =
    pick (eqb kind typecodes) (record { provable = get_or ws 0 0; logic = get_or ws 1 0; rules = p.rules; statements = p.statements })
    (pick (eqb kind one_rule) (record { provable = p.provable; logic = p.logic; rules = p.rules ++ ws; statements = p.statements })
    (pick (eqb kind old_rule) (record { provable = p.provable; logic = p.logic; rules = p.rules ++ renewed ws; statements = p.statements })
    (pick (eqb kind statement) (record { provable = p.provable; logic = p.logic; rules = p.rules; statements = p.statements ++ ws ∷ [] })
    p)))

-- after the end record no byte may be left; k is the number that another record would have
unfoldable pub ended : ℕ → Package → List ℕ → Res Refusal Package
ended k p [] = ok p
ended k p (b ∷ bs) = no (refusal wrong_order k)

-- record k, by its fault: it is refused, is the end, or is put to what was read before it, and `next` goes on
unfoldable pub after_head : (ℕ → ℕ → Package → List ℕ → Res Refusal Package) → ℕ → Package → List ℕ → ℕ → Res Refusal Package
after_head next k p bs (suc n) = no (refusal (suc n) k)
after_head next k p bs zero = elim (eqb (kind_of bs) the_end) [
  | true ↦ ended (suc k) p (drop (record_size bs) bs)
  | false ↦ next (suc k) (kind_of bs) (put_words p (kind_of bs) (words_of (body_of bs))) (drop (record_size bs) bs)
]

-- the records from number k on, at most f of them: without another one the end is missing
unfoldable pub scan : ℕ → ℕ → ℕ → Package → List ℕ → Res Refusal Package
scan zero k last p bs = no (refusal wrong_order k)
scan (suc f) k last p bs = after_head (λ k last p bs. scan f k last p bs) k p bs (first_fault (record_demands last bs))

-- there are no more records than bytes
unfoldable pub says : List ℕ → Res Refusal Package
says bs = scan (length bs) 0 0 nothing bs

-- ---- `read`

pub record Read : Type 0 where
  pub number : ℕ
  pub place : ℕ
  pub provable : ℕ
  pub logic : ℕ
  -- how many rule words, statements and statement words there are
  pub rules : ℕ
  pub statements : ℕ
  pub words : ℕ
  pub rule-words : List ℕ
  pub statement-words : List ℕ

-- refused: all else is 0, every word of both slices too
abbrev pub not_read : ℕ → ℕ → Refusal → Read
not_read rules statements r = record {
  number = r.number;
  place = r.place;
  provable = 0;
  logic = 0;
  rules = 0;
  statements = 0;
  words = 0;
  rule-words = zeros rules;
  statement-words = zeros statements;
}

-- 7 for a slice too short, then 10 for bad rules
abbrev pub read_demands : ℕ → ℕ → Package → List Demand
read_demands rules statements p = demand (not (ltb rules (length p.rules))) no_room
    ∷ demand (not (ltb statements (length (counted p.statements)))) no_room
    ∷ demand (rules_good p.provable p.logic p.rules) bad_rules
    ∷ []

unfoldable pub read_after : ℕ → ℕ → Package → ℕ → Read
read_after rules statements p (suc n) = not_read rules statements (refusal (suc n) 0)
read_after rules statements p zero = record {
  number = accepted;
  place = 0;
  provable = p.provable;
  logic = p.logic;
  rules = length p.rules;
  statements = length p.statements;
  words = length (counted p.statements);
  rule-words = padded p.rules rules;
  statement-words = padded (counted p.statements) statements;
}

unfoldable pub read_by : ℕ → ℕ → Res Refusal Package → Read
read_by rules statements (no r) = not_read rules statements r
read_by rules statements (ok p) = read_after rules statements p (first_fault (read_demands rules statements p))

-- `rules` and `statements` are the lengths of the slices lent
unfoldable pub read_gives : List ℕ → ℕ → ℕ → Read
read_gives bytes rules statements = read_by rules statements (says bytes)

-- ---- what is written

unfoldable pub record_bytes : ℕ → List ℕ → List ℕ
record_bytes kind ws = bytes_of 4 (2 + 4 * length ws) ++ bytes_of 2 kind ++ word_bytes ws

-- a record for each of at most k rules
unfoldable pub rule_records : ℕ → List ℕ → List ℕ
rule_records zero ws = []
rule_records (suc k) [] = []
rule_records (suc k) (w ∷ ws) = record_bytes one_rule (take (size_of (w ∷ ws)) (w ∷ ws)) ++ rule_records k (rest_of (w ∷ ws))

unfoldable pub statement_records : List (List ℕ) → List ℕ
statement_records [] = []
statement_records (l ∷ ls) = record_bytes statement l ++ statement_records ls

unfoldable pub written : Package → List ℕ
written p =
    record_bytes typecodes (p.provable ∷ p.logic ∷ []) ++ rule_records most_rules p.rules ++ statement_records p.statements ++ record_bytes the_end []

-- ---- `write`

-- the most tokens of a statement: with its kind they take fewer than 2^32 bytes
abbrev pub most_written : ℕ
most_written = 1073741823

-- no statement is too long for its record's length
unfoldable pub short : List (List ℕ) → Bool
short [] = true
short (l ∷ ls) = not (ltb most_written (length l)) && short ls

pub record Written : Type 0 where
  pub number : ℕ
  pub place : ℕ
  pub length : ℕ
  pub bytes : List ℕ

-- refused: every byte is 0
abbrev pub not_written : ℕ → ℕ → Written
not_written room n = record { number = n; place = 0; length = 0; bytes = zeros room }

unfoldable pub write_after : ℕ → List ℕ → ℕ → Written
write_after room bs (suc n) = not_written room (suc n)
write_after room bs zero = record { number = accepted; place = 0; length = length bs; bytes = padded bs room }

-- 22 for a statement too long, then 7 for too little room
unfoldable pub write_lists : Package → ℕ → Written
write_lists p room =
    write_after room (written p)
    (first_fault (demand (short p.statements) wrong_size ∷ demand (not (ltb room (length (written p)))) no_room ∷ []))

-- 22 for words that are not whole statements
unfoldable pub write_by : ℕ → ℕ → List ℕ → ℕ → Res ℕ (List (List ℕ)) → Written
write_by provable logic rules room (no i) = not_written room wrong_size
write_by provable logic rules room (ok ls) =
    write_lists (record { provable = provable; logic = logic; rules = rules; statements = ls }) room

-- 10 for bad rules, before all else; `room` is the length of the slice lent
unfoldable pub write_gives : ℕ → ℕ → List ℕ → List ℕ → ℕ → Written
write_gives provable logic rules statements room =
    pick (rules_good provable logic rules) (write_by provable logic rules room (lists_of statements)) (not_written room bad_rules)

-- what a definition that is unfolded here needs
unfoldable pub packing : Unit {0}
unfolding first_fault counting reading bytewise whole known rule_sized sized rank in_order numbered renewed put_words ended after_head scan says read_after read_by read_gives record_bytes rule_records statement_records written short write_after write_lists write_by write_gives
packing = tt
