-- The definitions, computed: what `read` and `write` give back, every word and byte, with each refusal at its smallest input.
use Rattle.std.specs.Prelude.{◌≡◌, refl, Bool, true, ◌&&◌, List, [], ◌∷◌, ◌++◌, ℕ}
use Rattle.words.specs.Lent.{zeros}
use Rattle.words.specs.Outcome.{same_words}
use Rattle.package.specs.Bytes.{bytes_of}
use Rattle.package.specs.Package.{read_gives, write_gives, record_bytes, packing}

-- ---- reading

-- a package, the lengths of the slices lent, and all that comes back: number, place, typecodes, counts; rule words; statement words
record Reading : Type 0 where
  bytes : List ℕ
  rules : ℕ
  statements : ℕ
  answer : List ℕ
  rule-words : List ℕ
  statement-words : List ℕ

unfoldable reads : List Reading → Bool
reads [] = true
reads (q ∷ qs) =
    let r = read_gives q.bytes q.rules q.statements in
    same_words (r.number ∷ r.place ∷ r.provable ∷ r.logic ∷ r.rules ∷ r.statements ∷ r.words ∷ []) q.answer
    && same_words r.rule-words q.rule-words
    && same_words r.statement-words q.statement-words
    && reads qs

abbrev good : List ℕ → ℕ → ℕ → List ℕ → List ℕ → List ℕ → Reading
good bs n m a rs ss = record { bytes = bs; rules = n; statements = m; answer = 0 ∷ 0 ∷ a; rule-words = rs; statement-words = ss }

-- refused at a place, with slices of so many words
abbrev refused_in : List ℕ → ℕ → ℕ → ℕ → ℕ → Reading
refused_in bs n m number place = record {
  bytes = bs;
  rules = n;
  statements = m;
  answer = number ∷ place ∷ zeros 5;
  rule-words = zeros n;
  statement-words = zeros m;
}

abbrev refused : List ℕ → ℕ → ℕ → Reading
refused bs number place = refused_in bs 5 2 number place

-- a record with any length, kind and bytes
abbrev odd : ℕ → ℕ → List ℕ → List ℕ
odd length kind body = bytes_of 4 length ++ bytes_of 2 kind ++ body

-- the typecodes 1 and 2, written out; the end
unfoldable H : List ℕ
H = 10 ∷ 0 ∷ 0 ∷ 0 ∷ 1 ∷ 0 ∷ 1 ∷ 0 ∷ 0 ∷ 0 ∷ 2 ∷ 0 ∷ 0 ∷ 0 ∷ []

unfoldable E : List ℕ
E = 2 ∷ 0 ∷ 0 ∷ 0 ∷ 4 ∷ 0 ∷ []

-- a rule 2 [c10], and a statement 1 10
unfoldable R : List ℕ
R = record_bytes 2 (2 ∷ 1 ∷ 0 ∷ 10 ∷ 0 ∷ [])

-- a rule 2 [c14 s2 s3 c15], whose slots have the variables 7 and 5; the same in an old record
unfoldable B : List ℕ
B = record_bytes 2 (2 ∷ 4 ∷ 0 ∷ 14 ∷ 0 ∷ 1 ∷ 2 ∷ 7 ∷ 1 ∷ 3 ∷ 5 ∷ 0 ∷ 15 ∷ 0 ∷ [])

unfoldable O : List ℕ
O = record_bytes 5 (2 ∷ 4 ∷ 0 ∷ 14 ∷ 1 ∷ 2 ∷ 1 ∷ 3 ∷ 0 ∷ 15 ∷ [])

unfoldable S : List ℕ
S = record_bytes 3 (1 ∷ 10 ∷ [])

unfoldable read-rows : List Reading
read-rows =
    good (H ++ E) 1 1 (1 ∷ 2 ∷ 0 ∷ 0 ∷ 0 ∷ []) (0 ∷ []) (0 ∷ [])
    ∷ good (H ++ E) 0 0 (1 ∷ 2 ∷ 0 ∷ 0 ∷ 0 ∷ []) [] []
    ∷ good (H ++ R ++ S ++ E) 5 4 (1 ∷ 2 ∷ 5 ∷ 1 ∷ 3 ∷ []) (2 ∷ 1 ∷ 0 ∷ 10 ∷ 0 ∷ []) (2 ∷ 1 ∷ 10 ∷ 0 ∷ [])
    -- an old rule: slots are numbered from 1 on in each rule, constants are not counted; both kinds may be mixed
    ∷ good (H ++ O ++ S ++ E) 15 3 (1 ∷ 2 ∷ 14 ∷ 1 ∷ 3 ∷ []) (2 ∷ 4 ∷ 0 ∷ 14 ∷ 0 ∷ 1 ∷ 2 ∷ 1 ∷ 1 ∷ 3 ∷ 2 ∷ 0 ∷ 15 ∷ 0 ∷ 0 ∷ []) (2 ∷ 1 ∷ 10 ∷ [])
    ∷ good (H ++ record_bytes 5 (2 ∷ 2 ∷ 0 ∷ 10 ∷ 1 ∷ 2 ∷ []) ++ record_bytes 5 (3 ∷ 1 ∷ 1 ∷ 2 ∷ []) ++ E) 13 0 (1 ∷ 2 ∷ 13 ∷ 0 ∷ 0 ∷ [])
    (2 ∷ 2 ∷ 0 ∷ 10 ∷ 0 ∷ 1 ∷ 2 ∷ 1 ∷ 3 ∷ 1 ∷ 1 ∷ 2 ∷ 1 ∷ []) []
    ∷ good (H ++ record_bytes 5 (2 ∷ 1 ∷ 0 ∷ 11 ∷ []) ++ B ++ record_bytes 5 (2 ∷ 1 ∷ 1 ∷ 4 ∷ []) ++ R ++ E) 29 0 (1 ∷ 2 ∷ 29 ∷ 0 ∷ 0 ∷ [])
    (2 ∷ 1 ∷ 0 ∷ 11 ∷ 0 ∷ 2 ∷ 4 ∷ 0 ∷ 14 ∷ 0 ∷ 1 ∷ 2 ∷ 7 ∷ 1 ∷ 3 ∷ 5 ∷ 0 ∷ 15 ∷ 0 ∷ 2 ∷ 1 ∷ 1 ∷ 4 ∷ 1 ∷ 2 ∷ 1 ∷ 0 ∷ 10 ∷ 0 ∷ []) []
    -- statements are counted words; one of no tokens is right
    ∷ good (H ++ S ++ E) 0 3 (1 ∷ 2 ∷ 0 ∷ 1 ∷ 3 ∷ []) [] (2 ∷ 1 ∷ 10 ∷ [])
    ∷ good (H ++ odd 2 3 [] ++ E) 0 2 (1 ∷ 2 ∷ 0 ∷ 1 ∷ 1 ∷ []) [] (0 ∷ 0 ∷ [])
    ∷ good (H ++ S ++ odd 2 3 [] ++ S ++ E) 0 7 (1 ∷ 2 ∷ 0 ∷ 3 ∷ 7 ∷ []) [] (2 ∷ 1 ∷ 10 ∷ 0 ∷ 2 ∷ 1 ∷ 10 ∷ [])
    -- no byte left before the end, or one after it
    ∷ refused [] 23 0
    ∷ refused H 23 1
    ∷ refused (H ++ S) 23 2
    ∷ refused (H ++ E ++ 0 ∷ []) 23 2
    ∷ refused (H ++ E ++ E) 23 2
    ∷ refused (H ++ E ++ odd 1 9 []) 23 2
    -- a length cut short, under 2, past the file
    ∷ refused (0 ∷ []) 20 0
    ∷ refused (H ++ 2 ∷ 0 ∷ 0 ∷ []) 20 1
    ∷ refused (bytes_of 4 0) 20 0
    ∷ refused (H ++ odd 1 4 []) 20 1
    ∷ refused (H ++ odd 3 4 []) 20 1
    ∷ refused (H ++ odd 4294967295 9 []) 20 1
    -- a kind of 16 bits
    ∷ refused (odd 2 0 []) 21 0
    ∷ refused (H ++ odd 2 6 []) 21 1
    ∷ refused (H ++ odd 2 260 []) 21 1
    -- bodies of the wrong size
    ∷ refused (record_bytes 1 (1 ∷ [])) 22 0
    ∷ refused (H ++ record_bytes 1 (1 ∷ [])) 22 1
    ∷ refused (H ++ odd 6 2 (2 ∷ 0 ∷ 0 ∷ 0 ∷ [])) 22 1
    ∷ refused (H ++ record_bytes 2 (2 ∷ 1 ∷ 0 ∷ 10 ∷ [])) 22 1
    ∷ refused (H ++ record_bytes 2 (2 ∷ 0 ∷ 0 ∷ 10 ∷ 0 ∷ [])) 22 1
    ∷ refused (H ++ odd 6 5 (2 ∷ 0 ∷ 0 ∷ 0 ∷ [])) 22 1
    ∷ refused (H ++ record_bytes 5 (2 ∷ 1 ∷ 0 ∷ [])) 22 1
    ∷ refused (H ++ record_bytes 5 (2 ∷ 1 ∷ 0 ∷ 10 ∷ 0 ∷ [])) 22 1
    ∷ refused (H ++ record_bytes 5 (2 ∷ 0 ∷ 0 ∷ 10 ∷ [])) 22 1
    ∷ refused (H ++ odd 3 3 (0 ∷ [])) 22 1
    ∷ refused (H ++ record_bytes 4 (0 ∷ [])) 22 1
    -- four times the words of a rule would wrap
    ∷ refused (H ++ record_bytes 2 (2 ∷ 1073741825 ∷ 0 ∷ 10 ∷ 0 ∷ [])) 22 1
    ∷ refused (H ++ record_bytes 2 (2 ∷ 4294967295 ∷ 0 ∷ 10 ∷ 0 ∷ [])) 22 1
    ∷ refused (H ++ record_bytes 5 (2 ∷ 536870913 ∷ 0 ∷ 10 ∷ [])) 22 1
    -- a wrong order
    ∷ refused E 23 0
    ∷ refused (R ++ E) 23 0
    ∷ refused (H ++ H ++ E) 23 1
    ∷ refused (H ++ S ++ R ++ E) 23 2
    ∷ refused (O ++ E) 23 0
    ∷ refused (H ++ S ++ O ++ E) 23 2
    ∷ refused (H ++ O ++ S ++ O ++ E) 23 3
    ∷ refused (H ++ O ++ H ++ E) 23 2
    -- a slice too short, before bad rules; typecodes that are equal; a rule of no items
    ∷ refused_in (record_bytes 1 (1 ∷ 1 ∷ []) ++ R ++ E) 4 0 7 0
    ∷ refused_in (record_bytes 1 (1 ∷ 1 ∷ []) ++ R ++ E) 5 0 10 0
    ∷ refused_in (H ++ S ++ E) 0 2 7 0
    ∷ refused (record_bytes 1 (1 ∷ 1 ∷ []) ++ E) 10 0
    ∷ refused (H ++ record_bytes 2 (2 ∷ 0 ∷ []) ++ E) 10 0
    -- an old rule takes three words an item; one of no items, or of a kind that there is not; a variable in two slots
    ∷ refused_in (H ++ O ++ E) 13 0 7 0
    ∷ refused (H ++ record_bytes 5 (2 ∷ 0 ∷ []) ++ E) 10 0
    ∷ refused (H ++ record_bytes 5 (2 ∷ 1 ∷ 2 ∷ 10 ∷ []) ++ E) 10 0
    ∷ refused_in (H ++ record_bytes 2 (2 ∷ 2 ∷ 1 ∷ 3 ∷ 7 ∷ 1 ∷ 4 ∷ 7 ∷ []) ++ E) 8 0 10 0
    ∷ []

read_right : reads read-rows ≡ true
unfolding reads read-rows H E R B O S same_words packing
read_right = refl

-- ---- writing

-- what is handed in, the room, and all that comes back: number, place, length; bytes
record Writing : Type 0 where
  provable : ℕ
  logic : ℕ
  rules : List ℕ
  statements : List ℕ
  room : ℕ
  answer : List ℕ
  bytes : List ℕ

unfoldable writes : List Writing → Bool
writes [] = true
writes (q ∷ qs) =
    let w = write_gives q.provable q.logic q.rules q.statements q.room in
    same_words (w.number ∷ w.place ∷ w.length ∷ []) q.answer && same_words w.bytes q.bytes && writes qs

abbrev put : List ℕ → List ℕ → ℕ → ℕ → List ℕ → Writing
put rs ss room n bs =
    record { provable = 1; logic = 2; rules = rs; statements = ss; room = room; answer = 0 ∷ 0 ∷ n ∷ []; bytes = bs }

abbrev kept : ℕ → List ℕ → List ℕ → ℕ → ℕ → Writing
kept logic rs ss room n =
    record { provable = 1; logic = logic; rules = rs; statements = ss; room = room; answer = n ∷ 0 ∷ 0 ∷ []; bytes = zeros room }

unfoldable write-rows : List Writing
write-rows =
    put [] [] 20 20 (H ++ E)
    ∷ put [] [] 22 20 (H ++ E ++ 0 ∷ 0 ∷ [])
    ∷ put (2 ∷ 1 ∷ 0 ∷ 10 ∷ 0 ∷ []) (2 ∷ 1 ∷ 10 ∷ []) 61 60 (H ++ R ++ S ++ E ++ 0 ∷ [])
    -- rules are written with their variables, whatever record they came in
    ∷ put (2 ∷ 4 ∷ 0 ∷ 14 ∷ 0 ∷ 1 ∷ 2 ∷ 7 ∷ 1 ∷ 3 ∷ 5 ∷ 0 ∷ 15 ∷ 0 ∷ 2 ∷ 1 ∷ 0 ∷ 10 ∷ 0 ∷ []) [] 108 108 (H ++ B ++ R ++ E)
    ∷ put [] (0 ∷ 2 ∷ 1 ∷ 10 ∷ []) 40 40 (H ++ odd 2 3 [] ++ S ++ E)
    -- the place of a refusal is 0: bad rules, words that are not whole statements, a statement too long, too little room
    ∷ kept 1 [] [] 20 10
    ∷ kept 2 (2 ∷ []) (1 ∷ []) 3 10
    ∷ kept 2 [] (1 ∷ []) 0 22
    ∷ kept 2 [] (0 ∷ 2 ∷ 1 ∷ []) 99 22
    ∷ kept 2 [] (1073741824 ∷ []) 99 22
    ∷ kept 2 [] [] 19 7
    ∷ []

write-right : writes write-rows ≡ true
unfolding writes write-rows H E R B S same_words packing
write-right = refl
