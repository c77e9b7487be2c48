-- What the code's own types stand for, in the terms of the definitions.
use Rattle.std.specs.Prelude.{ℕ, ◌+◌, List, ◌≡◌, ◌≢◌, length, Result, Ok, Err}
use Rattle.words.specs.Outcome.{Res, ok, no}
use Rattle.words.specs.Numbers.{accepted}
use Rattle.words.specs.declared.Cut.{Cut}
use Rattle.words.specs.declared.NoRefusal.{NoRefusal}
use Rattle.words.specs.declared.Refusal.{Refusal}
use Rattle.words.specs.declared.Refusal.TheVariants.{TooFewTokens, Unparseable, TooShort, Misfit, NoPass, NoFrame, NoRoom, BadTables, TooManyTokens, BadRules, Collides, NoNode, NoEdge, SixthReduce, FarOffset, BadCopy, ManyRows, CutShort, UnknownKind, WrongSize, WrongOrder}

-- how many lists there are, after n others, or which is not whole
abbrev pub how_many : ℕ → Res ℕ (List (List ℕ)) → Result ℕ Cut
how_many n (ok ls) = Ok (n + length ls)
how_many n (no i) = Err (record { 0 = i })

-- the number that a refusal is given back as
abbrev pub code : Refusal → ℕ
code TooFewTokens = 1
code Unparseable = 2
code TooShort = 3
code Misfit = 4
code NoPass = 5
code NoFrame = 6
code NoRoom = 7
code BadTables = 8
code TooManyTokens = 9
code BadRules = 10
code Collides = 11
code NoNode = 12
code NoEdge = 13
code SixthReduce = 14
code FarOffset = 15
code BadCopy = 16
code ManyRows = 17
code CutShort = 20
code UnknownKind = 21
code WrongSize = 22
code WrongOrder = 23

abbrev pub code_is : Refusal → ℕ → Type 0
code_is y n = n ≡ code y

-- the number of an outcome
abbrev pub number_of : {A : Type 0} → Result A Refusal → ℕ
number_of (Ok a) = accepted
number_of (Err y) = code y

-- the refusal that has this number, or that none has
abbrev pub refusal_is : ℕ → Result Refusal NoRefusal → Type 0
refusal_is n (Ok y) = code y ≡ n
refusal_is n (Err z) = (y : Refusal) → code y ≢ n
