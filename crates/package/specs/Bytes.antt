-- Numbers as bytes, the lowest byte first.
use Rattle.std.specs.Prelude.{ℕ, zero, suc, ◌+◌, ◌*◌, ◌/◌, ◌%◌, List, [], ◌∷◌, ◌++◌, length, take, drop}

-- the number that bytes say
unfoldable pub little : List ℕ → ℕ
little [] = 0
little (b ∷ bs) = b + 256 * little bs

-- the n lowest bytes of a number
unfoldable pub bytes_of : ℕ → ℕ → List ℕ
bytes_of zero x = []
bytes_of (suc n) x = x % 256 ∷ bytes_of n (x / 256)

-- a word is four bytes

-- the first n words of bytes
unfoldable pub first_words : ℕ → List ℕ → List ℕ
first_words zero bs = []
first_words (suc n) bs = little (take 4 bs) ∷ first_words n (drop 4 bs)

-- all words of bytes
abbrev pub words_of : List ℕ → List ℕ
words_of bs = first_words (length bs / 4) bs

-- words as bytes
unfoldable pub word_bytes : List ℕ → List ℕ
word_bytes [] = []
word_bytes (w ∷ ws) = bytes_of 4 w ++ word_bytes ws

unfoldable pub bytewise : Unit {0}
unfolding little bytes_of first_words word_bytes
bytewise = tt
