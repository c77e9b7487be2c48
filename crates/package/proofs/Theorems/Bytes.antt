-- Numbers and words, written as bytes and read back.
use Rattle.std.specs.Prelude.{ℕ, zero, suc, ◌+◌, ◌*◌, ◌/◌, ◌%◌, ◌≤◌, ◌<◌, ◌^◌, ◌≡◌, refl, List, [], ◌∷◌, ◌++◌, length, get_or, take, drop}
use Rattle.std.proofs.Common.{sym, ap, ◌∙◌, arith, length-append, length-drop, take-append-drop, take_at, drop_at, length-take-le, get_or-drop}
use Rattle.rules.proofs.Theorems.Every.{All}
use Rattle.package.specs.Bytes.{little, bytes_of, first_words, words_of, word_bytes}

-- what a byte can hold, and what a word can
abbrev pub Octets : List ℕ → Type 0
Octets bs = All (λ b. b < 256) bs

abbrev pub Words : List ℕ → Type 0
Words ws = All (λ w. w < 2 ^ 32) ws

-- ---- a fact of every one of a list, of its parts

module _ {A : Type 0} (P : A → Type 0) where
  pub all_split : (xs ys : List A) → All P (xs ++ ys) → All P xs × All P ys
  all_split [] ys a = (tt, a)
  all_split (x ∷ xs) ys a = let r = all_split xs ys a.1 in ((a.0, r.0), r.1)

  pub all-parts : (n : ℕ) (xs : List A) → All P xs → All P (take n xs) × All P (drop n xs)
  all-parts n xs a = all_split (take n xs) (drop n xs) (rw (take-append-drop n xs) a)

-- past the end a byte is read as 0
pub octet-at : (bs : List ℕ) → Octets bs → (i : ℕ) → get_or bs i 0 < 256
octet-at [] a i = omega arith
octet-at (b ∷ bs) a zero = a.0
octet-at (b ∷ bs) a (suc i) = octet-at bs a.1 i

-- ---- lengths

pub bytes-length : (n x : ℕ) → length (bytes_of n x) ≡ n
unfolding bytes_of
bytes-length zero x = refl
bytes-length (suc n) x = ap suc (bytes-length n (x / 256))

pub words-bytes : (ws : List ℕ) → length (word_bytes ws) ≡ 4 * length ws
unfolding word_bytes
words-bytes [] = refl
words-bytes (w ∷ ws) = length-append (bytes_of 4 w) (word_bytes ws) ∙ omega (arith, bytes-length 4 w, words-bytes ws)

pub first_words-length : (n : ℕ) (bs : List ℕ) → length (first_words n bs) ≡ n
unfolding first_words
first_words-length zero bs = refl
first_words-length (suc n) bs = ap suc (first_words-length n (drop 4 bs))

pub words-length : (bs : List ℕ) → length (words_of bs) ≡ length bs / 4
words-length bs = first_words-length (length bs / 4) bs

-- ---- written, then read

pub half_back : (x : ℕ) → x < 2 ^ 16 → little (bytes_of 2 x) ≡ x
unfolding little bytes_of
half_back x h =
    let e : x % 256 + 256 * (x / 256 % 256 + 256 * 0) ≡ x = omega arith in
    e

pub word_back : (x : ℕ) → x < 2 ^ 32 → little (bytes_of 4 x) ≡ x
unfolding little bytes_of
word_back x h =
    let e : x % 256 + 256 * (x / 256 % 256 + 256 * (x / 256 / 256 % 256 + 256 * (x / 256 / 256 / 256 % 256 + 256 * 0))) ≡ x = omega arith in
    e

first_back : (ws : List ℕ) → Words ws → first_words (length ws) (word_bytes ws) ≡ ws
unfolding first_words word_bytes
first_back [] a = refl
first_back (w ∷ ws) a =
    let n = bytes-length 4 w in
    rw (take_at (bytes_of 4 w) (word_bytes ws) 4 n, drop_at (bytes_of 4 w) (word_bytes ws) 4 n, word_back w a.0, first_back ws a.1)

pub words_back : (ws : List ℕ) → Words ws → words_of (word_bytes ws) ≡ ws
words_back ws a =
    let n : length (word_bytes ws) / 4 ≡ length ws = omega (arith, words-bytes ws) in
    rw n (first_back ws a)

-- ---- read, then written

pub little-back : (bs : List ℕ) → Octets bs → bytes_of (length bs) (little bs) ≡ bs
unfolding little bytes_of
little-back [] a = refl
little-back (b ∷ bs) a =
    let h = a.0 in
    let l : (b + 256 * little bs) % 256 ≡ b = omega arith in
    let r : (b + 256 * little bs) / 256 ≡ little bs = omega arith in
    rw (l, r, little-back bs a.1)

-- the first n bytes as a number
pub front-back : (n : ℕ) (bs : List ℕ) → n ≤ length bs → Octets bs → bytes_of n (little (take n bs)) ≡ take n bs
front-back n bs h a =
    let e = length-take-le n bs h in
    ap (λ (k : ℕ). bytes_of k (little (take n bs))) (sym e) ∙ little-back (take n bs) (all-parts (λ b. b < 256) n bs a).0

first-bytes : (n : ℕ) (bs : List ℕ) → length bs ≡ 4 * n → Octets bs → word_bytes (first_words n bs) ≡ bs
unfolding first_words word_bytes
first-bytes zero [] h a = refl
first-bytes zero (b ∷ bs) h a = absurd (omega arith)
first-bytes (suc n) bs h a =
    rw (front-back 4 bs (omega arith) a, first-bytes n (drop 4 bs) (omega (arith, length-drop 4 bs)) (all-parts (λ b. b < 256) 4 bs a).1)
    (take-append-drop 4 bs)

pub bytes_back : (bs : List ℕ) → length bs % 4 ≡ 0 → Octets bs → word_bytes (words_of bs) ≡ bs
bytes_back bs h a = first-bytes (length bs / 4) bs (omega arith) a

-- ---- four bytes

pub word-is : (s : List ℕ) → 4 ≤ length s
    → little (take 4 s) ≡ get_or s 0 0 + 256 * get_or s 1 0 + 65536 * (get_or s 2 0 + 256 * get_or s 3 0)
unfolding little
word-is [] h = absurd (omega arith)
word-is (a ∷ []) h = absurd (omega arith)
word-is (a ∷ b ∷ []) h = absurd (omega arith)
word-is (a ∷ b ∷ c ∷ []) h = absurd (omega arith)
word-is (a ∷ b ∷ c ∷ d ∷ s) h =
    let e : a + 256 * (b + 256 * (c + 256 * (d + 256 * 0))) ≡ a + 256 * b + 65536 * (c + 256 * d) = omega arith in e

-- four bytes are a word
pub word_small : (bs : List ℕ) (at : ℕ) → at + 4 ≤ length bs → ((i : ℕ) → get_or bs i 0 < 256) → little (take 4 (drop at bs)) < 2 ^ 32
word_small bs at h b =
    rw (word-is (drop at bs) (simp length-drop (omega arith)), get_or-drop at bs 0 0, get_or-drop at bs 1 0, get_or-drop at bs 2 0, get_or-drop at bs 3 0)
    (omega (arith, b (at + 0), b (at + 1), b (at + 2), b (at + 3)))

first_small : (n : ℕ) (bs : List ℕ) → 4 * n ≤ length bs → Octets bs → Words (first_words n bs)
unfolding first_words
first_small zero bs h a = tt
first_small (suc n) bs h a =
    (word_small bs 0 (omega arith) (octet-at bs a), first_small n (drop 4 bs) (omega (arith, length-drop 4 bs)) (all-parts (λ b. b < 256) 4 bs a).1)

pub words_small : (bs : List ℕ) → Octets bs → Words (words_of bs)
words_small bs a = first_small (length bs / 4) bs (omega arith) a
