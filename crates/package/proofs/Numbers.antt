-- Numbers in bytes.
use Rattle.std.proofs.Common.{◌≡◌, ℕ, zero, suc, ◌+◌, ◌*◌, ◌/◌, ◌%◌, ◌≤◌, ◌<◌, List, [], ◌∷◌, ◌++◌, length, get_or, take, drop, refl, sym, ap, ◌∙◌, arith, drop-drop, slice_index_or, length-append, length-drop, add-one, take_all, set}
use Rattle.std.specs.Int.{w32, from_le_bytes, to_le_bytes}
use Rattle.std.specs.Simd.{first_chunks}
use lib.Seq.{paste, paste-suc, take-paste, length-take-le}
use Rattle.package.specs.Bytes.{little, bytes_of, first_words, words_of}
use Rattle.package.specs.Code.{Put}
use Rattle.package.proofs.Theorems.Bytes.{words-length}

-- ---- read

little-zeros : (xs ys : List ℕ) → little ys ≡ 0 → little (xs ++ ys) ≡ little xs
unfolding little
little-zeros [] ys e = e
little-zeros (x ∷ xs) ys e = ap (λ (n : ℕ). x + 256 * n) (little-zeros xs ys e)

zeros-left : (n : ℕ) → n ≤ 4 → (little (drop n (0 ∷ 0 ∷ 0 ∷ 0 ∷ [])) ≡ 0) × (n + length {A = ℕ} (drop n (0 ∷ 0 ∷ 0 ∷ 0 ∷ [])) ≡ 4)
unfolding little
zeros-left zero h = (refl, refl)
zeros-left (suc zero) h = (refl, refl)
zeros-left (suc (suc zero)) h = (refl, refl)
zeros-left (suc (suc (suc zero))) h = (refl, refl)
zeros-left (suc (suc (suc (suc zero)))) h = (refl, refl)
zeros-left (suc (suc (suc (suc (suc n))))) h = absurd (omega arith)

-- the library's number of four bytes
pub four-bytes : (bs : List ℕ) (x : ℕ) → length bs ≡ 4 → x ≡ from_le_bytes w32 bs → x ≡ little bs
unfolding little
four-bytes [] x h e = absurd (omega arith)
four-bytes (a ∷ []) x h e = absurd (omega arith)
four-bytes (a ∷ b ∷ []) x h e = absurd (omega arith)
four-bytes (a ∷ b ∷ c ∷ []) x h e = absurd (omega arith)
four-bytes (a ∷ b ∷ c ∷ d ∷ []) x h e =
    let l : a + 256 * (b + 256 * (c + 256 * (d + 256 * 0))) ≡ x = omega (arith, e) in sym l
four-bytes (a ∷ b ∷ c ∷ d ∷ f ∷ bs) x h e = absurd (omega arith)

-- n bytes, with zeros after them
pub number-is : (n : ℕ) (s bs : List ℕ) (x : ℕ) → n ≤ 4 → n ≤ length s → bs ≡ take n s → x ≡ from_le_bytes w32 (bs ++ drop n (0 ∷ 0 ∷ 0 ∷ 0 ∷ []))
    → x ≡ little (take n s)
number-is n s bs x h k e f =
    let z = zeros-left n h in
    let zs : List ℕ = drop n (0 ∷ 0 ∷ 0 ∷ 0 ∷ []) in
    let four : length (take n s ++ zs) ≡ 4 = omega (arith, length-append (take n s) zs, length-take-le n s k, z.1) in
    four-bytes (take n s ++ zs) x four (rw e at f) ∙ little-zeros (take n s) zs z.0

-- word i of bytes
pub word_at : (n i : ℕ) (bs : List ℕ) → i < n → get_or (first_words n bs) i 0 ≡ little (take 4 (drop (4 * i) bs))
unfolding first_words
word_at zero i bs h = absurd (omega arith)
word_at (suc n) zero bs h = refl
word_at (suc n) (suc i) bs h =
    let e : 4 * suc i ≡ 4 + 4 * i = omega arith in
    rw (word_at n i (drop 4 bs) (omega arith), drop-drop (4 * i) 4 bs, e)

-- and as the library cuts them
pub chunk_at : (k n i : ℕ) (bs : List ℕ) → i < n → slice_index_or (first_chunks k n bs) i [] ≡ take k (drop (k * i) bs)
chunk_at k zero i bs h = absurd (omega arith)
chunk_at k (suc n) zero bs h = let e : k * 0 ≡ 0 = omega arith in rw e refl
chunk_at k (suc n) (suc i) bs h =
    let e : k + k * i ≡ k * suc i = omega arith in
    chunk_at k n i (drop k bs) (omega arith) ∙ ap (λ (l : List ℕ). take k l) (drop-drop (k * i) k bs ∙ ap (λ (j : ℕ). drop j bs) e)

-- a word that the library cut and read
chunk-word : (bs : List ℕ) (cs : List (List ℕ)) (i x : ℕ) → cs ≡ first_chunks 4 (length bs / 4) bs → i < length bs / 4
    → x ≡ from_le_bytes w32 (slice_index_or cs i []) → x ≡ get_or (words_of bs) i 0
chunk-word bs cs i x e h f =
    let c : slice_index_or cs i [] ≡ take 4 (drop (4 * i) bs) = rw e (chunk_at 4 (length bs / 4) i bs h) in
    let l : length (take 4 (drop (4 * i) bs)) ≡ 4 = length-take-le 4 (drop (4 * i) bs) (omega (arith, length-drop (4 * i) bs)) in
    four-bytes (take 4 (drop (4 * i) bs)) x l (rw c at f) ∙ sym (word_at (length bs / 4) i bs h)

-- a turn that stores word i
pub words_more : (d : List ℕ) (at : ℕ) (bs : List ℕ) (cs : List (List ℕ)) (i : ℕ) (d' : List ℕ) (x : ℕ) → d' ≡ paste d at (words_of bs) i
    → cs ≡ first_chunks 4 (length bs / 4) bs → i < length bs / 4 → x ≡ from_le_bytes w32 (slice_index_or cs i []) → at + length bs / 4 ≤ length d
    → set d' (at + i) x ≡ paste d at (words_of bs) (i + 1)
words_more d at bs cs i d' x e f h w room =
    rw (e, chunk-word bs cs i x f h w, add-one i) (paste-suc d at (words_of bs) i 0 (omega arith) (omega (arith, words-length bs)))

-- the end of that loop
pub words-put : (d : List ℕ) (at : ℕ) (bs : List ℕ) (i : ℕ) (d' : List ℕ) → d' ≡ paste d at (words_of bs) i
    → i ≡ length bs / 4 → Put d at (words_of bs) d'
words-put d at bs i d' e h l =
    let n = words-length bs in
    let q : i ≡ length (words_of bs) = h ∙ sym n in
    rw (e, q) (take-paste d at (words_of bs) (length (words_of bs)) (omega arith) (omega arith)
    ∙ ap (λ (r : List ℕ). take at d ++ r) (take_all (length (words_of bs)) (words_of bs) (omega arith)))

-- the length that a rule says
pub items_at : (bs : List ℕ) → 8 ≤ length bs → get_or (words_of bs) 1 0 ≡ little (take 4 (drop 4 bs))
items_at bs h = word_at (length bs / 4) 1 bs (omega arith)

-- ---- written

bytes-first : (n m x : ℕ) → n ≤ m → take n (bytes_of m x) ≡ bytes_of n x
unfolding bytes_of
bytes-first zero m x h = refl
bytes-first (suc n) zero x h = absurd (omega arith)
bytes-first (suc n) (suc m) x h = ap (λ (l : List ℕ). x % 256 ∷ l) (bytes-first n m (x / 256) (omega arith))

-- the library's bytes of a number, the n lowest of them
pub lowest : (n x : ℕ) (bs : List ℕ) → n ≤ 4 → bs ≡ to_le_bytes w32 x → take n bs ≡ bytes_of n x
unfolding bytes_of
lowest n x bs h e =
    let two : x / 256 / 256 ≡ x / 65536 = omega arith in
    let three : x / 65536 / 256 ≡ x / 16777216 = omega arith in
    let all : bytes_of 4 x ≡ bs = rw (e, two, three) refl in
    ap (λ (l : List ℕ). take n l) (sym all) ∙ bytes-first n 4 x h
