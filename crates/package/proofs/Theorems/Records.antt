-- One record: as it is written, as it is read, and what a scan makes of it.
use Rattle.std.specs.Prelude.{ℕ, zero, suc, ◌+◌, ◌*◌, ◌-◌, ◌%◌, ◌≤◌, ◌<◌, ◌^◌, ◌≡◌, refl, Bool, not, List, [], ◌∷◌, ◌++◌, ◌≢◌, eqb, ltb, leb, length, get_or, take, drop}
use Rattle.std.proofs.Common.{sym, ap, ◌∙◌, append_assoc, arith, length-append, length-take, length-drop, take-append-drop, take_at, drop_at, drop-drop, ltb-false, leb-true, le-ltb, le-leb, eq-eqb, ne_eqb, eqb-true}
use Rattle.std.proofs.Math.Bool.{true, false}
use Rattle.std.proofs.lemmas.Bool.{not-true}
use Rattle.words.specs.Numbers.{cut_short, unknown_kind, wrong_size, wrong_order}
use Rattle.words.specs.Outcome.{Res, ok, no, pick, Demand, demand, first_fault}
use Rattle.words.proofs.Theorems.Faults.{clear}
use Rattle.words.proofs.Theorems.Tests.{and_l, and_r}
use Rattle.package.specs.Bytes.{little, bytes_of, words_of, word_bytes}
use Rattle.package.specs.Package.{Package, typecodes, one_rule, old_rule, statement, the_end, length_of, record_size, kind_of, body_of, whole, known, rule_sized, sized, in_order, record_demands, Refusal, refusal, put_words, ended, after_head, scan, record_bytes, most_written}
use Rattle.package.proofs.Theorems.Bytes.{Octets, octet-at, Words, all-parts, bytes-length, words-bytes, words-length, half_back, word_back, words_back, front-back, bytes_back, word_small}

-- ---- a record that is written

pub record-parts : (kind : ℕ) (ws : List ℕ) → record_bytes kind ws ≡ bytes_of 4 (2 + 4 * length ws) ++ (bytes_of 2 kind ++ word_bytes ws)
unfolding record_bytes
record-parts kind ws = append_assoc (bytes_of 4 (2 + 4 * length ws)) (bytes_of 2 kind) (word_bytes ws)

pub record-length : (kind : ℕ) (ws : List ℕ) → length (record_bytes kind ws) ≡ 6 + 4 * length ws
record-length kind ws =
    let n = 2 + 4 * length ws in
    ap length (record-parts kind ws) ∙ length-append (bytes_of 4 n) (bytes_of 2 kind ++ word_bytes ws)
    ∙ omega (arith, bytes-length 4 n, length-append (bytes_of 2 kind) (word_bytes ws), bytes-length 2 kind, words-bytes ws)

pub record-size : (kind : ℕ) (ws : List ℕ) → length ws ≤ most_written → record_size (record_bytes kind ws) ≡ length (record_bytes kind ws)
record-size kind ws h =
    let n = 2 + 4 * length ws in
    let e : take 4 (record_bytes kind ws) ≡ bytes_of 4 n = ap (λ (l : List ℕ). take 4 l) (record-parts kind ws) ∙ take_at (bytes_of 4 n) _ 4 (bytes-length 4 n) in
    omega (arith, ap little e, word_back n (omega arith), record-length kind ws)

-- ---- a record that stands first

-- a whole record's bytes
pub record Fits (bs : List ℕ) : Type 0 where
  pub head : 6 ≤ record_size bs
  pub inside : record_size bs ≤ length bs

pub whole-fits : (bs : List ℕ) → whole bs ≡ true → Fits bs
unfolding whole
whole-fits bs e =
    let a : not (ltb (length bs) 4) ≡ true = search (and_l, and_r) in
    let b : not (ltb (length_of bs) 2) ≡ true = search (and_l, and_r) in
    let c : leb (length_of bs) (length bs - 4) ≡ true = search (and_l, and_r) in
    let h = ltb-false (length bs) 4 (not-true (ltb (length bs) 4) a) in
    let k = ltb-false (length_of bs) 2 (not-true (ltb (length_of bs) 2) b) in
    let m = leb-true (length_of bs) (length bs - 4) c in
    record { head = omega arith; inside = omega arith }

fits_whole : (bs : List ℕ) → Fits bs → whole bs ≡ true
unfolding whole
fits_whole bs f =
    let a = f.head in
    let b = f.inside in
    rw (le-ltb (length bs) 4 (omega arith), le-ltb (length_of bs) 2 (omega arith), le-leb (length_of bs) (length bs - 4) (omega arith))

-- a record without fault
pub record Faultless (last : ℕ) (bs : List ℕ) : Type 0 where
  pub fits : Fits bs
  pub named : known (kind_of bs) ≡ true
  pub body-sized : sized (kind_of bs) (body_of bs) ≡ true
  pub ordered : in_order last (kind_of bs) ≡ true

pub faultless : (last : ℕ) (bs : List ℕ) → first_fault (record_demands last bs) ≡ 0 → Faultless last bs
faultless last bs h =
    let d = demand (in_order last (kind_of bs)) wrong_order ∷ [] in
    let c = demand (sized (kind_of bs) (body_of bs)) wrong_size ∷ d in
    let b = demand (known (kind_of bs)) unknown_kind ∷ c in
    let a = demand (whole bs) cut_short ∷ b in
    let one = clear (not (eqb (length bs) 0)) wrong_order a (omega arith) h in
    let two = clear (whole bs) cut_short b (omega arith) one.others in
    let three = clear (known (kind_of bs)) unknown_kind c (omega arith) two.others in
    let four = clear (sized (kind_of bs) (body_of bs)) wrong_size d (omega arith) three.others in
    let five = clear (in_order last (kind_of bs)) wrong_order [] (omega arith) four.others in
    record { fits = whole-fits bs two.passed; named = three.passed; body-sized = four.passed; ordered = five.passed }

-- what is left to try at a whole record, by its kind and its body
abbrev pub later_demands : ℕ → ℕ → List ℕ → List Demand
later_demands last kind body = demand (known kind) unknown_kind ∷ demand (sized kind body) wrong_size ∷ demand (in_order last kind) wrong_order ∷ []

pub later-fault : (last : ℕ) (bs : List ℕ) → Fits bs → first_fault (record_demands last bs) ≡ first_fault (later_demands last (kind_of bs) (body_of bs))
unfolding first_fault
later-fault last bs f =
    let h : length bs ≢ 0 = λ e. omega (arith, f.head, f.inside) in
    rw (ne_eqb (length bs) 0 h, fits_whole bs f)

-- a rule's words have the size that they say
pub rule-sized : (width : ℕ) (ws : List ℕ) → Words ws → length ws ≡ 2 + width * get_or ws 1 0 → rule_sized width (word_bytes ws) ≡ true
unfolding rule_sized
rule-sized width ws w e =
    let n = 2 + width * get_or ws 1 0 in
    rw (words_back ws w, le-ltb (length (word_bytes ws)) 8 (omega (arith, words-bytes ws)), eq-eqb (length (word_bytes ws)) (4 * n) (omega (arith, words-bytes ws)))

-- a body that passed has the size that it says
pub rule-size : (width : ℕ) (body : List ℕ) → rule_sized width body ≡ true → (8 ≤ length body) × (length body ≡ 4 * (2 + width * get_or (words_of body) 1 0))
unfolding rule_sized
rule-size width body e =
    let t = ltb (length body) 8 in
    let size = 4 * (2 + width * get_or (words_of body) 1 0) in
    (ltb-false (length body) 8 (not-true t (and_l (not t) (eqb (length body) size) e)), eqb-true (length body) size (and_r (not t) (eqb (length body) size) e))

pub typecodes-sized : (kind : ℕ) (body : List ℕ) → kind ≡ typecodes → sized kind body ≡ true → length body ≡ 8
unfolding sized
typecodes-sized kind body e s = eqb-true (length body) 8 (rw (eq-eqb kind typecodes e) at s)

-- ---- what a scan makes of it

-- other records, the end among them, say nothing more
pub put-nothing : (q : Package) (kind : ℕ) (ws : List ℕ) → kind ≢ typecodes → kind ≢ one_rule → kind ≢ old_rule → kind ≢ statement → put_words q kind ws ≡ q
unfolding put_words
put-nothing q kind ws a b c d = rw (ne_eqb kind typecodes a, ne_eqb kind one_rule b, ne_eqb kind old_rule c, ne_eqb kind statement d)

pub after-record : (next : ℕ → ℕ → Package → List ℕ → Res Refusal Package) (k : ℕ) (q : Package) (bs : List ℕ) (b : Bool) → eqb (kind_of bs) the_end ≡ b
    → let q' = put_words q (kind_of bs) (words_of (body_of bs)) in
    pick b (ended (suc k) q' (drop (record_size bs) bs)) (next (suc k) (kind_of bs) q' (drop (record_size bs) bs)) ≡ after_head next k q bs 0
unfolding after_head
after-record next k q bs true e =
    let z = eqb-true (kind_of bs) the_end e in
    rw (e, after_head, put-nothing q (kind_of bs) (words_of (body_of bs)) (λ h. omega arith) (λ h. omega arith) (λ h. omega arith) (λ h. omega arith))
after-record next k q bs false e = rw (e, after_head)

pub scan-record : (f k last : ℕ) (q : Package) (bs : List ℕ) → first_fault (record_demands last bs) ≡ 0
    → let q' = put_words q (kind_of bs) (words_of (body_of bs)) in
    pick (eqb (kind_of bs) the_end) (ended (suc k) q' (drop (record_size bs) bs)) (scan f (suc k) (kind_of bs) q' (drop (record_size bs) bs))
    ≡ scan (suc f) k last q bs
unfolding scan
scan-record f k last q bs h = rw h (after-record (λ k last p bs. scan f k last p bs) k q bs (eqb (kind_of bs) the_end) refl)

-- a record with a fault stops it
no_record : (k last : ℕ) (q : Package) (bs : List ℕ) (n : ℕ) → bs ≡ [] → first_fault (record_demands last bs) ≡ n
    → scan 0 k last q bs ≡ no (refusal n k)
unfolding scan first_fault
no_record k last q bs n e h = let z : wrong_order ≡ n = rw e at h in rw (← z)

pub scan-refused : (f k last : ℕ) (q : Package) (bs : List ℕ) (n : ℕ) → length bs ≤ f → first_fault (record_demands last bs) ≡ n → 1 ≤ n
    → scan f k last q bs ≡ no (refusal n k)
unfolding scan after_head
scan-refused zero k last q [] n l h p = no_record k last q [] n refl h
scan-refused zero k last q (b ∷ bs) n l h p = absurd (omega arith)
scan-refused (suc f) k last q bs zero l h p = absurd (omega arith)
scan-refused (suc f) k last q bs (suc n) l h p = rw h

-- a scan that goes through found no fault
clear-by : (next : ℕ → ℕ → Package → List ℕ → Res Refusal Package) (k : ℕ) (p q : Package) (bs : List ℕ) (n : ℕ) → after_head next k p bs n ≡ ok q → n ≡ 0
unfolding after_head
clear-by next k p q bs zero e = refl
clear-by next k p q bs (suc n) e = absurd (let z : ◌≡◌ {A = ℕ} 0 1 = cc in omega arith)

pub scan-clear : (f k last : ℕ) (p q : Package) (bs : List ℕ) → scan (suc f) k last p bs ≡ ok q → first_fault (record_demands last bs) ≡ 0
unfolding scan
scan-clear f k last p q bs e = clear-by (λ k last p bs. scan f k last p bs) k p q bs (first_fault (record_demands last bs)) e

-- after the end a byte is left, or none is
pub ended-more : (k : ℕ) (q : Package) (bs : List ℕ) → 1 ≤ length bs → ended k q bs ≡ no (refusal wrong_order k)
unfolding ended
ended-more k q [] h = absurd (omega arith)
ended-more k q (b ∷ bs) h = refl

-- a scan that goes through left none
pub ended-ok : (k : ℕ) (p q : Package) (bs : List ℕ) → ended k p bs ≡ ok q → (bs ≡ []) × (q ≡ p)
unfolding ended
ended-ok k p q [] e = let z : p ≡ q = cc in (refl, sym z)
ended-ok k p q (b ∷ bs) e = absurd (let z : ◌≡◌ {A = ℕ} 0 1 = cc in omega arith)

-- ---- written, then read

row-parts : (kind : ℕ) (ws rest : List ℕ) → record_bytes kind ws ++ rest ≡ bytes_of 4 (2 + 4 * length ws) ++ (bytes_of 2 kind ++ (word_bytes ws ++ rest))
row-parts kind ws rest = ap (λ (l : List ℕ). l ++ rest) (record-parts kind ws) ∙ simp append_assoc

-- a record known by its parts
pub scan-parts : (f m last : ℕ) (q : Package) (bs : List ℕ) (kind : ℕ) (ws rest : List ℕ) → first_fault (record_demands last bs) ≡ 0 → kind_of bs ≡ kind
    → words_of (body_of bs) ≡ ws → drop (record_size bs) bs ≡ rest
    → scan (suc f) m last q bs ≡ pick (eqb kind the_end) (ended (suc m) (put_words q kind ws) rest) (scan f (suc m) kind (put_words q kind ws) rest)
scan-parts f m last q bs kind ws rest h a b c = sym (rw (← a, ← b, ← c) (scan-record f m last q bs h))

module _ (kind : ℕ) (ws rest : List ℕ) (k : kind < 2 ^ 16) (n : length ws ≤ most_written) (w : Words ws) where
  abbrev row : List ℕ
  row = record_bytes kind ws ++ rest

  row-size : record_size row ≡ 6 + 4 * length ws
  row-size =
      let e : take 4 row ≡ bytes_of 4 (2 + 4 * length ws) =
      ap (λ (l : List ℕ). take 4 l) (row-parts kind ws rest) ∙ take_at (bytes_of 4 (2 + 4 * length ws)) _ 4 (bytes-length 4 (2 + 4 * length ws)) in
      omega (arith, ap little e, word_back (2 + 4 * length ws) (omega arith))

  after-length : drop 4 row ≡ bytes_of 2 kind ++ (word_bytes ws ++ rest)
  after-length = ap (λ (l : List ℕ). drop 4 l) (row-parts kind ws rest) ∙ drop_at (bytes_of 4 (2 + 4 * length ws)) _ 4 (bytes-length 4 (2 + 4 * length ws))

  pub row-kind : kind_of row ≡ kind
  row-kind = ap (λ (l : List ℕ). little (take 2 l)) after-length
      ∙ ap little (take_at (bytes_of 2 kind) (word_bytes ws ++ rest) 2 (bytes-length 2 kind)) ∙ half_back kind k

  after-kind : drop 6 row ≡ word_bytes ws ++ rest
  after-kind = sym (drop-drop 2 4 row) ∙ ap (λ (l : List ℕ). drop 2 l) after-length ∙ drop_at (bytes_of 2 kind) (word_bytes ws ++ rest) 2 (bytes-length 2 kind)

  row-body : body_of row ≡ word_bytes ws
  row-body = ap (λ (l : List ℕ). take (record_size row - 6) l) after-kind
      ∙ take_at (word_bytes ws) rest (record_size row - 6) (omega (arith, words-bytes ws, row-size))

  pub row-rest : drop (record_size row) row ≡ rest
  row-rest = drop_at (record_bytes kind ws) rest (record_size row) (omega (arith, record-length kind ws, row-size))

  row_fits : Fits row
  row_fits = record { head = omega (arith, row-size); inside = omega (arith, row-size, length-append (record_bytes kind ws) rest, record-length kind ws) }

  -- its order is all that may be wrong
  row-order : (last : ℕ) (o : Bool) → known kind ≡ true → sized kind (word_bytes ws) ≡ true → in_order last kind ≡ o
      → first_fault (record_demands last row) ≡ first_fault (demand o wrong_order ∷ [])
  unfolding first_fault
  row-order last o a b c = later-fault last row row_fits ∙ rw (row-kind, row-body, a, b, c)

  row-clear : (last : ℕ) → known kind ≡ true → sized kind (word_bytes ws) ≡ true → in_order last kind ≡ true → first_fault (record_demands last row) ≡ 0
  unfolding first_fault
  row-clear last a b c = row-order last true a b c

  pub scan-disordered : (f m last : ℕ) (q : Package) → length row ≤ f → known kind ≡ true → sized kind (word_bytes ws) ≡ true → in_order last kind ≡ false
      → scan f m last q row ≡ no (refusal wrong_order m)
  unfolding first_fault
  scan-disordered f m last q h a b c = scan-refused f m last q row wrong_order h (row-order last false a b c) (omega arith)

  pub scan-written : (f m last : ℕ) (q : Package) → known kind ≡ true → sized kind (word_bytes ws) ≡ true → in_order last kind ≡ true
      → scan (suc f) m last q row ≡ pick (eqb kind the_end) (ended (suc m) (put_words q kind ws) rest) (scan f (suc m) kind (put_words q kind ws) rest)
  scan-written f m last q a b c =
      scan-parts f m last q row kind ws rest (row-clear last a b c) row-kind (ap words_of row-body ∙ words_back ws w) row-rest

-- ---- read, then written

-- the body of a whole record
pub body-length : (bs : List ℕ) → Fits bs → length (body_of bs) ≡ record_size bs - 6
body-length bs f = omega (arith, f.head, f.inside, length-take (record_size bs - 6) (drop 6 bs), length-drop 6 bs)

module _ (bs : List ℕ) (f : Fits bs) (m : length (body_of bs) % 4 ≡ 0) (a : Octets bs) where
  abbrev parts : List ℕ
  parts = take 4 bs ++ (take 2 (drop 4 bs) ++ (body_of bs ++ drop (record_size bs) bs))

  words-said : 2 + 4 * length (words_of (body_of bs)) ≡ length_of bs
  words-said = omega (arith, f.head, words-length (body_of bs), body-length bs f)

  after-six : body_of bs ++ drop (record_size bs) bs ≡ drop 6 bs
  after-six =
      let h = f.head in
      let e : record_size bs ≡ 6 + (record_size bs - 6) = omega arith in
      ap (λ (l : List ℕ). body_of bs ++ l) (ap (λ (n : ℕ). drop n bs) e ∙ sym (drop-drop (record_size bs - 6) 6 bs))
      ∙ take-append-drop (record_size bs - 6) (drop 6 bs)

  parts_are : parts ≡ bs
  parts_are = ap (λ (l : List ℕ). take 4 bs ++ (take 2 (drop 4 bs) ++ l)) (after-six ∙ sym (drop-drop 2 4 bs))
      ∙ ap (λ (l : List ℕ). take 4 bs ++ l) (take-append-drop 2 (drop 4 bs)) ∙ take-append-drop 4 bs

  pub record-back : record_bytes (kind_of bs) (words_of (body_of bs)) ++ drop (record_size bs) bs ≡ bs
  record-back =
      let b = (all-parts (λ x. x < 256) 4 bs a).1 in
      let c = (all-parts (λ x. x < 256) (record_size bs - 6) (drop 6 bs) (all-parts (λ x. x < 256) 6 bs a).1).0 in
      let x : bytes_of 4 (2 + 4 * length (words_of (body_of bs))) ≡ take 4 bs =
      ap (λ (n : ℕ). bytes_of 4 n) words-said ∙ front-back 4 bs (omega (arith, f.head, f.inside)) a in
      let y = front-back 2 (drop 4 bs) (omega (arith, f.head, f.inside, length-drop 4 bs)) b in
      let z = bytes_back (body_of bs) m c in
      row-parts (kind_of bs) (words_of (body_of bs)) (drop (record_size bs) bs) ∙ cc (x, y, z) ∙ parts_are

  -- its length is a word
  pub record-brief : length (words_of (body_of bs)) ≤ most_written
  record-brief = omega (arith, words-said, word_small bs 0 (omega (arith, f.head, f.inside)) (octet-at bs a))
