-- Old rules: the words that they become, and a package with them read as one without.
use Prim.Native.Nat.{ℕ, zero, suc, ◌+◌, ◌*◌, ◌-◌, ◌%◌, ◌≤◌, ◌<◌, ◌^◌}
use Rattle.std.specs.Prelude.{◌≡◌, Bool, not, ◌&&◌, List, [], ◌∷◌, ◌++◌, ◌≢◌, ltb, eqb, length, get_or, take, drop}
use Rattle.std.proofs.Math.Path.{refl, sym}
use Rattle.std.proofs.Common.{ap, ◌∙◌, append-nil, arith, length-take, length-drop, drop_at, length-take-le, le-ltb, le-leb, ne_eqb}
use Rattle.std.proofs.Math.Bool.{true, false}
use Rattle.std.proofs.Math.ListN.{length-append}
use Rattle.std.proofs.lemmas.List.{take-append-le, drop-append-le}
use Rattle.std.proofs.lemmas.Bool.{eqb-false, not-true}
use Rattle.words.specs.Limits.{most_symbol, most_items}
use Rattle.words.specs.Numbers.{wrong_order}
use Rattle.words.specs.Outcome.{Res, pick, first_fault}
use Rattle.words.proofs.Theorems.Tests.{and_l, and_r}
use Rattle.rules.specs.Rules.{item_width, variables, symbol, third, good_items, absent, distinct, good_body}
use Rattle.rules.proofs.Theorems.Every.{all_append}
use Rattle.package.specs.Bytes.{little, words_of, word_bytes}
use Rattle.package.specs.Package.{Package, nothing, one_rule, the_end, old_rule, old_width, length_of, record_size, kind_of, body_of, known, sized, rank, in_order, record_demands, Refusal, numbered, renewed, put_words, ended, scan, says, read_gives, record_bytes, most_written}
use Rattle.package.proofs.Theorems.Bytes.{Words, all-parts}
use Rattle.package.proofs.Theorems.Records.{Fits, faultless, later_demands, later-fault, record-length, record-size, rule-sized, row-kind, row-rest, scan-record, scan-parts, scan-refused, scan-written, scan-disordered, ended-more}

-- ---- how many words there are

-- three words for every two, at most
numbered-most : (v : ℕ) (ws : List ℕ) → 2 * length (numbered v ws) ≤ 3 * length ws
unfolding numbered
numbered-most v [] = omega arith
numbered-most v (k ∷ []) = omega arith
numbered-most v (zero ∷ s ∷ ws) = omega (arith, numbered-most v ws)
numbered-most v (suc k ∷ s ∷ ws) = omega (arith, numbered-most (suc v) ws)

pub numbered-pairs : (v : ℕ) (ws : List ℕ) → length ws % 2 ≡ 0 → 2 * length (numbered v ws) ≡ 3 * length ws
unfolding numbered
numbered-pairs v [] h = refl
numbered-pairs v (k ∷ []) h = absurd (omega arith)
numbered-pairs v (zero ∷ s ∷ ws) h = omega (arith, numbered-pairs v ws (omega arith))
numbered-pairs v (suc k ∷ s ∷ ws) h = omega (arith, numbered-pairs (suc v) ws (omega arith))

pub renewed-most : (ws : List ℕ) → 2 * length (renewed ws) ≤ 3 * length ws
unfolding renewed
renewed-most ws =
    omega (arith, length-append (take 2 ws) (numbered 1 (drop 2 ws)), length-take 2 ws, numbered-most 1 (drop 2 ws), length-drop 2 ws)

-- the words of an old rule are as many as it says
abbrev pub OldSize : List ℕ → Type 0
OldSize ws = length ws ≡ 2 + old_width * get_or ws 1 0

-- and so are those that they become
pub renewed-size : (ws : List ℕ) → OldSize ws → length (renewed ws) ≡ 2 + item_width * get_or ws 1 0
unfolding renewed
renewed-size ws e =
    let n = length-drop 2 ws in
    omega (arith, length-append (take 2 ws) (numbered 1 (drop 2 ws)), length-take-le 2 ws (omega arith), numbered-pairs 1 (drop 2 ws) (omega arith), n)

-- result and length are the same
pub renewed-items : (ws : List ℕ) → 2 ≤ length ws → get_or (renewed ws) 1 0 ≡ get_or ws 1 0
unfolding renewed
renewed-items [] h = absurd (omega arith)
renewed-items (a ∷ []) h = absurd (omega arith)
renewed-items (a ∷ b ∷ ws) h = refl

numbered-words : (v : ℕ) (ws : List ℕ) → Words ws → v + length ws < 2 ^ 32 → Words (numbered v ws)
unfolding numbered
numbered-words v [] w h = tt
numbered-words v (k ∷ []) w h = tt
numbered-words v (zero ∷ s ∷ ws) w h = (w.0, (w.1.0, (omega arith, numbered-words v ws w.1.1 (omega arith))))
numbered-words v (suc k ∷ s ∷ ws) w h = (w.0, (w.1.0, (omega arith, numbered-words (suc v) ws w.1.1 (omega arith))))

pub renewed-words : (ws : List ℕ) → Words ws → length ws < 2 ^ 31 → Words (renewed ws)
unfolding renewed
renewed-words ws w h =
    let p = all-parts (λ x. x < 2 ^ 32) 2 ws w in
    all_append (λ x. x < 2 ^ 32) (take 2 ws) (numbered 1 (drop 2 ws)) p.0 (numbered-words 1 (drop 2 ws) p.1 (omega (arith, length-drop 2 ws)))

-- ---- old-body-good: an old rule is good by what it says, and never bad for its variables

-- pairs, each of a kind that there is and a symbol
unfoldable pub good_pairs : List ℕ → Bool
good_pairs [] = true
good_pairs (k ∷ []) = true
good_pairs (k ∷ s ∷ ws) = not (ltb 1 k) && symbol s && good_pairs ws

symbol-in : (v : ℕ) → 1 ≤ v → v ≤ most_symbol → symbol v ≡ true
unfolding symbol
symbol-in v h k = rw (le-ltb v 1 h, le-leb v most_symbol k)

and-true : (b : Bool) → b && true ≡ b
and-true true = refl
and-true false = refl

numbered-items : (v : ℕ) (ws : List ℕ) → 1 ≤ v → v + length ws ≤ most_symbol → good_items (numbered v ws) ≡ good_pairs ws
unfolding numbered good_items good_pairs third
numbered-items v [] h j = refl
numbered-items v (k ∷ []) h j = refl
numbered-items v (zero ∷ s ∷ ws) h j = rw (and-true (symbol s), numbered-items v ws h (omega arith))
numbered-items v (suc k ∷ s ∷ ws) h j =
    rw (symbol-in v h (omega arith), and-true (not (ltb 1 (suc k)) && symbol s), numbered-items (suc v) ws (omega arith) (omega arith))

-- later slots have higher variables
numbered-absent : (u v : ℕ) (ws : List ℕ) → u < v → absent u (variables (numbered v ws)) ≡ true
unfolding numbered variables absent
numbered-absent u v [] h = refl
numbered-absent u v (k ∷ []) h = refl
numbered-absent u v (zero ∷ s ∷ ws) h = numbered-absent u v ws h
numbered-absent u v (suc k ∷ s ∷ ws) h = rw (ne_eqb v u (λ e. omega arith)) (numbered-absent u (suc v) ws (omega arith))

numbered-distinct : (v : ℕ) (ws : List ℕ) → distinct (variables (numbered v ws)) ≡ true
unfolding numbered variables distinct
numbered-distinct v [] = refl
numbered-distinct v (k ∷ []) = refl
numbered-distinct v (zero ∷ s ∷ ws) = numbered-distinct v ws
numbered-distinct v (suc k ∷ s ∷ ws) = rw (numbered-absent v (suc v) ws (omega arith)) (numbered-distinct (suc v) ws)

pub old-body-good : (ws : List ℕ) → length ws ≤ old_width * most_items → good_body (numbered 1 ws) ≡ good_pairs ws
unfolding good_body
old-body-good ws h = rw (numbered-distinct 1 ws, and-true (good_items (numbered 1 ws))) (numbered-items 1 ws (omega arith) (omega arith))

-- ---- where no old rule is read

-- no record is an old rule, of at most f of them
unfoldable pub no_old : ℕ → List ℕ → Bool
no_old zero bs = true
no_old (suc f) bs = not (eqb (kind_of bs) old_rule) && no_old f (drop (record_size bs) bs)

no_more : (f : ℕ) → no_old f [] ≡ true
unfolding no_old little
no_more zero = refl
no_more (suc f) = no_more f

-- a record that is no old rule, before others that are none
pub new-next : (kind : ℕ) (ws rest : List ℕ) → kind < 2 ^ 16 → length ws ≤ most_written → Words ws → kind ≢ old_rule → ((f : ℕ) → no_old f rest ≡ true)
    → (f : ℕ) → no_old f (record_bytes kind ws ++ rest) ≡ true
unfolding no_old
new-next kind ws rest k n w z h zero = refl
new-next kind ws rest k n w z h (suc f) = rw (row-kind kind ws rest k n w, row-rest kind ws rest k n w, ne_eqb kind old_rule z) (h f)

pub new-last : (f : ℕ) → no_old f (record_bytes the_end []) ≡ true
new-last f = rw (← (append-nil (record_bytes the_end []))) (new-next the_end [] [] (omega arith) (omega arith) tt (λ z. omega arith) no_more f)

new-first : (f : ℕ) (bs : List ℕ) → no_old (suc f) bs ≡ true → (kind_of bs ≢ old_rule) × (no_old f (drop (record_size bs) bs) ≡ true)
unfolding no_old
new-first f bs e =
    let t = eqb (kind_of bs) old_rule in
    let l = no_old f (drop (record_size bs) bs) in
    (eqb-false (kind_of bs) old_rule (not-true t (and_l (not t) l e)), and_r (not t) l e)

-- ---- old-kind-reads-as-new: bytes with records of old rules are read as those that have the same rules, their slots numbered

-- a record of an old rule whose words, once numbered, a record can hold
pub record Renewable (ws : List ℕ) : Type 0 where
  pub words : Words ws
  pub said : OldSize ws
  pub brief : length (renewed ws) ≤ most_written

-- one whole record, whatever its kind and its body
pub record One (r : List ℕ) : Type 0 where
  pub head : 6 ≤ length r
  pub all : record_size r ≡ length r

-- a row of records: each stays, or is an old rule and becomes a rule; from some place on all bytes may stay
pub data Renews : List ℕ → List ℕ → Type 0 where
  same : (bs : List ℕ) → Renews bs bs
  kept : (r bs cs : List ℕ) → One r → Renews bs cs → Renews (r ++ bs) (r ++ cs)
  renew : (ws bs cs : List ℕ) → Renewable ws → Renews bs cs → Renews (record_bytes old_rule ws ++ bs) (record_bytes one_rule (renewed ws) ++ cs)

-- a record that is written
pub written_one : (kind : ℕ) (ws : List ℕ) → length ws ≤ most_written → One (record_bytes kind ws)
written_one kind ws h = record { head = omega (arith, record-length kind ws); all = record-size kind ws h }

-- there is no record for more fuel than bytes
module _ (f g k last : ℕ) (p : Package) (bs : List ℕ) (h : length bs ≤ suc f) (j : length bs ≤ suc g) where
  fuel-by : (n : ℕ) → first_fault (record_demands last bs) ≡ n
      → ((k last : ℕ) (p : Package) (cs : List ℕ) → length cs ≤ f → length cs ≤ g → scan f k last p cs ≡ scan g k last p cs)
      → scan (suc f) k last p bs ≡ scan (suc g) k last p bs
  fuel-by (suc n) e r = scan-refused (suc f) k last p bs (suc n) h e (omega arith) ∙ sym (scan-refused (suc g) k last p bs (suc n) j e (omega arith))
  fuel-by zero e r =
      let t = (faultless last bs e).fits in
      let rest = drop (record_size bs) bs in
      let p' = put_words p (kind_of bs) (words_of (body_of bs)) in
      let l = length-drop (record_size bs) bs in
      sym (scan-record f k last p bs e)
      ∙ ap (λ (x : Res Refusal Package). pick (eqb (kind_of bs) the_end) (ended (suc k) p' rest) x)
      (r (suc k) (kind_of bs) p' rest (omega (arith, t.head, t.inside)) (omega (arith, t.head, t.inside)))
      ∙ scan-record g k last p bs e

fuel-none : (g k last : ℕ) (p : Package) (bs : List ℕ) → length bs ≤ 0 → scan 0 k last p bs ≡ scan g k last p bs
unfolding first_fault
fuel-none g k last p [] h =
    scan-refused 0 k last p [] wrong_order (omega arith) refl (omega arith) ∙ sym (scan-refused g k last p [] wrong_order (omega arith) refl (omega arith))
fuel-none g k last p (b ∷ bs) h = absurd (omega arith)

scan-fuel : (f g k last : ℕ) (p : Package) (bs : List ℕ) → length bs ≤ f → length bs ≤ g → scan f k last p bs ≡ scan g k last p bs
scan-fuel zero g k last p bs h j = fuel-none g k last p bs h
scan-fuel (suc f) zero k last p bs h j = sym (fuel-none (suc f) k last p bs j)
scan-fuel (suc f) (suc g) k last p bs h j = fuel-by f g k last p bs h j _ refl λ k last p cs h j. scan-fuel f g k last p cs h j

-- one record before other bytes
module _ (r x : List ℕ) (o : One r) where
  one-length : length_of (r ++ x) ≡ length_of r
  one-length = ap little (take-append-le 4 r x (omega (arith, o.head)))

  one_size : record_size (r ++ x) ≡ length r
  one_size = omega (arith, one-length, o.all)

  one-kind : kind_of (r ++ x) ≡ kind_of r
  one-kind =
      ap (λ (l : List ℕ). little (take 2 l)) (drop-append-le 4 r x (omega (arith, o.head)))
      ∙ ap little (take-append-le 2 (drop 4 r) x (omega (arith, o.head, length-drop 4 r)))

  one-body : body_of (r ++ x) ≡ body_of r
  one-body =
      let n : record_size (r ++ x) - 6 ≡ record_size r - 6 = omega (arith, one_size, o.all) in
      rw (n, drop-append-le 6 r x (omega (arith, o.head))) (take-append-le (record_size r - 6) (drop 6 r) x (omega (arith, o.all, length-drop 6 r)))

  one-rest : drop (record_size (r ++ x)) (r ++ x) ≡ x
  one-rest = drop_at r x (record_size (r ++ x)) (sym one_size)

  one-fault : (last : ℕ) → first_fault (record_demands last (r ++ x)) ≡ first_fault (later_demands last (kind_of r) (body_of r))
  one-fault last =
      let f : Fits (r ++ x) = record { head = omega (arith, one_size, o.head); inside = omega (arith, one_size, length-append r x) } in
      rw (← one-kind, ← one-body) (later-fault last (r ++ x) f)

  one-scan : (f k last : ℕ) (p : Package) → first_fault (later_demands last (kind_of r) (body_of r)) ≡ 0
      → let p' = put_words p (kind_of r) (words_of (body_of r)) in
      scan (suc f) k last p (r ++ x) ≡ pick (eqb (kind_of r) the_end) (ended (suc k) p' x) (scan f (suc k) (kind_of r) p' x)
  one-scan f k last p e = scan-parts f k last p (r ++ x) (kind_of r) (words_of (body_of r)) x (one-fault last ∙ e) one-kind (ap words_of one-body) one-rest

-- what is left goes on alike
abbrev Alike : List ℕ → List ℕ → Type 0
Alike bs cs = (f g k last : ℕ) (p : Package) → length bs ≤ f → length cs ≤ g → scan f k last p bs ≡ scan g k last p cs

ended-alike : {bs cs : List ℕ} → Renews bs cs → (k : ℕ) (p : Package) → ended k p bs ≡ ended k p cs
ended-alike (same bs) k p = refl
ended-alike (kept r bs cs o t) k p =
    ended-more k p (r ++ bs) (omega (arith, o.head, length-append r bs)) ∙ sym (ended-more k p (r ++ cs) (omega (arith, o.head, length-append r cs)))
ended-alike (renew ws bs cs w t) k p =
    let a = record_bytes old_rule ws in
    let b = record_bytes one_rule (renewed ws) in
    ended-more k p (a ++ bs) (omega (arith, record-length old_rule ws, length-append a bs))
    ∙ sym (ended-more k p (b ++ cs) (omega (arith, record-length one_rule (renewed ws), length-append b cs)))

module _ (r bs cs : List ℕ) (o : One r) (t : Renews bs cs) (i : Alike bs cs) where
  kept_by : (f g k last : ℕ) (p : Package) (n : ℕ) → first_fault (later_demands last (kind_of r) (body_of r)) ≡ n → length (r ++ bs) ≤ f → length (r ++ cs) ≤ g
      → scan f k last p (r ++ bs) ≡ scan g k last p (r ++ cs)
  kept_by zero g k last p n e h j = absurd (omega (arith, o.head, length-append r bs))
  kept_by (suc f) zero k last p n e h j = absurd (omega (arith, o.head, length-append r cs))
  kept_by (suc f) (suc g) k last p (suc n) e h j =
      scan-refused (suc f) k last p (r ++ bs) (suc n) h (one-fault r bs o last ∙ e) (omega arith)
      ∙ sym (scan-refused (suc g) k last p (r ++ cs) (suc n) j (one-fault r cs o last ∙ e) (omega arith))
  kept_by (suc f) (suc g) k last p zero e h j =
      let p' = put_words p (kind_of r) (words_of (body_of r)) in
      let a = ended-alike t (suc k) p' in
      let b = i f g (suc k) (kind_of r) p' (omega (arith, o.head, length-append r bs)) (omega (arith, o.head, length-append r cs)) in
      one-scan r bs o f k last p e ∙ cc (a, b) ∙ sym (one-scan r cs o g k last p e)

-- an old rule stands where a rule may
order_alike : (last : ℕ) → in_order last old_rule ≡ in_order last one_rule
unfolding in_order rank
order_alike last = refl

after-old : (f k : ℕ) (p : Package) (bs : List ℕ) → scan f k old_rule p bs ≡ scan f k one_rule p bs
unfolding scan in_order rank
after-old zero k p bs = refl
after-old (suc f) k p bs = refl

module _ (ws bs cs : List ℕ) (w : Renewable ws) (i : Alike bs cs) where
  abbrev a : List ℕ
  a = record_bytes old_rule ws

  abbrev b : List ℕ
  b = record_bytes one_rule (renewed ws)

  brief : length ws ≤ most_written
  brief = omega (arith, w.brief, renewed-size ws w.said, w.said)

  new-words : Words (renewed ws)
  new-words = renewed-words ws w.words (omega (arith, brief))

  old-sized : sized old_rule (word_bytes ws) ≡ true
  unfolding sized
  old-sized = rule-sized old_width ws w.words w.said

  new-sized : sized one_rule (word_bytes (renewed ws)) ≡ true
  unfolding sized
  new-sized = rule-sized item_width (renewed ws) new-words (rw (renewed-items ws (omega (arith, w.said))) (renewed-size ws w.said))

  renew-by : (f g k last : ℕ) (p : Package) (o : Bool) → in_order last one_rule ≡ o → length (a ++ bs) ≤ f → length (b ++ cs) ≤ g
      → scan f k last p (a ++ bs) ≡ scan g k last p (b ++ cs)
  unfolding known put_words
  renew-by zero g k last p o e h j = absurd (omega (arith, record-length old_rule ws, length-append a bs))
  renew-by (suc f) zero k last p o e h j = absurd (omega (arith, record-length one_rule (renewed ws), length-append b cs))
  renew-by (suc f) (suc g) k last p false e h j =
      scan-disordered old_rule ws bs (omega arith) brief w.words (suc f) k last p h refl old-sized (order_alike last ∙ e)
      ∙ sym (scan-disordered one_rule (renewed ws) cs (omega arith) w.brief new-words (suc g) k last p j refl new-sized e)
  renew-by (suc f) (suc g) k last p true e h j =
      let p' = put_words p old_rule ws in
      scan-written old_rule ws bs (omega arith) brief w.words f k last p refl old-sized (order_alike last ∙ e)
      ∙ after-old f (suc k) p' bs
      ∙ i f g (suc k) one_rule p' (omega (arith, record-length old_rule ws, length-append a bs)) (omega (arith, record-length one_rule (renewed ws), length-append b cs))
      ∙ sym (scan-written one_rule (renewed ws) cs (omega arith) w.brief new-words g k last p refl new-sized e)

alike : {bs cs : List ℕ} → Renews bs cs → Alike bs cs
alike (same bs) f g k last p h j = scan-fuel f g k last p bs h j
alike (kept r bs cs o t) f g k last p h j = kept_by r bs cs o t (λ f g k last p h j. alike t f g k last p h j) f g k last p _ refl h j
alike (renew ws bs cs w t) f g k last p h j = renew-by ws bs cs w (λ f g k last p h j. alike t f g k last p h j) f g k last p _ refl h j

-- where no record is an old rule none gives way
renews-none : {bs cs : List ℕ} → Renews bs cs → (f : ℕ) → length bs ≤ f → no_old f bs ≡ true → bs ≡ cs
renews-none (same bs) f h v = refl
renews-none (kept r bs cs o t) f h v = none f h v λ f h v. renews-none t f h v
  where
    none : (f : ℕ) → length (r ++ bs) ≤ f → no_old f (r ++ bs) ≡ true → ((f : ℕ) → length bs ≤ f → no_old f bs ≡ true → bs ≡ cs) → r ++ bs ≡ r ++ cs
    none zero h v i = absurd (omega (arith, o.head, length-append r bs))
    none (suc f) h v i =
        ap (λ (l : List ℕ). r ++ l) (i f (omega (arith, o.head, length-append r bs)) (rw (one-rest r bs o) at (new-first f (r ++ bs) v).1))
renews-none (renew ws bs cs w t) f h v = none f h v
  where
    none : (f : ℕ) → length (record_bytes old_rule ws ++ bs) ≤ f → no_old f (record_bytes old_rule ws ++ bs) ≡ true
        → record_bytes old_rule ws ++ bs ≡ record_bytes one_rule (renewed ws) ++ cs
    none zero h v = absurd (omega (arith, record-length old_rule ws, length-append (record_bytes old_rule ws) bs))
    none (suc f) h v =
        let k = row-kind old_rule ws bs (omega arith) (omega (arith, w.brief, renewed-size ws w.said, w.said)) w.words in
        absurd ((new-first f (record_bytes old_rule ws ++ bs) v).0 k)

pub no-old-same : (bs cs : List ℕ) → Renews bs cs → no_old (length bs) bs ≡ true → bs ≡ cs
no-old-same bs cs t v = renews-none t (length bs) (omega arith) v

says-alike : (bs cs : List ℕ) → Renews bs cs → says bs ≡ says cs
unfolding says
says-alike bs cs t = alike t (length bs) (length cs) 0 0 nothing (omega arith) (omega arith)

pub old-kind-reads-as-new : (bs cs : List ℕ) → Renews bs cs → (n m : ℕ) → read_gives bs n m ≡ read_gives cs n m
unfolding read_gives
old-kind-reads-as-new bs cs t n m = rw (says-alike bs cs t)
