-- What reading puts into the slices, and what the records read so far say.
use Rattle.std.proofs.Common.{◌≡◌, ◌≢◌, ℕ, zero, suc, ◌+◌, ◌-◌, ◌/◌, ◌^◌, ◌≤◌, ◌<◌, refl, sym, ap, ◌∙◌, true, List, [], ◌∷◌, ◌++◌, eqb, arith, add-one, length, get_or, take, drop, length-append, length-take, length-drop, drop-drop, eq-eqb, ne_eqb, true≢false, Result, Ok, Err, MatchResult, is_ok}
use Rattle.words.specs.Code.{code}
use Rattle.words.specs.declared.Refusal as why
use Rattle.words.specs.Counted.{counted}
use Rattle.words.specs.Numbers.{wrong_order}
use Rattle.words.specs.declared.Refusal.TheVariants.{WrongOrder}
use Rattle.words.specs.Outcome.{Res, ok, no, pick, Demand, first_fault}
use Rattle.words.proofs.Theorems.Parts.{part-all}
use Rattle.package.specs.Bytes.{little, words_of}
use Rattle.package.specs.Package.{Package, typecodes, one_rule, old_rule, statement, the_end, nothing, record_size, kind_of, body_of, sized, record_demands, Refusal, refusal, renewed, put_words, ended, scan, says}
use Rattle.package.specs.Code.{kind_number, FoundIn, Holds, Put, Stands, Takes, Small, Scanned}
use Rattle.package.specs.declared.reader.Record.{Record}
use Rattle.package.specs.declared.scan.Contents.{Contents}
use Rattle.words.specs.declared.Refused.{Refused}
use Rattle.package.proofs.Theorems.Bytes.{words-length, word_small}
use Rattle.package.proofs.Theorems.Records.{faultless, scan-record, scan-refused, ended-more}
use Rattle.package.proofs.Theorems.Few.{Few, few-more, counted-last}
use Rattle.package.proofs.Numbers.{word_at, items_at}
use Rattle.package.proofs.Ranks.{refused-some}

-- ---- words put into a slice

-- what stood at the front, and words put behind it
pub put_holds : (s s' ws vs : List ℕ) (at : ℕ) → at ≡ length ws → length s' ≡ length s → Holds s ws → Put s at vs s' → Holds s' (ws ++ vs)
put_holds s s' ws vs at e l h p r =
    let n = length-append ws vs in
    let front : take at s ≡ ws = ap (λ (k : ℕ). take k s) e ∙ h (omega arith) in
    rw (n, ← e) (p (omega arith) ∙ rw front)

-- ---- a record's words put to what was read before it

pub stands-typecodes : (p : Contents) (q : Package) (rs ss body : List ℕ) (a b : ℕ) → length body ≡ 8 → a ≡ little (take 4 body)
    → b ≡ little (take 4 (take (length body - 4) (drop 4 body))) → Stands p q rs ss
    → Stands
    (record { codes = record { provable = record { 0 = a }; logic = record { 0 = b } }; rules = p.rules; statements = p.statements; words = p.words })
    (put_words q typecodes (words_of body)) rs ss
unfolding put_words
stands-typecodes p q rs ss body a b l ea eb s = record {
  provable = ea ∙ sym (word_at (length body / 4) 0 body (omega arith));
  logic = eb ∙ ap (λ (l : List ℕ). little (take 4 l)) (part-all body 4) ∙ sym (items_at body (omega arith));
  rules = s.rules;
  statements = s.statements;
  words = s.words;
  rule-words = s.rule-words;
  statement-words = s.statement-words;
}

-- a rule's words, up to n
stands-words : (p : Contents) (q : Package) (rs ss rs' ws : List ℕ) (n : ℕ) → length rs' ≡ length rs → Put rs p.rules ws rs' → n ≡ p.rules + length ws
    → Stands p q rs ss
    → Stands
    (record { codes = p.codes; rules = n; statements = p.statements; words = p.words })
    (record { provable = q.provable; logic = q.logic; rules = q.rules ++ ws; statements = q.statements }) rs' ss
stands-words p q rs ss rs' ws n l put e s = record {
  provable = s.provable;
  logic = s.logic;
  rules = omega (arith, s.rules, length-append q.rules ws);
  statements = s.statements;
  words = s.words;
  rule-words = put_holds rs rs' q.rules ws p.rules s.rules l s.rule-words put;
  statement-words = s.statement-words;
}

pub stands-rule : (p : Contents) (q : Package) (rs ss rs' body : List ℕ) → length rs' ≡ length rs → Put rs p.rules (words_of body) rs'
    → Stands p q rs ss
    → Stands
    (record { codes = p.codes; rules = p.rules + length body / 4; statements = p.statements; words = p.words })
    (put_words q one_rule (words_of body)) rs' ss
unfolding put_words
stands-rule p q rs ss rs' body l put s = stands-words p q rs ss rs' (words_of body) (p.rules + length body / 4) l put (omega (arith, words-length body)) s

pub stands-old-rule : (p : Contents) (q : Package) (rs ss rs' body : List ℕ) (n : ℕ) → length rs' ≡ length rs
    → Put rs p.rules (renewed (words_of body)) rs' × (n ≡ p.rules + length (renewed (words_of body))) → Stands p q rs ss
    → Stands
    (record { codes = p.codes; rules = n; statements = p.statements; words = p.words })
    (put_words q old_rule (words_of body)) rs' ss
unfolding put_words
stands-old-rule p q rs ss rs' body n l put s = stands-words p q rs ss rs' (renewed (words_of body)) n l put.0 put.1 s

-- the slice before, with the count, and with the tokens too
pub stands-statement : (p : Contents) (q : Package) (rs ss ss₁ ss₂ body : List ℕ) → length ss₁ ≡ length ss → length ss₂ ≡ length ss₁
    → Put ss p.words (length body / 4 ∷ []) ss₁ → Put ss₁ (p.words + 1) (words_of body) ss₂ → Stands p q rs ss
    → Stands
    (record { codes = p.codes; rules = p.rules; statements = p.statements + 1; words = p.words + 1 + length body / 4 })
    (put_words q statement (words_of body)) rs ss₂
unfolding put_words
stands-statement p q rs ss ss₁ ss₂ body l₁ l₂ put₁ put₂ s =
    let ws = words_of body in
    let n = words-length body in
    let cs = counted q.statements in
    let last = counted-last q.statements ws in
    let at : p.words + 1 ≡ length (cs ++ length ws ∷ []) = omega (arith, s.words, length-append cs (length ws ∷ [])) in
    let one : Holds ss₁ (cs ++ length ws ∷ []) =
    put_holds ss ss₁ cs (length ws ∷ []) p.words s.words l₁ s.statement-words (rw n put₁) in
    record {
      provable = s.provable;
      logic = s.logic;
      rules = s.rules;
      statements = omega (arith, s.statements, length-append q.statements (ws ∷ []));
      words = rw last (omega (arith, at, length-append (cs ++ length ws ∷ []) ws));
      rule-words = s.rule-words;
      statement-words = rw last (put_holds ss₁ ss₂ (cs ++ length ws ∷ []) ws (p.words + 1) at l₂ one put₂);
    }

-- ---- the records one after another

-- what is found, with the place of a refusal
pub found_ok : (ds : List Demand) (bs : List ℕ) (r : Result Record why.Refusal) (m : Result Record Refused) (x : Record) (Q : why.Refusal → Type 0) → FoundIn ds bs r
    → m ≡ Ok x → MatchResult r (λ y. m ≡ Ok y) Q → is_ok m ≡ is_ok r → FoundIn ds bs (Ok x)
found_ok ds bs (Ok y) m x Q f e g v = let z : x ≡ y = cc in rw z f
found_ok ds bs (Err d) m x Q f e g v = absurd (true≢false (ap is_ok (sym e) ∙ v))

pub found_err : (ds : List Demand) (bs : List ℕ) (r : Result Record why.Refusal) (y : Refused) (k : ℕ) (P : Record → Type 0) (Q : why.Refusal → Type 0) → FoundIn ds bs r
    → MatchResult r P Q → is_ok {T = Record} (Err y) ≡ is_ok r → ((e : why.Refusal) → Q e → y ≡ record { why = e; place = k })
    → (code y.why ≡ first_fault ds) × (y.place ≡ k)
found_err ds bs (Ok x) y k P Q f g v w = absurd (true≢false (sym v))
found_err ds bs (Err d) y k P Q f g v w = rw (w d g) (f, refl)

-- what a record that is found at `at` teaches
pub record Next (bs : List ℕ) (at last kind size : ℕ) : Type 0 where
  pub faultless : first_fault (record_demands last (drop at bs)) ≡ 0
  pub kind-is : kind_of (drop at bs) ≡ kind
  pub size_is : record_size (drop at bs) ≡ size
  pub head : 6 ≤ size
  pub end : at + size ≤ length bs
  pub body : take (at + size - (at + 6)) (drop (at + 6) bs) ≡ body_of (drop at bs)
  pub body-sized : sized kind (body_of (drop at bs)) ≡ true

pub found-next : (bs bs' : List ℕ) (at last : ℕ) (r : Record) → bs' ≡ bs → FoundIn (record_demands last (drop at bs')) (drop at bs') (Ok r)
    → Next bs at last (kind_number r.kind) r.size
found-next bs bs' at last r same found =
    let e : FoundIn (record_demands last (drop at bs)) (drop at bs) (Ok r) = rw same at found in
    let f = faultless last (drop at bs) e.0 in
    let h : 6 ≤ r.size = omega (arith, f.fits.head, e.2) in
    let m : at + r.size - (at + 6) ≡ r.size - 6 = omega arith in
    record {
      faultless = e.0;
      kind-is = sym e.1;
      size_is = sym e.2;
      head = h;
      end = omega (arith, f.fits.inside, e.2, h, length-drop at bs);
      body = rw (m, ← (drop-drop 6 at bs), e.2) refl;
      body-sized = rw e.1 f.body-sized;
    }

-- k records are read, up to `at`, the last of the kind `last`; at most f are left
pub record Underway (bs : List ℕ) (p : Contents) (at last k : ℕ) (rs ss : List ℕ) : Type 0 where
  pub f : ℕ
  pub q : Package
  pub stands : Stands p q rs ss
  pub goes : pick (eqb last the_end) (ended k q (drop at bs)) (scan f k last q (drop at bs)) ≡ says bs
  pub enough : length bs ≤ at + f
  pub inside : at ≤ length bs
  pub records : k ≤ at
  pub few : Few q at

abbrev pub none_read : Contents
none_read = record { codes = record { provable = record { 0 = 0 }; logic = record { 0 = 0 } }; rules = 0; statements = 0; words = 0 }

pub underway : (bs rs ss : List ℕ) → Underway bs none_read 0 0 0 rs ss
unfolding says counted
underway bs rs ss = record {
  f = length bs;
  q = nothing;
  stands = record {
    provable = refl;
    logic = refl;
    rules = refl;
    statements = refl;
    words = refl;
    rule-words = λ h. refl;
    statement-words = λ h. refl;
  };
  goes = refl;
  enough = omega arith;
  inside = omega arith;
  records = omega arith;
  few = record { rules = omega arith; statements = omega arith; words = omega arith };
}

-- before the end the records that are left decide
goes_on : (bs : List ℕ) (p : Contents) (at last k : ℕ) (rs ss : List ℕ) → (u : Underway bs p at last k rs ss) → last ≢ the_end
    → scan u.f k last u.q (drop at bs) ≡ says bs
goes_on bs p at last k rs ss u z = rw (ne_eqb last the_end z) at u.goes

pub underway-refused : (bs : List ℕ) (p : Contents) (at last k : ℕ) (rs ss : List ℕ) (y : Refused)
    → Underway bs p at last k rs ss → last ≢ the_end → (code y.why ≡ first_fault (record_demands last (drop at bs))) × (y.place ≡ k)
    → Scanned (says bs) (Err y) rs ss
underway-refused bs p at last k rs ss y u z e =
    let s : says bs ≡ no (refusal (code y.why) k) =
    sym (goes_on bs p at last k rs ss u z)
    ∙ scan-refused u.f k last u.q (drop at bs) (code y.why) (omega (arith, u.enough, length-drop at bs)) (sym e.0) (refused-some y.why) in
    rw s (refl, e.1)

scan-more : (f k last : ℕ) (q : Package) (bs : List ℕ) (kind size : ℕ) (x : Res Refusal Package) → scan f k last q bs ≡ x → 1 ≤ f
    → first_fault (record_demands last bs) ≡ 0 → kind_of bs ≡ kind → record_size bs ≡ size
    → let q' = put_words q kind (words_of (body_of bs)) in
    pick (eqb kind the_end) (ended (k + 1) q' (drop size bs)) (scan (f - 1) (k + 1) kind q' (drop size bs)) ≡ x
scan-more zero k last q bs kind size x e h n i j = absurd (omega arith)
scan-more (suc f) k last q bs kind size x e h n i j =
    let one : suc f - 1 ≡ f = omega arith in
    rw (one, add-one k, ← i, ← j) (scan-record f k last q bs n ∙ e)

pub underway-more : (bs : List ℕ) (p : Contents) (at last k : ℕ) (rs ss : List ℕ) (kind size : ℕ) (r : Contents) (rs' ss' : List ℕ)
    → Underway bs p at last k rs ss → last ≢ the_end → Next bs at last kind size
    → Takes p kind (take (at + size - (at + 6)) (drop (at + 6) bs)) r rs ss rs' ss' → Underway bs r (at + size) kind (k + 1) rs' ss'
underway-more bs p at last k rs ss kind size r rs' ss' u z n t =
    let g = goes_on bs p at last k rs ss u z in
    let h = n.head in
    let i = n.end in
    record {
      f = u.f - 1;
      q = put_words u.q kind (words_of (body_of (drop at bs)));
      stands = rw (← n.body) (t u.q u.stands);
      goes = rw (← (drop-drop size at bs)) (scan-more u.f k last u.q (drop at bs) kind size (says bs) g (omega (arith, u.enough)) n.faultless n.kind-is n.size_is);
      enough = omega (arith, u.enough);
      inside = i;
      records = omega (arith, u.records);
      few = few-more u.q kind (body_of (drop at bs)) at size u.few (omega (arith, length-take (record_size (drop at bs) - 6) (drop 6 (drop at bs)), n.size_is));
    }

ended-all : (k : ℕ) (q : Package) (bs : List ℕ) → length bs ≤ 0 → ended k q bs ≡ ok q
unfolding ended
ended-all k q [] h = refl
ended-all k q (b ∷ bs) h = absurd (omega arith)

-- after the end record no byte may be left
at-end : (bs : List ℕ) (p : Contents) (at last k : ℕ) (rs ss : List ℕ) → (u : Underway bs p at last k rs ss) → last ≡ the_end
    → ended k u.q (drop at bs) ≡ says bs
at-end bs p at last k rs ss u z = rw (eq-eqb last the_end z) at u.goes

pub underway-left : (bs : List ℕ) (p : Contents) (at last k : ℕ) (rs ss : List ℕ) → Underway bs p at last k rs ss → last ≡ the_end
    → at < length bs → Scanned (says bs) (Err (record { why = WrongOrder; place = k })) rs ss
underway-left bs p at last k rs ss u z h =
    let s : says bs ≡ no (refusal wrong_order k) =
    sym (at-end bs p at last k rs ss u z) ∙ ended-more k u.q (drop at bs) (omega (arith, length-drop at bs)) in
    rw s (refl, refl)

pub underway-done : (bs : List ℕ) (p : Contents) (at last k : ℕ) (rs ss : List ℕ) → Underway bs p at last k rs ss → last ≡ the_end → length bs ≤ at
    → Scanned (says bs) (Ok p) rs ss
underway-done bs p at last k rs ss u z h =
    let s : says bs ≡ ok u.q =
    sym (at-end bs p at last k rs ss u z) ∙ ended-all k u.q (drop at bs) (omega (arith, length-drop at bs)) in
    rw s u.stands

pub underway-small : (bs : List ℕ) (p : Contents) (at last k : ℕ) (rs ss : List ℕ) → Underway bs p at last k rs ss → length bs < 2 ^ 63 → Small p
underway-small bs p at last k rs ss u h =
    let s = u.stands in
    let f = u.few in
    record {
      rules = omega (arith, u.inside, s.rules, f.rules);
      statements = omega (arith, u.inside, s.statements, f.statements);
      words = omega (arith, u.inside, s.words, f.words);
    }

pub body-short : (bs : List ℕ) (at last kind size : ℕ) → Next bs at last kind size → ((i : ℕ) → get_or bs i 0 < 256)
    → length (take (at + size - (at + 6)) (drop (at + 6) bs)) < 2 ^ 32
body-short bs at last kind size n b =
    let w = word_small bs at (omega (arith, n.head, n.end)) b in
    omega (arith, w, n.head, n.size_is, length-take (at + size - (at + 6)) (drop (at + 6) bs))
