-- What is written is read back, and what was read is written again.
use Rattle.std.specs.Prelude.{ℕ, zero, suc, ◌+◌, ◌*◌, ◌-◌, ◌%◌, ◌≤◌, ◌<◌, ◌^◌, ◌≡◌, refl, Bool, not, ◌&&◌, List, [], ◌∷◌, ◌++◌, ◌≢◌, eqb, ltb, leb, length, get_or, take, drop}
use Rattle.std.proofs.Common.{sym, ap, ◌∙◌, append_assoc, append-nil, arith, length-append, take-append-drop, take_at, drop_at, length-take-le, get_or-take}
use Rattle.std.proofs.Math.Bool.{true, false}
use Rattle.std.proofs.lemmas.Bool.{false≢true}
use Rattle.std.proofs.Math.Seq.{take-append-add}
use borrow.Author.Tests.{ltb-false, leb-true, le-ltb, le-leb, eq-eqb, ne_eqb, eqb-true, eqb-false, not-true}
use Rattle.words.specs.Limits.{most_symbol, most_items, most_rules}
use Rattle.words.specs.Counted.{counted}
use Rattle.words.specs.Outcome.{ok, pick, first_fault}
use Rattle.words.proofs.Theorems.Tests.{and_l, and_r}
use Rattle.rules.specs.Rules.{item_width, size_of, rest_of, symbol, third, good_items, good_rule, good_rules, rules_good}
use Rattle.rules.proofs.Theorems.Every.{all_append, chain-at}
use Rattle.rules.proofs.Theorems.Words.{GoodRule, good-rule, rules-good}
use Rattle.package.specs.Bytes.{words_of, word_bytes}
use Rattle.package.specs.Package.{Package, nothing, typecodes, one_rule, statement, the_end, old_rule, old_width, record_size, kind_of, body_of, record_demands, known, sized, rank, in_order, renewed, put_words, ended, scan, says, record_bytes, rule_records, statement_records, written, most_written, short}
use Rattle.package.proofs.Theorems.Bytes.{Octets, Words, all_split, all-parts, words-bytes, words-length, words_small}
use Rattle.package.proofs.Theorems.Records.{Fits, Faultless, faultless, record-back, record-brief, record-length, rule-sized, rule-size, typecodes-sized, scan-parts, scan-clear, scan-written, ended-ok}
use Rattle.package.proofs.Theorems.Old.{no_old, new-next, new-last, OldSize, renewed-size, renewed-items, Renews, same, kept, renew, written_one}
use Rattle.package.proofs.Theorems.Lengths.{brief-first, package-parts}

-- rules and statements put to what was read before them
abbrev more : Package → List ℕ → List (List ℕ) → Package
more p ws ls = record { provable = p.provable; logic = p.logic; rules = p.rules ++ ws; statements = p.statements ++ ls }

abbrev after : List (List ℕ) → List ℕ
after ls = statement_records ls ++ record_bytes the_end []

-- ---- the words of good rules are words

symbol-small : (x : ℕ) → symbol x ≡ true → x < 2 ^ 32
unfolding symbol
symbol-small x e = omega (arith, leb-true x most_symbol (and_r (not (ltb x 1)) (leb x most_symbol) e))

third-small : (k v : ℕ) → third k v ≡ true → v < 2 ^ 32
unfolding third
third-small zero v e = omega (arith, eqb-true v 0 e)
third-small (suc k) v e = symbol-small v e

items-small : (ws : List ℕ) → good_items ws ≡ true → Words ws
unfolding good_items
items-small [] e = tt
items-small (k ∷ []) e = absurd (false≢true e)
items-small (k ∷ s ∷ []) e = absurd (false≢true e)
items-small (k ∷ s ∷ v ∷ ws) e =
    let c = chain-at (not (ltb 1 k)) (symbol s ∷ third k v ∷ good_items ws ∷ []) e in
    let h = ltb-false 1 k (not-true (ltb 1 k) (c 0)) in
    (omega arith, (symbol-small s (c 1), (third-small k v (c 2), items-small ws (c 3))))

-- the rule that stands first
first_small : (ws : List ℕ) → GoodRule ws → Words (take (size_of ws) ws)
first_small [] g = absurd (omega (arith, g.two))
first_small (a ∷ []) g = absurd (omega (arith, g.two))
first_small (a ∷ b ∷ ws) g =
    let e : size_of (a ∷ b ∷ ws) - 2 ≡ item_width * b = omega arith in
    rw (take-append-add (a ∷ b ∷ []) ws (item_width * b))
    (symbol-small a g.result, (omega (arith, g.few), items-small (take (item_width * b) ws) (rw e at g.items)))

-- ---- written, then read

in_order_lem : (last kind : ℕ) → 1 ≤ last → last ≤ kind → kind ≢ typecodes → kind ≤ the_end → in_order last kind ≡ true
unfolding in_order rank
in_order_lem last kind a b c d =
    rw (ne_eqb last 0 (λ e. omega arith), ne_eqb kind typecodes c, ne_eqb last old_rule (λ e. omega arith), ne_eqb kind old_rule (λ e. omega arith), le-leb last kind b)

-- a record before the end
scan-next : (kind : ℕ) (ws rest : List ℕ) (f m last : ℕ) (q : Package) → kind ≢ the_end → kind < 2 ^ 16 → length ws ≤ most_written → Words ws → 1 ≤ f
    → known kind ≡ true → sized kind (word_bytes ws) ≡ true → in_order last kind ≡ true
    → scan f m last q (record_bytes kind ws ++ rest) ≡ scan (f - 1) (suc m) kind (put_words q kind ws) rest
scan-next kind ws rest zero m last q z k n w h a b c = absurd (omega arith)
scan-next kind ws rest (suc f) m last q z k n w h a b c =
    let e : suc f - 1 ≡ f = omega arith in
    rw (e, scan-written kind ws rest k n w f m last q a b c, ne_eqb kind the_end z)

scan-end : (f m last : ℕ) (q : Package) → 1 ≤ last → last ≤ the_end → 1 ≤ f → scan f m last q (record_bytes the_end []) ≡ ok q
unfolding known sized word_bytes put_words ended
scan-end zero m last q a b h = absurd (omega arith)
scan-end (suc f) m last q a b h =
    ap (λ (l : List ℕ). scan (suc f) m last q l) (sym (append-nil (record_bytes the_end [])))
    ∙ scan-written the_end [] [] (omega arith) (omega arith) tt f m last q refl refl (in_order_lem last the_end a b (λ e. omega arith) (omega arith))

scan-statements : (ls : List (List ℕ)) (f m last : ℕ) (q : Package) → 1 ≤ last → last ≤ statement → short ls ≡ true → Words (counted ls)
    → length (after ls) ≤ f → scan f m last q (after ls) ≡ ok (more q [] ls)
unfolding known sized put_words statement_records counted
scan-statements [] f m last q a b s w h =
    scan-end f m last q a (omega arith) (omega (arith, record-length the_end []))
    ∙ ap ok (λ i. record { provable = q.provable; logic = q.logic; rules = sym (append-nil q.rules) i; statements = sym (append-nil q.statements) i })
scan-statements (l ∷ ls) f m last q a b s w h =
    let n = brief-first l ls s in
    let v = all_split (λ x. x < 2 ^ 32) l (counted ls) w.1 in
    let e = append_assoc (record_bytes statement l) (statement_records ls) (record_bytes the_end []) in
    let k = length-append (record_bytes statement l) (after ls) in
    let c = record-length statement l in
    let j = ap length e in
    ap (λ (x : List ℕ). scan f m last q x) e
    ∙ scan-next statement l (after ls) f m last q (λ z. omega arith) (omega arith) n.0 v.0 (omega arith) refl
    (eq-eqb (length (word_bytes l) % 4) 0 (omega (arith, words-bytes l))) (in_order_lem last statement a b (λ z. omega arith) (omega arith))
    ∙ scan-statements ls (f - 1) (suc m) statement (put_words q statement l) (omega arith) (omega arith) n.1 v.1 (omega arith)
    ∙ ap (λ (x : List (List ℕ)). ok (record { provable = q.provable; logic = q.logic; rules = q.rules ++ []; statements = x })) (append_assoc q.statements (l ∷ []) ls)

first-sized : (ws : List ℕ) → GoodRule ws → let r = take (size_of ws) ws in (length r ≡ size_of ws) × (length r ≡ size_of r)
first-sized ws g =
    let n = length-take-le (size_of ws) ws g.fits in
    (n, omega (arith, n, get_or-take (size_of ws) ws 1 0 (omega (arith, g.filled))))

scan-rules : (n : ℕ) (ws : List ℕ) (ls : List (List ℕ)) (f m last : ℕ) (q : Package) → 1 ≤ last → last ≤ one_rule → good_rules 0 n ws ≡ true
    → short ls ≡ true → Words (counted ls) → length (rule_records n ws ++ after ls) ≤ f → scan f m last q (rule_records n ws ++ after ls) ≡ ok (more q ws ls)
unfolding known sized put_words rule_records good_rules
scan-rules zero [] ls f m last q a b g s w h = scan-statements ls f m last q a (omega arith) s w h
scan-rules zero (v ∷ ws) ls f m last q a b g s w h = absurd (false≢true g)
scan-rules (suc n) [] ls f m last q a b g s w h = scan-statements ls f m last q a (omega arith) s w h
scan-rules (suc n) (v ∷ ws) ls f m last q a b g s w h =
    let all = v ∷ ws in
    let r = take (size_of all) all in
    let good = good-rule 0 all (and_l _ (good_rules 0 n (rest_of all)) g) in
    let small = first_small all good in
    let size = first-sized all good in
    let e = append_assoc (record_bytes one_rule r) (rule_records n (rest_of all)) (after ls) in
    let k = length-append (record_bytes one_rule r) (rule_records n (rest_of all) ++ after ls) in
    let c = record-length one_rule r in
    let j = ap length e in
    ap (λ (x : List ℕ). scan f m last q x) e
    ∙ scan-next one_rule r (rule_records n (rest_of all) ++ after ls) f m last q (λ z. omega arith) (omega arith) (omega (arith, size.0, good.few)) small (omega arith) refl
    (rule-sized item_width r small size.1) (in_order_lem last one_rule a b (λ z. omega arith) (omega arith))
    ∙ scan-rules n (rest_of all) ls (f - 1) (suc m) one_rule (put_words q one_rule r) (omega arith) (omega arith) (and_r (good_rule 0 all) _ g) s w (omega arith)
    ∙ ap (λ (x : List ℕ). ok (record { provable = q.provable; logic = q.logic; rules = x; statements = q.statements ++ ls }))
    (append_assoc q.rules r (rest_of all) ∙ ap (λ (x : List ℕ). q.rules ++ x) (take-append-drop (size_of all) all))

codes-small : (p l : ℕ) (ws : List ℕ) → rules_good p l ws ≡ true → Words (p ∷ l ∷ [])
unfolding rules_good
codes-small p l ws e =
    let a : symbol p ≡ true = search (and_l, and_r) in
    let b : symbol l ≡ true = search (and_l, and_r) in
    (symbol-small p a, (symbol-small l b, tt))

pub says-written : (q : Package) → rules_good q.provable q.logic q.rules ≡ true → short q.statements ≡ true → Words (counted q.statements)
    → says (written q) ≡ ok q
unfolding says known sized word_bytes in_order put_words
says-written q g s w =
    let codes = q.provable ∷ q.logic ∷ [] in
    let rest = rule_records most_rules q.rules ++ after q.statements in
    let e = package-parts q in
    let k = length-append (record_bytes typecodes codes) rest in
    let c = record-length typecodes codes in
    let j = ap length e in
    ap (λ (x : List ℕ). scan (length (written q)) 0 0 nothing x) e
    ∙ scan-next typecodes codes rest (length (written q)) 0 0 nothing (λ z. omega arith) (omega arith) (omega arith) (codes-small q.provable q.logic q.rules g) (omega arith)
    refl (eq-eqb (length (word_bytes codes)) 8 (words-bytes codes)) refl
    ∙ scan-rules most_rules q.rules q.statements (length (written q) - 1) 1 typecodes (put_words nothing typecodes codes) (omega arith) (omega arith)
    (rules-good q.provable q.logic q.rules g) s w (omega arith)

-- ---- no old rule is written

new-statements : (ls : List (List ℕ)) → short ls ≡ true → Words (counted ls) → (f : ℕ) → no_old f (after ls) ≡ true
unfolding statement_records counted
new-statements [] s w f = new-last f
new-statements (l ∷ ls) s w f =
    let n = brief-first l ls s in
    let v = all_split (λ x. x < 2 ^ 32) l (counted ls) w.1 in
    rw (append_assoc (record_bytes statement l) (statement_records ls) (record_bytes the_end []))
    (new-next statement l (after ls) (omega arith) n.0 v.0 (λ z. omega arith) (new-statements ls n.1 v.1) f)

new-rules : (n : ℕ) (ws : List ℕ) (ls : List (List ℕ)) → good_rules 0 n ws ≡ true → short ls ≡ true → Words (counted ls)
    → (f : ℕ) → no_old f (rule_records n ws ++ after ls) ≡ true
unfolding rule_records good_rules
new-rules zero [] ls g s w f = new-statements ls s w f
new-rules zero (v ∷ ws) ls g s w f = absurd (false≢true g)
new-rules (suc n) [] ls g s w f = new-statements ls s w f
new-rules (suc n) (v ∷ ws) ls g s w f =
    let all = v ∷ ws in
    let r = take (size_of all) all in
    let good = good-rule 0 all (and_l _ (good_rules 0 n (rest_of all)) g) in
    rw (append_assoc (record_bytes one_rule r) (rule_records n (rest_of all)) (after ls))
    (new-next one_rule r (rule_records n (rest_of all) ++ after ls) (omega arith) (omega (arith, (first-sized all good).0, good.few)) (first_small all good) (λ z. omega arith)
    (new-rules n (rest_of all) ls (and_r (good_rule 0 all) _ g) s w) f)

pub written_new : (q : Package) → rules_good q.provable q.logic q.rules ≡ true → short q.statements ≡ true → Words (counted q.statements)
    → (f : ℕ) → no_old f (written q) ≡ true
written_new q g s w f =
    rw (package-parts q)
    (new-next typecodes (q.provable ∷ q.logic ∷ []) _ (omega arith) (omega arith) (codes-small q.provable q.logic q.rules g) (λ z. omega arith)
    (new-rules most_rules q.rules q.statements (rules-good q.provable q.logic q.rules g) s w) f)

-- ---- read, then written

order_is : (last kind : ℕ) → 1 ≤ last → in_order last kind ≡ true → (kind ≢ typecodes) × (rank last ≤ rank kind)
unfolding in_order
order_is last kind h e =
    let t = not (eqb kind typecodes) in
    let l = leb (rank last) (rank kind) in
    let o : t && l ≡ true = rw (ne_eqb last 0 (λ z. omega arith)) at e in
    (eqb-false kind typecodes (not-true (eqb kind typecodes) (and_l t l o)), leb-true (rank last) (rank kind) (and_r t l o))

-- no rule after a statement, and no old one
rule-early : (last : ℕ) → rank last ≤ one_rule → last ≢ statement
unfolding rank
rule-early last h e = let z : statement ≤ one_rule = rw e at h in omega arith

known_is : (kind : ℕ) → known kind ≡ true → (1 ≤ kind) × (kind ≤ old_rule)
unfolding known
known_is kind e =
    let a = and_l (not (ltb kind typecodes)) (leb kind old_rule) e in
    let b = and_r (not (ltb kind typecodes)) (leb kind old_rule) e in
    (ltb-false kind typecodes (not-true (ltb kind typecodes) a), leb-true kind old_rule b)

-- bytes that start with a record of a kind, its words, and what follows it
record Row (bs : List ℕ) (kind : ℕ) (ws rest : List ℕ) : Type 0 where
  same : record_bytes kind ws ++ rest ≡ bs
  brief : length ws ≤ most_written
  octets : Octets rest

row : (bs : List ℕ) (kind : ℕ) → Fits bs → Octets bs → kind_of bs ≡ kind → length (body_of bs) % 4 ≡ 0
    → Row bs kind (words_of (body_of bs)) (drop (record_size bs) bs)
row bs kind f a e m = record {
  same = rw (← e) (record-back bs f m a);
  brief = record-brief bs f m a;
  octets = (all-parts (λ b. b < 256) (record_size bs) bs a).1;
}

-- what is left after a record of the kind `last`, read, and put to p
record Rest (p : Package) (last : ℕ) (bs : List ℕ) (q : Package) : Type 0 where
  ws : List ℕ
  ls : List (List ℕ)
  said : q ≡ more p ws ls
  brief : short ls ≡ true
  small : Words (counted ls)
  rows : (n : ℕ) → good_rules 0 n ws ≡ true → Renews bs (rule_records n ws ++ after ls)
  late : last ≡ statement → ws ≡ []

no-rules : (n : ℕ) → rule_records n [] ≡ []
unfolding rule_records
no-rules zero = refl
no-rules (suc n) = refl

rest_end : (p : Package) (last : ℕ) (bs : List ℕ) → record_bytes the_end [] ≡ bs → Rest p last bs p
unfolding statement_records short counted
rest_end p last bs e = record {
  ws = [];
  ls = [];
  said = λ i. record { provable = p.provable; logic = p.logic; rules = sym (append-nil p.rules) i; statements = sym (append-nil p.statements) i };
  brief = refl;
  small = tt;
  rows = λ n g. rw (no-rules n, e) (same bs);
  late = λ z. refl;
}

-- a rule that has the size that it says stands before other words
record First (n : ℕ) (r ws : List ℕ) : Type 0 where
  k : ℕ
  few : length r ≤ 2 + item_width * most_items
  good : good_rules 0 k ws ≡ true
  rows : record_bytes one_rule r ++ rule_records k ws ≡ rule_records n (r ++ ws)

first-rule : (n : ℕ) (r ws : List ℕ) → 2 ≤ length r → length r ≡ size_of r → good_rules 0 n (r ++ ws) ≡ true → First n r ws
unfolding good_rules rule_records
first-rule n [] ws h e g = absurd (omega arith)
first-rule n (a ∷ []) ws h e g = absurd (omega arith)
first-rule zero (a ∷ b ∷ r) ws h e g = absurd (false≢true g)
first-rule (suc n) (a ∷ b ∷ r) ws h e g =
    let all = a ∷ b ∷ r in
    let t : take (size_of all) (all ++ ws) ≡ all = take_at all ws (size_of all) e in
    let d : drop (size_of all) (all ++ ws) ≡ ws = drop_at all ws (size_of all) e in
    record {
      k = n;
      few = omega (arith, e, (good-rule 0 (all ++ ws) (and_l _ (good_rules 0 n (rest_of (all ++ ws))) g)).few);
      good = rw d at (and_r (good_rule 0 (all ++ ws)) (good_rules 0 n (rest_of (all ++ ws))) g);
      rows = cc (t, d);
    }

rest-rule : (p q : Package) (last : ℕ) (bs r rest : List ℕ) → Row bs one_rule r rest → 2 ≤ length r → length r ≡ size_of r → last ≢ statement
    → Rest (put_words p one_rule r) one_rule rest q → Rest p last bs q
unfolding put_words
rest-rule p q last bs r rest w h e o t = record {
  ws = r ++ t.ws;
  ls = t.ls;
  said = t.said ∙ ap (λ (x : List ℕ). record { provable = p.provable; logic = p.logic; rules = x; statements = p.statements ++ t.ls }) (append_assoc p.rules r t.ws);
  brief = t.brief;
  small = t.small;
  rows = λ n g. let f = first-rule n r t.ws h e g in
      rw (← w.same, ← f.rows, append_assoc (record_bytes one_rule r) (rule_records f.k t.ws) (after t.ls))
      (kept (record_bytes one_rule r) rest (rule_records f.k t.ws ++ after t.ls) (written_one one_rule r w.brief) (t.rows f.k f.good));
  late = λ z. absurd (o z);
}

rest-old : (p q : Package) (last : ℕ) (bs r rest : List ℕ) → Row bs old_rule r rest → Words r → OldSize r → last ≢ statement
    → Rest (put_words p old_rule r) old_rule rest q → Rest p last bs q
unfolding put_words
rest-old p q last bs r rest w v e o t =
    let n = renewed-size r e in
    let i = renewed-items r (omega arith) in
    record {
      ws = renewed r ++ t.ws;
      ls = t.ls;
      said = t.said ∙ ap (λ (x : List ℕ). record { provable = p.provable; logic = p.logic; rules = x; statements = p.statements ++ t.ls }) (append_assoc p.rules (renewed r) t.ws);
      brief = t.brief;
      small = t.small;
      rows = λ k g. let f = first-rule k (renewed r) t.ws (omega arith) (omega arith) g in
          rw (← w.same, ← f.rows, append_assoc (record_bytes one_rule (renewed r)) (rule_records f.k t.ws) (after t.ls))
          (renew r rest (rule_records f.k t.ws ++ after t.ls) (record { words = v; said = e; brief = omega (arith, f.few) }) (t.rows f.k f.good));
      late = λ z. absurd (o z);
    }

rest-statement : (p q : Package) (last : ℕ) (bs l rest : List ℕ) → Row bs statement l rest → Words l → Rest (put_words p statement l) statement rest q → Rest p last bs q
unfolding put_words statement_records short counted good_rules rule_records
rest-statement p q last bs l rest w v t =
    let z = t.late refl in
    let k : Renews rest (after t.ls) = rw z at (t.rows 0) refl in
    record {
      ws = [];
      ls = l ∷ t.ls;
      said = t.said ∙ λ i. record { provable = p.provable; logic = p.logic; rules = p.rules ++ z i; statements = append_assoc p.statements (l ∷ []) t.ls i };
      brief = rw (le-ltb most_written (length l) w.brief, t.brief);
      small = (omega (arith, w.brief), all_append (λ x. x < 2 ^ 32) l (counted t.ls) v t.small);
      rows = λ n g. rw (no-rules n, ← w.same, append_assoc (record_bytes statement l) (statement_records t.ls) (record_bytes the_end []))
          (kept (record_bytes statement l) rest (after t.ls) (written_one statement l w.brief) k);
      late = λ z. refl;
    }

-- bodies of the right size
rule-body : (body : List ℕ) → sized one_rule body ≡ true
    → (2 ≤ length (words_of body)) × (length (words_of body) ≡ size_of (words_of body)) × (length body % 4 ≡ 0)
unfolding sized
rule-body body e =
    let s = rule-size item_width body e in
    let n = words-length body in
    (omega (arith, s.0), omega (arith, s.1), omega (arith, s.1))

old-body : (body : List ℕ) → sized old_rule body ≡ true → OldSize (words_of body) × (length body % 4 ≡ 0)
unfolding sized
old-body body e =
    let s = rule-size old_width body e in
    let n = words-length body in
    (omega (arith, s.1), omega (arith, s.1))

statement-body : (body : List ℕ) → sized statement body ≡ true → length body % 4 ≡ 0
unfolding sized
statement-body body e = eqb-true (length body % 4) 0 e

end_body : (body : List ℕ) → sized the_end body ≡ true → length body ≡ 0
unfolding sized
end_body body e = eqb-true (length body) 0 e

no_words : (ws : List ℕ) → length ws ≡ 0 → ws ≡ []
no_words [] h = refl
no_words (w ∷ ws) h = absurd (omega arith)

between : (kind : ℕ) → (1 ≤ kind) × (kind ≤ old_rule) → kind ≢ typecodes → kind ≢ the_end → kind ≢ one_rule → kind ≢ old_rule → kind ≡ statement
between zero b x y z o = absurd (omega (arith, b.0))
between (suc zero) b x y z o = absurd (x refl)
between (suc (suc zero)) b x y z o = absurd (z refl)
between (suc (suc (suc zero))) b x y z o = refl
between (suc (suc (suc (suc zero)))) b x y z o = absurd (y refl)
between (suc (suc (suc (suc (suc zero))))) b x y z o = absurd (o refl)
between (suc (suc (suc (suc (suc (suc n)))))) b x y z o = absurd (omega (arith, b.1))

-- the record that stands first, by its kind
module _ (f k last : ℕ) (p q : Package) (bs : List ℕ) (a : Octets bs) (z : first_fault (record_demands last bs) ≡ 0) (e : scan (suc f) k last p bs ≡ ok q) where
  abbrev ws : List ℕ
  ws = words_of (body_of bs)

  abbrev rest : List ℕ
  rest = drop (record_size bs) bs

  c : Faultless last bs
  c = faultless last bs z

  goes : (kind : ℕ) → kind_of bs ≡ kind → pick (eqb kind the_end) (ended (suc k) (put_words p kind ws) rest) (scan f (suc k) kind (put_words p kind ws) rest) ≡ ok q
  goes kind h = sym (scan-parts f k last p bs kind ws rest z h refl refl) ∙ e

  at-end : kind_of bs ≡ the_end → Rest p last bs q
  unfolding put_words
  at-end h =
      let n = end_body (body_of bs) (rw h at c.body-sized) in
      let d = ended-ok (suc k) p q rest (goes the_end h) in
      let v = no_words ws (omega (arith, n, words-length (body_of bs))) in
      let r = row bs the_end c.fits a h (omega (arith, n)) in
      rw d.1 (rest_end p last bs (sym (append-nil (record_bytes the_end [])) ∙ cc (v, d.0, r.same)))

  at-rule : kind_of bs ≡ one_rule → last ≢ statement → (Octets rest → (p : Package) → scan f (suc k) one_rule p rest ≡ ok q → Rest p one_rule rest q) → Rest p last bs q
  at-rule h o i =
      let n = rule-body (body_of bs) (rw h at c.body-sized) in
      let r = row bs one_rule c.fits a h n.2 in
      rest-rule p q last bs ws rest r n.0 n.1 o (i r.octets (put_words p one_rule ws) (goes one_rule h))

  small : Words ws
  small = words_small (body_of bs) (all-parts (λ b. b < 256) (record_size bs - 6) (drop 6 bs) (all-parts (λ b. b < 256) 6 bs a).1).0

  at_old : kind_of bs ≡ old_rule → last ≢ statement → (Octets rest → (p : Package) → scan f (suc k) old_rule p rest ≡ ok q → Rest p old_rule rest q) → Rest p last bs q
  at_old h o i =
      let n = old-body (body_of bs) (rw h at c.body-sized) in
      let r = row bs old_rule c.fits a h n.1 in
      rest-old p q last bs ws rest r small n.0 o (i r.octets (put_words p old_rule ws) (goes old_rule h))

  at-statement : kind_of bs ≡ statement → (Octets rest → (p : Package) → scan f (suc k) statement p rest ≡ ok q → Rest p statement rest q) → Rest p last bs q
  at-statement h i =
      let n = statement-body (body_of bs) (rw h at c.body-sized) in
      let r = row bs statement c.fits a h n in
      rest-statement p q last bs ws rest r small (i r.octets (put_words p statement ws) (goes statement h))

  -- its rank, where it is a rule of either kind
  early : (kind : ℕ) → 1 ≤ last → kind_of bs ≡ kind → rank kind ≡ one_rule → last ≢ statement
  early kind h u r =
      let o = (order_is last (kind_of bs) h c.ordered).1 in
      rule-early last (rw (u, r) at o)

  by_kind : 1 ≤ last → ((kind : ℕ) (p : Package) → 1 ≤ kind → Octets rest → scan f (suc k) kind p rest ≡ ok q → Rest p kind rest q)
      → (b d g : Bool) → eqb (kind_of bs) the_end ≡ b → eqb (kind_of bs) one_rule ≡ d → eqb (kind_of bs) old_rule ≡ g → Rest p last bs q
  unfolding rank
  by_kind h i true d g x y z = at-end (eqb-true (kind_of bs) the_end x)
  by_kind h i false true g x y z =
      let u = eqb-true (kind_of bs) one_rule y in
      at-rule u (early one_rule h u refl) (λ o p e. i one_rule p (omega arith) o e)
  by_kind h i false false true x y z =
      let u = eqb-true (kind_of bs) old_rule z in
      at_old u (early old_rule h u refl) (λ o p e. i old_rule p (omega arith) o e)
  by_kind h i false false false x y z =
      let n = (order_is last (kind_of bs) h c.ordered).0 in
      let u : kind_of bs ≡ statement =
      between (kind_of bs) (known_is (kind_of bs) c.named) n (eqb-false (kind_of bs) the_end x) (eqb-false (kind_of bs) one_rule y) (eqb-false (kind_of bs) old_rule z) in
      at-statement u (λ o p e. i statement p (omega arith) o e)

the_rest : (f k last : ℕ) (p q : Package) (bs : List ℕ) → 1 ≤ last → Octets bs → scan f k last p bs ≡ ok q → Rest p last bs q
unfolding scan
the_rest zero k last p q bs h a e = absurd (let z : ◌≡◌ {A = ℕ} 0 1 = cc in omega arith)
the_rest (suc f) k last p q bs h a e =
    by_kind f k last p q bs a (scan-clear f k last p q bs e) e h
    (λ kind p h o e. the_rest f (suc k) kind p q (drop (record_size bs) bs) h o e) (eqb (kind_of bs) the_end) (eqb (kind_of bs) one_rule) (eqb (kind_of bs) old_rule) refl refl refl

-- ---- a whole package

pub two-words : (ws : List ℕ) → length ws ≡ 2 → get_or ws 0 0 ∷ get_or ws 1 0 ∷ [] ≡ ws
two-words [] h = absurd (omega arith)
two-words (a ∷ []) h = absurd (omega arith)
two-words (a ∷ b ∷ []) h = refl
two-words (a ∷ b ∷ c ∷ ws) h = absurd (omega arith)

-- bytes that a package was read from, and what is written of it
pub record Back (bs : List ℕ) (q : Package) : Type 0 where
  pub bytes : Renews bs (written q)
  pub brief : short q.statements ≡ true
  pub small : Words (counted q.statements)

back_by : (q : Package) (bs ws rest : List ℕ) → Row bs typecodes ws rest → length ws ≡ 2 → Rest (put_words nothing typecodes ws) typecodes rest q
    → good_rules 0 most_rules q.rules ≡ true → Back bs q
unfolding put_words
back_by q bs ws rest r n t g =
    let p = more (put_words nothing typecodes ws) t.ws t.ls in
    let k : q.rules ≡ t.ws = ap (λ (x : Package). x.rules) t.said in
    let rows = rule_records most_rules t.ws ++ after t.ls in
    let e : written p ≡ record_bytes typecodes ws ++ rows = package-parts p ∙ ap (λ (l : List ℕ). record_bytes typecodes l ++ rows) (two-words ws n) in
    rw t.said (record {
      bytes = rw (e, ← r.same) (kept (record_bytes typecodes ws) rest rows (written_one typecodes ws r.brief) (t.rows most_rules (rw (← k) g)));
      brief = t.brief;
      small = t.small;
    })

back : (f : ℕ) (q : Package) (bs : List ℕ) → Octets bs → scan f 0 0 nothing bs ≡ ok q → good_rules 0 most_rules q.rules ≡ true → Back bs q
unfolding scan in_order
back zero q bs a e g = absurd (let z : ◌≡◌ {A = ℕ} 0 1 = cc in omega arith)
back (suc f) q bs a e g =
    let z = scan-clear f 0 0 nothing q bs e in
    let c = faultless 0 bs z in
    let h = eqb-true (kind_of bs) typecodes c.ordered in
    let n = typecodes-sized (kind_of bs) (body_of bs) h c.body-sized in
    let ws = words_of (body_of bs) in
    let rest = drop (record_size bs) bs in
    let r = row bs typecodes c.fits a h (omega (arith, n)) in
    back_by q bs ws rest r (omega (arith, n, words-length (body_of bs)))
    (the_rest f 1 typecodes (put_words nothing typecodes ws) q rest (omega arith) r.octets (goes f 0 0 nothing q bs a z e typecodes h)) g

pub written_back : (q : Package) (bs : List ℕ) → Octets bs → says bs ≡ ok q → good_rules 0 most_rules q.rules ≡ true → Back bs q
unfolding says
written_back q bs a e g = back (length bs) q bs a e g
