-- What writing puts into the bytes.
use Rattle.std.proofs.Common.{◌≡◌, ℕ, zero, suc, ◌+◌, ◌*◌, ◌-◌, ◌≤◌, ◌<◌, refl, sym, ap, ◌∙◌, Bool, true, false, not, ◌&&◌, List, [], ◌∷◌, ◌++◌, append-nil, arith, ltb, length, take, drop, length-append, length-take, length-drop, take_at, drop_at, drop-drop, le-ltb, lt-ltb}
use Rattle.words.specs.Limits.{most_rules}
use Rattle.words.specs.Counted.{counted, the_lists}
use Rattle.rules.specs.Rules.{size_of, good_rules}
use Rattle.rules.proofs.Theorems.Words.{Ahead, Here, ahead-here, ahead-start, good-rule, rules-most}
use Rattle.package.specs.Bytes.{bytes_of, word_bytes}
use Rattle.package.specs.Package.{Package, typecodes, one_rule, statement, the_end, most_written, short, record_bytes, rule_records, statement_records, written}
use Rattle.package.specs.Code.{pasted, Room}
use Rattle.package.proofs.Theorems.Bytes.{bytes-length, words-bytes}
use Rattle.package.proofs.Theorems.Records.{record-parts}
use Rattle.package.proofs.Theorems.Lengths.{record-first, brief-first, package-parts}
use Rattle.package.proofs.Pasting.{Left, left-start, left-room, left-more, left-done}

-- ---- rules

rules-left : (k : ℕ) (rest : List ℕ) → 0 < length rest → 0 < k → rule_records k rest
    ≡ record_bytes one_rule (take (size_of rest) rest) ++ rule_records (k - 1) (drop (size_of rest) rest)
unfolding rule_records
rules-left k [] h z = absurd (omega arith)
rules-left zero (w ∷ ws) h z = absurd (omega arith)
rules-left (suc k) (w ∷ ws) h z = let e : suc k - 1 ≡ k = omega arith in rw e refl

rules-none : (k : ℕ) (rest : List ℕ) → length rest ≤ 0 → rule_records k rest ≡ []
unfolding rule_records
rules-none zero rest h = refl
rules-none (suc k) [] h = refl
rules-none (suc k) (w ∷ ws) h = absurd (omega arith)

-- the rules of `rest` are left
pub record PutRules (ws rest to : List ℕ) (next : ℕ) (to₀ : List ℕ) : Type 0 where
  pub i : ℕ
  pub n : ℕ
  pub here : rest ≡ drop i ws
  pub ahead : Ahead ws i n
  pub left : Left to next (rule_records (most_rules - n) rest) to₀ 0 (rule_records most_rules ws)

pub rules-start : (ws to : List ℕ) → Room to 0 (rule_records most_rules ws) → good_rules 0 most_rules ws ≡ true → PutRules ws ws to 0 to
rules-start ws to h g = record { i = 0; n = 0; here = refl; ahead = ahead-start ws g; left = left-start to 0 (rule_records most_rules ws) h }

-- the rule that stands first in `rest`
pub record RuleHere (rest to : List ℕ) (next : ℕ) : Type 0 where
  pub two : 2 ≤ length rest
  pub some : 0 < size_of rest
  pub fits : size_of rest ≤ length rest
  pub small : length (take (size_of rest) rest) ≤ most_written
  pub room : Room to next (record_bytes one_rule (take (size_of rest) rest))

module _ (ws rest to : List ℕ) (next : ℕ) (to₀ : List ℕ) (p : PutRules ws rest to next to₀) (h : 0 < length rest) where
  first : Here ws p.i p.n
  first = ahead-here ws p.i p.n p.ahead (omega (arith, h, ap length p.here, length-drop p.i ws))

  rule-split : rule_records (most_rules - p.n) rest
      ≡ record_bytes one_rule (take (size_of rest) rest) ++ rule_records (most_rules - (p.n + 1)) (drop (size_of rest) rest)
  rule-split =
      let e : most_rules - p.n - 1 ≡ most_rules - (p.n + 1) = omega arith in
      rw (← e) (rules-left (most_rules - p.n) rest h (omega (arith, first.counted, rules-most most_rules ws)))

  pub rule-here : RuleHere rest to next
  rule-here =
      let l = length-drop p.i ws in
      let few = (good-rule 0 (drop p.i ws) first.good).few in
      record {
        two = rw p.here (omega (arith, l, first.two));
        some = omega arith;
        fits = rw p.here (omega (arith, l, first.fits));
        small = rw p.here (omega (arith, few, length-take (size_of (drop p.i ws)) (drop p.i ws)));
        room = left-room to next (rule_records (most_rules - p.n) rest) to₀ 0 (rule_records most_rules ws) p.left
            (record_bytes one_rule (take (size_of rest) rest)) (rule_records (most_rules - (p.n + 1)) (drop (size_of rest) rest)) rule-split;
      }

  pub rule-more : (to' : List ℕ) (next' : ℕ) → let bs = record_bytes one_rule (take (size_of rest) rest) in
      next' ≡ next + length bs → to' ≡ pasted to next bs → PutRules ws (drop (size_of rest) rest) to' next' to₀
  rule-more to' next' n e = record {
    i = p.i + size_of (drop p.i ws);
    n = p.n + 1;
    here = rw p.here (drop-drop (size_of (drop p.i ws)) p.i ws);
    ahead = first.next;
    left = left-more to next (rule_records (most_rules - p.n) rest) to₀ 0 (rule_records most_rules ws) p.left
        (record_bytes one_rule (take (size_of rest) rest)) (rule_records (most_rules - (p.n + 1)) (drop (size_of rest) rest)) to' next' rule-split e n;
  }

pub rules-done : (ws rest to : List ℕ) (next : ℕ) (to₀ : List ℕ) → PutRules ws rest to next to₀ → length rest ≤ 0
    → (next ≡ 0 + length (rule_records most_rules ws)) × (to ≡ pasted to₀ 0 (rule_records most_rules ws))
rules-done ws rest to next to₀ p h =
    left-done to next (rule_records (most_rules - p.n) rest) to₀ 0 (rule_records most_rules ws) p.left (rules-none (most_rules - p.n) rest h)

-- ---- statements

-- the statement whose count is n, with those after it
pub record Statement (n : ℕ) (after : List ℕ) (ls : List (List ℕ)) : Type 0 where
  pub l : List ℕ
  pub others : List (List ℕ)
  pub all : ls ≡ l ∷ others
  pub count : n ≡ length l
  pub inside : n ≤ length after
  pub tokens : take n after ≡ l
  pub left : drop n after ≡ counted others

pub statement-here : (n : ℕ) (rest after : List ℕ) (ls : List (List ℕ)) → rest ≡ n ∷ after → rest ≡ counted ls → Statement n after ls
unfolding counted
statement-here n rest after [] e f = absurd (omega (arith, ap length (sym e ∙ f)))
statement-here n rest after (l ∷ ls) e f =
    let q : n ∷ after ≡ length l ∷ (l ++ counted ls) = sym e ∙ f in
    let c : n ≡ length l = cc in
    let s : after ≡ l ++ counted ls = cc in
    record {
      l = l;
      others = ls;
      all = refl;
      count = c;
      inside = omega (arith, c, ap length s, length-append l (counted ls));
      tokens = rw s (take_at l (counted ls) n (sym c));
      left = rw s (drop_at l (counted ls) n (sym c));
    }

no-statement : (ls : List (List ℕ)) (rest : List ℕ) → rest ≡ counted ls → length rest ≡ 0 → ls ≡ []
unfolding counted
no-statement [] rest e h = refl
no-statement (l ∷ ls) rest e h = absurd (omega (arith, ap length e))

-- ---- whether no statement is too long: what is left decides
pub record Shortness (ws rest : List ℕ) : Type 0 where
  pub ls : List (List ℕ)
  pub left : rest ≡ counted ls
  pub same : short ls ≡ short (the_lists ws)

pub short-start : (ws : List ℕ) → counted (the_lists ws) ≡ ws → Shortness ws ws
short-start ws e = record { ls = the_lists ws; left = sym e; same = refl }

short-by : (l : List ℕ) (ls : List (List ℕ)) (b : Bool) → ltb most_written (length l) ≡ b → short (l ∷ ls) ≡ not b && short ls
unfolding short
short-by l ls b e = rw e

module _ (ws rest : List ℕ) (n : ℕ) (after : List ℕ) (s : Shortness ws rest) (e : rest ≡ n ∷ after) where
  short-here : Statement n after s.ls
  short-here = statement-here n rest after s.ls e s.left

  pub short-inside : n ≤ length after
  short-inside = short-here.inside

  pub short_on : n ≤ most_written → Shortness ws (drop n after)
  short_on b =
      let t = short-here in
      record {
        ls = t.others;
        left = t.left;
        same = sym (ap short t.all ∙ short-by t.l t.others false (le-ltb most_written (length t.l) (omega (arith, t.count)))) ∙ s.same;
      }

  pub short-over : most_written < n → false ≡ short (the_lists ws)
  short-over b =
      let t = short-here in
      sym (ap short t.all ∙ short-by t.l t.others true (lt-ltb most_written (length t.l) (omega (arith, t.count)))) ∙ s.same

pub short-end : (ws rest : List ℕ) → Shortness ws rest → length rest ≡ 0 → true ≡ short (the_lists ws)
unfolding short
short-end ws rest s h = sym (ap short (no-statement s.ls rest s.left h)) ∙ s.same

few-lists : (ls : List (List ℕ)) → length ls ≤ length (counted ls)
unfolding counted
few-lists [] = omega arith
few-lists (l ∷ ls) = omega (arith, few-lists ls, length-append l (counted ls))

-- there are no more statements than words
pub few-statements : (ws : List ℕ) (n : ℕ) → n ≡ length (the_lists ws) → counted (the_lists ws) ≡ ws → n ≤ length ws
few-statements ws n e f = omega (arith, e, few-lists (the_lists ws), ap length f)

-- ---- the loop over statements

-- the statements of `rest` are left
pub record PutStatements (ws rest to : List ℕ) (next : ℕ) (to₀ : List ℕ) : Type 0 where
  pub ls : List (List ℕ)
  pub words : rest ≡ counted ls
  pub brief : short ls ≡ true
  pub left : Left to next (statement_records ls) to₀ 0 (statement_records (the_lists ws))

pub statements-start : (ws to : List ℕ) → Room to 0 (statement_records (the_lists ws)) → counted (the_lists ws) ≡ ws → short (the_lists ws) ≡ true
    → PutStatements ws ws to 0 to
statements-start ws to h e s = record {
  ls = the_lists ws;
  words = sym e;
  brief = s;
  left = left-start to 0 (statement_records (the_lists ws)) h;
}

module _ (ws rest : List ℕ) (n : ℕ) (after to : List ℕ) (next : ℕ) (to₀ : List ℕ) (p : PutStatements ws rest to next to₀) (e : rest ≡ n ∷ after) where
  here : Statement n after p.ls
  here = statement-here n rest after p.ls e p.words

  statement-split : statement_records p.ls ≡ record_bytes statement (take n after) ++ statement_records here.others
  statement-split = ap statement_records here.all ∙ record-first here.l here.others
      ∙ ap (λ (l : List ℕ). record_bytes statement l ++ statement_records here.others) (sym here.tokens)

  brief-here : (length here.l ≤ most_written) × (short here.others ≡ true)
  brief-here = brief-first here.l here.others (sym (ap short here.all) ∙ p.brief)

  pub statement-inside : n ≤ length after
  statement-inside = here.inside

  pub statement-room : Room to next (record_bytes statement (take n after)) × (length (take n after) ≤ most_written)
  statement-room = (
    left-room to next (statement_records p.ls) to₀ 0 (statement_records (the_lists ws)) p.left
        (record_bytes statement (take n after)) (statement_records here.others) statement-split,
    rw here.tokens brief-here.0,
  )

  pub statement-more : (to' : List ℕ) (next' : ℕ) → let bs = record_bytes statement (take n after) in
      next' ≡ next + length bs → to' ≡ pasted to next bs → PutStatements ws (drop n after) to' next' to₀
  statement-more to' next' m f = record {
    ls = here.others;
    words = here.left;
    brief = brief-here.1;
    left = left-more to next (statement_records p.ls) to₀ 0 (statement_records (the_lists ws)) p.left
        (record_bytes statement (take n after)) (statement_records here.others) to' next' statement-split f m;
  }

no-records : (ls : List (List ℕ)) → ls ≡ [] → statement_records ls ≡ []
unfolding statement_records
no-records ls e = rw e

pub statements-done : (ws rest to : List ℕ) (next : ℕ) (to₀ : List ℕ) → PutStatements ws rest to next to₀ → length rest ≡ 0
    → (next ≡ 0 + length (statement_records (the_lists ws))) × (to ≡ pasted to₀ 0 (statement_records (the_lists ws)))
statements-done ws rest to next to₀ p h =
    left-done to next (statement_records p.ls) to₀ 0 (statement_records (the_lists ws)) p.left
    (no-records p.ls (no-statement p.ls rest p.words h))

-- ---- a record, from its three parts

module _ (d : List ℕ) (kind : ℕ) (ws : List ℕ) (h : Room d 0 (record_bytes kind ws)) where
  abbrev size : List ℕ
  size = bytes_of 4 (2 + 4 * length ws)

  pub size-put : (d₁ : List ℕ) → d₁ ≡ pasted d 0 size → Left d₁ 4 (bytes_of 2 kind ++ word_bytes ws) d 0 (record_bytes kind ws)
  size-put d₁ e =
      left-more d 0 (record_bytes kind ws) d 0 (record_bytes kind ws) (left-start d 0 (record_bytes kind ws) h) size (bytes_of 2 kind ++ word_bytes ws) d₁ 4
      (record-parts kind ws) e (omega (arith, bytes-length 4 (2 + 4 * length ws)))

  pub kind-put : (d₁ d₂ : List ℕ) → Left d₁ 4 (bytes_of 2 kind ++ word_bytes ws) d 0 (record_bytes kind ws) → d₂ ≡ pasted d₁ 4 (bytes_of 2 kind)
      → Left d₂ 6 (word_bytes ws) d 0 (record_bytes kind ws)
  kind-put d₁ d₂ l e =
      left-more d₁ 4 (bytes_of 2 kind ++ word_bytes ws) d 0 (record_bytes kind ws) l (bytes_of 2 kind) (word_bytes ws) d₂ 6 refl e (omega (arith, bytes-length 2 kind))

  pub words-put : (d₂ d₃ : List ℕ) → Left d₂ 6 (word_bytes ws) d 0 (record_bytes kind ws) → d₃ ≡ pasted d₂ 6 (word_bytes ws)
      → (6 + 4 * length ws ≡ length (record_bytes kind ws)) × (d₃ ≡ pasted d 0 (record_bytes kind ws))
  words-put d₂ d₃ l e =
      let m = left-more d₂ 6 (word_bytes ws) d 0 (record_bytes kind ws) l (word_bytes ws) [] d₃ (6 + 4 * length ws) (sym (append-nil (word_bytes ws))) e (omega (arith, words-bytes ws)) in
      let done = left-done d₃ (6 + 4 * length ws) [] d 0 (record_bytes kind ws) m refl in
      (omega (arith, done.0), done.1)

-- ---- a whole package, record after record

abbrev pub after_rules : Package → List ℕ
after_rules q = statement_records q.statements ++ record_bytes the_end []

abbrev pub after_typecodes : Package → List ℕ
after_typecodes q = rule_records most_rules q.rules ++ after_rules q

module _ (q : Package) (d : List ℕ) (h : Room d 0 (written q)) where
  abbrev codes : List ℕ
  codes = record_bytes typecodes (q.provable ∷ q.logic ∷ [])

  pub typecodes-room : Room d 0 codes
  typecodes-room = left-room d 0 (written q) d 0 (written q) (left-start d 0 (written q) h) codes (after_typecodes q) (package-parts q)

  pub typecodes-put : (d₁ : List ℕ) (n : ℕ) → n ≡ length codes → d₁ ≡ pasted d 0 codes → Left d₁ n (after_typecodes q) d 0 (written q)
  typecodes-put d₁ n m e =
      left-more d 0 (written q) d 0 (written q) (left-start d 0 (written q) h) codes (after_typecodes q) d₁ n (package-parts q) e (omega (arith, m))
