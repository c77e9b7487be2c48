-- The bytes of a whole package, part by part, and how many they are.
use Rattle.std.specs.Prelude.{ℕ, zero, suc, ◌+◌, ◌*◌, ◌≤◌, ◌≡◌, refl, true, not, List, [], ◌∷◌, ◌++◌, ltb, length, take}
use Rattle.std.proofs.Common.{ap, ◌∙◌, append_assoc, arith, length-append, length-drop, length-take-le, ltb-false}
use Rattle.std.proofs.lemmas.Bool.{false≢true, not-true}
use Rattle.words.specs.Limits.{most_rules}
use Rattle.words.specs.Counted.{counted}
use Rattle.words.proofs.Theorems.Tests.{and_l, and_r}
use Rattle.rules.specs.Rules.{size_of, rest_of, rules_of, the_rules, good_rule, good_rules}
use Rattle.rules.proofs.Theorems.Words.{good-rule}
use Rattle.package.specs.Package.{Package, typecodes, one_rule, statement, the_end, record_bytes, rule_records, statement_records, written, most_written, short}
use Rattle.package.proofs.Theorems.Records.{record-length}

-- ---- rules

pub rules-bytes : (k : ℕ) (ws : List ℕ) → good_rules 0 k ws ≡ true → length (rule_records k ws) ≡ 6 * length (rules_of k ws) + 4 * length ws
unfolding rule_records rules_of good_rules
rules-bytes zero [] e = refl
rules-bytes zero (w ∷ ws) e = absurd (false≢true e)
rules-bytes (suc k) [] e = refl
rules-bytes (suc k) (w ∷ ws) e =
    let g = good-rule 0 (w ∷ ws) (and_l _ (good_rules 0 k (rest_of (w ∷ ws))) e) in
    let r = rules-bytes k (rest_of (w ∷ ws)) (and_r (good_rule 0 (w ∷ ws)) _ e) in
    let n = size_of (w ∷ ws) in
    let first = take n (w ∷ ws) in
    length-append (record_bytes one_rule first) (rule_records k (rest_of (w ∷ ws)))
    ∙ omega (arith, r, record-length one_rule first, length-take-le n (w ∷ ws) g.fits, length-drop n (w ∷ ws), g.fits)

-- ---- statements

pub record-first : (l : List ℕ) (ls : List (List ℕ)) → statement_records (l ∷ ls) ≡ record_bytes statement l ++ statement_records ls
unfolding statement_records
record-first l ls = refl

pub brief-first : (l : List ℕ) (ls : List (List ℕ)) → short (l ∷ ls) ≡ true → (length l ≤ most_written) × (short ls ≡ true)
unfolding short
brief-first l ls e =
    let t = ltb most_written (length l) in
    (ltb-false most_written (length l) (not-true t (and_l (not t) (short ls) e)), and_r (not t) (short ls) e)

pub counted-length : (ls : List (List ℕ)) → length (statement_records ls) ≡ 2 * length ls + 4 * length (counted ls)
unfolding statement_records counted
counted-length [] = refl
counted-length (l ∷ ls) =
    length-append (record_bytes statement l) (statement_records ls)
    ∙ omega (arith, record-length statement l, counted-length ls, length-append l (counted ls))

-- ---- a whole package

pub package-parts : (p : Package) → written p
    ≡ record_bytes typecodes (p.provable ∷ p.logic ∷ []) ++ (rule_records most_rules p.rules ++ (statement_records p.statements ++ record_bytes the_end []))
unfolding written
package-parts p =
    let a = record_bytes typecodes (p.provable ∷ p.logic ∷ []) in
    let b = rule_records most_rules p.rules in
    let c = statement_records p.statements in
    append_assoc (a ++ b) c (record_bytes the_end []) ∙ append_assoc a b (c ++ record_bytes the_end [])

pub package-length : (p : Package) → good_rules 0 most_rules p.rules ≡ true
    → length (written p) ≡ 20 + 6 * length (the_rules p.rules) + 4 * length p.rules + 2 * length p.statements + 4 * length (counted p.statements)
package-length p g =
    let a = record_bytes typecodes (p.provable ∷ p.logic ∷ []) in
    let b = rule_records most_rules p.rules in
    let c = statement_records p.statements in
    let d = record_bytes the_end [] in
    ap length (package-parts p) ∙ length-append a (b ++ (c ++ d))
    ∙ omega (arith, length-append b (c ++ d), length-append c d, record-length typecodes (p.provable ∷ p.logic ∷ []), record-length the_end [], rules-bytes most_rules p.rules g, counted-length p.statements)
