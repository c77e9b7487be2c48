-- What is read has no more words than the bytes allow: a quarter of them, or three eighths, since an old rule has three words for every two.
use Rattle.std.specs.Prelude.{ℕ, zero, suc, ◌+◌, ◌*◌, ◌≤◌, ◌≡◌, Bool, true, false, List, [], ◌∷◌, ◌++◌, eqb, length, drop}
use Rattle.std.proofs.Common.{ap, ◌∙◌, append_assoc, append-nil, arith, length-append, length-drop}
use Rattle.words.specs.Counted.{counted}
use Rattle.words.specs.Outcome.{ok, pick}
use Rattle.words.proofs.Theorems.Tests.{by-test}
use Rattle.package.specs.Bytes.{words_of}
use Rattle.package.specs.Package.{Package, nothing, typecodes, one_rule, old_rule, statement, the_end, record_size, kind_of, body_of, renewed, put_words, ended, scan, says}
use Rattle.package.proofs.Theorems.Bytes.{words-length}
use Rattle.package.proofs.Theorems.Records.{Fits, faultless, body-length, scan-record, scan-clear, ended-ok}
use Rattle.package.proofs.Theorems.Old.{renewed-most}

pub counted-last : (ls : List (List ℕ)) (l : List ℕ) → counted (ls ++ l ∷ []) ≡ (counted ls ++ length l ∷ []) ++ l
unfolding counted
counted-last [] l = ap (λ (r : List ℕ). length l ∷ r) (append-nil l)
counted-last (k ∷ ls) l =
    ap (λ (r : List ℕ). length k ∷ r)
    (ap (λ (r : List ℕ). k ++ r) (counted-last ls l) ∙ simp append_assoc)

-- three words of rules were read from eight bytes or more, any other word from four
pub record Few (q : Package) (at : ℕ) : Type 0 where
  pub rules : 8 * length q.rules ≤ 3 * at
  pub statements : 4 * length q.statements ≤ at
  pub words : 4 * length (counted q.statements) ≤ at

pub few-more : (q : Package) (kind : ℕ) (body : List ℕ) (at size : ℕ) → Few q at → 6 + length body ≤ size → Few (put_words q kind (words_of body)) (at + size)
unfolding put_words
few-more q kind body at size f h =
    let ws = words_of body in
    let n = words-length body in
    let cs = counted q.statements in
    let last = counted-last q.statements ws in
    let long : length (counted (q.statements ++ ws ∷ [])) ≡ length cs + 1 + length ws =
    ap length last ∙ omega (arith, length-append (cs ++ length ws ∷ []) ws, length-append cs (length ws ∷ [])) in
    by-test (λ p. Few p (at + size)) (eqb kind typecodes)
    (λ _. record { rules = omega (arith, f.rules); statements = omega (arith, f.statements); words = omega (arith, f.words) })
    λ _. by-test (λ p. Few p (at + size)) (eqb kind one_rule)
    (λ _. record { rules = omega (arith, f.rules, length-append q.rules ws); statements = omega (arith, f.statements); words = omega (arith, f.words) })
    λ _. by-test (λ p. Few p (at + size)) (eqb kind old_rule)
    (λ _. record { rules = omega (arith, f.rules, length-append q.rules (renewed ws), renewed-most ws); statements = omega (arith, f.statements); words = omega (arith, f.words) })
    λ _. by-test (λ p. Few p (at + size)) (eqb kind statement)
    (λ _. record { rules = omega (arith, f.rules); statements = omega (arith, f.statements, length-append q.statements (ws ∷ [])); words = omega (arith, f.words, long) })
    λ _. record { rules = omega (arith, f.rules); statements = omega (arith, f.statements); words = omega (arith, f.words) }

few-by : (f k : ℕ) (p q : Package) (bs : List ℕ) (at : ℕ) (b : Bool) → Few p at
    → ((p : Package) (k last : ℕ) (bs : List ℕ) (at : ℕ) → Few p at → scan f k last p bs ≡ ok q → Few q (at + length bs))
    → Fits bs → let p' = put_words p (kind_of bs) (words_of (body_of bs)) in
    pick b (ended (suc k) p' (drop (record_size bs) bs)) (scan f (suc k) (kind_of bs) p' (drop (record_size bs) bs)) ≡ ok q → Few q (at + length bs)
few-by f k p q bs at b h r w e =
    let a = w.head in
    let i = w.inside in
    let m = few-more p (kind_of bs) (body_of bs) at (record_size bs) h (omega (arith, body-length bs w)) in
    let l = length-drop (record_size bs) bs in
    let n : at + record_size bs + length (drop (record_size bs) bs) ≡ at + length bs = omega arith in
    by b m n e
  where
    by : (b : Bool) → let p' = put_words p (kind_of bs) (words_of (body_of bs)) in Few p' (at + record_size bs)
        → at + record_size bs + length (drop (record_size bs) bs) ≡ at + length bs
        → pick b (ended (suc k) p' (drop (record_size bs) bs)) (scan f (suc k) (kind_of bs) p' (drop (record_size bs) bs)) ≡ ok q → Few q (at + length bs)
    by true m n e =
        let z = ended-ok (suc k) (put_words p (kind_of bs) (words_of (body_of bs))) q (drop (record_size bs) bs) e in
        rw (z.1, ← n) (record { rules = omega (arith, m.rules); statements = omega (arith, m.statements); words = omega (arith, m.words) })
    by false m n e = rw (← n) (r _ (suc k) (kind_of bs) (drop (record_size bs) bs) (at + record_size bs) m e)

scan-few : (f k last : ℕ) (p q : Package) (bs : List ℕ) (at : ℕ) → Few p at → scan f k last p bs ≡ ok q → Few q (at + length bs)
unfolding scan
scan-few zero k last p q bs at h e = absurd (let z : ◌≡◌ {A = ℕ} 0 1 = cc in omega arith)
scan-few (suc f) k last p q bs at h e =
    let c = scan-clear f k last p q bs e in
    few-by f k p q bs at (eqb (kind_of bs) the_end) h (λ p k last bs at h e. scan-few f k last p q bs at h e) (faultless last bs c).fits
    (scan-record f k last p bs c ∙ e)

pub says-few : (bs : List ℕ) (q : Package) → says bs ≡ ok q → Few q (length bs)
unfolding says counted
says-few bs q e =
    let h = scan-few (length bs) 0 0 nothing q bs 0 (record { rules = omega arith; statements = omega arith; words = omega arith }) e in
    let n : 0 + length bs ≡ length bs = omega arith in
    rw (← n) h
