-- An old rule put into the slice, item by item.
use Prim.Native.Nat.{ℕ, zero, suc, ◌+◌, ◌*◌, ◌/◌, ◌%◌, ◌≤◌, ◌<◌}
use mathlib.Core.Path.{◌≡◌, refl, sym, ap, ◌∙◌}
use mathlib.Core.Bool.{true}
use mathlib.Core.List.{List, [], ◌∷◌, ◌++◌, append_assoc, append-nil}
use mathlib.Core.Logic.{◌≢◌}
use native.Mathlib.Numerals.{add-one}
use native.Mathlib.Omega.{arith}
use lib.ListN.{length, get_or, take, drop, length-append, length-drop, drop_of_length-le}
use lib.Seq.{take_at, drop_at, drop-drop, length-take-le}
use Rattle.std.specs.Prelude.{slice_index_or}
use Rattle.std.specs.Simd.{first_chunks}
use Rattle.package.specs.Bytes.{little, first_words, words_of}
use Rattle.package.specs.Package.{old_rule, old_width, sized, numbered, renewed}
use Rattle.package.specs.Code.{Put, PutItem}
use Rattle.package.proofs.Theorems.Bytes.{words-length}
use Rattle.package.proofs.Theorems.Records.{rule-size}
use Rattle.package.proofs.Theorems.Old.{numbered-pairs}
use Rattle.package.proofs.Theorems.Trips.{two-words}
use Rattle.package.proofs.Numbers.{word_at, chunk_at}

-- words put one after another
put_both : (s s₁ s₂ xs ys : List ℕ) (at next : ℕ) → length s₁ ≡ length s → next ≡ at + length xs → Put s at xs s₁ → Put s₁ next ys s₂ → Put s at (xs ++ ys) s₂
put_both s s₁ s₂ xs ys at next l e p q h =
    let n = length-append xs ys in
    let front : take next s₁ ≡ take at s ++ xs = rw e (p (omega arith)) in
    let m : at + length (xs ++ ys) ≡ next + length ys = omega arith in
    rw m (q (omega arith) ∙ ap (λ (l : List ℕ). l ++ ys) front ∙ append_assoc (take at s) xs ys)

-- ---- one item

-- its two words, and the words after it
pair-first : (bs : List ℕ) → 8 ≤ length bs → words_of bs ≡ words_of (take 8 bs) ++ words_of (drop 8 bs)
unfolding first_words
pair-first [] h = absurd (omega arith)
pair-first (a ∷ []) h = absurd (omega arith)
pair-first (a ∷ b ∷ []) h = absurd (omega arith)
pair-first (a ∷ b ∷ c ∷ []) h = absurd (omega arith)
pair-first (a ∷ b ∷ c ∷ d ∷ []) h = absurd (omega arith)
pair-first (a ∷ b ∷ c ∷ d ∷ e ∷ []) h = absurd (omega arith)
pair-first (a ∷ b ∷ c ∷ d ∷ e ∷ f ∷ []) h = absurd (omega arith)
pair-first (a ∷ b ∷ c ∷ d ∷ e ∷ f ∷ g ∷ []) h = absurd (omega arith)
pair-first (a ∷ b ∷ c ∷ d ∷ e ∷ f ∷ g ∷ i ∷ bs) h =
    let n : length (a ∷ b ∷ c ∷ d ∷ e ∷ f ∷ g ∷ i ∷ bs) / 4 ≡ suc (suc (length bs / 4)) = omega arith in
    rw n

item-words : (item : List ℕ) (k : ℕ) → length item ≡ 8 → k ≡ little (take 4 item) → words_of item ≡ k ∷ get_or (words_of item) 1 0 ∷ []
item-words item k h e =
    sym (two-words (words_of item) (omega (arith, words-length item)))
    ∙ ap (λ (x : ℕ). x ∷ get_or (words_of item) 1 0 ∷ []) (word_at (length item / 4) 0 item (omega arith) ∙ sym e)

constant_by : (s s₁ s₂ ws : List ℕ) (at v x : ℕ) → ws ≡ 0 ∷ x ∷ [] → length s₁ ≡ length s → Put s at ws s₁ → Put s₁ (at + 2) (0 ∷ []) s₂
    → Put s at (numbered v ws) s₂ × ((us : List ℕ) → numbered v (ws ++ us) ≡ numbered v ws ++ numbered v us)
unfolding numbered
constant_by s s₁ s₂ ws at v x e l p q = rw e (put_both s s₁ s₂ (0 ∷ x ∷ []) (0 ∷ []) at (at + 2) l refl (rw e at p) q, λ us. refl)

slot-by : (s s₁ s₂ ws : List ℕ) (at v k x : ℕ) → k ≢ 0 → ws ≡ k ∷ x ∷ [] → length s₁ ≡ length s → Put s at ws s₁ → Put s₁ (at + 2) (v ∷ []) s₂
    → Put s at (numbered v ws) s₂ × ((us : List ℕ) → numbered v (ws ++ us) ≡ numbered v ws ++ numbered (suc v) us)
unfolding numbered
slot-by s s₁ s₂ ws at v zero x z e l p q = absurd (z refl)
slot-by s s₁ s₂ ws at v (suc k) x z e l p q = rw e (put_both s s₁ s₂ (suc k ∷ x ∷ []) (v ∷ []) at (at + 2) l refl (rw e at p) q, λ us. refl)

module _ (s s₁ s₂ item : List ℕ) (at v k : ℕ) (h : length item ≡ 8) (e : k ≡ little (take 4 item)) (l : length s₁ ≡ length s) (p : Put s at (words_of item) s₁) where
  pub constant-item : k ≡ 0 → Put s₁ (at + 2) (0 ∷ []) s₂ → PutItem s at item v v s₂
  constant-item z q =
      let r = constant_by s s₁ s₂ (words_of item) at v (get_or (words_of item) 1 0) (item-words item 0 h (sym z ∙ e)) l p q in
      record { put = r.0; next = r.1; few = omega arith }

  pub slot-item : k ≢ 0 → Put s₁ (at + 2) (v ∷ []) s₂ → PutItem s at item v (v + 1) s₂
  slot-item z q =
      let r = slot-by s s₁ s₂ (words_of item) at v k (get_or (words_of item) 1 0) z (item-words item k h e) l p q in
      rw (add-one v) (record { put = r.0; next = r.1; few = omega arith })

-- ---- all items

pub old-body : (body : List ℕ) → sized old_rule body ≡ true → (8 ≤ length body) × (length body % 8 ≡ 0)
unfolding sized
old-body body e =
    let s = rule-size old_width body e in
    (s.0, omega (arith, s.1))

-- the items before byte i are put, from `at` to `next`; the next slot has the variable v
pub record OldPut (s : List ℕ) (at : ℕ) (body s' : List ℕ) (next v i : ℕ) : Type 0 where
  pub done : List ℕ
  pub put : Put s at done s'
  pub kept : length s' ≡ length s
  pub next-is : next ≡ at + length done
  pub rest : done ++ numbered v (words_of (drop i body)) ≡ numbered 1 (words_of (drop 8 body))
  pub inside : i ≤ length body
  pub few : next ≤ at + i
  pub slots : 8 * v ≤ i

pub old-start : (s : List ℕ) (at : ℕ) (body : List ℕ) → sized old_rule body ≡ true → OldPut s at body s at 1 8
old-start s at body z =
    let b = old-body body z in
    let n : at + 0 ≡ at = omega arith in
    record {
      done = [];
      put = λ h. rw n (sym (append-nil (take at s)));
      kept = refl;
      next-is = omega arith;
      rest = refl;
      inside = b.0;
      few = omega arith;
      slots = omega arith;
    }

-- item k stands at byte 8 + 8 k
abbrev pub item_at : ℕ → ℕ
item_at k = 8 + 8 * k

pub item-here : (body rest : List ℕ) (items : List (List ℕ)) (k : ℕ) → rest ≡ drop 8 body → items ≡ first_chunks 8 (length rest / 8) rest → k < length rest / 8
    → slice_index_or items k [] ≡ take 8 (drop (item_at k) body)
item-here body rest items k e f h =
    rw (f, e) (chunk_at 8 (length (drop 8 body) / 8) k (drop 8 body) (rw e at h) ∙ ap (λ (l : List ℕ). take 8 l) (drop-drop (8 * k) 8 body))

pub old-more : (s : List ℕ) (at : ℕ) (body s₁ s₂ : List ℕ) (next v w i : ℕ) → OldPut s at body s₁ next v i → i + 8 ≤ length body
    → PutItem s₁ next (take 8 (drop i body)) v w s₂ → length s₂ ≡ length s₁ → OldPut s at body s₂ (next + 3) w (i + 8)
old-more s at body s₁ s₂ next v w i o h q l =
    let item = words_of (take 8 (drop i body)) in
    let words = numbered v item in
    let others = words_of (drop (i + 8) body) in
    let m = length-take-le 8 (drop i body) (omega (arith, h, length-drop i body)) in
    let n = words-length (take 8 (drop i body)) in
    let three : length words ≡ 3 = omega (arith, numbered-pairs v item (omega arith)) in
    let split : words_of (drop i body) ≡ item ++ others =
    pair-first (drop i body) (omega (arith, h, length-drop i body)) ∙ ap (λ (l : List ℕ). item ++ words_of l) (drop-drop 8 i body) in
    record {
      done = o.done ++ words;
      put = put_both s s₁ s₂ o.done words at next o.kept o.next-is o.put q.put;
      kept = l ∙ o.kept;
      next-is = omega (arith, o.next-is, length-append o.done words);
      rest = append_assoc o.done words (numbered w others)
          ∙ ap (λ (l : List ℕ). o.done ++ l) (sym (q.next others) ∙ ap (λ (l : List ℕ). numbered v l) (sym split)) ∙ o.rest;
      inside = h;
      few = omega (arith, o.few);
      slots = omega (arith, o.slots, q.few);
    }

-- with the two words before them, put into s, these are all
pub old-end : (s s₁ : List ℕ) (at : ℕ) (body s' : List ℕ) (next v i : ℕ) → sized old_rule body ≡ true → length s₁ ≡ length s → Put s at (words_of (take 8 body)) s₁
    → OldPut s₁ (at + 2) body s' next v i → length body ≤ i → Put s at (renewed (words_of body)) s' × (next ≡ at + length (renewed (words_of body)))
unfolding numbered renewed first_words
old-end s s₁ at body s' next v i z l p o h =
    let b = old-body body z in
    let first = words_of (take 8 body) in
    let others = words_of (drop 8 body) in
    let n : length first ≡ 2 = omega (arith, words-length (take 8 body), length-take-le 8 body b.0) in
    let none : numbered v (words_of (drop i body)) ≡ [] = rw (drop_of_length-le body h) in
    let all : o.done ≡ numbered 1 others = sym (append-nil o.done) ∙ ap (λ (l : List ℕ). o.done ++ l) (sym none) ∙ o.rest in
    rw (pair-first body b.0, take_at first others 2 n, drop_at first others 2 n, ← all)
    (put_both s s₁ s' first o.done at (at + 2) l (omega arith) p o.put, omega (arith, o.next-is, length-append first o.done))
