-- The test of a list from its end is the check.
use Rattle.std.specs.Prelude.{◌≡◌, Bool, true, ◌↔◌, ℕ, eqb}
use Rattle.std.proofs.Math.Path.{refl}
use Rattle.std.proofs.Common.{sym, ◌∙◌, ap}
use Rattle.std.proofs.lemmas.Bool.{false≢true}
use mathlib.Core.List.{List, [], ◌∷◌, ◌++◌, append_assoc, append-nil, reverse, reverse-cons, reverse-append, reverse-reverse}
use Rattle.std.proofs.Math.Option.{Option, some, none}
use borrow.Author.Tests.{eqb-true, eq-eqb}
use Rattle.words.proofs.Theorems.Tests.{and_l, and_r, same_test}
use Rattle.rules.specs.Rules.{Item, con, slot, Rule, rule_at}
use Rattle.formula.specs.Meaning.{Spells, done, word, tree, Tree}
use Rattle.formula.specs.Check.{check}
use Rattle.formula.specs.Down.{eat, enter, down, down-con, down-slot}
use Rattle.formula.proofs.Theorems.Check.{check-iff}

module _ (R : List Rule) where
  -- ---- trees are met, with their tokens and their entries

  meets : {b : List Item} {ts l : List ℕ} → Spells R b ts l → (m : List ℕ) (p : List Item) (us : List ℕ)
      → down R (reverse l ++ m) (reverse b ++ p) (reverse ts ++ us) ≡ down R m p us
  meets done m p us = refl
  meets (word {c} {b} {ts} {l} s) m p us =
      rw (
        reverse-cons (con c) b,
        reverse-cons c ts,
        append_assoc (reverse b),
        append_assoc (reverse ts),
        meets s m (con c ∷ p) (c ∷ us),
        down-con R m c c p us,
        eq-eqb c c refl,
      )
  meets (tree {b} {ts} {ts'} {l} {l'} r q e s s') m p us =
      let t = q.result in
      let h = meets s' (r ∷ reverse l ++ m) (slot t ∷ p) (reverse ts ++ us) in
      let k = rw (eq-eqb t t refl) at (down-slot R r t q e (reverse l ++ m) p (reverse ts ++ us)) in
      rw (reverse-append l (r ∷ l'), reverse-cons r l', reverse-cons (slot t) b, reverse-append ts ts') (simp append_assoc (h ∙ k ∙ meets s m p us))

  -- ---- what passes is made of trees

  join : {b b' : List Item} {ts ts' l l' : List ℕ} → Spells R b ts l → Spells R b' ts' l' → Spells R (b ++ b') (ts ++ ts') (l ++ l')
  join done k = k
  join (word s) k = word (join s k)
  join (tree r q e s s') k = simp append_assoc (tree r q e s (join s' k))

  record Parts (b b' : List Item) (ts l : List ℕ) : Type 0 where
    ts₁ : List ℕ
    ts₂ : List ℕ
    l₁ : List ℕ
    l₂ : List ℕ
    tokens : ts ≡ ts₁ ++ ts₂
    list : l ≡ l₁ ++ l₂
    fst : Spells R b ts₁ l₁
    snd : Spells R b' ts₂ l₂

  -- items in two parts
  parts : (b b' : List Item) {ts l : List ℕ} → Spells R (b ++ b') ts l → Parts b b' ts l
  parts [] b' {ts} {l} s = record { ts₁ = []; ts₂ = ts; l₁ = []; l₂ = l; tokens = refl; list = refl; fst = done; snd = s }
  parts (con c ∷ b) b' (word s) =
      let h = parts b b' s in
      record {
        ts₁ = c ∷ h.ts₁;
        ts₂ = h.ts₂;
        l₁ = h.l₁;
        l₂ = h.l₂;
        tokens = ap {B = List ℕ} (λ r. c ∷ r) h.tokens;
        list = h.list;
        fst = word h.fst;
        snd = h.snd;
      }
  parts (slot t ∷ b) b' (tree {ts} {l} r q e s s') =
      let h = parts b b' s' in
      record {
        ts₁ = ts ++ h.ts₁;
        ts₂ = h.ts₂;
        l₁ = l ++ r ∷ h.l₁;
        l₂ = h.l₂;
        tokens = ap (λ (x : List ℕ). ts ++ x) h.tokens ∙ sym (append_assoc ts h.ts₁ h.ts₂);
        list = ap (λ (x : List ℕ). l ++ r ∷ x) h.list ∙ sym (append_assoc l (r ∷ h.l₁) h.l₂);
        fst = tree r q e s h.fst;
        snd = h.snd;
      }

  -- the last items, if they are a rule's body, are one slot
  regroup : {b : List Item} {ts l : List ℕ} (r : ℕ) (q : Rule) → rule_at R r ≡ some q → Parts b q.body ts l
      → Spells R (b ++ slot q.result ∷ []) ts (l ++ r ∷ [])
  regroup r q e c = rw (c.tokens, c.list, append_assoc c.l₁ c.l₂) (rw (append-nil c.ts₂) at (join c.fst (tree r q e c.snd done)))

  module _ (l : List ℕ) (f : ℕ → List Item → List ℕ → Bool) (z : Bool) (end : z ≡ true → l ≡ [])
      (at : (t : ℕ) (p : List Item) (us : List ℕ) → f t p us ≡ true → Spells R (reverse p ++ slot t ∷ []) (reverse us) l) where
    eat-sound : (p : List Item) (us : List ℕ) → eat f z p us ≡ true → Spells R (reverse p) (reverse us) l
    unfolding eat
    eat-sound [] [] e = rw (end e) done
    eat-sound [] (x ∷ us) e = absurd (false≢true e)
    eat-sound (con c ∷ p) [] e = absurd (false≢true e)
    eat-sound (con c ∷ p) (x ∷ us) e =
        let a = eqb-true c x (and_l (eqb c x) (eat f z p us) e) in
        let h = eat-sound p us (and_r (eqb c x) (eat f z p us) e) in
        rw (reverse-cons (con c) p, reverse-cons x us, ← a, ← append-nil l) (join h (word done))
    eat-sound (slot t ∷ p) us e = rw (reverse-cons (slot t) p) (at t p us e)

  enter-sound : (r t : ℕ) (m us : List ℕ) (p : List Item) (g : List Item → Bool)
      → ((b : List Item) → g b ≡ true → Spells R (reverse (b ++ p)) (reverse us) (reverse m))
      → (o : Option Rule) → rule_at R r ≡ o → enter o t g ≡ true → Spells R (reverse p ++ slot t ∷ []) (reverse us) (reverse (r ∷ m))
  unfolding enter
  enter-sound r t m us p g h none e k = absurd (false≢true k)
  enter-sound r t m us p g h (some q) e k =
      let b = reverse q.body in
      let a = eqb-true q.result t (and_l (eqb q.result t) (g b) k) in
      let s : Spells R (reverse p ++ q.body) (reverse us) (reverse m) =
      rw (reverse-append b p, reverse-reverse q.body) at (h b (and_r (eqb q.result t) (g b) k)) in
      rw (reverse-cons r m, ← a) (regroup r q e (parts (reverse p) q.body s))

  down-sound : (m : List ℕ) (p : List Item) (us : List ℕ) → down R m p us ≡ true → Spells R (reverse p) (reverse us) (reverse m)
  unfolding down
  down-sound [] p us e = eat-sound [] _ _ (λ _. refl) (λ t p us k. absurd (false≢true k)) p us e
  down-sound (r ∷ m) p us e = eat-sound (reverse (r ∷ m)) _ _ (λ k. absurd (false≢true k))
      (λ t p us k. enter-sound r t m us p _ (λ b. down-sound m (b ++ p) us) (rule_at R r) refl k) p us e

  pub down-iff : (t : ℕ) (ts l : List ℕ) → (down R (reverse l) (slot t ∷ []) (reverse ts) ≡ true) ↔ Tree R t ts l
  unfolding down eat
  down-iff t ts l = (
    λ e. rw (reverse-reverse ts, reverse-reverse l) at (down-sound (reverse l) (slot t ∷ []) (reverse ts) e),
    λ s. rw (append-nil (reverse l), append-nil (reverse ts)) at (meets s [] [] []),
  )

pub check-is-down : (R : List Rule) (t : ℕ) (ts l : List ℕ) → check R t ts l ≡ down R (reverse l) (slot t ∷ []) (reverse ts)
check-is-down R t ts l =
    same_test _ _ (λ e. (down-iff R t ts l).1 ((check-iff R t ts l).0 e)) (λ e. (check-iff R t ts l).1 ((down-iff R t ts l).0 e))
