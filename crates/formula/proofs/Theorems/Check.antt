-- The check says what `Tree` says, and a list has at most one typecode and one spelling.
use Rattle.std.specs.Prelude.{◌≡◌, Bool, ◌↔◌, ℕ}
use Rattle.std.proofs.Math.Path.{refl, sym}
use Rattle.std.proofs.Common.{ap}
use Rattle.std.proofs.Math.Bool.{true, false}
use Rattle.std.proofs.lemmas.Bool.{false≢true}
use mathlib.Core.List.{List, [], ◌∷◌, ◌++◌, append_assoc, append-nil}
use Rattle.std.proofs.Math.Option.{Option, some, none, bind}
use Rattle.std.proofs.Math.Dec.{eqb}
use borrow.Author.Tests.{eqb-true, eq-eqb}
use Rattle.words.specs.Outcome.{same_words}
use Rattle.words.proofs.Theorems.Tests.{and_l, and_r, same_words-refl, same_words-true}
use Rattle.rules.specs.Rules.{Item, con, slot, Rule, rule_at}
use Rattle.formula.specs.Meaning.{Spells, done, word, tree, Tree}
use Rattle.formula.specs.Check.{Value, Taken, keep, take_value, take_slot, take_con, take_body, push, apply, values, only, check}

module _ (R : List Rule) where
  -- one rule is applied, and the rest of the list is run
  values-cons : (r : ℕ) (l : List ℕ) (vs vs' : List Value) → apply (rule_at R r) vs ≡ some vs' → values R (r ∷ l) vs ≡ values R l vs'
  unfolding values bind
  values-cons r l vs vs' e = rw e

  -- ---- a tree passes: the trees of a body leave their values on the stack, and `take_body` takes just those off

  record Left (b : List Item) (ts l : List ℕ) : Type 0 where
    vals : List Value
    runs : (k : List ℕ) (vs : List Value) → values R (l ++ k) vs ≡ values R k (vals ++ vs)
    takes : (vs : List Value) → take_body b (vals ++ vs) ≡ some (ts, vs)

  take_value-same : (t : ℕ) (us ts : List ℕ) (vs : List Value) → take_value t ts (record { typecode = t; tokens = us } ∷ vs) ≡ some (us ++ ts, vs)
  unfolding take_value keep
  take_value-same t us ts vs = rw (eq-eqb t t refl)

  applies : (r : ℕ) (q : Rule) (ts : List ℕ) (vs vs' : List Value) → rule_at R r ≡ some q → take_body q.body vs ≡ some (ts, vs')
      → apply (rule_at R r) vs ≡ some (record { typecode = q.result; tokens = ts } ∷ vs')
  unfolding apply push
  applies r q ts vs vs' e p = rw (e, p)

  left : {b : List Item} {ts l : List ℕ} → Spells R b ts l → Left b ts l
  unfolding take_body take_con take_slot
  left done = record { vals = []; runs = λ k vs. refl; takes = λ vs. refl }
  left (word p) =
      let h = left p in
      record { vals = h.vals; runs = h.runs; takes = λ vs. rw (h.takes vs) }
  left (tree {b} {ts} {ts'} {l} {l'} r q e p p') =
      let h = left p in
      let h' = left p' in
      let v : Value = record { typecode = q.result; tokens = ts } in
      record {
        vals = h'.vals ++ v ∷ [];
        runs = λ k vs. rw (
          append_assoc l (r ∷ l') k,
          append_assoc h'.vals (v ∷ []) vs,
          h.runs (r ∷ l' ++ k) vs,
          values-cons r (l' ++ k) (h.vals ++ vs) (v ∷ vs) (applies r q ts _ vs e (h.takes vs)),
        ) (h'.runs k (v ∷ vs));
        takes = λ vs. rw (append_assoc h'.vals (v ∷ []) vs, h'.takes (v ∷ vs)) (take_value-same q.result ts ts' vs);
      }

  -- a tree leaves one value
  pub complete : {t : ℕ} {ts l : List ℕ} → Tree R t ts l → values R l [] ≡ some (record { typecode = t; tokens = ts } ∷ [])
  unfolding values
  complete (tree {ts} r q e p done) =
      let h = left p in
      rw (append-nil ts, h.runs (r ∷ []) []) (values-cons r [] _ _ (applies r q ts _ [] e (h.takes [])))

  pub check-complete : (t : ℕ) (ts l : List ℕ) → Tree R t ts l → check R t ts l ≡ true
  unfolding check only
  check-complete t ts l p = rw (complete p, eq-eqb t t refl) (same_words-refl ts)

  -- a list has one typecode and one spelling
  pub unique : {t t' : ℕ} {ts ts' l : List ℕ} → Tree R t ts l → Tree R t' ts' l → (t ≡ t') × (ts ≡ ts')
  unique {t} {t'} {ts} {ts'} {l} p p' =
      let e = complete p in
      let e' = complete p' in
      let w : ◌≡◌ {A = Value} (record { typecode = t; tokens = ts }) (record { typecode = t'; tokens = ts' }) = cc in
      (ap (λ (v : Value). v.typecode) w, ap (λ (v : Value). v.tokens) w)

  -- ---- what passes is a tree: each value on the stack has one

  data Standing : List Value → List ℕ → Type 0 where
    bottom : Standing [] []
    top : {v : Value} {vs : List Value} {l l' : List ℕ} → Standing vs l → Tree R v.typecode v.tokens l' → Standing (v ∷ vs) (l ++ l')

  -- the end of l spells the body b, and what stands before it belongs to the values left
  record Split (b : List Item) (l ts : List ℕ) (vs : List Value) : Type 0 where
    front : List ℕ
    back : List ℕ
    joins : l ≡ front ++ back
    stack : Standing vs front
    spelt : Spells R b ts back

  abbrev GoodTaken : List Item → List ℕ → Taken → Type 0
  GoodTaken b l none = Unit {0}
  GoodTaken b l (some p) = Split b l p.0 p.1

  abbrev GoodValues : List ℕ → Option (List Value) → Type 0
  GoodValues l none = Unit {0}
  GoodValues l (some vs) = Standing vs l

  -- a tree before the trees of a body
  graft : {t : ℕ} {b : List Item} {us ts l l' : List ℕ} → Tree R t us l → Spells R b ts l' → Spells R (slot t ∷ b) (us ++ ts) (l ++ l')
  graft {ts} {l'} (tree {ts = us} {l} r q e p done) s = rw (append-nil us, append_assoc l (r ∷ []) l') (tree r q e p s)

  con-good : (c : ℕ) (b : List Item) (l : List ℕ) (o : Taken) → GoodTaken b l o → GoodTaken (con c ∷ b) l (take_con c o)
  unfolding take_con
  con-good c b l none g = tt
  con-good c b l (some p) g = record { front = g.front; back = g.back; joins = g.joins; stack = g.stack; spelt = word g.spelt }

  keep-good : (t : ℕ) (x : Bool) (v : Value) (b : List Item) (f k ts : List ℕ) (vs : List Value) → (x ≡ true → t ≡ v.typecode)
      → Standing (v ∷ vs) f → Spells R b ts k → GoodTaken (slot t ∷ b) (f ++ k) (keep x (v.tokens ++ ts, vs))
  unfolding keep
  keep-good t false v b f k ts vs h st s = tt
  keep-good t true v b f k ts vs h (top {l} {l'} st p) s =
      record { front = l; back = l' ++ k; joins = append_assoc l l' k; stack = st; spelt = rw (h refl) (graft p s) }

  val_good : (t : ℕ) (b : List Item) (l ts : List ℕ) (vs : List Value) → Split b l ts vs → GoodTaken (slot t ∷ b) l (take_value t ts vs)
  unfolding take_value
  val_good t b l ts [] g = tt
  val_good t b l ts (v ∷ vs) g = rw g.joins (keep-good t (eqb t v.typecode) v b g.front g.back ts vs (eqb-true _ _) g.stack g.spelt)

  slot-good : (t : ℕ) (b : List Item) (l : List ℕ) (o : Taken) → GoodTaken b l o → GoodTaken (slot t ∷ b) l (take_slot t o)
  unfolding take_slot
  slot-good t b l none g = tt
  slot-good t b l (some p) g = val_good t b l p.0 p.1 g

  take_body-sound : (b : List Item) (l : List ℕ) (vs : List Value) → Standing vs l → GoodTaken b l (take_body b vs)
  unfolding take_body
  take_body-sound [] l vs st = record { front = l; back = []; joins = sym (append-nil l); stack = st; spelt = done }
  take_body-sound (con c ∷ b) l vs st = con-good c b l _ (take_body-sound b l vs st)
  take_body-sound (slot t ∷ b) l vs st = slot-good t b l _ (take_body-sound b l vs st)

  push-good : (r : ℕ) (q : Rule) → rule_at R r ≡ some q → (l : List ℕ) (o : Taken) → GoodTaken q.body l o
      → GoodValues (l ++ r ∷ []) (push q.result o)
  unfolding push
  push-good r q e l none g = tt
  push-good r q e l (some p) g = rw (g.joins, append_assoc g.front g.back (r ∷ []))
      (top {v = record { typecode = q.result; tokens = p.0 }} g.stack (rw (append-nil p.0) at (tree r q e g.spelt done)))

  apply-good : (r : ℕ) (l : List ℕ) (vs : List Value) → Standing vs l → (o : Option Rule) → rule_at R r ≡ o → GoodValues (l ++ r ∷ []) (apply o vs)
  unfolding apply
  apply-good r l vs st none e = tt
  apply-good r l vs st (some q) e = push-good r q e l _ (take_body-sound q.body l vs st)

  bind-good : (k l : List ℕ) (f : List Value → Option (List Value)) → ((vs : List Value) → Standing vs k → GoodValues l (f vs))
      → (o : Option (List Value)) → GoodValues k o → GoodValues l (bind o f)
  unfolding bind
  bind-good k l f h none g = tt
  bind-good k l f h (some vs) g = h vs g

  values-sound : (k l : List ℕ) (vs : List Value) → Standing vs k → GoodValues (k ++ l) (values R l vs)
  unfolding values
  values-sound k [] vs st = rw append-nil st
  values-sound k (r ∷ l) vs st =
      bind-good (k ++ r ∷ []) (k ++ r ∷ l) _ (λ vs st. rw append_assoc at (values-sound (k ++ r ∷ []) l vs st)) _ (apply-good r k vs st _ refl)

  only-good : (t : ℕ) (ts l : List ℕ) (o : Option (List Value)) → GoodValues l o → only t ts o ≡ true → Tree R t ts l
  unfolding only
  only-good t ts l none g e = absurd (false≢true e)
  only-good t ts l (some []) g e = absurd (false≢true e)
  only-good t ts l (some (v ∷ w ∷ vs)) g e = absurd (false≢true e)
  only-good t ts l (some (v ∷ [])) (top bottom p) e =
      let a = eqb v.typecode t in
      let b = same_words v.tokens ts in
      rw (← eqb-true v.typecode t (and_l a b e), ← same_words-true v.tokens ts (and_r a b e)) p

  pub check_sound : (t : ℕ) (ts l : List ℕ) → check R t ts l ≡ true → Tree R t ts l
  unfolding check
  check_sound t ts l e = only-good t ts l _ (values-sound [] l [] bottom) e

  pub check-iff : (t : ℕ) (ts l : List ℕ) → (check R t ts l ≡ true) ↔ Tree R t ts l
  check-iff t ts l = (check_sound t ts l, check-complete t ts l)
