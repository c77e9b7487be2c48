-- The tail moved once for all of an edge's reduces, and moved for each: the same trees, the same refusals.
use Rattle.std.specs.Prelude.{◌≡◌, Bool, leb, ltb, take}
use Rattle.std.proofs.Math.Path.{refl, ap}
use Rattle.std.proofs.Common.{sym, ◌∙◌, arith, length-append, length-drop, take-append-drop, take-take, drop-drop, length-take-le}
use Rattle.std.proofs.Math.Bool.{true, false}
use mathlib.Core.List.{List, [], ◌∷◌, ◌++◌, append_assoc, reverse}
use Rattle.std.proofs.Math.Option.{Option, some, none}
use Prim.Native.Nat.{ℕ, zero, suc, ◌+◌, ◌-◌, ◌≤◌, ◌<◌}
use Rattle.std.proofs.Math.ListN.{length, drop}
use Rattle.std.proofs.lemmas.List.{take-append-le, drop-append-le}
use Rattle.std.proofs.Math.Seq.{take-append-add, drop-append-add}
use borrow.Author.Tests.{lt-leb, le-leb, lt-ltb, le-ltb, leb-true, leb-false, ltb-true, ltb-false}
use Rattle.words.specs.Outcome.{Res, ok, no, bind, when}
use Rattle.words.specs.Numbers.{Why, misfit, no_entry}
use Rattle.words.proofs.Theorems.Tests.{by-test}
use Rattle.rules.specs.Rules.{Rule, rule_at, slots}
use Rattle.rows.specs.Rows.{Reduce}
use Rattle.formula.specs.Reducing.{Trees, flat, merge, reduce, reduce_all}
use Rattle.formula.specs.Tail.{total, Measured, joined, measure_by, measure, Entry, put, Rising, woven, Plan, plan}
use Rattle.formula.specs.Code.{pieces}
use Rattle.formula.proofs.Theorems.Flat.{drop-take, total-append, total-split, stacked, length-stacked, total-stacked, stacked-merge, place-stacked, flat-merge-at}
use Rattle.formula.proofs.Theorems.Reduce.{reduce-no-rule, reduce-few, reduce-full, reduce-fits, reduce_all-no, reduce_all-ok}
use Rattle.formula.proofs.Theorems.Held.{pieces-back, cut-flat, cut-sizes}

-- ---- one reduce, by the sizes

module _ (R : List Rule) (room r o : ℕ) (zs : List ℕ) where
  pub measure-no-rule : rule_at R r ≡ none → measure R room r o zs ≡ no misfit
  unfolding measure measure_by
  measure-no-rule e = rw e

  module _ (q : Rule) (e : rule_at R r ≡ some q) where
    pub measure-few : length zs < o + slots q.body → measure R room r o zs ≡ no misfit
    unfolding measure measure_by bind when
    measure-few h = rw (e, lt-leb (o + slots q.body) (length zs) h)

    pub measure-full : o + slots q.body ≤ length zs → room ≤ total zs → measure R room r o zs ≡ no no_entry
    unfolding measure measure_by bind when
    measure-full h f = rw (e, le-leb (o + slots q.body) (length zs) h, le-ltb (total zs) room f)

    pub measure-fits : o + slots q.body ≤ length zs → total zs < room
        → measure R room r o zs ≡ ok (joined (length zs - (o + slots q.body)) (slots q.body) zs)
    unfolding measure measure_by bind when
    measure-fits h f = rw (e, le-leb (o + slots q.body) (length zs) h, lt-ltb (total zs) room f)

-- a list with r before word p
abbrev pub put_in : ℕ → ℕ → List ℕ → List ℕ
put_in p r l = take p l ++ r ∷ drop p l

-- trees cut from a list by their sizes
abbrev pub cut : List ℕ → List ℕ → Trees
cut zs l = reverse (pieces zs l)

-- those after a reduce, whose list was l
abbrev pub after : ℕ → List ℕ → Measured → Trees
after r l m = cut m.sizes (put_in m.place r l)

module _ (R : List Rule) (room r o : ℕ) (s : Trees) where
  merge-is : (k : ℕ) → o + k ≤ length s → merge r k o s ≡ after r (flat s) (joined (length (stacked s) - (o + k)) k (stacked s))
  merge-is k h =
      let n = length-stacked s in
      let a = length (stacked s) - (o + k) in
      let p = place-stacked (a + k) o s (omega (arith, n)) in
      let e : stacked (merge r k o s) ≡ (joined a k (stacked s)).sizes = stacked-merge r k o a s (omega (arith, n)) in
      let f : flat (merge r k o s) ≡ put_in (total (take (a + k) (stacked s))) r (flat s) = flat-merge-at r k o s _ (sym p) in
      sym (pieces-back (merge r k o s)) ∙ rw (e, f)

  by-full : (q : Rule) → rule_at R r ≡ some q → o + slots q.body ≤ length s → (b : Bool) → ltb (length (flat s)) room ≡ b
      → reduce R room r o s ≡ bind (measure R room r o (stacked s)) λ m. ok (after r (flat s) m)
  unfolding bind
  by-full q e h true t =
      let f = ltb-true (length (flat s)) room t in
      rw (
        reduce-fits R room r o s q e h f,
        measure-fits R room r o (stacked s) q e (omega (arith, length-stacked s)) (omega (arith, total-stacked s)),
        merge-is (slots q.body) h,
      )
  by-full q e h false t =
      let f = ltb-false (length (flat s)) room t in
      rw (reduce-full R room r o s q e h f, measure-full R room r o (stacked s) q e (omega (arith, length-stacked s)) (omega (arith, total-stacked s)))

  by-few : (q : Rule) → rule_at R r ≡ some q → (b : Bool) → leb (o + slots q.body) (length s) ≡ b
      → reduce R room r o s ≡ bind (measure R room r o (stacked s)) λ m. ok (after r (flat s) m)
  unfolding bind
  by-few q e true t = by-full q e (leb-true (o + slots q.body) (length s) t) _ refl
  by-few q e false t =
      let h = leb-false (o + slots q.body) (length s) t in
      rw (reduce-few R room r o s q e h, measure-few R room r o (stacked s) q e (omega (arith, length-stacked s)))

  by-rule : (q : Option Rule) → rule_at R r ≡ q → reduce R room r o s ≡ bind (measure R room r o (stacked s)) λ m. ok (after r (flat s) m)
  unfolding bind
  by-rule none e = rw (reduce-no-rule R room r o s e, measure-no-rule R room r o (stacked s) e)
  by-rule (some q) e = by-few q e _ refl

  -- a reduce is what the sizes say
  pub reduce-measured : reduce R room r o s ≡ bind (measure R room r o (stacked s)) λ m. ok (after r (flat s) m)
  reduce-measured = by-rule _ refl

-- the entry lies within the list, which grows by one
module _ (a k : ℕ) (zs : List ℕ) where
  pub joined-place : (joined a k zs).place ≤ total zs
  joined-place = omega (arith, total-split (a + k) zs)

  pub joined-total : total (joined a k zs).sizes ≡ suc (total zs)
  unfolding total
  joined-total =
      let x = suc (total (take k (drop a zs))) in
      let e = total-append (take a zs) (x ∷ drop (a + k) zs) in
      let f = total-split k (drop a zs) in
      let g : total (drop k (drop a zs)) ≡ total (drop (a + k) zs) = ap total (drop-drop k a zs) in
      omega (arith, e, f, g, total-split a zs)

abbrev Grows : List ℕ → Res Why Measured → Type 0
Grows zs (no y) = Unit {0}
Grows zs (ok m) = (m.place ≤ total zs) × (total m.sizes ≡ suc (total zs))

grows-when : (zs : List ℕ) (b : Bool) (y : Why) (a k : ℕ) → Grows zs (when b y (joined a k zs))
unfolding when
grows-when zs true y a k = (joined-place a k zs, joined-total a k zs)
grows-when zs false y a k = tt

grows-few : (zs : List ℕ) (b : Bool) (f : List ℕ → Res Why Measured) → Grows zs (f zs) → Grows zs (bind (when b misfit zs) f)
unfolding bind when
grows-few zs true f h = h
grows-few zs false f h = tt

grows-by : (room o : ℕ) (zs : List ℕ) (q : Option Rule) → Grows zs (measure_by room o zs q)
unfolding measure_by
grows-by room o zs none = tt
grows-by room o zs (some q) = grows-few zs _ _ (grows-when zs _ no_entry _ (slots q.body))

measure-grows : (R : List Rule) (room r o : ℕ) (zs : List ℕ) → Grows zs (measure R room r o zs)
unfolding measure
measure-grows R room r o zs = grows-by room o zs (rule_at R r)

-- ---- entries

-- a list from i on, cut at n
cut_at : (i n : ℕ) (l : List ℕ) → i ≤ n → n ≤ length l → drop i l ≡ drop i (take n l) ++ drop n l
cut_at i n l h k = ap (drop i) (sym (take-append-drop n l)) ∙ drop-append-le i (take n l) (drop n l) (omega (arith, length-take-le n l k))

-- words of a list from i on
part : (i q n : ℕ) (l : List ℕ) → i + q ≤ n → take q (drop i (take n l)) ≡ drop i (take (i + q) l)
part i q n l h =
    let e : i + q - i ≡ q = omega arith in
    rw (drop-take i n l, drop-take i (i + q) l, e) (take-take q (n - i) (drop i l) (omega arith))

pub rising_le : (i : ℕ) (es : List Entry) (n : ℕ) → Rising i es n → i ≤ n
rising_le i [] n h = h
rising_le i (e ∷ es) n h = omega (arith, h.0, rising_le e.place es n h.1)

pub rising-from : (i j : ℕ) (es : List Entry) (n : ℕ) → i ≤ j → Rising j es n → Rising i es n
rising-from i j [] n h k = omega arith
rising-from i j (e ∷ es) n h k = (omega (arith, k.0), k.1)

pub rising-drop : (j i : ℕ) (es : List Entry) (n : ℕ) → Rising i es n → Rising i (drop j es) n
rising-drop zero i es n h = h
rising-drop (suc j) i [] n h = h
rising-drop (suc j) i (e ∷ es) n h = rising-from i e.place (drop j es) n h.0 (rising-drop j e.place es n h.1)

-- words before the first entry
pub woven-from : (i j : ℕ) (es : List Entry) (l : List ℕ) → i ≤ j → Rising j es (length l) → woven i es l ≡ drop i (take j l) ++ woven j es l
unfolding woven
woven-from i j [] l h k = cut_at i j l h k
woven-from i j (e ∷ es) l h k =
    let n : e.place ≤ length l = rising_le e.place es (length l) k.1 in
    let m : length (take e.place l) ≡ e.place = length-take-le e.place l n in
    let c = cut_at i j (take e.place l) h (omega (arith, m, k.0)) in
    let t = take-take j e.place l k.0 in
    ap (λ (x : List ℕ). x ++ e.rule ∷ woven e.place es l) (c ∙ ap (λ (x : List ℕ). drop i x ++ drop j (take e.place l)) t)
    ∙ append_assoc (drop i (take j l)) (drop j (take e.place l)) (e.rule ∷ woven e.place es l)

pub length-woven : (i : ℕ) (es : List Entry) (l : List ℕ) → Rising i es (length l) → i + length (woven i es l) ≡ length l + length es
unfolding woven
length-woven i [] l h = rw (length-drop i l) (omega arith)
length-woven i (e ∷ es) l h =
    let n : e.place ≤ length l = rising_le e.place es (length l) h.1 in
    let a = length-append (drop i (take e.place l)) (e.rule ∷ woven e.place es l) in
    let b = length-drop i (take e.place l) in
    let c = length-take-le e.place l n in
    omega (arith, a, b, c, h.0, length-woven e.place es l h.1)

-- an entry more is an entry put in
before : (i q r : ℕ) (e : Entry) (es : List Entry) (l : List ℕ) → Rising i (e ∷ es) (length l) → i + q ≤ e.place
    → put_in q r (woven i (e ∷ es) l) ≡ woven i (record { place = i + q; rule = r } ∷ e ∷ es) l
unfolding woven
before i q r e es l h k =
    let n : e.place ≤ length l = rising_le e.place es (length l) h.1 in
    let m = length-take-le e.place l n in
    let w = e.rule ∷ woven e.place es l in
    let a = drop i (take e.place l) in
    let b : length a ≡ e.place - i = rw (length-drop i (take e.place l), m) in
    let f : take q a ≡ drop i (take (i + q) l) = part i q e.place l k in
    let g : drop q a ≡ drop (i + q) (take e.place l) = drop-drop q i (take e.place l) in
    rw (take-append-le q a w (omega (arith, b)), drop-append-le q a w (omega (arith, b)), f, g)

behind : (i q r n : ℕ) (e : Entry) (es : List Entry) (l : List ℕ) → Rising i (e ∷ es) (length l) → i + q ≡ suc (e.place + n)
    → put_in q r (woven i (e ∷ es) l) ≡ drop i (take e.place l) ++ e.rule ∷ put_in n r (woven e.place es l)
unfolding woven
behind i q r n e es l h k =
    let b = length-take-le e.place l (rising_le e.place es (length l) h.1) in
    let w = woven e.place es l in
    let a = drop i (take e.place l) in
    let c : q ≡ length a + suc n = rw (length-drop i (take e.place l), b) (omega (arith, h.0)) in
    rw (c, take-append-add a (e.rule ∷ w) (suc n), drop-append-add a (e.rule ∷ w) (suc n)) (append_assoc a (e.rule ∷ take n w) (r ∷ drop n w))

put-end : (i q r : ℕ) (l : List ℕ) → put_in q r (woven i [] l) ≡ woven i (put (i + q) r []) l
unfolding put woven
put-end i q r l =
    let e : i + q - i ≡ q = omega arith in
    rw (drop-take i (i + q) l, e, drop-drop q i l)

woven-cons : (i : ℕ) (e : Entry) (es : List Entry) (l x : List ℕ) → x ≡ woven e.place es l → drop i (take e.place l) ++ e.rule ∷ x ≡ woven i (e ∷ es) l
unfolding woven
woven-cons i e es l x h = rw h

put-woven : (i q r : ℕ) (es : List Entry) (l : List ℕ) → Rising i es (length l) → put_in q r (woven i es l) ≡ woven i (put (i + q) r es) l
unfolding put
put-woven i q r [] l h = put-end i q r l
put-woven i q r (e ∷ es) l h =
    by-test (λ (x : List Entry). put_in q r (woven i (e ∷ es) l) ≡ woven i x l) (leb (i + q) e.place)
    (λ t. before i q r e es l h (leb-true (i + q) e.place t))
    λ t.
    let n = leb-false (i + q) e.place t in
    let m = i + q - 1 - e.place in
    let s : e.place + m ≡ i + q - 1 = omega (arith, n) in
    behind i q r m e es l h (omega (arith, n)) ∙ woven-cons i e (put (i + q - 1) r es) l _ (rw s at (put-woven e.place m r es l h.1))

-- the entries stay in order, and are one more
rising-put : (i p r : ℕ) (es : List Entry) (n : ℕ) → Rising i es n → i ≤ p → p ≤ n + length es → Rising i (put p r es) n
unfolding put
rising-put i p r [] n h a b = (a, omega arith)
rising-put i p r (e ∷ es) n h a b =
    by-test (λ (x : List Entry). Rising i x n) (leb p e.place)
    (λ t. (a, (leb-true p e.place t, h.1)))
    λ t. let c = leb-false p e.place t in (h.0, rising-put e.place (p - 1) r es n h.1 (omega (arith, c)) (omega arith))

pub length-put : (p r : ℕ) (es : List Entry) → length (put p r es) ≡ suc (length es)
unfolding put
length-put p r [] = refl
length-put p r (e ∷ es) = by-test (λ (x : List Entry). length x ≡ suc (suc (length es))) (leb p e.place) (λ t. refl) λ t. ap suc (length-put (p - 1) r es)

-- one entry after the other is the entries at once
pub put_all : (p r : ℕ) (es : List Entry) (l : List ℕ) → Rising 0 es (length l) → put_in p r (woven 0 es l) ≡ woven 0 (put p r es) l
put_all p r es l h =
    let z : 0 + p ≡ p = omega arith in
    rw z at (put-woven 0 p r es l h)

-- ---- all reduces of an edge

pub reduce-cut : (R : List Rule) (room r o : ℕ) (zs l : List ℕ) → total zs ≡ length l
    → reduce R room r o (cut zs l) ≡ bind (measure R room r o zs) λ m. ok (after r l m)
reduce-cut R room r o zs l h = reduce-measured R room r o (cut zs l) ∙ rw (cut-sizes zs l h, cut-flat zs l h)

module _ (R : List Rule) (room : ℕ) (l : List ℕ) where
  -- the trees of a plan
  abbrev made : Plan → Res Why Trees
  made p = ok (cut p.sizes (woven 0 p.entries l))

  abbrev Planned : List Reduce → Type 0
  Planned ds = (zs : List ℕ) (es : List Entry) → Rising 0 es (length l) → total zs ≡ length (woven 0 es l)
      → reduce_all R room ds (cut zs (woven 0 es l)) ≡ bind (plan R room ds zs es) made

  one_more : (d : Reduce) (ds : List Reduce) → Planned ds → (zs : List ℕ) (es : List Entry) → Rising 0 es (length l) → total zs ≡ length (woven 0 es l)
      → (x : Res Why Measured) → Grows zs x → reduce R room d.rule d.offset (cut zs (woven 0 es l)) ≡ bind x (λ m. ok (after d.rule (woven 0 es l) m))
      → reduce_all R room (d ∷ ds) (cut zs (woven 0 es l)) ≡ bind (bind x λ m. plan R room ds m.sizes (put m.place d.rule es)) made
  unfolding bind
  one_more d ds f zs es h k (no y) g e = reduce_all-no R room d ds (cut zs (woven 0 es l)) y e
  one_more d ds f zs es h k (ok m) g e =
      let c = rising-put 0 m.place d.rule es (length l) h (omega arith) (omega (arith, g.0, length-woven 0 es l h)) in
      let n : total m.sizes ≡ length (woven 0 (put m.place d.rule es) l) =
      omega (arith, g.1, length-woven 0 es l h, length-woven 0 (put m.place d.rule es) l c, length-put m.place d.rule es) in
      reduce_all-ok R room d ds (cut zs (woven 0 es l)) _ e ∙ rw (put_all m.place d.rule es l h) (f m.sizes (put m.place d.rule es) c n)

  pub plan-is : (ds : List Reduce) → Planned ds
  unfolding reduce_all plan bind
  plan-is [] zs es h k = refl
  plan-is (d ∷ ds) zs es h k =
      one_more d ds (plan-is ds) zs es h k (measure R room d.rule d.offset zs) (measure-grows R room d.rule d.offset zs) (reduce-cut R room d.rule d.offset zs (woven 0 es l) k)

-- an edge's reduces are what the plan says of them
pub all-planned : (R : List Rule) (room : ℕ) (ds : List Reduce) (zs l : List ℕ) → total zs ≡ length l
    → reduce_all R room ds (cut zs l) ≡ bind (plan R room ds zs []) λ p. ok (cut p.sizes (woven 0 p.entries l))
unfolding woven
all-planned R room ds zs l h = plan-is R room l ds zs [] (omega arith) h

-- ---- what a plan holds: entries in order, one for each reduce, and the sizes with them

abbrev pub Laid : ℕ → ℕ → Res Why Plan → Type 0
Laid n k (no y) = Unit {0}
Laid n k (ok p) = Rising 0 p.entries n × (length p.entries ≡ k) × (total p.sizes ≡ n + k)

module _ (R : List Rule) (room n : ℕ) where
  laid-bind : (k : ℕ) (zs : List ℕ) (x : Res Why Measured) (f : Measured → Res Why Plan) → Grows zs x
      → ((m : Measured) → m.place ≤ total zs → total m.sizes ≡ suc (total zs) → Laid n k (f m)) → Laid n k (bind x f)
  unfolding bind
  laid-bind k zs (no y) f g h = tt
  laid-bind k zs (ok m) f g h = h m g.0 g.1

  plan-laid : (ds : List Reduce) (zs : List ℕ) (es : List Entry) (k : ℕ) → Rising 0 es n → total zs ≡ n + length es → length es + length ds ≡ k
      → Laid n k (plan R room ds zs es)
  unfolding plan
  plan-laid [] zs es k h e f = (h, omega (arith, f), omega (arith, e, f))
  plan-laid (d ∷ ds) zs es k h e f =
      laid-bind k zs (measure R room d.rule d.offset zs) _ (measure-grows R room d.rule d.offset zs)
      λ m a b.
      let c = length-put m.place d.rule es in
      plan-laid ds m.sizes (put m.place d.rule es) k (rising-put 0 m.place d.rule es n h (omega arith) (omega (arith, a, e))) (omega (arith, b, c, e)) (omega (arith, c, f))

-- a plan of an edge's reduces over trees with n words
pub all_laid : (R : List Rule) (room n : ℕ) (ds : List Reduce) (zs : List ℕ) → total zs ≡ n → Laid n (length ds) (plan R room ds zs [])
all_laid R room n ds zs e = plan-laid R room n ds zs [] (length ds) (omega arith) (omega (arith, e)) (omega arith)
