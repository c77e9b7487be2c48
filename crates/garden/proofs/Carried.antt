-- Laws of the lists of reduces.
use mathlib.Core.Path.{◌≡◌, refl, sym, ap, ◌∙◌}
use mathlib.Core.Bool.{Bool, true, false, false≢true, ◌&&◌}
use mathlib.Core.List.{List, [], ◌∷◌, ◌++◌, map, map-append, append-nil, append_assoc}
use Prim.Native.Nat.{ℕ, zero, suc, ◌+◌, ◌-◌, ◌≤◌, ◌<◌}
use native.Mathlib.Numerals.{add-one}
use native.Mathlib.Omega.{arith}
use lib.Dec.{eqb, ltb, leb}
use lib.Pointwise.{pointwise}
use lib.ListN.{length, take, drop, get_or, set, length-append, length-map, length-take, length-set, length-drop, drop_of_length-le}
use lib.Seq.{length-take-le, take_all, take-suc, take-suc-set, drop-cons, set_at, get_or_at, take-set-lt}
use borrow.Author.Tests.{lt-ltb, le-ltb, le-leb, lt-leb, eq-eqb, ne_eqb, leb-false, eqb-true, eqb-false}
use Rattle.std.specs.Prelude.{Result, Ok, Err}
use Rattle.words.specs.Outcome.{Res, ok, no, bind, when}
use Rattle.words.specs.Limits.{most_offset}
use Rattle.words.specs.Numbers.{Fault, sixth_reduce, far_offset, bad_copy}
use Rattle.rows.specs.Rows.{Reduce, Edge}
use Rattle.rows.specs.Code.{reduce_is, reduces_are, edge_is}
use Rattle.rows.specs.declared.reduce_list.Reduce as coded
use Rattle.rows.specs.declared.reduce_list.Reduces.{Reduces}
use Rattle.rows.specs.declared.Edge as held
use Rattle.rows.proofs.Laws.{place-used}
use Rattle.tree.specs.Code.{fault_of}
use Rattle.tree.specs.declared.Fault as why
use Rattle.garden.specs.Garden.{low_offsets, raised, increment_offsets, raised_on, extend, diff_extend, same_reduces, store_other, leaf_reduces}
use Rattle.garden.specs.Code.{list_of, has_rule}
use Rattle.garden.proofs.Theorems.Alone.{bind_ok}

-- ---- the list

-- as many as are counted; five places are enough for them
pub carried-length : (r : Reduces) → length r.items ≡ 5 → length (reduces_are r) ≡ r.count
carried-length r l = rw (length-map, length-take-le r.count r.items (omega (arith, r.few)))

pub carried-few : (r : Reduces) → length (reduces_are r) ≤ 5
carried-few r = rw (length-map, length-take) (omega (arith, r.few))

pub items-few : (r : Reduces) (items : List coded.Reduce) → map reduce_is items ≡ reduces_are r → length items ≤ 5
items-few r items e = omega (arith, simp (length-map, length-take) at (ap length e), r.few)

-- what is left after the first
pub rest-all : (list : List coded.Reduce) → take (length list - 1) (drop 1 list) ≡ drop 1 list
rest-all list = take_all (length list - 1) (drop 1 list) (simp length-drop (omega arith))

-- what is known of an answer
module _ (x : Res Fault (List Reduce)) (r : Result Reduces why.Fault) (e : list_of r ≡ x) where
  pub listed : (ds : Reduces) → r ≡ Ok ds → x ≡ ok (reduces_are ds)
  listed ds h = sym (rw h at e)

  pub unlisted : (y : why.Fault) → r ≡ Err y → x ≡ no (fault_of y)
  unlisted y h = sym (rw h at e)

-- ---- a list behind another

pub extend_fits : (ds more : List Reduce) → length (ds ++ more) ≤ 5 → extend ds more ≡ ok (ds ++ more)
unfolding extend when
extend_fits ds more h = rw (le-leb (length (ds ++ more)) 5 h)

pub extend-over : (ds more : List Reduce) → 5 < length (ds ++ more) → extend ds more ≡ no sixth_reduce
unfolding extend when
extend-over ds more h = rw (lt-leb (length (ds ++ more)) 5 h)

when-ok : (b : Bool) (y : Fault) (ds zs : List Reduce) → when b y ds ≡ ok zs → (b ≡ true) × (zs ≡ ds)
unfolding when
when-ok true y ds zs e = (refl, cc)
when-ok false y ds zs e = absurd (let z : ◌≡◌ {A = ℕ} 0 1 = cc in omega arith)

when-no : (b : Bool) (y z : Fault) (ds : List Reduce) → when b y ds ≡ no z → b ≡ false
unfolding when
when-no true y z ds e = absurd (let z : ◌≡◌ {A = ℕ} 0 1 = cc in omega arith)
when-no false y z ds e = refl

pub extended-is : (ds more zs : List Reduce) → extend ds more ≡ ok zs → zs ≡ ds ++ more
unfolding extend
extended-is ds more zs e = (when-ok (leb (length (ds ++ more)) 5) sixth_reduce (ds ++ more) zs e).1

pub extended-over : (ds more : List Reduce) (y : Fault) → extend ds more ≡ no y → 5 < length (ds ++ more)
unfolding extend
extended-over ds more y e = leb-false (length (ds ++ more)) 5 (when-no (leb (length (ds ++ more)) 5) sixth_reduce y (ds ++ more) e)

-- no place is free
pub pushes-none : (r : Reduces) (d : coded.Reduce) → length r.items ≡ 5 → 5 ≤ r.count → no sixth_reduce ≡ extend (reduces_are r) (reduce_is d ∷ [])
pushes-none r d l h =
    let m : 5 < length (reduces_are r ++ reduce_is d ∷ []) = rw (length-append, carried-length r l) (omega arith) in
    sym (extend-over (reduces_are r) (reduce_is d ∷ []) m)

-- a place is free
pub pushes-one : (r : Reduces) (d : coded.Reduce) → length r.items ≡ 5 → r.count < 5
    → ok (map reduce_is (take (r.count + 1) (set r.items r.count d))) ≡ extend (reduces_are r) (reduce_is d ∷ [])
pushes-one r d l h =
    let m : length (reduces_are r ++ reduce_is d ∷ []) ≤ 5 = rw (length-append, carried-length r l) (omega arith) in
    rw (add-one, take-suc-set r.items r.count d (omega arith), map-append) (sym (extend_fits (reduces_are r) (reduce_is d ∷ []) m))

-- ---- another list behind it, one reduce after another

abbrev pub no_reduce : coded.Reduce
no_reduce = record { rule = record { 0 = 0 }; offset = 0 }

-- k of the items stand behind the first list
abbrev pub Extended : Reduces → List coded.Reduce → ℕ → Reduces → Type 0
Extended r items k out = reduces_are out ≡ reduces_are r ++ map reduce_is (take k items)

pub extends-none : (r : Reduces) (items : List coded.Reduce) → Extended r items 0 r
extends-none r items = sym (append-nil (reduces_are r))

module _ (r : Reduces) (items : List coded.Reduce) (k : ℕ) (out : Reduces) (x : Extended r items k out) where
  module _ (h : k < length items) (p : Result Reduces why.Fault) (e : list_of p ≡ extend (reduces_are out) (reduce_is (get_or items k no_reduce) ∷ [])) where
    -- all that are in hand
    gathered : reduces_are out ++ reduce_is (get_or items k no_reduce) ∷ [] ≡ reduces_are r ++ map reduce_is (take (k + 1) items)
    gathered = rw (x, add-one, take-suc items k no_reduce h, map-append, append_assoc)

    pub extends-on : (next : Reduces) → p ≡ Ok next → Extended r items (k + 1) next
    extends-on next q = extended-is (reduces_are out) (reduce_is (get_or items k no_reduce) ∷ []) (reduces_are next) (listed _ p e next q) ∙ gathered

    fewer : length (map reduce_is (take (k + 1) items)) ≤ length (map reduce_is items)
    fewer = rw (length-map) (rw length-map (omega (arith, length-take (k + 1) items)))

    pub extends-over : (more : List Reduce) → map reduce_is items ≡ more → (y : why.Fault) → p ≡ Err y → no (fault_of y) ≡ extend (reduces_are r) more
    extends-over more w y q =
        let v : extend (reduces_are out) (reduce_is (get_or items k no_reduce) ∷ []) ≡ no (fault_of y) = unlisted _ p e y q in
        let m : 5 < length (reduces_are out ++ reduce_is (get_or items k no_reduce) ∷ []) = extended-over (reduces_are out) _ (fault_of y) v in
        let s : no (fault_of y) ≡ no sixth_reduce = sym v ∙ extend-over (reduces_are out) _ m in
        let o : 5 < length (reduces_are r ++ map reduce_is (take (k + 1) items)) = rw gathered at m in
        let n : 5 < length (reduces_are r ++ more) =
        rw (← w, length-append) (omega (arith, rw length-append at o, fewer)) in
        s ∙ sym (extend-over (reduces_are r) more n)

  pub extends-all : (more : List Reduce) → map reduce_is items ≡ more → length items ≤ k → ok (reduces_are out) ≡ extend (reduces_are r) more
  extends-all more w h =
      let all : reduces_are out ≡ reduces_are r ++ more = x ∙ rw (take_all k items h, w) in
      let m : length (reduces_are r ++ more) ≤ 5 = rw all at (carried-few out) in
      rw all (sym (extend_fits (reduces_are r) more m))

-- ---- offsets raised by one

-- the first k of a list changed
abbrev pub changed : {A : Type 0} → (A → A) → ℕ → List A → List A
changed f k ds = map f (take k ds) ++ drop k ds

changed-more : {A : Type 0} (f : A → A) (k : ℕ) (ds : List A) (d : A) → k < length ds
    → set (changed f k ds) k (f (get_or ds k d)) ≡ changed f (suc k) ds
changed-more f k ds d h =
    let n : length (map f (take k ds)) ≡ k = rw (length-map, length-take-le k ds (omega arith)) in
    rw (drop-cons ds k d h, take-suc ds k d h, map-append, set_at (map f (take k ds)) (get_or ds k d) (drop (suc k) ds) (f (get_or ds k d)) k n, append_assoc)

changed-at : {A : Type 0} (f : A → A) (k : ℕ) (ds : List A) (d : A) → k < length ds → get_or (changed f k ds) k d ≡ get_or ds k d
changed-at f k ds d h =
    let n : length (map f (take k ds)) ≡ k = rw (length-map, length-take-le k ds (omega arith)) in
    rw (drop-cons ds k d h, get_or_at (map f (take k ds)) (get_or ds k d) (drop (suc k) ds) d k n)

changed-all : {A : Type 0} (f : A → A) (k : ℕ) (ds : List A) → length ds ≤ k → changed f k ds ≡ map f ds
changed-all f k ds h = rw (take_all k ds h, drop_of_length-le ds {i = k} h, append-nil)

low_step : (k : ℕ) (ds : List Reduce) (d : Reduce) → k < length ds → low_offsets (drop k ds) ≡ ltb (get_or ds k d).offset most_offset && low_offsets (drop (suc k) ds)
unfolding low_offsets
low_step k ds d h = rw (drop-cons ds k d h)

low_end : (k : ℕ) (ds : List Reduce) → length ds ≤ k → low_offsets (drop k ds) ≡ true
unfolding low_offsets
low_end k ds h = rw (drop_of_length-le ds {i = k} h)

map-set : {A B : Type 0} (f : A → B) (l : List A) (i : ℕ) (a : A) → map f (set l i a) ≡ set (map f l) i (f a)
map-set f [] i a = refl
map-set f (x ∷ xs) zero a = refl
map-set f (x ∷ xs) (suc i) a = rw (map-set f xs i a)

-- the first k are raised, and the others decide whether all can be
pub record Raised (r : Reduces) (k : ℕ) (items : List coded.Reduce) : Type 0 where
  pub places : length items ≡ 5
  pub whole : length r.items ≡ 5
  pub gives : map reduce_is (take r.count items) ≡ changed raised k (reduces_are r)
  pub low : low_offsets (drop k (reduces_are r)) ≡ low_offsets (reduces_are r)

abbrev pub raise : coded.Reduce → coded.Reduce
raise d = record { rule = d.rule; offset = d.offset + 1 }

pub raised-none : (r : Reduces) → length r.items ≡ 5 → Raised r 0 r.items
raised-none r l = record { places = l; whole = l; gives = refl; low = refl }

module _ (r : Reduces) (k : ℕ) (items : List coded.Reduce) (x : Raised r k items) where
  module _ (h : k < r.count) where
    within : k < length (reduces_are r)
    within = rw (carried-length r x.whole) h

    -- the next one is as it was
    next-is : reduce_is (get_or items k no_reduce) ≡ get_or (reduces_are r) k (reduce_is no_reduce)
    next-is =
        let now : Reduces = record { count = r.count; items = items; few = r.few } in
        sym (place-used now k h) ∙ ap (λ (ds : List Reduce). get_or ds k (reduce_is no_reduce)) x.gives ∙ changed-at raised k (reduces_are r) (reduce_is no_reduce) within

    pub raised-more : (get_or items k no_reduce).offset < most_offset → Raised r (k + 1) (set items k (raise (get_or items k no_reduce)))
    raised-more o =
        let n = next-is in
        let g : map reduce_is (take r.count (set items k (raise (get_or items k no_reduce)))) ≡ changed raised (suc k) (reduces_are r) =
        rw (take-set-lt r.count items k (raise (get_or items k no_reduce)) h, map-set)
        (ap (λ (ds : List Reduce). set ds k (raised (reduce_is (get_or items k no_reduce)))) x.gives
        ∙ ap (λ (d : Reduce). set (changed raised k (reduces_are r)) k (raised d)) n
        ∙ changed-more raised k (reduces_are r) (reduce_is no_reduce) within) in
        let t : ltb (get_or (reduces_are r) k (reduce_is no_reduce)).offset most_offset ≡ true = rw (← n) (lt-ltb (get_or items k no_reduce).offset most_offset o) in
        let s = low_step k (reduces_are r) (reduce_is no_reduce) within in
        rw (add-one k) (record { places = rw length-set x.places; whole = x.whole; gives = g; low = sym (rw t at s) ∙ x.low })

    pub raises-not : most_offset ≤ (get_or items k no_reduce).offset → no far_offset ≡ increment_offsets (reduces_are r)
    unfolding increment_offsets when
    raises-not o =
        let t : ltb (get_or (reduces_are r) k (reduce_is no_reduce)).offset most_offset ≡ false = rw (← next-is) (le-ltb (get_or items k no_reduce).offset most_offset o) in
        let b : low_offsets (reduces_are r) ≡ false = sym x.low ∙ rw t at (low_step k (reduces_are r) (reduce_is no_reduce) within) in
        rw b

  pub raises-all : r.count ≤ k → ok (map reduce_is (take r.count items)) ≡ increment_offsets (reduces_are r)
  unfolding increment_offsets when
  raises-all h =
      let n : length (reduces_are r) ≤ k = rw (carried-length r x.whole) h in
      let b : low_offsets (reduces_are r) ≡ true = sym x.low ∙ low_end k (reduces_are r) n in
      rw (b, x.gives, changed-all raised k (reduces_are r) n)

pub raised-zero : (k : ℕ) (ds : List Reduce) → k ≡ 0 → raised_on k ds ≡ ok ds
unfolding raised_on
raised-zero k ds e = rw e

pub raised-other : (k : ℕ) (ds : List Reduce) → (k ≡ 0 → ⊥) → raised_on k ds ≡ increment_offsets ds
unfolding raised_on
raised-other zero ds h = absurd (h refl)
raised-other (suc k) ds h = refl

-- ---- the reduces that another list lacks

pub no-rule : (r : ℕ) (list : List coded.Reduce) → length list < 1 → false ≡ has_rule r (map reduce_is list)
unfolding has_rule
no-rule r [] h = refl
no-rule r (c ∷ cs) h = absurd (omega arith)

pub first-rule : (r : ℕ) (list : List coded.Reduce) → 1 ≤ length list → eqb (get_or list 0 no_reduce).rule.0 r ≡ has_rule r (map reduce_is list)
unfolding has_rule
first-rule r [] h = absurd (omega arith)
first-rule r (c ∷ cs) h = refl

pub some-rule : (r : ℕ) (list : List coded.Reduce) → has_rule r (map reduce_is list) ≡ true → 1 ≤ length list
unfolding has_rule
some-rule r [] h = absurd (false≢true h)
some-rule r (c ∷ cs) h = omega arith

diff-has : (d : Reduce) (ds es : List Reduce) → has_rule d.rule es ≡ true → diff_extend (d ∷ ds) es ≡ diff_extend ds (drop 1 es)
unfolding diff_extend has_rule
diff-has d ds [] h = absurd (false≢true h)
diff-has d ds (c ∷ cs) h = rw (eq-eqb d.rule c.rule (sym (eqb-true c.rule d.rule h)), diff_extend)

diff-lacks : (d : Reduce) (ds es : List Reduce) → has_rule d.rule es ≡ false → diff_extend (d ∷ ds) es ≡ bind (diff_extend ds es) (λ more. ok (d ∷ more))
unfolding diff_extend has_rule bind
diff-lacks d [] [] h = refl
diff-lacks d (c ∷ ds) [] h = refl
diff-lacks d ds (c ∷ cs) h = rw (ne_eqb d.rule c.rule (λ e. eqb-false c.rule d.rule h (sym e)), diff_extend)

map-rest : (list : List coded.Reduce) → map reduce_is (drop 1 list) ≡ drop 1 (map reduce_is list)
map-rest [] = refl
map-rest (c ∷ cs) = refl

bind-behind : (x : Res Fault (List Reduce)) (ds : List Reduce) (d : Reduce)
    → bind (bind x (λ more. ok (d ∷ more))) (λ more. ok (ds ++ more)) ≡ bind x (λ more. ok ((ds ++ d ∷ []) ++ more))
unfolding bind
bind-behind (ok more) ds d = rw (append_assoc ds (d ∷ []) more)
bind-behind (no y) ds d = refl

-- of the first k of f, some were matched and the others are carried; what is left decides
pub record Differs (f : List coded.Reduce) (es : List Reduce) (out : Reduces) (left : List coded.Reduce) (k : ℕ) : Type 0 where
  pub k-in : k ≤ length f
  pub few : length f ≤ 5
  pub short : length (reduces_are out) ≤ k
  pub same : bind (diff_extend (map reduce_is (drop k f)) (map reduce_is left)) (λ more. ok (reduces_are out ++ more)) ≡ diff_extend (map reduce_is f) es

pub differs-none : (f left : List coded.Reduce) (es : List Reduce) (out : Reduces) → length f ≤ 5 → map reduce_is left ≡ es → reduces_are out ≡ [] → Differs f es out left 0
differs-none f left es out m e h = record {
  k-in = omega arith;
  few = m;
  short = rw h (omega arith);
  same = rw (e, h) (bind_ok (diff_extend (map reduce_is f) es));
}

module _ (f : List coded.Reduce) (es : List Reduce) (out : Reduces) (left : List coded.Reduce) (k : ℕ) (x : Differs f es out left k) where
  module _ (h : k < length f) where
    abbrev here : coded.Reduce
    here = get_or f k no_reduce

    next-left : map reduce_is (drop k f) ≡ reduce_is here ∷ map reduce_is (drop (k + 1) f)
    next-left = rw (drop-cons f k no_reduce h, add-one)

    pub differs-matched : has_rule here.rule.0 (map reduce_is left) ≡ true → Differs f es out (drop 1 left) (k + 1)
    differs-matched t = record {
      k-in = omega arith;
      few = x.few;
      short = omega (arith, x.short);
      same = rw (map-rest left) (rw (next-left, diff-has (reduce_is here) (map reduce_is (drop (k + 1) f)) (map reduce_is left) t) at x.same);
    }

    module _ (p : Result Reduces why.Fault) (e : list_of p ≡ extend (reduces_are out) (reduce_is here ∷ [])) where
      room : length (reduces_are out ++ reduce_is here ∷ []) ≤ 5
      room = rw length-append (omega (arith, x.short, x.few))

      pub differs-carried : (next : Reduces) → p ≡ Ok next → has_rule here.rule.0 (map reduce_is left) ≡ false → Differs f es next left (k + 1)
      differs-carried next q lacks =
          let n : reduces_are next ≡ reduces_are out ++ reduce_is here ∷ [] = extended-is (reduces_are out) _ (reduces_are next) (listed _ p e next q) in
          record {
            k-in = omega arith;
            few = x.few;
            short = rw (n, length-append) (omega (arith, x.short));
            same = rw n (sym (bind-behind (diff_extend (map reduce_is (drop (k + 1) f)) (map reduce_is left)) (reduces_are out) (reduce_is here))
                ∙ (rw (next-left, diff-lacks (reduce_is here) (map reduce_is (drop (k + 1) f)) (map reduce_is left) lacks) at x.same));
          }

      -- there is room for it
      pub carries-fits : (y : why.Fault) → p ≡ Err y → ⊥
      carries-fits y q =
          let v : ok (reduces_are out ++ reduce_is here ∷ []) ≡ no (fault_of y) = sym (extend_fits (reduces_are out) _ room) ∙ unlisted _ p e y q in
          let z : ◌≡◌ {A = ℕ} 0 1 = cc in
          omega arith

  module _ (h : length f ≤ k) where
    ended : bind (diff_extend [] (map reduce_is left)) (λ more. ok (reduces_are out ++ more)) ≡ diff_extend (map reduce_is f) es
    ended = rw (drop_of_length-le f {i = k} h) at x.same

    pub differs-all : length left ≡ 0 → ok (reduces_are out) ≡ diff_extend (map reduce_is f) es
    unfolding diff_extend bind
    differs-all t = by left t ended
      where
        by : (left : List coded.Reduce) → length left ≡ 0 → bind (diff_extend [] (map reduce_is left)) (λ more. ok (reduces_are out ++ more)) ≡ diff_extend (map reduce_is f) es
            → ok (reduces_are out) ≡ diff_extend (map reduce_is f) es
        by [] t e = rw append-nil at e
        by (c ∷ cs) t e = absurd (omega arith)

    pub differs-over : 0 < length left → no bad_copy ≡ diff_extend (map reduce_is f) es
    unfolding diff_extend bind
    differs-over t = by left t ended
      where
        by : (left : List coded.Reduce) → 0 < length left → bind (diff_extend [] (map reduce_is left)) (λ more. ok (reduces_are out ++ more)) ≡ diff_extend (map reduce_is f) es
            → no bad_copy ≡ diff_extend (map reduce_is f) es
        by [] t e = absurd (omega arith)
        by (c ∷ cs) t e = e

-- ---- equal lists

pub same-pairs : (E : coded.Reduce → coded.Reduce → Bool) → ((c d : coded.Reduce) → E c d ≡ eqb c.rule.0 d.rule.0 && eqb c.offset d.offset)
    → (cs ds : List coded.Reduce) → pointwise E cs ds ≡ same_reduces (map reduce_is cs) (map reduce_is ds)
unfolding same_reduces
same-pairs E e [] [] = refl
same-pairs E e [] (d ∷ ds) = refl
same-pairs E e (c ∷ cs) [] = refl
same-pairs E e (c ∷ cs) (d ∷ ds) = rw (e c d, same-pairs E e cs ds)

-- ---- a list stored where others are there

pub store_same : (ds : List Reduce) (e d : Edge) → same_reduces e.reduces d.reduces ≡ true → store_other ds e d ≡ ok ds
unfolding store_other
store_same ds e d h = rw (h, store_other)

pub store-more : (ds : List Reduce) (e d : Edge) → same_reduces e.reduces d.reduces ≡ false → store_other ds e d ≡ extend ds e.reduces
unfolding store_other
store-more ds e d h = rw (h, store_other)

-- ---- what a row to a leaf carries

module _ (r : ℕ) (e : held.Edge) (ds : List Reduce) where
  abbrev last : List Reduce
  last = record { rule = r; offset = 0 } ∷ []

  pub leaf-far : (y : Fault) → raised_on e.key.kind ds ≡ no y → no y ≡ leaf_reduces r (edge_is e) ds
  unfolding leaf_reduces bind
  leaf-far y h = rw h

  module _ (zs : List Reduce) (h : raised_on e.key.kind ds ≡ ok zs) where
    pub leaf-full : (y : Fault) → extend (reduces_are e.reduces) zs ≡ no y → no y ≡ leaf_reduces r (edge_is e) ds
    unfolding leaf_reduces bind
    leaf-full y x =
        let o : 5 < length (reduces_are e.reduces ++ zs) = extended-over (reduces_are e.reduces) zs y x in
        let m : 5 < length (reduces_are e.reduces ++ (zs ++ last)) =
        omega (
          arith,
          o,
          length-append (reduces_are e.reduces) zs,
          length-append (reduces_are e.reduces) (zs ++ last),
          length-append zs last,
        ) in
        rw (h, extend-over (reduces_are e.reduces) (zs ++ last) m) (sym x ∙ extend-over (reduces_are e.reduces) zs o)

    pub leaf-listed : (own : List Reduce) → extend (reduces_are e.reduces) zs ≡ ok own → extend own last ≡ leaf_reduces r (edge_is e) ds
    unfolding leaf_reduces bind extend
    leaf-listed own x = rw (h, extended-is (reduces_are e.reduces) zs own x, append_assoc (reduces_are e.reduces) zs last)
