-- Entries in two slices, planned and woven into a list.
use mathlib.Core.Path.{◌≡◌, refl, sym, ap, subst, ◌∙◌}
use mathlib.Core.Bool.{Bool, true, false}
use mathlib.Core.List.{List, [], ◌∷◌, ◌++◌, append_assoc, map, map-append}
use Prim.Native.Nat.{ℕ, suc, ◌+◌, ◌-◌, ◌≤◌, ◌<◌}
use native.Mathlib.Omega.{arith}
use native.Mathlib.Numerals.{add-one}
use native.Mathlib.Nat.{sub-zero}
use lib.Dec.{leb}
use lib.ListN.{length, get_or, take, drop, set, length-append, length-drop, drop_of_length-le, take-append-drop}
use lib.Seq.{drop-cons, take-suc, length-take-le, take_at, drop_at, take-append-le, take-take, set_at}
use borrow.Author.Tests.{le-leb, lt-leb, leb-false}
use Rattle.words.specs.Lent.{moved_up}
use Rattle.words.specs.Outcome.{Res, ok, no, bind}
use Rattle.words.specs.Numbers.{Why}
use Rattle.words.proofs.Theorems.Tests.{by-test}
use Rattle.rules.specs.Rules.{Rule}
use Rattle.rows.specs.Rows.{Reduce}
use Rattle.rows.specs.Code.{reduce_is}
use Rattle.rows.specs.declared.reduce_list.Reduce as coded
use Rattle.formula.specs.Reducing.{Trees, reduce, reduce_all}
use Rattle.formula.specs.Tail.{measure, Entry, put, Rising, woven, plan}
use Rattle.formula.specs.Code.{trees_of, Inside, Gives}
use Rattle.formula.specs.TailCode.{Measures, entry_is, entries_of, entries_in, rank, Plans}
use Rattle.std.specs.Prelude.{Result, Ok, Err}
use Rattle.std.specs.List.{copy_within}
use Rattle.std.proofs.lemmas.List.{drop-take, drop-map, take-map}
use Rattle.formula.specs.declared.Trees as held
use Rattle.formula.specs.declared.Unfit.{Unfit}
use Rattle.formula.specs.declared.sizes.Fit.{Fit}
use Rattle.formula.specs.declared.tail.Entry as coded_entry
use Rattle.formula.proofs.Theorems.Tail.{cut, rising_le, rising-drop, woven-from, length-woven, all-planned, Laid, all_laid}
use Rattle.formula.proofs.Reducing.{sized_of, sized-length, inside_of}

-- ---- the entries before a place

module _ (es : List Entry) (p i : ℕ) where
  pub rank-here : (e : Entry) → drop i es ≡ e ∷ drop (i + 1) es → p ≤ e.place + i → rank (p - i) (drop i es) ≡ 0
  unfolding rank
  rank-here e d k = rw (d, le-leb (p - i) e.place (omega arith))

  pub rank-next : (e : Entry) → drop i es ≡ e ∷ drop (i + 1) es → e.place + i < p → rank (p - i) (drop i es) ≡ suc (rank (p - (i + 1)) (drop (i + 1) es))
  unfolding rank
  rank-next e d k =
      let q : p - i - 1 ≡ p - (i + 1) = omega arith in
      rw (d, lt-leb (p - i) e.place (omega arith), q)

  pub rank-end : length es ≤ i → rank (p - i) (drop i es) ≡ 0
  unfolding rank
  rank-end h = rw (drop_of_length-le es h)

pub rank-le : (p : ℕ) (es : List Entry) → (rank p es ≤ p) × (rank p es ≤ length es)
unfolding rank
rank-le p [] = (omega arith, omega arith)
rank-le p (e ∷ es) =
    by-test (λ (n : ℕ). (n ≤ p) × (n ≤ suc (length es))) (leb p e.place) (λ t. (omega arith, omega arith))
    λ t.
    let h = leb-false p e.place t in
    let r = rank-le (p - 1) es in
    (omega (arith, h, r.0), omega (arith, r.1))

-- ---- an entry put among those that a slice holds

put-by : (p r : ℕ) (e : Entry) (es : List Entry) (b : Bool) → leb p e.place ≡ b
    → put (p - 1) r es ≡ take (rank (p - 1) es) es ++ record { place = p - 1 - rank (p - 1) es; rule = r } ∷ drop (rank (p - 1) es) es
    → put p r (e ∷ es) ≡ take (rank p (e ∷ es)) (e ∷ es) ++ record { place = p - rank p (e ∷ es); rule = r } ∷ drop (rank p (e ∷ es)) (e ∷ es)
unfolding put rank
put-by p r e es true t h = rw (t, sub-zero p)
put-by p r e es false t h =
    let q : p - suc (rank (p - 1) es) ≡ p - 1 - rank (p - 1) es = omega arith in
    rw (t, q, h)

put-rank : (p r : ℕ) (es : List Entry) → put p r es ≡ take (rank p es) es ++ record { place = p - rank p es; rule = r } ∷ drop (rank p es) es
unfolding put rank
put-rank p r [] = rw (sub-zero p)
put-rank p r (e ∷ es) = put-by p r e es _ refl (put-rank (p - 1) r es)

-- an entry more in a slice, after those from number i on have moved up by one
module _ (n i : ℕ) (x : coded_entry.Entry) (es : List coded_entry.Entry) (h : i ≤ n) (k : n < length es) where
  entry-in : take (n + 1) (set (copy_within es i n (i + 1)) i x) ≡ take i (take n es) ++ x ∷ drop i (take n es)
  entry-in =
      let f = take i es in
      let m = take (n - i) (drop i es) in
      let d = drop (i + 1 + (n - i)) es in
      let lf : length f ≡ i = length-take-le i es (omega arith) in
      let lm : length m ≡ n - i = length-take-le (n - i) (drop i es) (omega (arith, length-drop i es)) in
      let e : copy_within es i n (i + 1) ≡ f ++ get_or es i x ∷ (m ++ d) =
      let t : take (i + 1) es ≡ f ++ get_or es i x ∷ [] = rw add-one (take-suc es i x (omega arith)) in
      rw (t, append_assoc f (get_or es i x ∷ []) m) (append_assoc f (get_or es i x ∷ m) d) in
      let u : set (copy_within es i n (i + 1)) i x ≡ (f ++ x ∷ m) ++ d =
      rw (e, set_at f (get_or es i x) (m ++ d) x i lf) (sym (append_assoc f (x ∷ m) d)) in
      let q : i + (n - i) ≡ n = omega arith in
      let g : drop i (take n es) ≡ m = rw q at (drop-take i (n - i) es) in
      rw (u, g, take-take i n es h) (take_at (f ++ x ∷ m) d (n + 1) (length-append f (x ∷ m) ∙ omega (arith, lf, lm)))

  pub put-in : (p : ℕ) → i ≡ rank p (entries_in n es) → x.place ≡ p - i → entries_in (n + 1) (set (copy_within es i n (i + 1)) i x) ≡ put p x.rule.0 (entries_in n es)
  put-in p e f =
      rw (entry-in, map-append entry_is (take i (take n es)) (x ∷ drop i (take n es)), ← take-map entry_is i (take n es), ← drop-map entry_is i (take n es), f, e)
      (sym (put-rank p x.rule.0 (entries_in n es)))

-- ---- the reduces of an edge, from number k on

module _ (R : List Rule) (room : ℕ) (ds : List coded.Reduce) (k : ℕ) (d : coded.Reduce) (h : k < length ds) where
  abbrev here : coded.Reduce
  here = get_or ds k d

  split : drop k (map reduce_is ds) ≡ reduce_is here ∷ drop (k + 1) (map reduce_is ds)
  split = rw (drop-map reduce_is k ds, drop-map reduce_is (k + 1) ds, drop-cons ds k d h, add-one k)

  module _ (s : held.Trees) (zs ws : List ℕ) (es : List Entry) where
    pub plan-on : (f : Fit) → Measures room s (Ok f) ws (measure R room here.rule.0 here.offset zs)
        → plan R room (drop k (map reduce_is ds)) zs es ≡ plan R room (drop (k + 1) (map reduce_is ds)) (take f.trees.count ws) (put f.place here.rule.0 es)
    unfolding plan bind
    plan-on f m = rw (split, ← m.outcome)

    pub plan-none : (cs : List coded_entry.Entry) (n : ℕ) (y : Unfit) → Measures room s (Err y) ws (measure R room here.rule.0 here.offset zs)
        → Plans room n (Err y) ws cs (plan R room (drop k (map reduce_is ds)) zs es)
    unfolding plan bind
    plan-none cs n y m = record { outcome = rw (split, ← m.outcome); sized = tt }

pub plan-end : (R : List Rule) (room : ℕ) (ds : List Reduce) (k : ℕ) (zs : List ℕ) (es : List Entry) → length ds ≤ k
    → plan R room (drop k ds) zs es ≡ ok (record { sizes = zs; entries = es })
unfolding plan
plan-end R room ds k zs es h = rw (drop_of_length-le ds h)

-- ---- entries woven into the list, the last one first

-- number j, and those after it
pub entry_at : (cs : List coded_entry.Entry) (j left : ℕ) (d : coded_entry.Entry) → left ≡ suc j → j < length cs
    → drop j (entries_of cs) ≡ entry_is (get_or cs j d) ∷ drop left (entries_of cs)
entry_at cs j left d e h = rw (e, drop-map entry_is j cs, drop-map entry_is (suc j) cs, drop-cons cs j d h)

-- the entries from `left` on stand in the list, and the words from `end` on; what stands below is as it was
abbrev pub woven_to : List ℕ → List Entry → ℕ → ℕ → ℕ → ℕ → List ℕ
woven_to l es len n end left = take (end + left) l ++ (woven end (drop left es) (take len l) ++ drop (len + n) l)

-- where the first of these entries goes, or the end
abbrev pub first_place : List Entry → ℕ → ℕ
first_place [] n = n
first_place (e ∷ es) n = e.place

pub first-none : (es : List Entry) (n len : ℕ) → length es ≤ n → len ≡ first_place (drop n es) len
first-none es n len h = rw (drop_of_length-le es h)

rising-first : (i : ℕ) (es : List Entry) (n : ℕ) → Rising i es n → i ≤ first_place es n
rising-first i [] n h = h
rising-first i (e ∷ es) n h = h.0

rising-there : (i : ℕ) (es : List Entry) (n : ℕ) → Rising i es n → Rising (first_place es n) es n
rising-there i [] n h = omega arith
rising-there i (e ∷ es) n h = (omega arith, h.1)

module _ (l : List ℕ) (es : List Entry) (len n : ℕ) (h : Rising 0 es len) (k : len + n ≤ length l) where
  len_is : length (take len l) ≡ len
  len_is = length-take-le len l (omega arith)

  pub woven-none : length es ≤ n → l ≡ woven_to l es len n len n
  unfolding woven
  woven-none e =
      let d : drop n es ≡ [] = drop_of_length-le es e in
      let z : drop len (take len l) ≡ [] = drop_of_length-le (take len l) {i = len} (omega (arith, len_is)) in
      rw (d, z) (sym (take-append-drop (len + n) l))

  module _ (end left : ℕ) (c : end ≡ first_place (drop left es) len) where
    rising-end : Rising end (drop left es) len
    rising-end = subst (λ (i : ℕ). Rising i (drop left es) len) (sym c) (rising-there 0 (drop left es) len (rising-drop left 0 es len h))

    end-le : end ≤ len
    end-le = rising_le end (drop left es) len rising-end

    -- the words before `end`, then the rest
    words-first : (p : ℕ) → p ≤ end → woven p (drop left es) (take len l) ≡ drop p (take end l) ++ woven end (drop left es) (take len l)
    words-first p i =
        let g = subst (λ (m : ℕ). Rising end (drop left es) m) (sym len_is) rising-end in
        woven-from p end (drop left es) (take len l) i g
        ∙ ap (λ (x : List ℕ). drop p x ++ woven end (drop left es) (take len l)) (take-take end len l end-le)

  module _ (end left j p r : ℕ) (a : left ≡ suc j) (b : drop j es ≡ record { place = p; rule = r } ∷ drop left es) (c : end ≡ first_place (drop left es) len) where
    pub place-le : p ≤ end
    place-le = omega (arith, c, rising-first p (drop left es) len (subst (λ (x : List Entry). Rising 0 x len) b (rising-drop j 0 es len h)).1)

    -- the entry, then the words up to those that are woven
    entry_first : woven p (drop j es) (take len l) ≡ r ∷ (drop p (take end l) ++ woven end (drop left es) (take len l))
    unfolding woven
    entry_first =
        let z : drop p (take p (take len l)) ≡ [] =
        drop_of_length-le (take p (take len l)) {i = p} (omega (arith, length-take-le p (take len l) (omega (arith, len_is, place-le, end-le end left c)))) in
        ap (λ (x : List Entry). woven p x (take len l)) b ∙ rw z (ap (λ (x : List ℕ). r ∷ x) (words-first end left c p place-le))

    pub woven-more : (l' : List ℕ) → l' ≡ woven_to l es len n end left → left ≤ n → set (moved_up l' p end left) (p + j) r ≡ woven_to l es len n p j
    woven-more l' e f =
        let rest = drop (len + n) l in
        let w = woven end (drop left es) (take len l) in
        let t = take (end + left) l in
        let m : length t ≡ end + left = length-take-le (end + left) l (omega (arith, end-le end left c)) in
        let x : take (p + left) l' ≡ take (p + left) l =
        rw e (take-append-le (p + left) t (w ++ rest) (omega (arith, m, place-le)) ∙ take-take (p + left) (end + left) l (omega (arith, place-le))) in
        let y : take end l' ≡ take end l = rw e (take-append-le end t (w ++ rest) (omega (arith, m)) ∙ take-take end (end + left) l (omega arith)) in
        let z : drop (end + left) l' ≡ w ++ rest = rw e (drop_at t (w ++ rest) (end + left) m) in
        let i : p + left ≡ suc (p + j) = omega (arith, a) in
        let q : p + j < length l = omega (arith, a, place-le, end-le end left c) in
        let u = drop p (take end l) ++ (w ++ rest) in
        let v : moved_up l' p end left ≡ take (p + j) l ++ get_or l (p + j) 0 ∷ u =
        rw (x, y, z, i, take-suc l (p + j) 0 q) (append_assoc (take (p + j) l) (get_or l (p + j) 0 ∷ []) u) in
        rw (v, set_at (take (p + j) l) (get_or l (p + j) 0) u r (p + j) (length-take-le (p + j) l (omega (arith, q))), entry_first)
        (ap (λ (x : List ℕ). take (p + j) l ++ r ∷ x) (sym (append_assoc (drop p (take end l)) w rest)))

  pub woven-all : (end : ℕ) → end ≡ first_place es len → woven_to l es len n end 0 ≡ woven 0 es (take len l) ++ drop (len + n) l
  woven-all end c =
      let z : end + 0 ≡ end = omega arith in
      rw (z, words-first end 0 c 0 (omega arith)) (sym (append_assoc (take end l) (woven end es (take len l)) (drop (len + n) l)))

-- ---- the reduces of an edge in the list too

pub all_none : (R : List Rule) (room : ℕ) (ds : List coded.Reduce) (s : held.Trees) (ls ws : List ℕ) → Inside room s ls ws → length ds < 1
    → Gives room (Ok s) ls ws (reduce_all R room (map reduce_is ds) (trees_of s ls ws))
unfolding reduce_all
all_none R room [] s ls ws i h = record { outcome = refl; inside = i }
all_none R room (d ∷ ds) s ls ws i h = absurd (omega arith)

-- one reduce alone
then-none : (R : List Rule) (room : ℕ) (x : Res Why Trees) → bind x (reduce_all R room []) ≡ x
unfolding bind reduce_all
then-none R room (ok ts) = refl
then-none R room (no y) = refl

pub all_one : (R : List Rule) (room : ℕ) (ds : List coded.Reduce) (c : coded.Reduce) (ts : Trees) → 1 ≤ length ds → length ds < 2
    → reduce_all R room (map reduce_is ds) ts ≡ reduce R room (get_or ds 0 c).rule.0 (get_or ds 0 c).offset ts
unfolding reduce_all
all_one R room [] c ts h k = absurd (omega arith)
all_one R room (d ∷ []) c ts h k = then-none R room (reduce R room d.rule.0 d.offset ts)
all_one R room (d ∷ x ∷ ds) c ts h k = absurd (omega arith)

module _ (R : List Rule) (room : ℕ) (ds : List Reduce) (s : held.Trees) (ls ws : List ℕ) (i : Inside room s ls ws) where
  all-is : reduce_all R room ds (trees_of s ls ws) ≡ bind (plan R room ds (take s.count ws) []) λ p. ok (cut p.sizes (woven 0 p.entries (take s.len ls)))
  unfolding trees_of
  all-is = all-planned R room ds (take s.count ws) (take s.len ls) (sized-length room s ls ws (sized_of room s ls ws i) i.lent.0)

  module _ (k : ℕ) (ws' : List ℕ) (cs : List coded_entry.Entry) where
    abbrev Planned : Result held.Trees Unfit → Type 0
    Planned r = Plans room k r ws' cs (plan R room ds (take s.count ws) [])

    pub all-refused : (ls' : List ℕ) (y : Unfit) → Planned (Err y) → Gives room (Err y) ls' ws' (reduce_all R room ds (trees_of s ls ws))
    unfolding bind
    all-refused ls' y q = record { outcome = sym (all-is ∙ rw (← q.outcome)); inside = tt }

    module _ (n : length ds ≡ k) (t : held.Trees) (q : Planned (Ok t)) where
      -- entries in order, one for each reduce
      pub laid : Rising 0 (entries_in k cs) s.len × (length (entries_in k cs) ≡ k) × (t.len ≡ s.len + k)
      laid =
          let z = sized_of room s ls ws i in
          let l = subst (λ x. Laid s.len k x) (sym q.outcome) (rw n at (all_laid R room s.len ds (take s.count ws) z.sum)) in
          (l.0, l.1, sym q.sized.sum ∙ l.2)

      pub room-left : s.len + k ≤ length ls
      room-left = omega (arith, laid.2, q.sized.fits, i.lent)

      pub all_done : (ls' : List ℕ) → ls' ≡ woven 0 (entries_in k cs) (take s.len ls) ++ drop (s.len + k) ls → length ls' ≡ length ls
          → Gives room (Ok t) ls' ws' (reduce_all R room ds (trees_of s ls ws))
      unfolding bind trees_of
      all_done ls' g m =
          let es = entries_in k cs in
          let l = take s.len ls in
          let c : length l ≡ s.len = length-take-le s.len ls (omega (arith, room-left)) in
          let w : length (woven 0 es l) ≡ t.len = omega (arith, length-woven 0 es l (subst (λ (n : ℕ). Rising 0 es n) (sym c) laid.0), c, laid.1, laid.2) in
          let x : take t.len ls' ≡ woven 0 es l = rw g (take_at (woven 0 es l) (drop (s.len + k) ls) t.len w) in
          record {
            outcome = ap (λ (y : List ℕ). ok (cut (take t.count ws') y)) x ∙ sym (all-is ∙ rw (← q.outcome));
            inside = inside_of room t ls' ws' q.sized (omega (arith, m, i.lent));
          }
