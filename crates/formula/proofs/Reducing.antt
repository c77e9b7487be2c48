-- Trees in lent slices: sums, words moved, and what a reduce meets.
use mathlib.Core.Path.{◌≡◌, refl, sym, ap, ◌∙◌}
use mathlib.Core.List.{List, [], ◌∷◌, ◌++◌, append_assoc}
use Prim.Native.Nat.{ℕ, ◌+◌, ◌-◌, ◌≤◌, ◌<◌}
use native.Mathlib.Omega.{arith}
use native.Mathlib.Numerals.{add-one}
use lib.ListN.{length, get_or, take, drop, set, length-append, length-drop}
use lib.Seq.{take-suc, length-take-le, set_at, take_at, take-take, take-add}
use Rattle.std.specs.Prelude.{Ok, Err, sum}
use Rattle.std.specs.List.{copy_within}
use Rattle.std.proofs.lemmas.List.Sums.{sum_by-cons}
use Rattle.words.specs.Lent.{inserted}
use Rattle.words.specs.Outcome.{ok, bind}
use Rattle.rules.specs.Rules.{Rule, rule_of, the_rules, slots}
use Rattle.rules.specs.Code.{Starts, Missing}
use Rattle.formula.specs.Reducing.{reduce}
use Rattle.formula.specs.Code.{trees_of, Inside, Gives}
use Rattle.formula.specs.declared.Trees as held
use Rattle.formula.specs.declared.Unfit.{Unfit}
use Rattle.formula.specs.declared.Unfit.TheVariants.{TooFew, Full}
use Rattle.formula.specs.Tail.{total, Measured, joined, measure}
use Rattle.formula.specs.TailCode.{Sized, Joins, Measures}
use Rattle.formula.specs.declared.sizes.Fit.{Fit}
use Rattle.formula.proofs.Theorems.Flat.{drop-take, total-append}
use Rattle.formula.proofs.Theorems.Held.{sizes-total, cut-flat, cut-sizes}
use Rattle.formula.proofs.Theorems.Tail.{measure-no-rule, measure-few, measure-full, measure-fits, joined-place, joined-total, put_in, cut, after, reduce-cut}

-- ---- sums, and words moved

pub total-sum : (ws : List ℕ) → sum ws ≡ total ws
unfolding total
total-sum [] = refl
total-sum (w ∷ ws) = sum_by-cons (λ (x : ℕ). x) w ws ∙ ap (λ (n : ℕ). w + n) (total-sum ws)

-- k words become one: what stands after them is moved down, and it is put where the first of them was
pub replaced : (ws : List ℕ) (n at k x : ℕ) → at + k ≤ n → n < length ws
    → take (n + 1 - k) (set (copy_within ws (at + k) n (at + 1)) at x) ≡ take at ws ++ x ∷ drop (at + k) (take n ws)
replaced ws n at k x h b =
    let f = take at ws in
    let m = take (n - (at + k)) (drop (at + k) ws) in
    let d = drop (at + 1 + (n - (at + k))) ws in
    let lf : length f ≡ at = length-take-le at ws (omega arith) in
    let lm : length m ≡ n - (at + k) = length-take-le (n - (at + k)) (drop (at + k) ws) (omega (arith, length-drop (at + k) ws)) in
    let e : copy_within ws (at + k) n (at + 1) ≡ f ++ get_or ws at 0 ∷ (m ++ d) =
    let t : take (at + 1) ws ≡ f ++ get_or ws at 0 ∷ [] = rw add-one (take-suc ws at 0 (omega arith)) in
    rw (t, append_assoc f (get_or ws at 0 ∷ []) m) (append_assoc f (get_or ws at 0 ∷ m) d) in
    let u : set (copy_within ws (at + k) n (at + 1)) at x ≡ (f ++ x ∷ m) ++ d =
    rw (e, set_at f (get_or ws at 0) (m ++ d) x at lf) (sym (append_assoc f (x ∷ m) d)) in
    rw (u, drop-take (at + k) n ws) (take_at (f ++ x ∷ m) d (n + 1 - k) (length-append f (x ∷ m) ∙ omega (arith, lf, lm)))

-- ---- trees joined

total-parts : (ws : List ℕ) (a n : ℕ) → a ≤ n → sum (take (n - a) (drop a ws)) + total (take a ws) ≡ total (take n ws)
total-parts ws a n h =
    let e : n ≡ a + (n - a) = omega arith in
    let t : total (take n ws) ≡ total (take a ws) + total (take (n - a) (drop a ws)) =
    ap (λ (m : ℕ). total (take m ws)) e ∙ ap total (take-add a (n - a) ws) ∙ total-append (take a ws) (take (n - a) (drop a ws)) in
    omega (arith, t, total-sum (take (n - a) (drop a ws)))

measured : {p q : ℕ} {xs ys : List ℕ} → p ≡ q → xs ≡ ys → ◌≡◌ {A = Measured} (record { place = p; sizes = xs }) (record { place = q; sizes = ys })
measured e f = λ i. record { place = e i; sizes = f i }

module _ (room k o : ℕ) (s : held.Trees) (ws : List ℕ) (i : Sized room s ws) (h : o + k ≤ s.count) where
  -- the trees under the top o, and those below the k under them
  abbrev under : ℕ
  under = s.count - o

  abbrev below : ℕ
  below = under - k

  abbrev top : ℕ
  top = sum (take (s.count - under) (drop under ws))

  abbrev middle : ℕ
  middle = sum (take (under - below) (drop below ws))

  pub top-sum : top + total (take under ws) ≡ s.len
  top-sum = total-parts ws under s.count (omega arith) ∙ i.sum

  pub middle-sum : middle + total (take below ws) ≡ total (take under ws)
  middle-sum = total-parts ws below under (omega arith)

  pub joins : (ws' : List ℕ) → take (s.count + 1 - k) ws' ≡ take below ws ++ (middle + 1) ∷ drop (below + k) (take s.count ws)
      → Joins s k o ws (s.len - top) ws'
  joins ws' e =
      let zs = take s.count ws in
      let a : s.count - (o + k) ≡ below = omega arith in
      let u : below + k ≡ under = omega arith in
      let q : under - below ≡ k = omega arith in
      let p : s.len - top ≡ total (take (below + k) zs) = rw (u, take-take under s.count ws (omega arith)) (omega (arith, top-sum)) in
      let m : total (take k (drop below zs)) ≡ middle =
      ap (λ (l : List ℕ). total l) (ap (take k) (drop-take below s.count ws) ∙ take-take k (s.count - below) (drop below ws) (omega arith))
      ∙ rw q (sym (total-sum (take k (drop below ws)))) in
      rw a (measured p (e ∙ rw (take-take below s.count ws (omega arith), m, add-one middle)))

-- ---- a reduce on the sizes, by what it meets

module _ (room : ℕ) (rs : List ℕ) (r o : ℕ) (s : held.Trees) (ws ws' : List ℕ) where
  pub measures-none : Missing rs r → Measures room s (Err TooFew) ws' (measure (the_rules rs) room r o (take s.count ws))
  measures-none m = record { outcome = sym (measure-no-rule (the_rules rs) room r o (take s.count ws) m.unnamed); sized = tt }

  module _ (i : Sized room s ws) (j k : ℕ) (b : Starts rs r j) (e : k ≡ slots (rule_of (drop j rs)).body) where
    length-sizes : length (take s.count ws) ≡ s.count
    length-sizes = length-take-le s.count ws (omega (arith, i.few, i.fits, i.lent))

    pub measures-few : s.count < o + k → Measures room s (Err TooFew) ws' (measure (the_rules rs) room r o (take s.count ws))
    measures-few h =
        record {
          outcome = sym (measure-few (the_rules rs) room r o (take s.count ws) (rule_of (drop j rs)) b.named (omega (arith, length-sizes, e)));
          sized = tt;
        }

    pub measures-full : o + k ≤ s.count → room ≤ s.len → Measures room s (Err Full) ws' (measure (the_rules rs) room r o (take s.count ws))
    measures-full h f =
        record {
          outcome = sym (measure-full (the_rules rs) room r o (take s.count ws) (rule_of (drop j rs)) b.named (omega (arith, length-sizes, e)) (omega (arith, i.sum)));
          sized = tt;
        }

    pub measures-fits : (p : ℕ) → o + k ≤ s.count → s.len < room → Joins s k o ws p ws' → length ws' ≡ length ws
        → Measures room s (Ok (record { place = p; trees = record { count = s.count + 1 - k; len = s.len + 1 } })) ws' (measure (the_rules rs) room r o (take s.count ws))
    measures-fits p h f d n =
        let zs = take s.count ws in
        let a = s.count - (o + k) in
        let q : measure (the_rules rs) room r o zs ≡ ok (joined a k zs) =
        rw (length-sizes, ← e) at (measure-fits (the_rules rs) room r o zs (rule_of (drop j rs)) b.named (omega (arith, length-sizes, e)) (omega (arith, i.sum))) in
        let x : p ≡ (joined a k zs).place = ap (λ (m : Measured). m.place) d in
        let y : take (s.count + 1 - k) ws' ≡ (joined a k zs).sizes = ap (λ (m : Measured). m.sizes) d in
        record {
          outcome = ap (λ m. ok m) d ∙ sym q;
          sized = (
            record {
              sum = ap total y ∙ joined-total a k zs ∙ omega (arith, i.sum);
              few = omega (arith, i.few);
              fits = omega arith;
              lent = omega (arith, i.lent);
              words = i.words;
            },
            refl,
            omega (arith, x, joined-place a k zs, i.sum),
          );
        }

-- ---- the trees whose sizes those are

module _ (room : ℕ) (s : held.Trees) (ls ws : List ℕ) where
  pub sized_of : Inside room s ls ws → Sized room s ws
  sized_of i = record { sum = sizes-total room s ls ws i; few = i.few; fits = i.fits; lent = i.lent.1; words = i.words }

  -- with so many words, the list is as long as the sizes say
  pub sized-length : Sized room s ws → room ≤ length ls → total (take s.count ws) ≡ length (take s.len ls)
  sized-length z h = z.sum ∙ sym (length-take-le s.len ls (omega (arith, z.fits)))

  pub inside_of : Sized room s ws → room ≤ length ls → Inside room s ls ws
  unfolding trees_of
  inside_of z h =
      let e = sized-length z h in
      record {
        list = cut-flat (take s.count ws) (take s.len ls) e;
        sizes = cut-sizes (take s.count ws) (take s.len ls) e;
        few = z.few;
        fits = z.fits;
        lent = (h, z.lent);
        words = z.words;
      }

-- the words that an insertion leaves
pub taken-inserted : (ws : List ℕ) (n p x : ℕ) → p ≤ n → n < length ws → take (n + 1) (inserted ws n p x) ≡ put_in p x (take n ws)
taken-inserted ws n p x h k =
    let up = take p ws ++ x ∷ drop p (take n ws) in
    let l : length up ≡ n + 1 =
    length-append (take p ws) (x ∷ drop p (take n ws)) ∙ omega (arith, length-take-le p ws (omega arith), length-drop p (take n ws), length-take-le n ws (omega arith)) in
    ap (take (n + 1)) (sym (append_assoc (take p ws) (x ∷ drop p (take n ws)) (drop (n + 1) ws)))
    ∙ take_at up (drop (n + 1) ws) (n + 1) l
    ∙ ap (λ (y : List ℕ). y ++ x ∷ drop p (take n ws)) (sym (take-take p n ws h))

-- ---- a reduce in the list too

module _ (R : List Rule) (room r o : ℕ) (s : held.Trees) (ls ws : List ℕ) (i : Inside room s ls ws) where
  reduced-is : reduce R room r o (trees_of s ls ws) ≡ bind (measure R room r o (take s.count ws)) λ m. ok (after r (take s.len ls) m)
  unfolding trees_of
  reduced-is = reduce-cut R room r o (take s.count ws) (take s.len ls) (sized-length room s ls ws (sized_of room s ls ws i) i.lent.0)

  module _ (ls' ws' : List ℕ) where
    pub gives-none : (y : Unfit) → Measures room s (Err y) ws' (measure R room r o (take s.count ws)) → Gives room (Err y) ls' ws' (reduce R room r o (trees_of s ls ws))
    unfolding bind
    gives-none y m = record { outcome = sym (reduced-is ∙ rw (← m.outcome)); inside = tt }

    pub gives-done : (f : Fit) → Measures room s (Ok f) ws' (measure R room r o (take s.count ws)) → ls' ≡ inserted ls s.len f.place r → length ls' ≡ length ls
        → Gives room (Ok f.trees) ls' ws' (reduce R room r o (trees_of s ls ws))
    unfolding bind trees_of
    gives-done f m h n =
        let t = f.trees in
        let z = m.sized in
        let x : take t.len ls' ≡ put_in f.place r (take s.len ls) =
        rw (z.1, h) (taken-inserted ls s.len f.place r z.2 (omega (arith, z.0.fits, z.1, i.lent))) in
        record {
          outcome = ap (λ (l : List ℕ). ok (cut (take t.count ws') l)) x ∙ sym (reduced-is ∙ rw (← m.outcome));
          inside = inside_of room t ls' ws' z.0 (omega (arith, n, i.lent));
        }
