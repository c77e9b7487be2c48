-- Rows that rise: a key has one row at most, and the look-up finds it wherever it stands.
use Rattle.std.specs.Prelude.{◌≡◌, Bool}
use Rattle.std.proofs.Math.Path.{refl, ap}
use Rattle.std.proofs.Common.{sym, ◌∙◌, not-suc-le-zero, le_of_suc-le-suc}
use Rattle.std.proofs.Math.Bool.{true, false}
use Rattle.std.proofs.lemmas.Bool.{false≢true}
use mathlib.Core.List.{List, [], ◌∷◌}
use Rattle.std.proofs.Math.Option.{some}
use Prim.Native.Nat.{ℕ, zero, suc, ◌+◌, ◌≤◌, ◌<◌}
use native.Mathlib.Omega.{arith}
use Rattle.std.proofs.Math.Dec.{eqb, ltb}
use Rattle.std.proofs.Math.ListN.{length, get_or}
use borrow.Author.Tests.{eqb-true, eqb-false, ltb-true, ltb-false, eq-eqb, ne_eqb, lt-ltb, le-ltb}
use Rattle.words.specs.Outcome.{pick}
use Rattle.words.proofs.Theorems.Tests.{and_l, and_r}
use Rattle.rules.proofs.Theorems.Every.{All, all_map, chain-at}
use Rattle.rows.specs.Rows.{Edge, below, precedes, rising, keyed, find, leaving, bare}
use Rattle.rows.specs.Code.{place_of, numbered}
use Rattle.std.specs.Prelude.{Some, None}

-- ---- keys in order

-- a, b, c is a lower key than x, y, z
pub data Lower (a b c x y z : ℕ) : Type 0 where
  by-from : a < x → Lower a b c x y z
  by_kind : a ≡ x → b < y → Lower a b c x y z
  by-symbol : a ≡ x → b ≡ y → c < z → Lower a b c x y z

abbrev pub Under : Edge → ℕ → ℕ → ℕ → Type 0
Under e n k s = Lower e.from e.kind e.sym n k s

abbrev pub Over : Edge → ℕ → ℕ → ℕ → Type 0
Over e n k s = Lower n k s e.from e.kind e.sym

pub lower-trans : {a b c x y z u v w : ℕ} → Lower a b c x y z → Lower x y z u v w → Lower a b c u v w
lower-trans (by-from h) (by-from g) = by-from (omega arith)
lower-trans (by-from h) (by_kind e g) = by-from (omega arith)
lower-trans (by-from h) (by-symbol e f g) = by-from (omega arith)
lower-trans (by_kind e h) (by-from g) = by-from (omega arith)
lower-trans (by_kind e h) (by_kind f g) = by_kind (e ∙ f) (omega arith)
lower-trans (by_kind e h) (by-symbol f i g) = by_kind (e ∙ f) (omega arith)
lower-trans (by-symbol e i h) (by-from g) = by-from (omega arith)
lower-trans (by-symbol e i h) (by_kind f g) = by_kind (e ∙ f) (omega arith)
lower-trans (by-symbol e i h) (by-symbol f j g) = by-symbol (e ∙ f) (i ∙ j) (omega arith)

lower-not : {a b c x y z : ℕ} → Lower a b c x y z → Lower x y z a b c → ⊥
lower-not (by-from h) (by-from g) = omega arith
lower-not (by-from h) (by_kind e g) = omega arith
lower-not (by-from h) (by-symbol e f g) = omega arith
lower-not (by_kind e h) (by-from g) = omega arith
lower-not (by_kind e h) (by_kind f g) = omega arith
lower-not (by_kind e h) (by-symbol f i g) = omega arith
lower-not (by-symbol e i h) (by-from g) = omega arith
lower-not (by-symbol e i h) (by_kind f g) = omega arith
lower-not (by-symbol e i h) (by-symbol f j g) = omega arith

lower-other : {a b c x y z : ℕ} → Lower a b c x y z → x ≡ a → y ≡ b → z ≡ c → ⊥
lower-other (by-from h) p q r = omega arith
lower-other (by_kind f h) p q r = omega arith
lower-other (by-symbol f g h) p q r = omega arith

module _ (n k s : ℕ) (e : Edge) where
  pub below-under : below n k s e ≡ true → Under e n k s
  unfolding below
  below-under h = first (eqb e.from n) refl h
    where
      second : e.from ≡ n → (b : Bool) → eqb e.kind k ≡ b → pick b (ltb e.sym s) (ltb e.kind k) ≡ true → Under e n k s
      second f true p h = by-symbol f (eqb-true _ _ p) (ltb-true _ _ h)
      second f false p h = by_kind f (ltb-true _ _ h)

      first : (b : Bool) → eqb e.from n ≡ b → pick b (pick (eqb e.kind k) (ltb e.sym s) (ltb e.kind k)) (ltb e.from n) ≡ true → Under e n k s
      first true p h = second (eqb-true _ _ p) (eqb e.kind k) refl h
      first false p h = by-from (ltb-true _ _ h)

  pub under-below : Under e n k s → below n k s e ≡ true
  unfolding below
  under-below (by-from h) = rw (ne_eqb e.from n (λ p. omega arith)) (lt-ltb _ _ h)
  under-below (by_kind f h) = rw (eq-eqb e.from n f, ne_eqb e.kind k (λ p. omega arith)) (lt-ltb _ _ h)
  under-below (by-symbol f g h) = rw (eq-eqb e.from n f, eq-eqb e.kind k g) (lt-ltb _ _ h)

  -- the key itself
  pub keyed-is : keyed n k s e ≡ true → (e.from ≡ n) × (e.kind ≡ k) × (e.sym ≡ s)
  unfolding keyed
  keyed-is h =
      let c = chain-at (eqb e.from n) (eqb e.kind k ∷ eqb e.sym s ∷ []) h in
      (eqb-true _ _ (c 0), eqb-true _ _ (c 1), eqb-true _ _ (c 2))

  -- lower, the key itself, or higher
  pub data Stand : Type 0 where
    under : below n k s e ≡ true → keyed n k s e ≡ false → Under e n k s → Stand
    equal : below n k s e ≡ false → keyed n k s e ≡ true → Stand
    over : below n k s e ≡ false → keyed n k s e ≡ false → Over e n k s → Stand

  pub stand : Stand
  unfolding below keyed
  stand = first (ltb e.from n) (eqb e.from n) refl refl
    where
      third : e.from ≡ n → e.kind ≡ k → (l q : Bool) → ltb e.sym s ≡ l → eqb e.sym s ≡ q → Stand
      third f g l true a b = equal (rw (eq-eqb e.from n f, eq-eqb e.kind k g) (le-ltb e.sym s (omega (arith, eqb-true e.sym s b)))) (rw (eq-eqb e.from n f, eq-eqb e.kind k g, b))
      third f g true false a b = under (rw (eq-eqb e.from n f, eq-eqb e.kind k g) a) (rw (eq-eqb e.from n f, eq-eqb e.kind k g, b)) (by-symbol f g (ltb-true _ _ a))
      third f g false false a b = over (rw (eq-eqb e.from n f, eq-eqb e.kind k g) a) (rw (eq-eqb e.from n f, eq-eqb e.kind k g, b))
          (by-symbol (sym f) (sym g) (omega (arith, ltb-false e.sym s a, eqb-false e.sym s b)))

      second : e.from ≡ n → (l q : Bool) → ltb e.kind k ≡ l → eqb e.kind k ≡ q → Stand
      second f l true a b = third f (eqb-true _ _ b) (ltb e.sym s) (eqb e.sym s) refl refl
      second f true false a b = under (rw (eq-eqb e.from n f, b) a) (rw (eq-eqb e.from n f, b)) (by_kind f (ltb-true _ _ a))
      second f false false a b = over (rw (eq-eqb e.from n f, b) a) (rw (eq-eqb e.from n f, b))
          (by_kind (sym f) (omega (arith, ltb-false e.kind k a, eqb-false e.kind k b)))

      first : (l q : Bool) → ltb e.from n ≡ l → eqb e.from n ≡ q → Stand
      first l true a b = second (eqb-true _ _ b) (ltb e.kind k) (eqb e.kind k) refl refl
      first true false a b = under (rw b a) (rw b) (by-from (ltb-true _ _ a))
      first false false a b = over (rw b a) (rw b) (by-from (omega (arith, ltb-false e.from n a, eqb-false e.from n b)))

-- ---- rows that rise

-- all that come after the first are higher
pub rising-all : (e : Edge) (es : List Edge) → rising (e ∷ es) ≡ true → All (λ d. Under e d.from d.kind d.sym) es
unfolding rising precedes
rising-all e [] h = tt
rising-all e (d ∷ es) h =
    let u = below-under d.from d.kind d.sym e (and_l (below d.from d.kind d.sym e) (rising (d ∷ es)) h) in
    let r = and_r (below d.from d.kind d.sym e) (rising (d ∷ es)) h in
    (u, all_map (λ c. Under d c.from c.kind c.sym) (λ c. Under e c.from c.kind c.sym) (λ c l. lower-trans u l) es (rising-all d es r))

pub rising-rest : (e : Edge) (es : List Edge) → rising (e ∷ es) ≡ true → rising es ≡ true
unfolding rising
rising-rest e es h = and_r (precedes e es) (rising es) h

pub nth : (P : Edge → Type 0) (es : List Edge) (i : ℕ) (d : Edge) → i < length es → All P es → P (get_or es i d)
nth P [] i d h a = absurd (not-suc-le-zero h)
nth P (e ∷ es) zero d h a = a.0
nth P (e ∷ es) (suc i) d h a = nth P es i d (le_of_suc-le-suc h) a.1

-- of two rows the one that stands before is lower
pub rising-between : (es : List Edge) (i j : ℕ) (d : Edge) → rising es ≡ true → i < j → j < length es → Under (get_or es i d) (get_or es j d).from (get_or es j d).kind (get_or es j d).sym
rising-between es i zero d r h l = absurd (not-suc-le-zero h)
rising-between [] i (suc j) d r h l = absurd (not-suc-le-zero l)
rising-between (e ∷ es) zero (suc j) d r h l = nth (λ d. Under e d.from d.kind d.sym) es j d (le_of_suc-le-suc l) (rising-all e es r)
rising-between (e ∷ es) (suc i) (suc j) d r h l = rising-between es i j d (rising-rest e es r) (le_of_suc-le-suc h) (le_of_suc-le-suc l)

-- ---- one row for each key

module _ (es : List Edge) (r : rising es ≡ true) (n k s : ℕ) (d : Edge) where
  -- a key has one row at most
  pub one-row : (i j : ℕ) → i < length es → j < length es → keyed n k s (get_or es i d) ≡ true → keyed n k s (get_or es j d) ≡ true → i ≡ j
  one-row i j h l p q = by (ltb i j) (ltb j i) refl refl
    where
      differ : (i j : ℕ) → i < j → j < length es → keyed n k s (get_or es i d) ≡ true → keyed n k s (get_or es j d) ≡ true → ⊥
      differ i j h l p q =
          let a = keyed-is n k s (get_or es i d) p in
          let b = keyed-is n k s (get_or es j d) q in
          lower-other (rising-between es i j d r h l) (b.0 ∙ sym a.0) (b.1 ∙ sym a.1) (b.2 ∙ sym a.2)

      by : (a b : Bool) → ltb i j ≡ a → ltb j i ≡ b → i ≡ j
      by true b t u = absurd (differ i j (ltb-true i j t) l p q)
      by false true t u = absurd (differ j i (ltb-true j i u) h q p)
      by false false t u = omega (arith, ltb-false i j t, ltb-false j i u)

-- and the look-up finds it, wherever it stands
pub only_row : (es : List Edge) → rising es ≡ true → (n k s i : ℕ) (d : Edge) → i < length es → keyed n k s (get_or es i d) ≡ true → find es n k s ≡ some (get_or es i d)
unfolding find
only_row [] r n k s i d h q = absurd (not-suc-le-zero h)
only_row (e ∷ es) r n k s zero d h q = rw (q, find)
only_row (e ∷ es) r n k s (suc i) d h q = by (keyed n k s e) refl (only_row es (rising-rest e es r) n k s i d (le_of_suc-le-suc h) q)
  where
    by : (b : Bool) → keyed n k s e ≡ b → find es n k s ≡ some (get_or es i d) → elim b [ true ↦ some e | false ↦ find es n k s ] ≡ some (get_or es i d)
    by true p f = absurd (let z = one-row (e ∷ es) r n k s d 0 (suc i) (omega arith) h p q in omega arith)
    by false p f = f

-- by its number, counted from r
pub only-number : (es : List Edge) → rising es ≡ true → (n k s i r : ℕ) (d : Edge) → i < length es → keyed n k s (get_or es i d) ≡ true → numbered n k s r es ≡ Some (r + i)
unfolding numbered
only-number [] o n k s i r d h q = absurd (not-suc-le-zero h)
only-number (e ∷ es) o n k s zero r d h q = let z : r ≡ r + 0 = omega arith in rw q (ap Some z)
only-number (e ∷ es) o n k s (suc i) r d h q = by (keyed n k s e) refl (only-number es (rising-rest e es o) n k s i (r + 1) d (le_of_suc-le-suc h) q)
  where
    by : (b : Bool) → keyed n k s e ≡ b → numbered n k s (r + 1) es ≡ Some (r + 1 + i) → pick b (Some r) (numbered n k s (r + 1) es) ≡ Some (r + suc i)
    by true p f = absurd (let z = one-row (e ∷ es) o n k s d 0 (suc i) (omega arith) h p q in omega arith)
    by false p f = let m : r + 1 + i ≡ r + suc i = omega arith in f ∙ ap Some m

-- what comes after a row over a key is over it too
over-all : (n k s : ℕ) (e : Edge) (es : List Edge) → rising (e ∷ es) ≡ true → Over e n k s → All (λ d. Over d n k s) es
over-all n k s e es r o = all_map (λ d. Under e d.from d.kind d.sym) (λ d. Over d n k s) (λ d l. lower-trans o l) es (rising-all e es r)

-- ---- the place of a key

module _ (n k s : ℕ) where
  pub place-within : (es : List Edge) → place_of n k s es ≤ length es
  unfolding place_of
  place-within [] = omega arith
  place-within (e ∷ es) = by (below n k s e) (place-within es)
    where
      by : (b : Bool) → place_of n k s es ≤ length es → pick {A = ℕ} b (suc (place_of n k s es)) 0 ≤ suc (length es)
      by true h = omega arith
      by false h = omega arith

  -- a row that is not lower stands at the place or after it
  pub place-before : (es : List Edge) (i : ℕ) (d : Edge) → i < length es → below n k s (get_or es i d) ≡ false → place_of n k s es ≤ i
  unfolding place_of
  place-before [] i d h b = absurd (not-suc-le-zero h)
  place-before (e ∷ es) zero d h b = rw b (omega arith)
  place-before (e ∷ es) (suc i) d h b = by (below n k s e) (place-before es i d (le_of_suc-le-suc h) b)
    where
      by : (x : Bool) → place_of n k s es ≤ i → pick x (suc (place_of n k s es)) 0 ≤ suc i
      by true h = omega arith
      by false h = omega arith

  -- where the rows rise, one that is lower stands before it
  pub place_after : (es : List Edge) (i : ℕ) (d : Edge) → rising es ≡ true → i < length es → below n k s (get_or es i d) ≡ true → i < place_of n k s es
  unfolding place_of
  place_after [] i d r h b = absurd (not-suc-le-zero h)
  place_after (e ∷ es) zero d r h b = rw b (omega arith)
  place_after (e ∷ es) (suc i) d r h b =
      let l = rising-between (e ∷ es) 0 (suc i) d r (omega arith) h in
      let t = under-below n k s e (lower-trans l (below-under n k s (get_or es i d) b)) in
      rw t (let m = place_after es i d (rising-rest e es r) (le_of_suc-le-suc h) b in omega arith)

  -- the row at the place, if it has the key, is the first that has it
  pub place-row : (es : List Edge) (r : ℕ) (d : Edge) → place_of n k s es < length es → keyed n k s (get_or es (place_of n k s es) d) ≡ true
      → numbered n k s r es ≡ Some (r + place_of n k s es)
  unfolding place_of numbered
  place-row [] r d h q = absurd (not-suc-le-zero h)
  place-row (e ∷ es) r d h q = by (stand n k s e) (place-row es (r + 1) d) h q
    where
      by : Stand n k s e
          → (place_of n k s es < length es → keyed n k s (get_or es (place_of n k s es) d) ≡ true → numbered n k s (r + 1) es ≡ Some (r + 1 + place_of n k s es))
          → pick (below n k s e) (suc (place_of n k s es)) 0 < suc (length es)
          → keyed n k s (get_or (e ∷ es) (pick (below n k s e) (suc (place_of n k s es)) 0) d) ≡ true
          → pick (keyed n k s e) (Some r) (numbered n k s (r + 1) es) ≡ Some (r + pick (below n k s e) (suc (place_of n k s es)) 0)
      by (under b x u) f h q =
          let m : r + 1 + place_of n k s es ≡ r + suc (place_of n k s es) = omega arith in
          rw (x, b) (f (le_of_suc-le-suc (rw b at h)) (rw b at q) ∙ ap Some m)
      by (equal b x) f h q = let z : r ≡ r + 0 = omega arith in rw (x, b) (ap Some z)
      by (over b x o) f h q = absurd (false≢true (sym x ∙ rw b at q))

  -- and if it has not, or there is none, no row has it
  pub place_none : (es : List Edge) (r : ℕ) (d : Edge) → rising es ≡ true → (place_of n k s es < length es → keyed n k s (get_or es (place_of n k s es) d) ≡ false)
      → numbered n k s r es ≡ None
  unfolding place_of numbered
  place_none [] r d o h = refl
  place_none (e ∷ es) r d o h = by (stand n k s e) (place_none es (r + 1) d (rising-rest e es o)) h
    where
      high : (es : List Edge) (r : ℕ) → All (λ d. Over d n k s) es → numbered n k s r es ≡ None
      high [] r a = refl
      high (c ∷ es) r a = each (stand n k s c) (high es (r + 1) a.1)
        where
          each : Stand n k s c → numbered n k s (r + 1) es ≡ None → pick (keyed n k s c) (Some r) (numbered n k s (r + 1) es) ≡ None
          each (under b q u) h = absurd (lower-not u a.0)
          each (equal b q) h = let i = keyed-is n k s c q in absurd (lower-other a.0 i.0 i.1 i.2)
          each (over b q o) h = rw q h

      by : Stand n k s e
          → ((place_of n k s es < length es → keyed n k s (get_or es (place_of n k s es) d) ≡ false) → numbered n k s (r + 1) es ≡ None)
          → (pick (below n k s e) (suc (place_of n k s es)) 0 < suc (length es)
          → keyed n k s (get_or (e ∷ es) (pick (below n k s e) (suc (place_of n k s es)) 0) d) ≡ false)
          → pick (keyed n k s e) (Some r) (numbered n k s (r + 1) es) ≡ None
      by (under b x u) f h = rw x (f λ l. rw b at (h (rw b (omega arith))))
      by (equal b x) f h = absurd (false≢true (sym (rw b at (h (rw b (omega arith)))) ∙ x))
      by (over b x u) f h = rw x (high es (r + 1) (over-all n k s e es o u))

-- ---- the rows of a node stand together

pub all-leaving : (P : Edge → Type 0) (n : ℕ) (es : List Edge) → All P es → All P (leaving n es)
unfolding leaving
all-leaving P n [] a = tt
all-leaving P n (e ∷ es) a = by (eqb e.from n) (all-leaving P n es a.1)
  where
    by : (b : Bool) → All P (leaving n es) → All P (pick b (e ∷ leaving n es) (leaving n es))
    by true h = (a.0, h)
    by false h = h

-- only rows of nodes before n are lower than its first key
below-from : (n : ℕ) (e : Edge) → below n 0 0 e ≡ true → e.from < n
below-from n e h = by (below-under n 0 0 e h)
  where
    by : Under e n 0 0 → e.from < n
    by (by-from h) = h
    by (by_kind f h) = absurd (not-suc-le-zero h)
    by (by-symbol f g h) = absurd (not-suc-le-zero h)

pub from-below : (n : ℕ) (e : Edge) → e.from < n → below n 0 0 e ≡ true
from-below n e h = under-below n 0 0 e (by-from h)

pub from-above : (n : ℕ) (e : Edge) → n ≤ e.from → below n 0 0 e ≡ false
from-above n e h = by (below n 0 0 e) refl
  where
    by : (b : Bool) → below n 0 0 e ≡ b → below n 0 0 e ≡ false
    by true t = absurd (let l = below-from n e t in omega arith)
    by false t = t

pub from-rises : (e : Edge) (es : List Edge) → rising (e ∷ es) ≡ true → All (λ d. e.from ≤ d.from) es
from-rises e es r = all_map (λ d. Under e d.from d.kind d.sym) (λ d. e.from ≤ d.from) (λ d u. by d u) es (rising-all e es r)
  where
    by : (d : Edge) → Under e d.from d.kind d.sym → e.from ≤ d.from
    by d (by-from h) = omega arith
    by d (by_kind f h) = omega arith
    by d (by-symbol f g h) = omega arith

-- rows of later nodes alone
module _ (n : ℕ) where
  none-leaving : (es : List Edge) → All (λ d. n < d.from) es → leaving n es ≡ []
  unfolding leaving
  none-leaving [] a = refl
  none-leaving (e ∷ es) a = rw (ne_eqb e.from n (λ p. omega (arith, a.0))) (none-leaving es a.1)

  pub place-first : (es : List Edge) → All (λ d. n ≤ d.from) es → place_of n 0 0 es ≡ 0
  unfolding place_of
  place-first [] a = refl
  place-first (e ∷ es) a = rw (from-above n e a.0)

  -- they end where those of the next node begin, and come in their order
  pub record Together (es : List Edge) (d : Edge) : Type 0 where
    pub ends : place_of (n + 1) 0 0 es ≡ place_of n 0 0 es + length (leaving n es)
    pub stand : (k : ℕ) → k < length (leaving n es) → get_or es (place_of n 0 0 es + k) d ≡ get_or (leaving n es) k d

  pub together : (es : List Edge) (d : Edge) → rising es ≡ true → Together es d
  unfolding place_of leaving
  together [] d r = record { ends = refl; stand = λ k h. absurd (not-suc-le-zero h) }
  together (e ∷ es) d r = by (ltb e.from n) (eqb e.from n) refl refl (together es d (rising-rest e es r))
    where
      by : (l q : Bool) → ltb e.from n ≡ l → eqb e.from n ≡ q → Together es d → Together (e ∷ es) d
      by l true t u h =
          let f = eqb-true e.from n u in
          let p = place-first es (all_map (λ d. e.from ≤ d.from) (λ d. n ≤ d.from) (λ d g. omega arith) es (from-rises e es r)) in
          let a = from-above n e (omega arith) in
          let b = from-below (n + 1) e (omega arith) in
          record {
            ends = rw (a, b, u) (omega (arith, h.ends, p));
            stand = λ k l. first k l p a;
          }
        where
          first : (k : ℕ) → k < length (leaving n (e ∷ es)) → place_of n 0 0 es ≡ 0 → below n 0 0 e ≡ false → get_or (e ∷ es) (place_of n 0 0 (e ∷ es) + k) d ≡ get_or (leaving n (e ∷ es)) k d
          first zero l p a = rw (a, u)
          first (suc k) l p a =
              let z : 0 + k ≡ k = omega arith in
              let w : 0 + suc k ≡ suc k = omega arith in
              rw (a, u, w) (rw (p, z) at (h.stand k (le_of_suc-le-suc (rw u at l))))
      by true false t u h =
          let f = ltb-true e.from n t in
          let a = from-below n e f in
          let b = from-below (n + 1) e (omega arith) in
          record {
            ends = rw (a, b, u) (omega (arith, h.ends));
            stand = λ k l. let w : suc (place_of n 0 0 es) + k ≡ suc (place_of n 0 0 es + k) = omega arith in rw (a, u, w) (h.stand k (rw u at l));
          }
      by false false t u h =
          let f : n < e.from = omega (arith, ltb-false e.from n t, eqb-false e.from n u) in
          let none = none-leaving es (all_map (λ d. e.from ≤ d.from) (λ d. n < d.from) (λ d g. omega arith) es (from-rises e es r)) in
          record {
            ends = rw (from-above n e (omega arith), from-above (n + 1) e (omega arith), u, none) refl;
            stand = λ k l. absurd (not-suc-le-zero (rw (u, none) at l));
          }

  -- no row leaves a node whose first row would stand past the end, or where another's stands
  pub place-bare : (es : List Edge) (d : Edge) → rising es ≡ true → (place_of n 0 0 es < length es → eqb (get_or es (place_of n 0 0 es) d).from n ≡ false) → bare es n ≡ true
  unfolding place_of bare
  place-bare [] d r h = refl
  place-bare (e ∷ es) d r h = by (ltb e.from n) refl h (place-bare es d (rising-rest e es r))
    where
      later : (es : List Edge) → All (λ d. n < d.from) es → bare es n ≡ true
      later [] a = refl
      later (e ∷ es) a = rw (ne_eqb e.from n (λ p. omega (arith, a.0)), bare) (later es a.1)

      by : (b : Bool) → ltb e.from n ≡ b
          → (pick (below n 0 0 e) (suc (place_of n 0 0 es)) 0 < suc (length es) → eqb (get_or (e ∷ es) (pick (below n 0 0 e) (suc (place_of n 0 0 es)) 0) d).from n ≡ false)
          → ((place_of n 0 0 es < length es → eqb (get_or es (place_of n 0 0 es) d).from n ≡ false) → bare es n ≡ true)
          → bare (e ∷ es) n ≡ true
      by true t h f =
          let l = ltb-true e.from n t in
          let a = from-below n e l in
          rw (ne_eqb e.from n (λ p. omega arith), bare) (f λ m. rw a at (h (rw a (omega arith))))
      by false t h f =
          let l = ltb-false e.from n t in
          let a = from-above n e l in
          let o : eqb e.from n ≡ false = rw a at (h (rw a (omega arith))) in
          let m : n < e.from = omega (arith, eqb-false e.from n o) in
          rw (o, bare) (later es (all_map (λ d. e.from ≤ d.from) (λ d. n < d.from) (λ d g. omega arith) es (from-rises e es r)))

  -- a row that is there is found
  pub not-bare : (es : List Edge) (i : ℕ) (d : Edge) → i < length es → eqb (get_or es i d).from n ≡ true → bare es n ≡ false
  unfolding bare
  not-bare [] i d h q = absurd (not-suc-le-zero h)
  not-bare (e ∷ es) zero d h q = rw (q, bare)
  not-bare (e ∷ es) (suc i) d h q = by (eqb e.from n) (not-bare es i d (le_of_suc-le-suc h) q)
    where
      by : (b : Bool) → bare es n ≡ false → elim b [ true ↦ false | false ↦ bare es n ] ≡ false
      by true f = refl
      by false f = f
