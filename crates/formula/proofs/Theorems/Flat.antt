-- What a reduce does to the whole list, and to the sizes of the trees, which is what a work slice holds of them.
use Rattle.std.specs.Prelude.{◌≡◌, refl, ℕ, zero, suc, ◌+◌, ◌-◌, ◌≤◌, length, take, drop}
use Rattle.std.proofs.Common.{sym, ◌∙◌, ap, arith, add-one, take-append-drop, length-append, length-drop, take_at, drop_at, drop-drop, length-take-le, take-add}
use mathlib.Core.List.{List, [], ◌∷◌, ◌++◌, append_assoc, append-nil, map, map-append, reverse, reverse-append, reverse-cons}
use Rattle.std.proofs.Math.Nat.{sub-zero}
use Rattle.std.proofs.lemmas.List.{length-map, length-reverse, take-map, drop-map}
use Rattle.std.proofs.Math.Seq.{append_snoc, take-nil}
use Rattle.formula.specs.Reducing.{Trees, flat, merge}
use Rattle.formula.specs.Tail.{total}

-- a list cut at both ends
pub drop-take : (a n : ℕ) (ws : List ℕ) → drop a (take n ws) ≡ take (n - a) (drop a ws)
drop-take zero n ws = rw sub-zero
drop-take (suc a) zero ws = let e : 0 - suc a ≡ 0 = omega arith in rw e
drop-take (suc a) (suc n) [] = sym (take-nil (suc n - suc a))
drop-take (suc a) (suc n) (w ∷ ws) = let e : suc n - suc a ≡ n - a = omega arith in rw e (drop-take a n ws)

-- ---- the list

pub flat_append : (a b : Trees) → flat (a ++ b) ≡ flat b ++ flat a
unfolding flat
flat_append [] b = sym (append-nil (flat b))
flat_append (t ∷ a) b = rw (flat_append a b) (append_assoc (flat b) (flat a) t)

-- the trees under the top o, then those
pub flat-split : (o : ℕ) (s : Trees) → flat s ≡ flat (drop o s) ++ flat (take o s)
flat-split o s = ap flat (sym (take-append-drop o s)) ∙ flat_append (take o s) (drop o s)

-- the rule goes under the top o trees, whatever its slots
pub flat-merge : (r k o : ℕ) (s : Trees) → flat (merge r k o s) ≡ flat (drop o s) ++ r ∷ flat (take o s)
unfolding merge flat
flat-merge r k o s =
    flat_append (take o s) _
    ∙ rw (← drop-drop k o s, ← append_assoc (flat (drop k (drop o s))), ← flat-split k (drop o s)) (append_assoc (flat (drop o s)) (r ∷ []) (flat (take o s)))

pub flat-merge-at : (r k o : ℕ) (s : Trees) (p : ℕ) → length (flat (drop o s)) ≡ p → flat (merge r k o s) ≡ take p (flat s) ++ r ∷ drop p (flat s)
flat-merge-at r k o s p h =
    rw (flat-merge r k o s, flat-split o s, take_at (flat (drop o s)) (flat (take o s)) p h, drop_at (flat (drop o s)) (flat (take o s)) p h)

-- the list grows by one
pub length-merge : (r k o : ℕ) (s : Trees) → length (flat (merge r k o s)) ≡ suc (length (flat s))
length-merge r k o s =
    let a = flat (drop o s) in
    let b = flat (take o s) in
    rw (flat-merge r k o s, flat-split o s, length-append a (r ∷ b), length-append a b) (omega arith)

-- k trees become one
pub count-merge : (r k o : ℕ) (s : Trees) → o + k ≤ length s → length (merge r k o s) ≡ length s + 1 - k
unfolding merge
count-merge r k o s h =
    let t = flat (take k (drop o s)) ++ r ∷ [] in
    rw (length-append (take o s) (t ∷ drop (o + k) s), length-take-le o s (omega arith)) (simp length-drop (omega arith))

-- ---- the sizes

pub total-append : (xs ys : List ℕ) → total (xs ++ ys) ≡ total xs + total ys
unfolding total
total-append [] ys = omega arith
total-append (x ∷ xs) ys = omega (arith, total-append xs ys)

pub total-reverse : (xs : List ℕ) → total (reverse xs) ≡ total xs
unfolding total
total-reverse [] = refl
total-reverse (x ∷ xs) = rw (reverse-cons x xs, total-append (reverse xs) (x ∷ [])) (omega (arith, total-reverse xs))

-- the top tree's first
abbrev pub sizes : Trees → List ℕ
sizes s = map length s

pub total-sizes : (s : Trees) → total (sizes s) ≡ length (flat s)
unfolding total flat
total-sizes [] = refl
total-sizes (t ∷ s) = rw (length-append (flat s) t) (omega (arith, total-sizes s))

pub sizes-merge : (r k o : ℕ) (s : Trees)
    → sizes (merge r k o s) ≡ take o (sizes s) ++ suc (total (take k (drop o (sizes s)))) ∷ drop (o + k) (sizes s)
unfolding merge
sizes-merge r k o s =
    rw (
      map-append length (take o s) ((flat (take k (drop o s)) ++ r ∷ []) ∷ drop (o + k) s),
      ← take-map length o s,
      ← drop-map length (o + k) s,
      length-append (flat (take k (drop o s))) (r ∷ []),
      ← total-sizes (take k (drop o s)),
      ← take-map length k (drop o s),
      ← drop-map length o s,
      add-one (total (take k (drop o (sizes s)))),
    )

-- ---- the sizes turned round, as a work slice holds them

-- the bottom tree's first
abbrev pub stacked : Trees → List ℕ
stacked s = reverse (sizes s)

pub total-stacked : (s : Trees) → total (stacked s) ≡ length (flat s)
total-stacked s = total-reverse (sizes s) ∙ total-sizes s

pub length-stacked : (s : Trees) → length (stacked s) ≡ length s
length-stacked s = length-reverse (sizes s) ∙ length-map s length

-- a list turned round, and cut
turned : (xs : List ℕ) (n : ℕ) → reverse xs ≡ reverse (drop n xs) ++ reverse (take n xs)
turned xs n = ap reverse (sym (take-append-drop n xs)) ∙ reverse-append (take n xs) (drop n xs)

turned-length : (xs : List ℕ) (m n : ℕ) → length xs ≡ m + n → length (reverse (drop n xs)) ≡ m
turned-length xs m n h = rw (length-reverse (drop n xs), length-drop n xs) (omega arith)

cut-front : (xs : List ℕ) (m n : ℕ) → length xs ≡ m + n → reverse (drop n xs) ≡ take m (reverse xs)
cut-front xs m n h = rw (turned xs n) (sym (take_at (reverse (drop n xs)) (reverse (take n xs)) m (turned-length xs m n h)))

cut-back : (xs : List ℕ) (m n : ℕ) → length xs ≡ m + n → reverse (take n xs) ≡ drop m (reverse xs)
cut-back xs m n h = rw (turned xs n) (sym (drop_at (reverse (drop n xs)) (reverse (take n xs)) m (turned-length xs m n h)))

-- the k words under the last o, from either end
middle : (xs : List ℕ) (a k o : ℕ) → length xs ≡ a + k + o → total (take k (drop o xs)) ≡ total (take k (drop a (reverse xs)))
middle xs a k o h =
    let e = cut-back (drop o xs) a k (rw (length-drop o xs) (omega arith)) in
    let f = cut-front xs (a + k) o h in
    let g : drop a (take (a + k) (reverse xs)) ≡ take k (drop a (reverse xs)) =
    rw (take-add a k (reverse xs)) (drop_at (take a (reverse xs)) _ a (length-take-le a (reverse xs) (rw (length-reverse xs) (omega arith)))) in
    sym (total-reverse (take k (drop o xs))) ∙ ap total (e ∙ ap (drop a) f ∙ g)

-- with a trees below the k: their words stay, the k become one, and the o words of the top trees follow
pub stacked-merge : (r k o a : ℕ) (s : Trees) → length s ≡ a + k + o
    → stacked (merge r k o s) ≡ take a (stacked s) ++ suc (total (take k (drop a (stacked s)))) ∷ drop (a + k) (stacked s)
stacked-merge r k o a s h =
    let z = sizes s in
    let n : length z ≡ a + k + o = length-map s length ∙ h in
    let x = suc (total (take k (drop o z))) in
    rw (
      sizes-merge r k o s,
      reverse-append (take o z) (x ∷ drop (o + k) z),
      reverse-cons x (drop (o + k) z),
      cut-front z a (o + k) (omega arith),
      cut-back z (a + k) o n,
      ← middle z a k o n,
    ) (append_snoc (take a (reverse z)) x (drop (a + k) (reverse z)))

-- where the rule goes in, with n trees below the top o: after their words
pub place-stacked : (n o : ℕ) (s : Trees) → length s ≡ n + o → total (take n (stacked s)) ≡ length (flat (drop o s))
place-stacked n o s h =
    rw (← cut-front (sizes s) n o (length-map s length ∙ h), total-reverse (drop o (sizes s)), drop-map length o s) (total-sizes (drop o s))

pub total-split : (n : ℕ) (xs : List ℕ) → total xs ≡ total (take n xs) + total (drop n xs)
total-split n xs = ap total (sym (take-append-drop n xs)) ∙ total-append (take n xs) (drop n xs)
