-- Bytes put into a slice, part after part.
use Rattle.std.proofs.Common.{◌≡◌, ℕ, ◌+◌, ◌-◌, ◌≤◌, ◌<◌, List, [], ◌++◌, length, get_or, take, drop, refl, sym, ap, ◌∙◌, append_assoc, append-nil, add-one, arith, length-append, length-drop, length-take-le, take-append-drop, drop_of_length-le, drop-drop, drop-cons, take_all, take_at, drop_at}
use borrow.Rule.Slice.PartMut.{put_mid}
use Rattle.package.specs.Bytes.{bytes_of, word_bytes}
use Rattle.package.specs.Code.{pasted, Room}

-- ---- bytes put into a slice

pub pasted_length : (d : List ℕ) (at : ℕ) (bs : List ℕ) → Room d at bs → length (pasted d at bs) ≡ length d
pasted_length d at bs h =
    let rest = drop (at + length bs) d in
    length-append (take at d) (bs ++ rest)
    ∙ omega (arith, length-take-le at d (omega arith), length-append bs rest, length-drop (at + length bs) d)

pub pasted-none : (d : List ℕ) (at : ℕ) → pasted d at [] ≡ d
pasted-none d at = let e : at + 0 ≡ at = omega arith in rw e (take-append-drop at d)

pub pasted-more : (d : List ℕ) (at : ℕ) (xs ys : List ℕ) → at ≤ length d
    → pasted (pasted d at xs) (at + length xs) ys ≡ pasted d at (xs ++ ys)
pasted-more d at xs ys h =
    let k = at + length xs in
    let front = take at d ++ xs in
    let n : length front ≡ k = length-append (take at d) xs ∙ ap (λ (m : ℕ). m + length xs) (length-take-le at d h) in
    let e : pasted d at xs ≡ front ++ drop k d = sym (append_assoc (take at d) xs (drop k d)) in
    let t : take k (pasted d at xs) ≡ front = ap (λ (l : List ℕ). take k l) e ∙ take_at front (drop k d) k n in
    let b : drop k (pasted d at xs) ≡ drop k d = ap (λ (l : List ℕ). drop k l) e ∙ drop_at front (drop k d) k n in
    let m : k + length ys ≡ at + length (xs ++ ys) = omega (arith, length-append xs ys) in
    let r : drop (k + length ys) (pasted d at xs) ≡ drop (at + length (xs ++ ys)) d =
    sym (drop-drop (length ys) k (pasted d at xs)) ∙ ap (λ (l : List ℕ). drop (length ys) l) b ∙ drop-drop (length ys) k d
    ∙ ap (λ (j : ℕ). drop j d) m in
    let last = drop (at + length (xs ++ ys)) d in
    ap (λ (l : List ℕ). l ++ (ys ++ drop (k + length ys) (pasted d at xs))) t
    ∙ ap (λ (l : List ℕ). front ++ (ys ++ l)) r
    ∙ append_assoc (take at d) xs (ys ++ last)
    ∙ ap (λ (l : List ℕ). take at d ++ l) (sym (append_assoc xs ys last))

-- a part of `all` is put from `at` on, and `rest` is left to be put from `next` on
pub record Left (to : List ℕ) (next : ℕ) (rest to₀ : List ℕ) (at : ℕ) (all : List ℕ) : Type 0 where
  pub long : length to ≡ length to₀
  pub room : Room to₀ at all
  pub ends : next + length rest ≡ at + length all
  pub same : pasted to next rest ≡ pasted to₀ at all

pub left-start : (to : List ℕ) (at : ℕ) (all : List ℕ) → Room to at all → Left to at all to at all
left-start to at all h = record { long = refl; room = h; ends = refl; same = refl }

module _ (to : List ℕ) (next : ℕ) (rest to₀ : List ℕ) (at : ℕ) (all : List ℕ) (l : Left to next rest to₀ at all) where
  pub left-room : (xs ys : List ℕ) → rest ≡ xs ++ ys → Room to next xs
  left-room xs ys e = omega (arith, l.long, l.room, l.ends, ap length e, length-append xs ys)

  pub left-more : (xs ys to' : List ℕ) (next' : ℕ) → rest ≡ xs ++ ys → to' ≡ pasted to next xs → next' ≡ next + length xs
      → Left to' next' ys to₀ at all
  left-more xs ys to' next' e p n =
      let room = left-room xs ys e in
      record {
        long = ap length p ∙ pasted_length to next xs room ∙ l.long;
        room = l.room;
        ends = omega (arith, l.ends, ap length e, length-append xs ys);
        same = rw (p, n) (pasted-more to next xs ys (omega arith) ∙ ap (λ (r : List ℕ). pasted to next r) (sym e) ∙ l.same);
      }

  pub left-done : rest ≡ [] → (next ≡ at + length all) × (to ≡ pasted to₀ at all)
  left-done e =
      (omega (arith, l.ends, ap length e), sym (pasted-none to next) ∙ ap (λ (r : List ℕ). pasted to next r) (sym e) ∙ l.same)

-- what is left has room
pub room-left : {to : List ℕ} {next : ℕ} {rest to₀ : List ℕ} {at : ℕ} {all : List ℕ} → Left to next rest to₀ at all → Room to next rest
room-left l = omega (arith, l.long, l.room, l.ends)

-- ---- the parts that are lent on, `&mut to[next..]`

abbrev pub rest_of : List ℕ → ℕ → List ℕ
rest_of to next = take (length to - next) (drop next to)

rest-is : (to : List ℕ) (next : ℕ) → rest_of to next ≡ drop next to
rest-is to next = take_all (length to - next) (drop next to) (omega (arith, length-drop next to))

pub room-in : (to : List ℕ) (next : ℕ) (xs : List ℕ) → Room to next xs → Room (rest_of to next) 0 xs
room-in to next xs h = rw (rest-is to next) (omega (arith, length-drop next to))

-- what was put at the front of the part stands in the whole
pub pasted-in : (to : List ℕ) (next : ℕ) (xs ys : List ℕ) → ys ≡ pasted (rest_of to next) 0 xs → put_mid next (length to - next) to ys ≡ pasted to next xs
pasted-in to next xs ys e =
    let none : drop (length to - next) (drop next to) ≡ [] = drop_of_length-le (drop next to) (omega (arith, length-drop next to)) in
    let n : 0 + length xs ≡ length xs = omega arith in
    let after : drop (0 + length xs) (drop next to) ≡ drop (next + length xs) to = rw n (drop-drop (length xs) next to) in
    let all : ys ≡ xs ++ drop (next + length xs) to = e ∙ ap (λ (l : List ℕ). xs ++ drop (0 + length xs) l) (rest-is to next) ∙ ap (λ (l : List ℕ). xs ++ l) after in
    rw (none, append-nil ys) (ap (λ (l : List ℕ). take next to ++ l) all)

-- a part of what is left is put through the slice lent on
module _ {to : List ℕ} {next : ℕ} {rest to₀ : List ℕ} {at : ℕ} {all : List ℕ} (l : Left to next rest to₀ at all) (xs ys : List ℕ) (e : rest ≡ xs ++ ys) where
  pub part-room : Room (rest_of to next) 0 xs
  part-room = room-in to next xs (left-room to next rest to₀ at all l xs ys e)

  pub left-in : (new : List ℕ) (n : ℕ) → n ≡ length xs → new ≡ pasted (rest_of to next) 0 xs → Left (put_mid next (length to - next) to new) (next + n) ys to₀ at all
  left-in new n h p =
      left-more to next rest to₀ at all l xs ys (put_mid next (length to - next) to new) (next + n) e (pasted-in to next xs new p) (omega (arith, h))

-- ---- numbers

pub words_left : (ws : List ℕ) (i : ℕ) → i < length ws → word_bytes (drop i ws) ≡ bytes_of 4 (get_or ws i 0) ++ word_bytes (drop (i + 1) ws)
unfolding word_bytes
words_left ws i h = rw (drop-cons ws i 0 h, add-one i)

pub words-none : (ws : List ℕ) (i : ℕ) → length ws ≤ i → word_bytes (drop i ws) ≡ []
unfolding word_bytes
words-none ws i h = rw (drop_of_length-le ws h)
