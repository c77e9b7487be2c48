-- The test from the list's end, one turn at a time, in the terms of a loop: so many entries of the list are left, so many tokens, and
-- a stack of words (the top one last), each of which stands for the part of a body that is still to be met.
use Rattle.std.specs.Prelude.{◌≡◌, Bool, false, ◌&&◌, ◌≢◌, ℕ, zero, suc, ◌-◌, ◌≤◌, ◌<◌, eqb, length, get_or, take}
use Rattle.std.proofs.Math.Path.{sym}
use Rattle.std.proofs.Common.{◌∙◌, arith, not-suc-le-zero, take-suc}
use mathlib.Core.List.{List, [], ◌∷◌, ◌++◌, append_assoc, append-nil, reverse, reverse-append}
use Rattle.std.proofs.Math.Option.{some, none}
use borrow.Author.Tests.{ne_eqb}
use Rattle.std.proofs.Math.ListN.{length-reverse}
use Rattle.std.proofs.Math.Seq.{length-take-le}
use Rattle.rules.specs.Rules.{Item, con, slot, Rule, rule_at}
use Rattle.formula.specs.Down.{down, down-con, down-con-nil, down-slot, down-slot-none, down-slot-nil, down-end}

-- the first n words, the last one first
pub last-first : (xs : List ℕ) (n : ℕ) → 0 < n → n ≤ length xs → reverse (take n xs) ≡ get_or xs (n - 1) 0 ∷ reverse (take (n - 1) xs)
last-first xs zero h k = absurd (not-suc-le-zero h)
last-first xs (suc n) h k =
    let e : suc n - 1 ≡ n = omega arith in
    rw (e, take-suc xs n 0 k) (reverse-append (take n xs) (get_or xs n 0 ∷ []))

module _ {A : Type 0} (unread : A → List Item) where
  -- what is still to be met, the last item first
  unfoldable pub pending : List A → List Item
  pending [] = []
  pending (w ∷ ws) = pending ws ++ reverse (unread w)

  pub pending-top : (ws : List A) (w : A) → pending (ws ++ w ∷ []) ≡ reverse (unread w) ++ pending ws
  unfolding pending
  pending-top [] w = sym (append-nil (reverse (unread w)))
  pending-top (v ∷ ws) w = rw (pending-top ws w) (append_assoc (reverse (unread w)) (pending ws) (reverse (unread v)))

  -- the top word's last item comes first
  pending-item : (ws : List A) (w : A) (b : List Item) (i : Item) → unread w ≡ b ++ i ∷ [] → pending (ws ++ w ∷ []) ≡ i ∷ reverse b ++ pending ws
  pending-item ws w b i e = rw (pending-top ws w, e, reverse-append b (i ∷ []))

module _ (R : List Rule) {A : Type 0} (unread : A → List Item) (l ts : List ℕ) where
  -- what is left to be tested: n entries, the stack, k tokens
  unfoldable pub still : ℕ → List A → ℕ → Bool
  still n ws k = down R (reverse (take n l)) (pending unread ws) (reverse (take k ts))

  -- the same with an item more, which is next
  unfoldable pub facing : Item → ℕ → List A → ℕ → Bool
  facing i n ws k = down R (reverse (take n l)) (i ∷ pending unread ws) (reverse (take k ts))

  -- no word on the stack: yes if nothing is left
  pub turn_end : (n k : ℕ) → n ≤ length l → k ≤ length ts → still n [] k ≡ (eqb n 0 && eqb k 0)
  unfolding still pending
  turn_end n k h h' =
      down-end R (reverse (take n l)) (reverse (take k ts))
      ∙ rw (length-reverse (take n l), length-take-le n l h, length-reverse (take k ts), length-take-le k ts h')

  -- a body that is all met is taken off
  pub turn-off : (n : ℕ) (ws : List A) (w : A) (k : ℕ) → unread w ≡ [] → still n (ws ++ w ∷ []) k ≡ still n ws k
  unfolding still
  turn-off n ws w k e = rw (pending-top unread ws w, e)

  -- else its last item is next
  pub turn-item : (n : ℕ) (ws : List A) (w v : A) (k : ℕ) (i : Item) → unread w ≡ unread v ++ i ∷ []
      → still n (ws ++ w ∷ []) k ≡ facing i n (ws ++ v ∷ []) k
  unfolding still facing
  turn-item n ws w v k i e = rw (pending-item unread ws w (unread v) i e, pending-top unread ws v)

  -- a constant: the last token, which is left out
  pub con-met : (c n : ℕ) (ws : List A) (k : ℕ) → 0 < k → k ≤ length ts → facing (con c) n ws k ≡ (eqb c (get_or ts (k - 1) 0) && still n ws (k - 1))
  unfolding still facing
  con-met c n ws k h h' = rw (last-first ts k h h') (down-con R _ c _ _ _)

  -- a constant, and no token
  pub con-short : (c n : ℕ) (ws : List A) → facing (con c) n ws 0 ≡ false
  unfolding facing
  con-short c n ws = down-con-nil R _ c _

  -- a slot: the last entry's rule, whose body goes on the stack
  pub slot-filled : (t n : ℕ) (ws : List A) (x : A) (k : ℕ) (q : Rule) → 0 < n → n ≤ length l → rule_at R (get_or l (n - 1) 0) ≡ some q → unread x ≡ q.body
      → facing (slot t) n ws k ≡ (eqb q.result t && still (n - 1) (ws ++ x ∷ []) k)
  unfolding still facing
  slot-filled t n ws x k q h h' a g = rw (pending-top unread ws x, g, last-first l n h h') (down-slot R _ t q a _ _ _)

  -- a slot, and an entry whose rule has another result
  pub slot-wrong : (t n : ℕ) (ws : List A) (k : ℕ) (q : Rule) → 0 < n → n ≤ length l → rule_at R (get_or l (n - 1) 0) ≡ some q → q.result ≢ t
      → facing (slot t) n ws k ≡ false
  unfolding facing
  slot-wrong t n ws k q h h' a z = rw (last-first l n h h', down-slot R _ t q a, ne_eqb q.result t z)

  -- a slot, and an entry that names no rule
  pub slot-no-rule : (t n : ℕ) (ws : List A) (k : ℕ) → 0 < n → n ≤ length l → rule_at R (get_or l (n - 1) 0) ≡ none → facing (slot t) n ws k ≡ false
  unfolding facing
  slot-no-rule t n ws k h h' a = rw (last-first l n h h') (down-slot-none R _ t a _ _ _)

  -- a slot, and no entry
  pub slot-short : (t : ℕ) (ws : List A) (k : ℕ) → facing (slot t) 0 ws k ≡ false
  unfolding facing
  slot-short t ws k = down-slot-nil R t _ _
