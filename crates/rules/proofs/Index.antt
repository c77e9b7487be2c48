-- What an index says of its rules, and how it is filled.
use mathlib.Core.Path.{◌≡◌, refl, sym, subst, ◌∙◌}
use mathlib.Core.Bool.{Bool, true, false}
use mathlib.Core.List.{List, [], ◌∷◌}
use mathlib.Core.Option.{some-injective}
use Prim.Native.Nat.{ℕ, ◌+◌, ◌*◌, ◌-◌, ◌/◌, ◌%◌, ◌≤◌, ◌<◌}
use native.Mathlib.Omega.{arith}
use lib.Dec.{eqb}
use lib.ListN.{length, get_or, set, drop}
use lib.Seq.{get_or-set_same, get_or-set_other}
use borrow.Author.Tests.{eqb-true, eqb-false}
use Rattle.rules.specs.Rules.{Rule, the_rules, Item, con, slot, slots, size_of, rule_of, good_rule, good_rules}
use Rattle.std.proofs.Common.{◌⊎◌, inl, inr}
use Rattle.std.proofs.lemmas.Bool.{cases_lt}
use Rattle.words.specs.Limits.{most_rules}
use Rattle.rules.specs.Code.{Starts, mark, Marks, Indexed}
use Rattle.rules.proofs.Theorems.Words.{Here, ahead-here, ahead-end, body-count}
use Rattle.rules.proofs.Laws.{Search, search-start, search-found, search-next}

-- ---- what it says

module _ (ws is : List ℕ) (x : Indexed ws is) (n : ℕ) (z : 0 < n) (h : n ≤ length is) where
  marked : Marks ws n (get_or is (n - 1) 0)
  marked =
      let e : n - 1 + 1 ≡ n = omega arith in
      rw e at (x (n - 1) (omega arith))

  pub found-by : Starts ws n (get_or is (n - 1) 0 / mark)
  found-by = marked.start

  -- the rule that the index knows is the one that starts at word i
  pub slots-by : (i : ℕ) → Starts ws n i → get_or is (n - 1) 0 % mark ≡ slots (rule_of (drop i ws)).body
  slots-by i s =
      let e : rule_of (drop (get_or is (n - 1) 0 / mark) ws) ≡ rule_of (drop i ws) =
      some-injective _ _ (sym marked.start.named ∙ s.named) in
      subst (λ (q : Rule). get_or is (n - 1) 0 % mark ≡ slots q.body) e marked.slots

-- ---- how it is filled

slots-within : (b : List Item) → slots b ≤ length b
unfolding slots
slots-within [] = omega arith
slots-within (con c ∷ b) = omega (arith, slots-within b)
slots-within (slot t ∷ b) = omega (arith, slots-within b)

slots-few : (p : ℕ) (ws : List ℕ) → good_rule p ws ≡ true → slots (rule_of ws).body < mark
slots-few p ws g = omega (arith, slots-within (rule_of ws).body, (body-count p ws g).1)

-- the first n rules are marked, and the next stands at word i
pub record Marking (ws : List ℕ) (n i : ℕ) (is : List ℕ) : Type 0 where
  pub within : i ≤ length ws
  pub searches : (w : ℕ) → n < w → Search ws w i n
  pub marks : (m : ℕ) → m < n → Marks ws (m + 1) (get_or is m 0)

pub marking-none : (ws is : List ℕ) → good_rules 0 most_rules ws ≡ true → Marking ws 0 0 is
marking-none ws is g = record { within = omega arith; searches = λ w h. search-start ws w g; marks = λ m h. absurd (omega arith) }

module _ (ws : List ℕ) (n i : ℕ) (is : List ℕ) (g : Marking ws n i is) (b : i < length ws) where
  pub marking-here : Here ws i n
  marking-here = ahead-here ws i n (g.searches (n + 1) (omega arith)).ahead b

  pub few : slots (rule_of (drop i ws)).body < mark
  few = slots-few 0 (drop i ws) marking-here.good

  mine : Marks ws (n + 1) (i * mark + slots (rule_of (drop i ws)).body)
  mine =
      let w = i * mark + slots (rule_of (drop i ws)).body in
      let d : w / mark ≡ i = omega (arith, few) in
      let m : w % mark ≡ slots (rule_of (drop i ws)).body = omega (arith, few) in
      record { start = rw d (search-found ws (n + 1) i n (g.searches (n + 1) (omega arith)) b refl); slots = rw d m }

  pub marking-more : n < length is → (k : ℕ) → k ≡ slots (rule_of (drop i ws)).body
      → Marking ws (n + 1) (i + size_of (drop i ws)) (set is n (i * mark + k))
  marking-more h k e = record {
    within = marking-here.fits;
    searches = λ w q. search-next ws w i n (g.searches w (omega arith)) b (λ f. absurd (omega arith));
    marks = λ m q. by m q (eqb m n) refl;
  }
    where
      by : (m : ℕ) → m < n + 1 → (t : Bool) → eqb m n ≡ t → Marks ws (m + 1) (get_or (set is n (i * mark + k)) m 0)
      by m q true t =
          let f = eqb-true m n t in
          rw (f, get_or-set_same is n (i * mark + k) 0 h, e) mine
      by m q false t =
          let f = eqb-false m n t in
          rw (get_or-set_other is n m (i * mark + k) 0 f) (g.marks m (omega (arith, f)))

-- where a rule is left to be marked, words are left
pub marking-inside : (ws : List ℕ) (n i : ℕ) (is : List ℕ) → Marking ws n i is → n < length (the_rules ws) → i < length ws
marking-inside ws n i is g h = by (cases_lt i (length ws))
  where
    by : (i < length ws) ⊎ (length ws ≤ i) → i < length ws
    by (inl b) = b
    by (inr b) = absurd (let e = ahead-end ws i n (g.searches (n + 1) (omega arith)).ahead b in omega (arith, e))
