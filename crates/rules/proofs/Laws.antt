-- What the proofs of this crate's functions share.
use mathlib.Core.Path.{◌≡◌, refl, sym, subst, ◌∙◌}
use mathlib.Core.Bool.{true}
use mathlib.Core.List.{List, [], ◌∷◌}
use Prim.Native.Nat.{ℕ, zero, suc, ◌+◌, ◌-◌, ◌≤◌, ◌<◌}
use native.Mathlib.Omega.{arith}
use native.Mathlib.Nat.{sub-zero, sub-add-eq}
use lib.ListN.{length, take, drop, drop_of_length-le}
use lib.Seq.{drop-cons, drop-drop}
use Rattle.words.specs.Limits.{most_rules}
use Rattle.words.proofs.Theorems.Parts.{part-all}
use Rattle.rules.specs.Rules.{size_of, rest_of, the_rules, good_rules, no_stretch, stretch_from}
use Rattle.rules.specs.Code.{Starts, Missing}
use Rattle.rules.proofs.Theorems.Words.{Ahead, Here, ahead-start, ahead-here, ahead-end, rule-past, rules-most}

-- the size of a rule in the middle of a slice
pub part-size-of : (ws : List ℕ) (i : ℕ) {r : ℕ} → r ≡ size_of (take (length ws - i) (drop i ws)) → r ≡ size_of (drop i ws)
part-size-of ws i e = rw (part-all ws i) at e

-- ---- the search for rule `wanted`, at word i after n rules

pub record Search (ws : List ℕ) (wanted i n : ℕ) : Type 0 where
  pub ahead : Ahead ws i n
  pub same : stretch_from (most_rules - n) i (drop i ws) (wanted - n) ≡ stretch_from most_rules 0 ws wanted
  pub later : wanted ≤ n → wanted ≡ 0

stretch-end : (k at : ℕ) (ws : List ℕ) (i m : ℕ) → length ws ≤ i → stretch_from k at (drop i ws) m ≡ no_stretch
unfolding stretch_from
stretch-end zero at ws i m h = refl
stretch-end (suc k) at ws i m h = rw (drop_of_length-le ws h)

stretch-none : (k at : ℕ) (ws : List ℕ) → stretch_from k at ws 0 ≡ no_stretch
unfolding stretch_from
stretch-none zero at ws = refl
stretch-none (suc k) at [] = refl
stretch-none (suc k) at (w ∷ ws) = refl

stretch-here : (k at : ℕ) (ws : List ℕ) (i : ℕ) → i < length ws → 0 < k
    → stretch_from k at (drop i ws) 1 ≡ record { start = at + 2; length = size_of (drop i ws) - 2 }
unfolding stretch_from
stretch-here zero at ws i h z = absurd (omega arith)
stretch-here (suc k) at ws i h z =
    subst (λ (l : List ℕ). stretch_from (suc k) at l 1 ≡ record { start = at + 2; length = size_of l - 2 }) (sym (drop-cons ws i 0 h)) refl

stretch-step : (k at : ℕ) (ws : List ℕ) (i m : ℕ) → i < length ws → 0 < k → (m ≡ 1 → ⊥)
    → stretch_from k at (drop i ws) m ≡ stretch_from (k - 1) (at + size_of (drop i ws)) (drop (i + size_of (drop i ws)) ws) (m - 1)
unfolding stretch_from
stretch-step zero at ws i m h z d = absurd (omega arith)
stretch-step (suc k) at ws i zero h z d =
    stretch-none (suc k) at (drop i ws) ∙ sym (stretch-none (suc k - 1) (at + size_of (drop i ws)) (drop (i + size_of (drop i ws)) ws))
stretch-step (suc k) at ws i (suc zero) h z d = absurd (d refl)
stretch-step (suc k) at ws i (suc (suc m)) h z d =
    let e : suc k - 1 ≡ k = omega arith in
    let f : suc (suc m) - 1 ≡ suc m = omega arith in
    rw (e, f, ← (drop-drop (size_of (drop i ws)) i ws))
    (subst (λ (l : List ℕ). stretch_from (suc k) at l (suc (suc m)) ≡ stretch_from k (at + size_of l) (rest_of l) (suc m)) (sym (drop-cons ws i 0 h)) refl)

pub search-start : (ws : List ℕ) (wanted : ℕ) → good_rules 0 most_rules ws ≡ true → Search ws wanted 0 0
search-start ws wanted g = record { ahead = ahead-start ws g; same = rw (sub-zero wanted); later = λ h. omega arith }

under : (w n : ℕ) → w ≤ n + 1 → (n + 1 ≡ w → ⊥) → w ≤ n
under w n h d = omega (arith, d)

module _ (ws : List ℕ) (wanted i n : ℕ) (s : Search ws wanted i n) where
  -- where a rule stands, not all are passed
  left : Here ws i n → 0 < most_rules - n
  left h = omega (arith, h.counted, rules-most most_rules ws)

  pub search-found : i < length ws → n + 1 ≡ wanted → Starts ws wanted i
  search-found b e =
      let h = ahead-here ws i n s.ahead b in
      let one : wanted - n ≡ 1 = omega arith in
      record {
        named = rw e at h.named;
        good = h.good;
        fits = h.fits;
        stretched = sym s.same ∙ rw one (stretch-here (most_rules - n) i ws i b (left h));
      }

  pub search-next : i < length ws → (n + 1 ≡ wanted → ⊥) → Search ws wanted (i + size_of (drop i ws)) (n + 1)
  search-next b d =
      let h = ahead-here ws i n s.ahead b in
      record {
        ahead = h.next;
        same = rw (sub-add-eq most_rules n 1, sub-add-eq wanted n 1) (sym (stretch-step (most_rules - n) i ws i (wanted - n) b (left h) λ e. d (omega arith)) ∙ s.same);
        later = λ q. s.later (under wanted n q d);
      }

  pub search-end : length ws ≤ i → Missing ws wanted
  search-end b =
      let l = ahead-end ws i n s.ahead b in
      record {
        unnamed = rule-past (the_rules ws) wanted λ q. s.later (omega arith);
        unstretched = sym s.same ∙ stretch-end (most_rules - n) i ws i (wanted - n) b;
      }
