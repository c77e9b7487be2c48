-- The pairs of a list of words.
use Rattle.std.specs.Prelude.{◌≡◌, refl, Bool, true, false, not, ◌&&◌, List, [], ◌∷◌, ℕ, suc, ◌+◌, ◌*◌, ◌-◌, ◌%◌, ◌≤◌, ◌<◌, ltb, length, get_or, drop}
use Rattle.std.proofs.Common.{sym, ◌∙◌, add-one, arith, length-drop, drop_of_length-le, drop-cons}
use Rattle.std.proofs.lemmas.Bool.{false≢true}
use Rattle.std.proofs.Math.Numerals.{add-two}
use Rattle.words.proofs.Theorems.Tests.{and_r}
use Rattle.rules.specs.Rules.{symbol}
use Rattle.garden.specs.Garden.{good_pairs, pairs_of}
use Rattle.garden.specs.Code.{pair_at}

-- whether words are pairs, from word i on
pub good-end : (ws : List ℕ) (i : ℕ) → length ws ≤ i → good_pairs (drop i ws) ≡ true
unfolding good_pairs
good-end ws i h = rw (drop_of_length-le ws {i = i} h)

pub good-step : (ws : List ℕ) (i : ℕ) → i + 1 < length ws
    → good_pairs (drop i ws) ≡ not (ltb 1 (get_or ws i 0)) && symbol (get_or ws (i + 1) 0) && good_pairs (drop (i + 2) ws)
unfolding good_pairs
good-step ws i h =
    let a : i < length ws = omega arith in
    let b : suc i < length ws = omega arith in
    rw (drop-cons ws i 0 a, drop-cons ws (suc i) 0 b, add-one, add-two)

and-false : (b : Bool) → b && false ≡ false
and-false true = refl
and-false false = refl

pub pairs-odd : (ws : List ℕ) → (length ws % 2 ≡ 0 → ⊥) → good_pairs ws ≡ false
unfolding good_pairs
pairs-odd [] h = absurd (h refl)
pairs-odd (k ∷ []) h = refl
pairs-odd (k ∷ s ∷ ws) h = rw (pairs-odd ws (λ e. h (omega arith)), and-false)

-- two words each
pub pairs-count : (ws : List ℕ) → good_pairs ws ≡ true → length ws ≡ 2 * length (pairs_of ws)
unfolding good_pairs pairs_of
pairs-count [] g = refl
pairs-count (k ∷ []) g = absurd (false≢true g)
pairs-count (k ∷ s ∷ ws) g = omega (arith, pairs-count ws (and_r (not (ltb 1 k) && symbol s) (good_pairs ws) g))

-- a pair stands at word i, and the rest are pairs
pub record PairHere (ws : List ℕ) (i : ℕ) : Type 0 where
  pub inside : i + 2 ≤ length ws
  pub first : pairs_of (drop i ws) ≡ pair_at ws i ∷ pairs_of (drop (i + 2) ws)
  pub good : good_pairs (drop (i + 2) ws) ≡ true

two-left : (ws : List ℕ) → good_pairs ws ≡ true → 0 < length ws → 2 ≤ length ws
unfolding good_pairs
two-left [] g h = absurd (omega arith)
two-left (k ∷ []) g h = absurd (false≢true g)
two-left (k ∷ s ∷ ws) g h = omega arith

pub pair-here : (ws : List ℕ) (i : ℕ) → good_pairs (drop i ws) ≡ true → i < length ws → PairHere ws i
unfolding pairs_of
pair-here ws i g h =
    let n : 0 < length (drop i ws) = simp length-drop (omega arith) in
    let m : 2 ≤ length ws - i = rw (length-drop i ws) at (two-left (drop i ws) g n) in
    record {
      inside = omega (arith, m);
      first = rw (drop-cons ws i 0 h, drop-cons ws (suc i) 0 (omega (arith, m)), add-one, add-two);
      good = and_r (not (ltb 1 (get_or ws i 0)) && symbol (get_or ws (i + 1) 0)) (good_pairs (drop (i + 2) ws)) (sym (good-step ws i (omega (arith, m))) ∙ g);
    }

pub pairs_end : (ws : List ℕ) (i : ℕ) → length ws ≤ i → pairs_of (drop i ws) ≡ []
unfolding pairs_of
pairs_end ws i h = rw (drop_of_length-le ws {i = i} h)
