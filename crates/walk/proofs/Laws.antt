-- A stack in a buffer, and the first conversion to a wanted typecode.
use mathlib.Core.Path.{◌≡◌, refl, sym, ap, ◌∙◌}
use mathlib.Core.Bool.{Bool, true, false, false≢true}
use mathlib.Core.List.{List, [], ◌∷◌}
use mathlib.Core.Option.{Option}
use Prim.Native.Nat.{ℕ, zero, suc, ◌+◌, ◌-◌, ◌≤◌, ◌<◌}
use native.Mathlib.Numerals.{add-one}
use native.Mathlib.Omega.{arith}
use lib.Dec.{eqb}
use lib.ListN.{length, get_or, set, take, drop, drop_of_length-le, length-drop}
use lib.Seq.{get_or-set_same, get_or-set_other, get_or-take, length-take-le, drop-drop}
use Rattle.rules.specs.Rules.{Rule, the_rules, rule_of, size_of, source}
use Rattle.words.specs.Limits.{most_rules}
use Rattle.rules.proofs.Theorems.Words.{Ahead, Here, ahead-start, ahead-here, ahead-end, rules-most}
use Rattle.words.specs.declared.SymbolNo.{SymbolNo}
use Rattle.words.specs.declared.NodeNo.{NodeNo}
use Rattle.rules.specs.Code.{a_rule, some_rules, source_of}
use Rattle.rows.specs.Rows.{edges_of}
use Rattle.rows.specs.Code.{looks_up}
use Rattle.rows.proofs.Theorems.Lookup.{row-found, none_found}
use Rattle.std.specs.Prelude.{Option as Held, Some, None}
use Rattle.std.specs.Option.{option_eq, is_some}
use Rattle.walk.specs.Walk.{tables_of, Choice, present, comes_from, wanted, conversion}
use Rattle.walk.specs.Code.{stack, wish_of, Bare, Framed, Wants, Converts, Chooses}
use Rattle.walk.specs.declared.Wish.{Wish}
use Rattle.walk.specs.declared.Wish.TheVariants.{Goal, Frame}

-- ---- a stack in a buffer

pub stack-length : (n : ℕ) (ws : List ℕ) → length (stack n ws) ≡ n
unfolding stack
stack-length zero ws = refl
stack-length (suc n) ws = ap suc (stack-length n ws)

pub stack-pop : (n : ℕ) (ws : List ℕ) → (n ≡ 0 → ⊥) → stack n ws ≡ get_or ws (n - 1) 0 ∷ stack (n - 1) ws
unfolding stack
stack-pop zero ws h = absurd (h refl)
stack-pop (suc n) ws h = let e : suc n - 1 ≡ n = omega arith in rw e

stack-under : (n m : ℕ) (ws : List ℕ) (x : ℕ) → n ≤ m → stack n (set ws m x) ≡ stack n ws
unfolding stack
stack-under zero m ws x h = refl
stack-under (suc n) m ws x h = rw (get_or-set_other ws m n x 0 (λ e. omega arith), stack-under n m ws x (omega arith))

pub stack_push : (n : ℕ) (ws : List ℕ) (x : ℕ) → n < length ws → stack (n + 1) (set ws n x) ≡ x ∷ stack n ws
unfolding stack
stack_push n ws x h = rw (add-one, get_or-set_same ws n x 0 h, stack-under n n ws x (omega arith))

-- ---- what is wished

goal-is : (g : SymbolNo) (goal : ℕ) → Goal g ≡ Goal (record { 0 = goal }) → g.0 ≡ goal
goal-is g goal e = let w : g ≡ record { 0 = goal } = cc in ap (λ (x : SymbolNo). x.0) w

top-is : (f : NodeNo) (x : ℕ) → Frame f ≡ Frame (record { 0 = x }) → f.0 ≡ x
top-is f x e = let w : f ≡ record { 0 = x } = cc in ap (λ (x : NodeNo). x.0) w

apart : (g : SymbolNo) (f : NodeNo) → Goal g ≡ Frame f → ⊥
apart g f e = let z : ◌≡◌ {A = ℕ} 0 1 = cc in omega arith

-- the top frame, and what is under it
pub stack_top : (n : ℕ) (ws : List ℕ) (goal : ℕ) (f : NodeNo) → Frame f ≡ wish_of goal (stack n ws) → stack n ws ≡ f.0 ∷ stack (n - 1) ws
unfolding stack
stack_top zero ws goal f e = absurd (apart _ f (sym e))
stack_top (suc n) ws goal f e = let d : suc n - 1 ≡ n = omega arith in rw (d, top-is f (get_or ws n 0) e)

pub bare-none : (w : Wish) (goal : ℕ) (fs : List ℕ) → Bare w → w ≡ wish_of goal fs → fs ≡ []
bare-none (Goal g) goal [] b e = refl
bare-none (Goal g) goal (f ∷ fs) b e = absurd (apart g _ e)
bare-none (Frame f) goal fs b e = absurd b

pub framed : (n : ℕ) (ws : List ℕ) (goal : ℕ) → Framed (wish_of goal (stack n ws)) n
unfolding stack
framed zero ws goal = tt
framed (suc n) ws goal = omega arith

-- the first frames alone make the stack
stack_within : (n m : ℕ) (ws : List ℕ) → n ≤ m → stack n (take m ws) ≡ stack n ws
unfolding stack
stack_within zero m ws h = refl
stack_within (suc n) m ws h = rw (get_or-take m ws n 0 (omega arith), stack_within n m ws (omega arith))

pub stack-taken : (n : ℕ) (ws : List ℕ) → n ≤ length ws → stack (length (take n ws)) (take n ws) ≡ stack n ws
stack-taken n ws h = rw (length-take-le n ws h) (stack_within n n ws (omega arith))

pub wish-none : (goal : SymbolNo) (ws : List ℕ) → length ws ≡ 0 → Goal goal ≡ wish_of goal.0 (stack (length ws) ws)
unfolding stack
wish-none goal ws e = rw e

pub wish-top : (goal : ℕ) (ws : List ℕ) (x : ℕ) → (length ws ≡ 0 → ⊥) → x ≡ get_or ws (length ws - 1) 0
    → Frame (record { 0 = x }) ≡ wish_of goal (stack (length ws) ws)
wish-top goal ws x h e = rw (stack-pop (length ws) ws h, e)

-- ---- what is wanted

module _ (es : List ℕ) (w : Wish) (t : ℕ) where
  -- without frames
  pub wants-goal : (g : SymbolNo) → w ≡ Goal g → Wants es w t (eqb t g.0)
  unfolding wanted
  wants-goal g e R ns st goal [] h = ap (eqb t) (goal-is g goal (sym e ∙ h))
  wants-goal g e R ns st goal (f ∷ fs) h = absurd (apart g _ (sym e ∙ h))

  -- by the top frame, where there is an edge for it
  pub wants-edge : (f : NodeNo) → w ≡ Frame f → {r : Held ℕ} → r ≡ looks_up es f.0 1 t → Wants es w t (is_some r)
  unfolding wanted tables_of present
  wants-edge f e {r = r} l R ns st goal [] h = absurd (apart _ f (sym h ∙ e))
  wants-edge f e {r = Some i} l R ns st goal (x ∷ fs) h = rw (← top-is f x (sym e ∙ h), (row-found es f.0 1 t l i refl).finds)
  wants-edge f e {r = None} l R ns st goal (x ∷ fs) h = rw (← top-is f x (sym e ∙ h), none_found es f.0 1 t l refl)

-- ---- the first conversion

hit : (b : Bool) (x y : Option Choice) → b ≡ true → elim b [ true ↦ x | false ↦ y ] ≡ x
hit true x y e = refl
hit false x y e = absurd (false≢true e)

miss : (b : Bool) (x y : Option Choice) → b ≡ false → elim b [ true ↦ x | false ↦ y ] ≡ y
miss true x y e = absurd (false≢true (sym e))
miss false x y e = refl

-- the code compares where a conversion goes from with t
pub from-is : (f : SymbolNo → SymbolNo → Bool) → ((x y : SymbolNo) → f x y ≡ eqb x.0 y.0) → (r : Held SymbolNo) (t : SymbolNo)
    → option_eq f r (Some t) ≡ comes_from (source_of r) t.0
unfolding comes_from
from-is f h (Some u) t = h u t
from-is f h None t = refl

-- a rule that is a conversion from t, and one that is not
module _ (es : List ℕ) (w : Wish) (q : Rule) (t : ℕ) (r : Held SymbolNo) (l : source_of r ≡ source q.body) where
  pub converts-not : comes_from (source_of r) t ≡ false → Converts es w q t false
  converts-not d R ns st goal fs h = rw (← l, d)

  pub converts-from : comes_from (source_of r) t ≡ true → {b : Bool} (x : ℕ) → x ≡ q.result → Wants es w x b → Converts es w q t b
  converts-from d x k g R ns st goal fs h = rw (← l, d, ← k) (g R ns st goal fs h)

-- the rules that are left, after the first k, decide
pub record Trying (es : List ℕ) (w : Wish) (ws : List ℕ) (t k : ℕ) (rest : List ℕ) : Type 0 where
  pub at : ℕ
  pub is : rest ≡ drop at ws
  pub ahead : Ahead ws at k
  pub same : (R : List Rule) (ns st : List ℕ) (goal : ℕ) (fs : List ℕ) → w ≡ wish_of goal fs →
      let T = tables_of R ns (edges_of es) in
      conversion T goal st (drop k (the_rules ws)) (k + 1) fs t ≡ conversion T goal st (the_rules ws) 1 fs t

module _ (es : List ℕ) (w : Wish) (ws : List ℕ) (t : ℕ) where
  pub trying_start : some_rules ws ≡ true → Trying es w ws t 0 ws
  trying_start g = record { at = 0; is = refl; ahead = ahead-start ws g; same = λ R ns st goal fs h. refl }

  module _ (k : ℕ) (rest : List ℕ) (g : Trying es w ws t k rest) where
    module _ (l : 0 < length rest) where
      -- a rule stands first
      here : Here ws g.at k
      here = ahead-here ws g.at k g.ahead (omega (arith, l, ap length g.is, length-drop g.at ws))

      pub trying-rule : a_rule rest ≡ true
      trying-rule = rw g.is here.good

      pub trying-few : k < most_rules
      trying-few = omega (arith, here.counted, rules-most most_rules ws)

      module _ {b : Bool} (q : Converts es w (rule_of rest) t b) where
        abbrev first : drop k (the_rules ws) ≡ rule_of rest ∷ drop (k + 1) (the_rules ws)
        first = rw g.is here.first

        pub trying-here : b ≡ true → (to : SymbolNo) → to.0 ≡ (rule_of rest).result
            → Chooses es w (the_rules ws) t (Some (record { rule = record { 0 = k + 1 }; to = to }))
        unfolding conversion
        trying-here e to d R ns st goal fs h =
            rw d (sym (hit _ _ _ (sym (q R ns st goal fs h) ∙ e)) ∙ (rw first at (g.same R ns st goal fs h)))

        pub trying-next : b ≡ false → Trying es w ws t (k + 1) (drop (size_of rest) rest)
        unfolding conversion
        trying-next e = record {
          at = g.at + size_of (drop g.at ws);
          is = rw g.is (drop-drop (size_of (drop g.at ws)) g.at ws);
          ahead = here.next;
          same = λ R ns st goal fs h.
              rw (add-one (k + 1)) (sym (miss _ _ _ (sym (q R ns st goal fs h) ∙ e)) ∙ (rw first at (g.same R ns st goal fs h)));
        }

    pub trying-end : length rest ≡ 0 → Chooses es w (the_rules ws) t None
    unfolding conversion
    trying-end l R ns st goal fs h =
        let n = ahead-end ws g.at k g.ahead (omega (arith, l, ap length g.is, length-drop g.at ws)) in
        rw (drop_of_length-le (the_rules ws) {i = k} (omega arith)) at (g.same R ns st goal fs h)
