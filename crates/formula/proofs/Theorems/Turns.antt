-- The test in the terms of a loop begins as the check.
use Rattle.std.specs.Prelude.{◌≡◌, ℕ, length}
use Rattle.std.proofs.Common.{◌∙◌}
use mathlib.Core.List.{List, []}
use Rattle.std.proofs.Math.Seq.{take-length}
use Rattle.rules.specs.Rules.{Item, slot, Rule}
use Rattle.formula.specs.Check.{check}
use Rattle.formula.proofs.Theorems.Down.{check-is-down}
use Rattle.formula.specs.Turns.{pending, facing}

module _ (R : List Rule) {A : Type 0} (unread : A → List Item) (l ts : List ℕ) where
  -- the first item that is faced is a slot for the whole tree
  pub start-facing : (t : ℕ) → check R t ts l ≡ facing R unread l ts (slot t) (length l) [] (length ts)
  unfolding facing pending
  start-facing t = check-is-down R t ts l ∙ rw (take-length l, take-length ts)
