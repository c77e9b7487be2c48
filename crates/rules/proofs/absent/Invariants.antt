use Rattle.std.proofs.Common.{◌≡◌, true, length}
use Rattle.rules.specs.Rules.{good_items, absent, variables}
use Rattle.rules.proofs.absent.Given as goal

abbrev pub invariant-loop-other : goal.invariant-loop-other
invariant-loop-other l = (good_items l.rest ≡ true) × (absent l.variable (variables l.rest) ≡ absent l.variable (variables l.items))

abbrev pub decreases-loop-other : goal.decreases-loop-other
decreases-loop-other l = length l.rest
