use Rattle.std.proofs.Common.{◌≡◌, true, length}
use Rattle.rules.specs.Rules.{good_items, distinct, variables}
use Rattle.rules.proofs.distinct.Given as goal

abbrev pub invariant-loop-kind : goal.invariant-loop-kind
invariant-loop-kind l = (good_items l.rest ≡ true) × (distinct (variables l.rest) ≡ distinct (variables l.items))

abbrev pub decreases-loop-kind : goal.decreases-loop-kind
decreases-loop-kind l = length l.rest
