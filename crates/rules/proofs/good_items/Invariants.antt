use Rattle.std.proofs.Common.{◌≡◌, length}
use Rattle.rules.specs.Rules.{good_items}
use Rattle.rules.proofs.good_items.Given as goal

abbrev pub invariant-loop-kind : goal.invariant-loop-kind
invariant-loop-kind l = good_items l.rest ≡ good_items l.body

abbrev pub decreases-loop-kind : goal.decreases-loop-kind
decreases-loop-kind l = length l.rest
