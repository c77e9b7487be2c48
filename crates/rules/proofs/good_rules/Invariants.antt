use Rattle.std.proofs.Common.{◌≡◌, ◌≤◌, length}
use Rattle.words.specs.Limits.{most_rules}
use Rattle.rules.specs.Rules.{good_rules}
use Rattle.rules.proofs.good_rules.Given as goal

abbrev pub invariant-loop-rest : goal.invariant-loop-rest
invariant-loop-rest l = (l.left ≤ most_rules) × (good_rules l.provable.0 l.left l.rest ≡ good_rules l.provable.0 most_rules l.rules)

abbrev pub decreases-loop-rest : goal.decreases-loop-rest
decreases-loop-rest l = length l.rest
