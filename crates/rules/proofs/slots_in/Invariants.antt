use Rattle.std.proofs.Common.{◌≡◌, ◌+◌, ◌≤◌, ◌*◌, true, length}
use Rattle.rules.specs.Rules.{good_items, items_of, slots}
use Rattle.rules.proofs.slots_in.Given as goal

abbrev pub invariant-loop-kind : goal.invariant-loop-kind
invariant-loop-kind l = (good_items l.rest ≡ true) × (l.n + slots (items_of l.rest) ≡ slots (items_of l.body)) × (3 * l.n + length l.rest ≤ length l.body)

abbrev pub decreases-loop-kind : goal.decreases-loop-kind
decreases-loop-kind l = length l.rest
