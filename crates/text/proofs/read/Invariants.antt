use Rattle.std.proofs.Common.{◌≤◌, length}
use Rattle.text.proofs.read.Given as goal

abbrev pub invariant-loop-item : goal.invariant-loop-item
invariant-loop-item l =
    (goal.iterator-loop-item).can_next l.item-iterator ×
    (goal.iterator-loop-item).is_finite l.item-iterator ×
    (l.n ≤ length l.out)
