use Rattle.std.proofs.Common.{◌≤◌, length}
use Rattle.package_main.proofs.hex.read.Given as goal

abbrev pub invariant-loop-item : goal.invariant-loop-item
invariant-loop-item l =
    (goal.iterator-loop-item).can_next l.item-iterator ×
    (goal.iterator-loop-item).is_finite l.item-iterator ×
    (l.end ≤ length l.to)
