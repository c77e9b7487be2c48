use Rattle.std.proofs.Common.{◌≡◌, length}
use Rattle.desk.specs.Code.{asked_many_over, lent}
use Rattle.desk.proofs.Batching.{Batching}
use Rattle.desk.proofs.many.parse_all.Given as goal

abbrev pub invariant-loop-size : goal.invariant-loop-size
invariant-loop-size l = (length l.frames ≡ length l.initial.frames) × (length l.list ≡ length l.initial.list) × (length l.work ≡ length l.initial.work) × (length l.answers ≡ length l.initial.answers)
    × Batching (asked_many_over l.ground l.statements) l.allowance (lent l.initial.frames l.initial.list l.initial.work) l.statements l.list l.answers l.rest l.used.answers l.used.list

abbrev pub decreases-loop-size : goal.decreases-loop-size
decreases-loop-size l = length l.rest
