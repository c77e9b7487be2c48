use Rattle.std.proofs.Common.{◌-◌, ◌≤◌, length, take}
use Rattle.std.specs.Io.KnownBytes.{Consumes}
use Rattle.text.proofs.read_full.Given as goal

-- what was read so far stands at the front
abbrev pub invariant-loop-done : goal.invariant-loop-done
invariant-loop-done g l = (l.done ≤ length l.to) × Consumes (g.R.Read.remaining l.initial.from) (g.R.Read.remaining l.from) (take l.done l.to)

abbrev pub decreases-loop-done : goal.decreases-loop-done
decreases-loop-done g l = length l.to - l.done
