use Rattle.garden.specs.Code.{turns_left}
use Rattle.garden.proofs.Cloning.{Turning}
use Rattle.garden.proofs.clones.run.Given as goal

abbrev pub invariant-loop-s : goal.invariant-loop-s
invariant-loop-s l = Turning l.room l.t.0 l.initial.s l.initial.nodes l.initial.edges l.initial.frames l.s l.nodes l.edges l.frames

abbrev pub decreases-loop-s : goal.decreases-loop-s
decreases-loop-s l = turns_left l.s
