use Rattle.rows.specs.Code.{reduces_are}
use Rattle.garden.proofs.Carried.{Differs}
use Rattle.garden.proofs.lists.diff_extend.Given as goal

abbrev pub invariant-loop-d : goal.invariant-loop-d
invariant-loop-d l = Differs l.d-items (reduces_are l.fn.e) l.out l.left l.d-index
