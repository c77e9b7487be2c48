use Rattle.garden.proofs.Carried.{Extended}
use Rattle.garden.proofs.lists.extend.Given as goal

abbrev pub invariant-loop-d : goal.invariant-loop-d
invariant-loop-d l = Extended l.fn.list l.d-items l.d-index l.out
