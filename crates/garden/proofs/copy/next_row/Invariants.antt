use Rattle.garden.proofs.Copying.{Seeking}
use Rattle.garden.proofs.copy.next_row.Given as goal

abbrev pub invariant-loop-at : goal.invariant-loop-at
invariant-loop-at l = Seeking l.at-end l.edges l.from.0 l.stood l.place l.at l.left
