use Rattle.rules.proofs.Index.{Marking}
use Rattle.rules.proofs.index_rules.Given as goal

abbrev pub invariant-loop-mark : goal.invariant-loop-mark
invariant-loop-mark l = Marking l.rules l.mark-index l.at l.mark-items
