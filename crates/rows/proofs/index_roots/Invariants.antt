use Rattle.rows.proofs.Index.{Rooting}
use Rattle.rows.proofs.index_roots.Given as goal

abbrev pub invariant-loop-row : goal.invariant-loop-row
invariant-loop-row l = Rooting l.edges l.roots l.low l.row
