use Rattle.rows.proofs.Index.{Filling}
use Rattle.rows.proofs.index_rows.Given as goal

abbrev pub invariant-loop-node : goal.invariant-loop-node
invariant-loop-node l = Filling l.edges l.firsts l.node l.row
