use Rattle.tree.proofs.Converting.{Copying}
use Rattle.tree.proofs.convert.copy_branches.Given as goal

abbrev pub invariant-loop-k : goal.invariant-loop-k
invariant-loop-k l = Copying l.room l.rule.0 l.n.0 l.m.0 l.initial.c l.initial.edges l.c l.edges l.k
