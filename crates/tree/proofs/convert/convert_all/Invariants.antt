use Rattle.tree.proofs.Converting.{Converted}
use Rattle.tree.proofs.convert.convert_all.Given as goal

abbrev pub invariant-loop-no : goal.invariant-loop-no
invariant-loop-no l = Converted l.room l.rules l.initial.c l.initial.edges l.c l.nodes l.edges l.no-iterator.taken l.no-iterator.words.now
