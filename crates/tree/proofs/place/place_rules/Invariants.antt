use Rattle.tree.proofs.Placing.{Rest}
use Rattle.tree.proofs.place.place_rules.Given as goal

abbrev pub invariant-loop-no : goal.invariant-loop-no
invariant-loop-no l = Rest l.room l.rules l.initial.c l.initial.nodes l.initial.edges l.c l.nodes l.edges l.no-iterator.taken l.no-iterator.words.now
