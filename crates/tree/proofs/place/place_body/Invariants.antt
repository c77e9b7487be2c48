use Rattle.rules.specs.Rules.{items_of}
use Rattle.tree.proofs.Placing.{Left}
use Rattle.tree.proofs.place.place_body.Given as goal

abbrev pub invariant-loop-k : goal.invariant-loop-k
invariant-loop-k l = Left l.room l.rule.0 (items_of l.body) l.initial.c l.initial.nodes l.initial.edges l.c l.nodes l.edges l.n.0 l.k
