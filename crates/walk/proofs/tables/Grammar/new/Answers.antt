use Rattle.walk.proofs.Running.{tables-fit}
use Rattle.walk.proofs.tables.Grammar.new.Goals as goal

pub invariant_of-result : goal.invariant_of-result
invariant_of-result c = record {
  fit = tables-fit c.args.book.rules.now c.args.nodes.now c.args.edges.now c.args.firsts.now c.requires.0 c.requires.1;
  rooted = c.requires.2;
}
