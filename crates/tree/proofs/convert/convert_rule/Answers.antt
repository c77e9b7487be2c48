use Rattle.tree.proofs.Converting.{rule-left, rule-converted}
use Rattle.tree.proofs.convert.convert_rule.Goals as goal

pub returns-in_default : goal.returns-in_default
returns-in_default c =
    let k = c.conversion_of in
    rule-left c.args.room c.args.c c.args.nodes.now c.args.edges.now c.args.no.0 c.args.rule.now k.result k.ensures c.requires.0 c.in_default.is

pub returns : goal.returns
returns c =
    let k = c.conversion_of in
    let t = c.result_of-result in
    rule-converted c.args.room c.args.c c.args.nodes.now c.args.edges.now c.args.no.0 c.args.rule.now k.result k.ensures
    c.in-Some.source t.result c.convert_nodes.result c.convert_nodes.new.edges c.in-Some.is t.ensures c.requires.1 c.convert_nodes.ensures
