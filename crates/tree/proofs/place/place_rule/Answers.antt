use Rattle.std.proofs.Common.{◌∙◌, sym}
use Rattle.rules.proofs.Theorems.Words.{body-count}
use Rattle.tree.proofs.Placing.{rule-skipped, rule-placed}
use Rattle.tree.proofs.place.place_rule.Goals as goal

pub returns-then-is_some : goal.returns-then-is_some
returns-then-is_some c =
    let k = c.conversion_of in
    rule-skipped c.args.room c.args.c c.args.nodes.now c.args.edges.now c.args.no.0 c.args.rule.now k.result k.ensures c.requires.0 (sym c.is_some.ensures ∙ c.if-is_some.true)

pub place_body-requires : goal.place_body-requires
place_body-requires c =
    (c.requires.0, rw c.body_of.ensures (body-count 0 c.args.rule.now c.requires.1).0)

pub returns : goal.returns
returns c =
    let k = c.conversion_of in
    rule-placed c.args.room c.args.c c.args.nodes.now c.args.edges.now c.args.no.0 c.args.rule.now k.result k.ensures
    c.body_of.result.now c.place_body.result c.place_body.new.nodes c.place_body.new.edges (sym c.is_some.ensures ∙ c.if-is_some.false) c.body_of.ensures c.place_body.ensures
