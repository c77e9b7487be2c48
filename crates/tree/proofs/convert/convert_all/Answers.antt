use Rattle.std.proofs.Common.{arith}
use Rattle.std.proofs.lemmas.Result.{err_from_is_err_and}
use Rattle.tree.proofs.Converting.{converted-start, converted-more, converted-refused, converted-end}
use Rattle.tree.proofs.convert.convert_all.Goals as goal

pub loop-no-init : goal.loop-no-init
loop-no-init c =
    rw (c.into_iter-no-iterator.ensures.into_iter_gives, c.each-no-items.ensures.0, c.each-no-items.ensures.1)
    (converted-start c.args.room c.args.rules.now c.args.start c.args.nodes.now c.args.edges.now c.requires.0 c.requires.3)

pub convert_rule-requires : goal.convert_rule-requires
convert_rule-requires c =
    let l = c.loop-no in
    let s = c.in-Some.ensures.steps in
    (l.invariant.going.rowed, omega (arith, l.invariant.going.nodes-kept, c.requires.1), omega (arith, l.invariant.going.nodes-kept, c.requires.2), rw s.3 s.1)

pub returns-in_err-c : goal.returns-in_err-c
returns-in_err-c c =
    let l = c.loop-no in
    let s = c.in-Some.ensures.steps in
    let p = err_from_is_err_and c.from_residual.result c.from_residual.ensures.1 in
    rw (p.1, p.2)
    (converted-refused c.args.room c.args.rules.now c.args.start c.args.edges.now l.c c.args.nodes.now l.edges _ _ l.invariant s.0
    c.convert_rule.result c.convert_rule.new.edges (rw (s.2, s.3) at c.convert_rule.ensures) _ c.in_err-c.was)

pub loop-no-preserved : goal.loop-no-preserved
loop-no-preserved c =
    let l = c.loop-no in
    let s = c.in-Some.ensures.steps in
    rw (s.4, s.5)
    (converted-more c.args.room c.args.rules.now c.args.start c.args.edges.now l.c c.args.nodes.now l.edges _ _ l.invariant s.0
    c.convert_rule.result c.convert_rule.new.edges (rw (s.2, s.3) at c.convert_rule.ensures) _ c.in_ok-c.was c.convert_rule.auto.edges)

pub returns : goal.returns
returns c =
    let l = c.loop-no in
    converted-end c.args.room c.args.rules.now c.args.start c.args.edges.now l.c c.args.nodes.now l.edges _ _ l.invariant c.in-None.ensures.steps
