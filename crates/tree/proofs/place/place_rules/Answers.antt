use Rattle.std.proofs.lemmas.Result.{err_from_is_err_and}
use Rattle.tree.proofs.Placing.{rest-start, rest_more, rest-refused, rest_end}
use Rattle.tree.proofs.place.place_rules.Goals as goal

pub loop-no-init : goal.loop-no-init
loop-no-init c =
    rw (c.into_iter-no-iterator.ensures.into_iter_gives, c.each-no-items.ensures.0, c.each-no-items.ensures.1)
    (rest-start c.args.room c.args.rules.now c.args.start c.args.nodes.now c.args.edges.now c.requires.0 c.requires.1)

pub place_rule-requires : goal.place_rule-requires
place_rule-requires c =
    let s = c.in-Some.ensures.steps in
    (c.loop-no.invariant.stands, rw s.3 s.1)

pub returns-in_err-c : goal.returns-in_err-c
returns-in_err-c c =
    let l = c.loop-no in
    let s = c.in-Some.ensures.steps in
    let p = err_from_is_err_and c.from_residual.result c.from_residual.ensures.1 in
    rw (p.1, p.2)
    (rest-refused c.args.room c.args.rules.now c.args.start c.args.nodes.now c.args.edges.now l.c l.nodes l.edges _ _ l.invariant s.0
    c.place_rule.result c.place_rule.new.nodes c.place_rule.new.edges (rw (s.2, s.3) at c.place_rule.ensures) _ c.in_err-c.was)

pub loop-no-preserved : goal.loop-no-preserved
loop-no-preserved c =
    let l = c.loop-no in
    let s = c.in-Some.ensures.steps in
    rw (s.4, s.5)
    (rest_more c.args.room c.args.rules.now c.args.start c.args.nodes.now c.args.edges.now l.c l.nodes l.edges _ _ l.invariant s.0
    c.place_rule.result c.place_rule.new.nodes c.place_rule.new.edges (rw (s.2, s.3) at c.place_rule.ensures) _ c.in_ok-c.was c.place_rule.auto.nodes c.place_rule.auto.edges)

pub returns : goal.returns
returns c =
    let l = c.loop-no in
    rest_end c.args.room c.args.rules.now c.args.start c.args.nodes.now c.args.edges.now l.c l.nodes l.edges _ _ l.invariant c.in-None.ensures.steps
