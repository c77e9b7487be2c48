use Rattle.std.proofs.Common.{sym, ◌∙◌, rules, arith}
use Rattle.rules.proofs.Theorems.Words.{rule-any, good-end, good_none, good-step}
use Rattle.rules.proofs.good_rules.Goals as goal

pub returns-then-left-eq0 : goal.returns-then-left-eq0
returns-then-left-eq0 c =
    let l = c.loop-rest in
    search (← l.invariant.1, c.if-left-eq0.true, good_none c.args.provable.0 l.rest.now 0 (search rules))

pub returns : goal.returns
returns c =
    let l = c.loop-rest in
    search (← l.invariant.1, good-end c.args.provable.0 l.left l.rest.now 0 (search rules))

pub returns-then-not-good_rule : goal.returns-then-not-good_rule
returns-then-not-good_rule c =
    let l = c.loop-rest in
    let p = c.args.provable.0 in
    search (← l.invariant.1, good-step p l.left l.rest.now 0 (search rules) (omega arith), sym c.good_rule.ensures ∙ c.if-not-good_rule.true)

pub rest_of-rest-requires : goal.rest_of-rest-requires
rest_of-rest-requires c = rule-any c.args.provable.0 c.loop-rest.rest.now (sym c.good_rule.ensures ∙ c.if-not-good_rule.false)

pub loop-rest-preserved : goal.loop-rest-preserved
loop-rest-preserved c =
    let l = c.loop-rest in
    let p = c.args.provable.0 in
    let g = sym c.good_rule.ensures ∙ c.if-not-good_rule.false in
    (search rules, rw c.rest_of-rest.ensures (search (rules, ← l.invariant.1, good-step p l.left l.rest.now 0 (search rules) (omega arith), g)))
