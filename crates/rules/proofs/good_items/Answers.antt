use Rattle.std.proofs.Common.{rules}
use Rattle.rules.proofs.Items.{split, short-good}
use Rattle.rules.specs.Rules.{good_items}
use Rattle.words.proofs.Theorems.Tests.{tests}
use Rattle.rules.proofs.good_items.Goals as goal

pub returns-then-not-good_item : goal.returns-then-not-good_item
unfolding good_items
returns-then-not-good_item c =
    let e = split c.loop-kind.rest.now c.in-Some.field-0-0.now c.in-Some.others.now c.in-Some.ensures.cases in
    rw (← c.loop-kind.invariant, e) (search (tests, rules))

pub loop-kind-preserved : goal.loop-kind-preserved
unfolding good_items
loop-kind-preserved c =
    let e = split c.loop-kind.rest.now c.in-Some.field-0-0.now c.in-Some.others.now c.in-Some.ensures.cases in
    rw (← c.loop-kind.invariant, e) (search (tests, rules))

pub returns : goal.returns
returns c = rw (← c.loop-kind.invariant) (search (rules, short-good c.loop-kind.rest.now (search rules)))
