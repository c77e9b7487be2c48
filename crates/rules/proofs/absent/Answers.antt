use Rattle.std.proofs.Common.{rules}
use Rattle.rules.proofs.Items.{split, first-good, absent-first, short-none}
use Rattle.rules.specs.Rules.{absent, variables}
use Rattle.words.proofs.Theorems.Tests.{tests}
use Rattle.rules.proofs.absent.Goals as goal

pub returns-then-other-variable : goal.returns-then-other-variable
returns-then-other-variable c =
    let item = c.in-Some.field-0-0.now in
    let others = c.in-Some.others.now in
    let e = split c.loop-other.rest.now item others c.in-Some.ensures.cases in
    let g = rw e at c.loop-other.invariant.0 in
    search (tests, rules, ← c.loop-other.invariant.1, e, absent-first _ _ _ others g c.args.variable c.requires.1)

pub loop-other-preserved : goal.loop-other-preserved
loop-other-preserved c =
    let item = c.in-Some.field-0-0.now in
    let others = c.in-Some.others.now in
    let e = split c.loop-other.rest.now item others c.in-Some.ensures.cases in
    let g = rw e at c.loop-other.invariant.0 in
    ((first-good _ _ _ others g).3, search (tests, rules, ← c.loop-other.invariant.1, e, absent-first _ _ _ others g c.args.variable c.requires.1))

pub returns : goal.returns
unfolding absent variables
returns c = search (rules, ← c.loop-other.invariant.1, short-none c.loop-other.rest.now (search rules) c.loop-other.invariant.0)
