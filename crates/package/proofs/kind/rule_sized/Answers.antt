use Rattle.words.proofs.Theorems.Tests.{tests}
use Rattle.package.specs.Package.{rule_sized}
use Rattle.package.proofs.Heads.{rule-items}
use Rattle.package.proofs.kind.rule_sized.Goals as goal

pub returns-then-body-ge8 : goal.returns-then-body-ge8
unfolding rule_sized
returns-then-body-ge8 c =
    search (tests, rule-items c.args.body.now c.number_of.result c.number_of.ensures c.if-body-ge8.true)

pub returns-else-body-ge8 : goal.returns-else-body-ge8
unfolding rule_sized
returns-else-body-ge8 c = search tests
