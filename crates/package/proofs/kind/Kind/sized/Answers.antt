use Rattle.std.proofs.Common.{refl}
use Rattle.package.specs.Package.{sized}
use Rattle.package.proofs.kind.Kind.sized.Goals as goal

pub returns-in-Typecodes : goal.returns-in-Typecodes
unfolding sized
returns-in-Typecodes c = rw c.in-Typecodes.is refl

pub returns-in-OneRule : goal.returns-in-OneRule
unfolding sized
returns-in-OneRule c = rw c.in-OneRule.is c.rule_sized.ensures

pub returns-in-OldRule : goal.returns-in-OldRule
unfolding sized
returns-in-OldRule c = rw c.in-OldRule.is c.rule_sized-in-OldRule.ensures

pub returns-in-Statement : goal.returns-in-Statement
unfolding sized
returns-in-Statement c = rw c.in-Statement.is refl

pub returns-in-TheEnd : goal.returns-in-TheEnd
unfolding sized
returns-in-TheEnd c = rw c.in-TheEnd.is c.is_empty.ensures
