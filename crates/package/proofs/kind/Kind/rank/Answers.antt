use Rattle.std.proofs.Common.{◌∙◌}
use Rattle.package.specs.Package.{rank}
use Rattle.package.proofs.Ranks.{rank-same}
use Rattle.package.proofs.kind.Kind.rank.Goals as goal

pub returns-in-OldRule : goal.returns-in-OldRule
unfolding rank
returns-in-OldRule c = rw c.in-OldRule.is c.into.ensures

pub returns-in_default : goal.returns-in_default
returns-in_default c = c.into-in_default.ensures ∙ rank-same c.args.self c.in_default.not-OldRule
