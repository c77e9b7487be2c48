use Rattle.std.proofs.Common.{◌∙◌}
use Rattle.garden.proofs.Carried.{no-rule, first-rule}
use Rattle.garden.proofs.lists.has_rule.Goals as goal

pub returns-in-empty : goal.returns-in-empty
returns-in-empty c = no-rule c.args.rule.0 c.args.list.now c.in-empty.len_below

pub returns-in-len1-up : goal.returns-in-len1-up
returns-in-len1-up c = c.eq.ensures ∙ first-rule c.args.rule.0 c.args.list.now c.in-len1-up.len_at_least
