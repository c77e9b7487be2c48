use mathlib.Core.Path.{sym}
use Rattle.rules.proofs.Theorems.Words.{items-count}
use Rattle.rules.proofs.items_in.Goals as goal

pub returns : goal.returns
returns c = sym (items-count c.args.body.now)
