use native.Mathlib.Omega.{arith}
use Rattle.rules.specs.Rules.{rule_of}
use Rattle.rules.specs.Code.{item_is}
use Rattle.formula.proofs.Checking.{last-is}
use Rattle.formula.proofs.last_item.Goals as goal

pub item_in-requires : goal.item_in-requires
item_in-requires c = rw c.body_of-body.ensures (omega (arith, c.requires.1, c.requires.2))

pub returns : goal.returns
returns c =
    last-is (rule_of c.args.s.now).body c.args.left (item_is c.item_in.result) c.requires.1 (rw c.body_of-body.ensures at c.item_in.ensures)
