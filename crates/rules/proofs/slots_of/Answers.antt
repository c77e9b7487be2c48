use mathlib.Core.Path.{◌∙◌}
use native.Mathlib.Omega.{arith}
use Rattle.rules.proofs.Theorems.Words.{good-rule, body-length}
use Rattle.rules.proofs.slots_of.Goals as goal

pub slots_in-requires : goal.slots_in-requires
slots_in-requires c =
    let ws = c.args.s.now in
    let g = good-rule 0 ws c.requires in
    rw c.body_of-body.ensures (g.items, omega (arith, body-length ws g, g.few))

pub returns : goal.returns
returns c = c.slots_in.ensures ∙ rw c.body_of-body.ensures
