use Rattle.std.proofs.Common.{arith}
use Rattle.words.proofs.Theorems.Parts.{part-all}
use Rattle.garden.proofs.Commands.{conversions-are, conversions-after, no-command}
use Rattle.garden.proofs.command_of.Goals as goal

pub returns-in-2 : goal.returns-in-2
returns-in-2 c =
    let ws = c.args.ws.now in
    (tt, conversions-are ws c.in-2.is, rw (part-all ws 1) (conversions-after ws c.in-2.is))

pub returns-in_default : goal.returns-in_default
returns-in_default c = no-command c.args.ws.now (λ e. omega (arith, e)) (λ e. omega (arith, e))
