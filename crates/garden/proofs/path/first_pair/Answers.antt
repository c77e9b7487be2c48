use Rattle.words.proofs.Theorems.Parts.{part-all}
use Rattle.std.proofs.Common.{arith, length-drop}
use Rattle.garden.proofs.Paths.{pair-first, pairs-after, no-pair}
use Rattle.garden.proofs.path.first_pair.Goals as goal

pub returns-in_default : goal.returns-in_default
returns-in_default c = no-pair c.args.list.now c.in_default.len_below

pub returns : goal.returns
returns c =
    let ws = c.args.list.now in
    let two = c.in-len2-up.len_at_least in
    rw (part-all ws 2) (pair-first ws two, pairs-after ws two, omega (arith, two, length-drop 2 ws))
