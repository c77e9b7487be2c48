use Rattle.package.proofs.Numbers.{number-is}
use Rattle.package.proofs.number.number_of.Goals as goal

pub returns : goal.returns
returns g c =
    number-is g.row.N c.args.s.now c.copy_from_slice.new.self c.from_le_bytes.result c.requires.0 c.requires.1 c.copy_from_slice.ensures.after c.from_le_bytes.ensures
