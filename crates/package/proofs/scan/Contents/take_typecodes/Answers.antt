use Rattle.package.proofs.Reading.{stands-typecodes}
use Rattle.package.proofs.scan.Contents.take_typecodes.Goals as goal

pub returns : goal.returns
returns c rs ss q s =
    stands-typecodes c.args.self q rs ss c.args.body.now c.number_of.result c.number_of-2.result c.requires c.number_of.ensures c.number_of-2.ensures s
