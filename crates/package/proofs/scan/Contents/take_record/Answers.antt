use Rattle.std.proofs.Common.{ap}
use Rattle.package.specs.Package.{put_words}
use Rattle.package.specs.Code.{kind_number}
use Rattle.package.proofs.Theorems.Records.{typecodes-sized}
use Rattle.package.proofs.scan.Contents.take_record.Goals as goal

pub take_typecodes-requires : goal.take_typecodes-requires
take_typecodes-requires c =
    typecodes-sized (kind_number c.args.kind) c.args.body.now (ap kind_number c.in-Typecodes.is) c.requires.2

pub returns-in-TheEnd : goal.returns-in-TheEnd
unfolding put_words
returns-in-TheEnd c q s = rw c.in-TheEnd.is s
