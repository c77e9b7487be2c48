use lib.ListN.{length}
use Rattle.rules.specs.Rules.{the_rules}
use Rattle.tree.proofs.Growing.{stands-ready, finished-grows}
use Rattle.garden.specs.Garden.{the_commands, build}
use Rattle.garden.specs.Code.{bounds_of}
use Rattle.garden.proofs.build.Goals as goal

pub finish-requires : goal.finish-requires
finish-requires c =
    stands-ready c.args.room c.grow-grew.result c.grow-grew.new.nodes c.grow-grew.new.edges c.grow-grew.ensures.stands

pub returns : goal.returns
returns c =
    rw c.finish.ensures.0 (finished-grows c.args.room (build (bounds_of c.args.room (length c.args.frames.now)) (the_rules c.args.rules.now) (the_commands c.args.commands.now)) c.grow-grew.result c.grow-grew.new.nodes c.grow-grew.new.edges c.finish.new.edges c.grow-grew.ensures c.finish.ensures.1)
