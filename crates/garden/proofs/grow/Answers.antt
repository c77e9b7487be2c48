use Rattle.std.proofs.lemmas.Result.{err_from_is_err_and}
use lib.ListN.{length}
use Rattle.rules.specs.Rules.{the_rules}
use Rattle.garden.specs.Garden.{the_commands}
use Rattle.garden.proofs.Commands.{none-built, all-built}
use Rattle.garden.proofs.grow.Goals as goal

pub tend-requires : goal.tend-requires
tend-requires c =
    (rw c.in_ok-c.was at c.plant.ensures.stands, c.requires.2, c.requires.0)

pub returns : goal.returns
returns c =
    all-built c.args.room (length c.args.frames.now) (the_rules c.args.rules.now) (the_commands c.args.commands.now)
    c.plant.result c.plant.new.nodes c.plant.new.edges c.plant.ensures _ c.in_ok-c.was c.tend.result c.tend.new.nodes c.tend.new.edges c.tend.ensures

pub returns-in_err-c : goal.returns-in_err-c
returns-in_err-c c =
    let p = err_from_is_err_and c.from_residual.result c.from_residual.ensures.1 in
    rw (p.1, p.2)
    (none-built c.args.room (length c.args.frames.now) (the_rules c.args.rules.now) (the_commands c.args.commands.now)
    c.plant.result c.plant.new.nodes c.plant.new.edges c.plant.ensures _ c.in_err-c.was)
