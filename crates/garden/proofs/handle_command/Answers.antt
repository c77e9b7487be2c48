use Rattle.std.proofs.Common.{length}
use Rattle.rules.specs.Rules.{the_rules}
use Rattle.garden.proofs.Commands.{converted, pathed}
use Rattle.garden.proofs.handle_command.Goals as goal

pub returns-in-Conversions : goal.returns-in-Conversions
returns-in-Conversions c =
    converted c.args.room (length c.args.frames.now) (the_rules c.args.rules.now) c.args.command c.args.c c.args.nodes.now c.args.edges.now
    c.convert_all.result c.convert_all.new.edges c.in-Conversions.is c.requires.0 c.convert_all.ensures

pub returns-in-Path : goal.returns-in-Path
returns-in-Path c =
    pathed c.args.room (length c.args.frames.now) (the_rules c.args.rules.now) c.args.command c.args.c c.args.nodes.now c.args.edges.now
    c.handle_common_prefixes.result c.handle_common_prefixes.new.nodes c.handle_common_prefixes.new.edges _ _ c.in-Path.is c.handle_common_prefixes.ensures
