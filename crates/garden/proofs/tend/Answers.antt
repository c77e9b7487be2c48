use Rattle.std.proofs.Common.{length}
use Rattle.std.proofs.lemmas.Result.{err_from_is_err_and}
use Rattle.rules.specs.Rules.{the_rules}
use Rattle.tree.specs.Code.{grown_of}
use Rattle.garden.specs.Garden.{the_commands}
use Rattle.garden.proofs.Commands.{tended, tended-last, tended-refused}
use Rattle.garden.proofs.tend.Goals as goal

pub returns-in_err-d : goal.returns-in_err-d
returns-in_err-d c =
    let h = c.handle_commands in
    let p = err_from_is_err_and c.from_residual.result c.from_residual.ensures.1 in
    rw (p.1, p.2)
    (tended-refused c.args.room (length c.args.frames.now) (the_rules c.args.rules.now) (the_commands c.args.commands.now)
    (grown_of c.args.c c.args.nodes.now c.args.edges.now) h.result h.new.nodes h.new.edges h.ensures _ c.in_err-d.was)

pub returns-then-asked : goal.returns-then-asked
returns-then-asked c =
    let h = c.handle_commands in
    tended c.args.room (length c.args.frames.now) (the_rules c.args.rules.now) (the_commands c.args.commands.now)
    (grown_of c.args.c c.args.nodes.now c.args.edges.now) h.result h.new.nodes h.new.edges h.ensures _ _ c.in_ok-d.was c.if-asked.true

pub returns : goal.returns
returns c =
    let h = c.handle_commands in
    tended-last c.args.room (length c.args.frames.now) (the_rules c.args.rules.now) (the_commands c.args.commands.now)
    (grown_of c.args.c c.args.nodes.now c.args.edges.now) h.result h.new.nodes h.new.edges h.ensures _ _ c.in_ok-d.was c.if-asked.false
    c.convert_all.result c.convert_all.new.edges c.convert_all.ensures
