use Rattle.std.proofs.Common.{◌∙◌, refl, length}
use Rattle.std.proofs.lemmas.Result.{err_from_is_err_and}
use Rattle.rules.specs.Rules.{the_rules}
use Rattle.garden.proofs.Commands.{commanded-bad, commanded-more, commanded-refused, commanded-end, fewer}
use Rattle.tree.proofs.Laws.{some-left, none-left}
use Rattle.garden.proofs.handle_commands.Goals as goal

pub returns-in_default : goal.returns-in_default
returns-in_default c =
    let l = c.loop-rest in
    let h = some-left _ _ c.is_empty.ensures c.loop-rest-test.true in
    commanded-bad c.args.room (length c.args.frames.now) (the_rules c.args.rules.now) c.args.commands.now _ l.c l.nodes l.edges l.asked l.rest.now l.invariant.3 h c.in_default.ensures

pub returns-in_err-c : goal.returns-in_err-c
returns-in_err-c c =
    let l = c.loop-rest in
    let h = some-left _ _ c.is_empty.ensures c.loop-rest-test.true in
    let p = err_from_is_err_and c.from_residual.result c.from_residual.ensures.1 in
    rw (p.1, p.2)
    (commanded-refused c.args.room (length c.args.frames.now) (the_rules c.args.rules.now) c.args.commands.now _ l.c l.nodes l.edges l.asked l.rest.now l.invariant.3 h
    c.in-Some.command c.in-Some.after c.in-Some.ensures c.handle_command.result c.handle_command.new.nodes c.handle_command.new.edges
    (rw l.invariant.2 at c.handle_command.ensures) _ c.in_err-c.was)

pub loop-rest-smaller : goal.loop-rest-smaller
loop-rest-smaller c =
    let l = c.loop-rest in
    let h = some-left _ _ c.is_empty.ensures c.loop-rest-test.true in
    fewer l.rest.now c.in-Some.command c.in-Some.after h c.in-Some.ensures

pub loop-rest-preserved : goal.loop-rest-preserved
loop-rest-preserved c =
    let l = c.loop-rest in
    let h = some-left _ _ c.is_empty.ensures c.loop-rest-test.true in (
      c.handle_command.auto.nodes ∙ l.invariant.0,
      c.handle_command.auto.edges ∙ l.invariant.1,
      c.handle_command.auto.frames ∙ l.invariant.2,
      commanded-more c.args.room (length c.args.frames.now) (the_rules c.args.rules.now) c.args.commands.now _ l.c l.nodes l.edges l.asked l.rest.now l.invariant.3 h
          c.in-Some.command c.in-Some.after c.in-Some.ensures c.handle_command.result c.handle_command.new.nodes c.handle_command.new.edges
          (rw l.invariant.2 at c.handle_command.ensures) _ c.in_ok-c.was _ refl,
    )

pub returns : goal.returns
returns c =
    let l = c.loop-rest in
    commanded-end c.args.room (length c.args.frames.now) (the_rules c.args.rules.now) c.args.commands.now _ l.c l.nodes l.edges l.asked l.rest.now l.invariant.3
    (none-left _ _ c.is_empty.ensures c.loop-rest-test.false)
