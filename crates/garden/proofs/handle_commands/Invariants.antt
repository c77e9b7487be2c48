use Rattle.std.proofs.Common.{◌≡◌, length}
use Rattle.rules.specs.Rules.{the_rules}
use Rattle.tree.specs.Code.{grown_of}
use Rattle.garden.specs.Garden.{the_commands, handle_commands}
use Rattle.garden.specs.Code.{bounds_of}
use Rattle.garden.proofs.Commands.{Commanded}
use Rattle.garden.proofs.handle_commands.Given as goal

abbrev pub invariant-loop-rest : goal.invariant-loop-rest
invariant-loop-rest l = (length l.nodes ≡ length l.initial.nodes) × (length l.edges ≡ length l.initial.edges) × (length l.frames ≡ length l.initial.frames)
    × Commanded l.room (length l.initial.frames) (the_rules l.rules) l.commands
    (handle_commands (bounds_of l.room (length l.initial.frames)) (the_rules l.rules) (the_commands l.commands) (grown_of l.initial.c l.initial.nodes l.initial.edges)) l.c l.nodes l.edges l.asked l.rest

abbrev pub decreases-loop-rest : goal.decreases-loop-rest
decreases-loop-rest l = length l.rest
