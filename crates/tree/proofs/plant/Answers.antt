use Rattle.tree.proofs.Growing.{no-root, root_stands, planted}
use Rattle.rules.specs.Rules.{the_rules}
use lib.ListN.{length-set}
use mathlib.Core.Path.{◌∙◌}
use native.Mathlib.Omega.{arith}
use Rattle.tree.proofs.plant.Goals as goal

pub returns-then-room-eq0 : goal.returns-then-room-eq0
returns-then-room-eq0 c =
    no-root c.args.room (the_rules c.args.rules.now) c.args.nodes.now c.args.edges.now c.requires.1 c.if-room-eq0.true

pub place_rules-requires : goal.place_rules-requires
place_rules-requires c =
    (root_stands c.args.room (the_rules c.args.rules.now) c.args.nodes.now c.args.edges.now c.requires.1 (omega (arith, c.if-room-eq0.false)), c.requires.0)

pub shape_of-nodes : goal.shape_of-nodes
shape_of-nodes c = c.place_rules.auto.nodes ∙ simp length-set

pub returns : goal.returns
returns c =
    planted c.args.room (the_rules c.args.rules.now) c.args.nodes.now c.args.edges.now c.requires.1 (omega (arith, c.if-room-eq0.false)) c.place_rules.result c.place_rules.new.nodes c.place_rules.new.edges c.place_rules.ensures
