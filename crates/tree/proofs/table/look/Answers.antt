use Rattle.tree.proofs.Laws.{part-is, looks}
use Rattle.tree.proofs.table.look.Goals as goal

pub look_up-requires : goal.look_up-requires
look_up-requires c =
    rw (part-is c.args.c.edges c.args.edges.now) c.requires.order

pub returns : goal.returns
returns c =
    looks c.args.c c.args.edges.now c.args.key.from.0 c.args.key.kind c.args.key.symbol.0 c.look_up.result c.requires.fits c.look_up.ensures
