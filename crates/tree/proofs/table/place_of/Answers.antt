use Rattle.tree.proofs.Laws.{part-is}
use Rattle.tree.proofs.table.place_of.Goals as goal

pub place_of-requires : goal.place_of-requires
place_of-requires c =
    rw (part-is c.args.c.edges c.args.edges.now) c.requires.order

pub returns : goal.returns
returns c =
    rw (← (part-is c.args.c.edges c.args.edges.now)) c.place_of.ensures
