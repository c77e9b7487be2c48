use Rattle.rows.specs.Code.{edge_is}
use Rattle.rows.proofs.Laws.{put-moved}
use Rattle.rows.proofs.insert_edge.Goals as goal

pub returns : goal.returns
returns c =
    put-moved c.args.edges.now c.move_up.new.s c.write_edge.new.edges c.args.row c.args.count (edge_is c.args.e) c.move_up.ensures c.write_edge.ensures c.requires.0 c.requires.1
