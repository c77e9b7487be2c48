use Rattle.tree.proofs.Converting.{found-kind, no-edge, an-edge}
use Rattle.tree.proofs.Laws.{row-readable, read-leads}
use Rattle.tree.proofs.convert.convert_at.Goals as goal

pub returns-in_default : goal.returns-in_default
returns-in_default c =
    no-edge c.args.room c.args.c c.args.nodes.now c.args.edges.now c.requires.0 c.args.change.rule.0 c.args.change.result.0 c.args.change.source.0 c.args.n.0 c.in_default.ensures

pub read_row-e-requires : goal.read_row-e-requires
read_row-e-requires c =
    row-readable c.args.room c.args.c c.args.edges.now c.in-Some.row c.requires.0 c.in-Some.ensures.within

pub convert_to-requires : goal.convert_to-requires
convert_to-requires c =
    let found = c.in-Some.ensures in
    let e = c.read_row-e in (
      c.requires.0,
      c.requires.1,
      read-leads c.args.room c.args.c c.args.edges.now c.in-Some.row e.result c.requires.0 found.within e.ensures,
      found-kind c.args.room c.args.c c.args.nodes.now c.args.edges.now c.requires.0 c.args.change.rule.0 c.args.change.result.0 c.args.change.source.0 c.args.n.0 c.in-Some.row e.result found e.ensures,
      c.requires.2,
    )

pub returns : goal.returns
returns c =
    let e = c.read_row-e in
    an-edge c.args.room c.args.c c.args.nodes.now c.args.edges.now c.requires.0 c.args.change.rule.0 c.args.change.result.0 c.args.change.source.0 c.args.n.0 c.in-Some.row e.result c.convert_to.result c.convert_to.new.edges c.in-Some.ensures e.ensures c.convert_to.ensures
