use Rattle.tree.proofs.Laws.{rows-rise}
use Rattle.garden.proofs.Cloning.{top-readable, top-done, a-row, no_row}
use Rattle.garden.proofs.clones.turn.Goals as goal

pub read_frame-f-requires : goal.read_frame-f-requires
read_frame-f-requires c =
    top-readable c.args.room c.args.t.0 c.args.s c.args.nodes.now c.args.edges.now c.args.frames.now c.requires.0 c.requires.1

pub next_row-requires : goal.next_row-requires
next_row-requires c =
    rows-rise c.args.room c.args.s.counts c.args.edges.now c.requires.0.stands.rowed

pub returns-in_default : goal.returns-in_default
returns-in_default c =
    let f = c.read_frame-f in
    let x = c.next_row in
    top-done c.args.room c.args.t.0 c.args.s f.result c.args.nodes.now c.args.edges.now c.args.frames.now c.requires.0 c.requires.1 f.ensures (no_row c.args.s.counts f.result.clone.from.0 f.result.stood f.result.place c.args.edges.now x.result x.ensures c.in_default.is)

pub take_row-requires : goal.take_row-requires
take_row-requires c =
    let f = c.read_frame-f in
    (c.requires.0, c.requires.1, f.ensures, a-row c.args.s.counts f.result.clone.from.0 f.result.stood f.result.place c.args.edges.now c.next_row.result c.next_row.ensures c.in-Some.at c.in-Some.is)
