use mathlib.Core.Path.{refl}
use native.Mathlib.Omega.{arith}
use Rattle.tree.proofs.Laws.{place_inside, edge-refused, edge-added}
use Rattle.tree.proofs.table.add_edge.Goals as goal

pub returns-then-room-n : goal.returns-then-room-n
returns-then-room-n c =
    (λ ns. edge-refused c.args.room c.args.c ns c.args.edges.now c.requires.0 c.args.e c.if-room-n.true, tt)

pub insert_edge-requires : goal.insert_edge-requires
insert_edge-requires c =
    let p = place_inside c.args.room c.args.c c.args.edges.now c.requires.0 c.args.e.key.from.0 c.args.e.key.kind c.args.e.key.symbol.0 in
    (rw c.place_of-row.ensures p, omega (arith, c.requires.0.fits, c.if-room-n.false))

pub returns : goal.returns
returns c =
    let p = c.place_of-row in
    (λ ns. edge-added c.args.room c.args.c ns c.args.edges.now c.requires.0 c.args.e p.result c.insert_edge.new.edges p.ensures c.insert_edge.ensures c.if-room-n.false c.requires.1 c.requires.2, (refl, rw (← p.ensures) c.insert_edge.ensures))
