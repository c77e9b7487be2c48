use Prim.Native.Nat.{◌≤◌}
use native.Mathlib.Omega.{arith}
use Rattle.std.proofs.lemmas.Result.{err_from_is_err_and}
use Rattle.words.specs.Limits.{most_edges}
use Rattle.tree.proofs.Laws.{rows-rise, place_inside}
use Rattle.garden.proofs.Copying.{put_refused, can-mark, row-aged, row_keeps}
use Rattle.garden.proofs.copy.put_row.Goals as goal

pub place_of-row-requires : goal.place_of-row-requires
place_of-row-requires c =
    rows-rise c.args.room c.args.c c.args.edges.now c.requires.0

pub overflow_cast-age : goal.overflow_cast-age
overflow_cast-age c =
    record { fits = omega (arith, c.requires.0.within, c.requires.1) }

pub add_edge-requires : goal.add_edge-requires
add_edge-requires c =
    (c.requires.0, c.requires.2, c.requires.3)

pub overflow_mul-edges : goal.overflow_mul-edges
overflow_mul-edges c =
    let p = c.place_of-row in
    let low : p.result ≤ most_edges = omega (arith, p.ensures, place_inside c.args.room c.args.c c.args.edges.now c.requires.0 c.args.e.key.from.0 c.args.e.key.kind c.args.e.key.symbol.0, c.requires.0.within, c.requires.1) in
    record { fits = omega (arith, low) }

pub overflow_add-edges : goal.overflow_add-edges
overflow_add-edges c =
    let p = c.place_of-row in
    let low : p.result ≤ most_edges = omega (arith, p.ensures, place_inside c.args.room c.args.c c.args.edges.now c.requires.0 c.args.e.key.from.0 c.args.e.key.kind c.args.e.key.symbol.0, c.requires.0.within, c.requires.1) in
    record { fits = omega (arith, low) }

pub offset_bounds-edges-row : goal.offset_bounds-edges-row
offset_bounds-edges-row c =
    let p = c.place_of-row in
    let low : p.result ≤ most_edges = omega (arith, p.ensures, place_inside c.args.room c.args.c c.args.edges.now c.requires.0 c.args.e.key.from.0 c.args.e.key.kind c.args.e.key.symbol.0, c.requires.0.within, c.requires.1) in
    record { fits = omega (arith, low) }

pub bounds-edges-row : goal.bounds-edges-row
bounds-edges-row c =
    let p = c.place_of-row in
    omega (arith, can-mark c.args.room c.args.c c.args.edges.now c.requires.0 c.args.e c.add_edge.result c.add_edge.new.edges c.add_edge.ensures.0 c.add_edge.ensures.1 c.in_ok-d.d c.in_ok-d.was p.result p.ensures)

pub returns : goal.returns
returns c =
    let p = c.place_of-row in (
      λ ns. row-aged c.args.room c.args.c c.args.edges.now c.requires.0 c.args.e c.add_edge.result c.add_edge.new.edges c.add_edge.ensures.0 c.add_edge.ensures.1 c.in_ok-d.d c.in_ok-d.was p.result p.ensures ns,
      row_keeps c.args.room c.args.c c.args.edges.now c.requires.0 c.args.e c.add_edge.result c.add_edge.new.edges c.add_edge.ensures.0 c.add_edge.ensures.1 c.in_ok-d.d c.in_ok-d.was p.result p.ensures,
    )

pub returns-in_err-d : goal.returns-in_err-d
returns-in_err-d c =
    let p = err_from_is_err_and c.from_residual.result c.from_residual.ensures.1 in
    rw (p.1, p.2)
    (put_refused c.args.room c.args.c c.args.edges.now c.requires.0 c.args.e c.add_edge.result c.add_edge.new.edges c.add_edge.ensures.0 _ c.in_err-d.was, tt)
