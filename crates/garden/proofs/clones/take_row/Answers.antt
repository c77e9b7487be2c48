use Rattle.std.proofs.Common.{◌<◌, arith}
use Rattle.std.proofs.lemmas.Result.{err_from_is_err_and}
use Rattle.garden.proofs.Cloning.{many-taken, frame-fits, next-readable, row_fits, row-refuses, few-edges, row-turns}
use Rattle.garden.proofs.clones.take_row.Goals as goal

pub returns-then-s-eq0 : goal.returns-then-s-eq0
returns-then-s-eq0 c =
    many-taken c.args.room c.args.t.0 c.args.s c.args.f c.args.nodes.now c.args.edges.now c.args.frames.now c.requires.0 c.requires.1 c.requires.2 c.args.at c.requires.3 c.if-s-eq0.true

pub write_frame-requires : goal.write_frame-requires
write_frame-requires c =
    frame-fits c.args.room c.args.t.0 c.args.s c.args.nodes.now c.args.edges.now c.args.frames.now c.requires.0 c.requires.1 c.args.f c.requires.2 c.args.at c.requires.3

pub read_row-e-requires : goal.read_row-e-requires
read_row-e-requires c =
    next-readable c.args.room c.args.t.0 c.args.s c.args.nodes.now c.args.edges.now c.args.frames.now c.requires.0 c.requires.1 c.args.f c.requires.2 c.args.at c.requires.3

pub take_up-requires : goal.take_up-requires
take_up-requires c =
    let e = c.read_row-e in
    row_fits c.args.room c.args.t.0 c.args.s c.args.nodes.now c.args.edges.now c.args.frames.now c.requires.0 c.requires.1 c.args.f c.requires.2 c.args.at c.requires.3 e.result e.ensures

pub returns-in_err-taken : goal.returns-in_err-taken
returns-in_err-taken c =
    let e = c.read_row-e in
    let u = c.take_up in
    let left : 0 < c.args.s.left = omega (arith, c.if-s-eq0.false) in
    let p = err_from_is_err_and c.from_residual.result c.from_residual.ensures.1 in
    rw (p.1, p.2, c.write_frame.ensures)
    (row-refuses c.args.room c.args.t.0 c.args.s c.args.f c.args.nodes.now c.args.edges.now c.args.frames.now c.requires.0 c.requires.1 c.requires.2 c.args.at c.requires.3 e.result e.ensures
    u.result u.new.nodes u.new.edges u.ensures.0 u.ensures.1 left _ c.in_err-taken.was)

pub after_row-requires : goal.after_row-requires
after_row-requires c =
    let e = c.read_row-e in
    let u = c.take_up in
    let left : 0 < c.args.s.left = omega (arith, c.if-s-eq0.false) in (
      left,
      few-edges c.args.room c.args.t.0 c.args.s c.args.f c.args.nodes.now c.args.edges.now c.args.frames.now c.requires.0 c.requires.1 c.requires.2 c.args.at c.requires.3 e.result e.ensures
          u.result u.new.nodes u.new.edges u.ensures.0 u.ensures.1 left _ c.in_ok-taken.was,
    )

pub returns : goal.returns
returns c =
    let e = c.read_row-e in
    let u = c.take_up in
    let a = c.after_row in
    let left : 0 < c.args.s.left = omega (arith, c.if-s-eq0.false) in
    row-turns c.args.room c.args.t.0 c.args.s c.args.f c.args.nodes.now c.args.edges.now c.args.frames.now c.requires.0 c.requires.1 c.requires.2 c.args.at c.requires.3 e.result e.ensures
    u.result u.new.nodes u.new.edges u.ensures.0 u.ensures.1 left _ c.in_ok-taken.was a.result a.new.frames (rw c.write_frame.ensures at a.ensures)
