use native.Mathlib.Omega.{arith}
use Rattle.std.proofs.lemmas.Result.{err_from_is_err_and}
use Rattle.garden.proofs.Cloning.{turning-start, turning-more, turning-less, turning-refused, turning-end}
use Rattle.garden.proofs.clones.run.Goals as goal

pub loop-s-init : goal.loop-s-init
loop-s-init c =
    turning-start c.args.room c.args.t.0 c.args.start c.args.nodes.now c.args.edges.now c.args.frames.now c.requires

pub turn-requires : goal.turn-requires
turn-requires c = (c.loop-s.invariant.staged, c.loop-s-test.true)

pub loop-s-smaller : goal.loop-s-smaller
loop-s-smaller c =
    let l = c.loop-s in
    turning-less c.args.room c.args.t.0 c.args.start c.args.nodes.now c.args.edges.now c.args.frames.now l.s l.nodes l.edges l.frames l.invariant c.turn.result c.turn.new.nodes c.turn.new.edges c.turn.new.frames c.turn.ensures _ c.in_ok-s.was

pub loop-s-preserved : goal.loop-s-preserved
loop-s-preserved c =
    let l = c.loop-s in
    turning-more c.args.room c.args.t.0 c.args.start c.args.nodes.now c.args.edges.now c.args.frames.now l.s l.nodes l.edges l.frames l.invariant c.turn.result c.turn.new.nodes c.turn.new.edges c.turn.new.frames c.turn.ensures _ c.in_ok-s.was c.turn.auto.nodes c.turn.auto.edges c.turn.auto.frames

pub returns-in_err-s : goal.returns-in_err-s
returns-in_err-s c =
    let l = c.loop-s in
    let p = err_from_is_err_and c.from_residual.result c.from_residual.ensures.1 in
    rw (p.1, p.2)
    (turning-refused c.args.room c.args.t.0 c.args.start c.args.nodes.now c.args.edges.now c.args.frames.now l.s l.nodes l.edges l.frames l.invariant c.turn.result c.turn.new.nodes c.turn.new.edges c.turn.new.frames c.turn.ensures _ c.in_err-s.was)

pub returns : goal.returns
returns c =
    let l = c.loop-s in
    turning-end c.args.room c.args.t.0 c.args.start c.args.nodes.now c.args.edges.now c.args.frames.now l.s l.nodes l.edges l.frames l.invariant (omega (arith, c.loop-s-test.false))
