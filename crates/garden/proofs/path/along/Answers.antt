use Rattle.std.proofs.lemmas.Result.{err_from_is_err_and}
use Rattle.garden.proofs.Paths.{walks-start, walks-end, walks-stopped, walks-on}
use Rattle.garden.proofs.path.along.Goals as goal

pub loop-pair-init : goal.loop-pair-init
loop-pair-init c =
    walks-start c.args.c c.args.edges.now c.args.rest.now c.args.n c.none.result c.none.ensures c.requires.1 c.requires.2

pub returns-in_err-s : goal.returns-in_err-s
returns-in_err-s c =
    let l = c.loop-pair in
    let a = c.along_pair in
    let p = err_from_is_err_and c.from_residual.result c.from_residual.ensures.1 in
    rw (p.1, p.2)
    (walks-stopped c.args.c c.args.edges.now c.args.rest.now c.args.n c.none.result c.none.ensures l.s l.left.now l.invariant c.in-Some.pair c.in-Some.after c.in-Some.ensures a.result a.ensures _ c.in_err-s.was)

pub loop-pair-preserved : goal.loop-pair-preserved
loop-pair-preserved c =
    let l = c.loop-pair in
    let a = c.along_pair in
    walks-on c.args.c c.args.edges.now c.args.rest.now c.args.n c.none.result c.none.ensures l.s l.left.now l.invariant c.in-Some.pair c.in-Some.after c.in-Some.ensures a.result a.ensures c.in_ok-s.s c.in_ok-s.was

pub returns : goal.returns
returns c =
    let l = c.loop-pair in
    walks-end c.args.c c.args.edges.now c.args.rest.now c.args.n c.none.result c.none.ensures l.s l.left.now l.invariant c.in_default.ensures
