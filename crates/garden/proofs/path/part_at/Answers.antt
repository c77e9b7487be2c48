use Rattle.garden.proofs.Paths.{parts-start, prefix-ends, shadow-ends, parts-here, parts-stuck, parts_next, differ, alike}
use Rattle.garden.proofs.path.part_at.Goals as goal

pub loop-p-init : goal.loop-p-init
loop-p-init c = parts-start c.args.c c.args.edges.now c.args.prefix.now c.args.shadow.now c.requires.1 c.requires.2

pub returns-in_err-q : goal.returns-in_err-q
returns-in_err-q c =
    let l = c.loop-p in
    rw c.from_residual.ensures (tt, shadow-ends c.args.c c.args.edges.now c.args.prefix.now c.args.shadow.now l.node.0 l.ps.now l.qs.now l.invariant c.in_err-q.ensures)

pub returns-then-ne : goal.returns-then-ne
returns-then-ne c =
    let l = c.loop-p in
    ((l.invariant.node_in, l.invariant.good), parts-here c.args.c c.args.edges.now c.args.prefix.now c.args.shadow.now l.node.0 l.ps.now l.qs.now l.invariant c.in-Some.p c.in_ok-q.q c.in-Some.ps_after c.in_ok-q.qs_after c.in-Some.ensures c.in_ok-q.ensures (differ _ _ c.ne.ensures c.if-ne.true))

pub returns-in_err-node : goal.returns-in_err-node
returns-in_err-node c =
    let l = c.loop-p in
    let f = c.follow in
    rw c.from_residual-in_err-node.ensures (tt, parts-stuck c.args.c c.args.edges.now c.args.prefix.now c.args.shadow.now l.node.0 l.ps.now l.qs.now l.invariant c.in-Some.p c.in_ok-q.q c.in-Some.ps_after c.in_ok-q.qs_after c.in-Some.ensures c.in_ok-q.ensures (alike _ _ c.ne.ensures c.if-ne.false) f.result f.ensures.1 c.in_err-node.was)

pub loop-p-preserved : goal.loop-p-preserved
loop-p-preserved c =
    let l = c.loop-p in
    let f = c.follow in
    parts_next c.args.c c.args.edges.now c.args.prefix.now c.args.shadow.now l.node.0 l.ps.now l.qs.now l.invariant c.in-Some.p c.in_ok-q.q c.in-Some.ps_after c.in_ok-q.qs_after c.in-Some.ensures c.in_ok-q.ensures (alike _ _ c.ne.ensures c.if-ne.false) f.result f.ensures.1 c.in_ok-node.node c.in_ok-node.was f.ensures.0

pub returns : goal.returns
returns c =
    let l = c.loop-p in
    (tt, prefix-ends c.args.c c.args.edges.now c.args.prefix.now c.args.shadow.now l.node.0 l.ps.now l.qs.now l.invariant c.in_default.ensures)
