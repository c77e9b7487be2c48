use native.Mathlib.Nat.{sub-zero}
use mathlib.Core.Path.{refl}
use Rattle.tree.specs.Code.{room_of, grown_of}
use native.Mathlib.Omega.{arith}
use Rattle.std.proofs.lemmas.Result.{err_from_is_err_and}
use Rattle.tree.proofs.Converting.{going_more, going-refused, going_end, nodes-step, nodes-end}
use Rattle.tree.proofs.convert.convert_nodes.Goals as goal

pub loop-n-init : goal.loop-n-init
loop-n-init c =
    record { rowed = c.requires.0; nodes-kept = refl; kept = refl; same = rw sub-zero }

pub convert_at-requires : goal.convert_at-requires
convert_at-requires c =
    let l = c.loop-n in
    (l.invariant.rowed, omega (arith, l.invariant.nodes-kept, c.requires.1), omega (arith, l.invariant.nodes-kept, c.requires.2))

pub returns-in_err-c : goal.returns-in_err-c
returns-in_err-c c =
    let l = c.loop-n in
    let p = err_from_is_err_and c.from_residual.result c.from_residual.ensures.1 in
    rw (p.1, p.2)
    (going-refused c.args.room c.args.start c.args.edges.now l.c c.args.nodes.now l.edges _ _ l.invariant _ _ (nodes-step (room_of c.args.room) c.args.change.rule.0 c.args.change.result.0 c.args.change.source.0 c.args.start.nodes l.n (grown_of l.c c.args.nodes.now l.edges) c.loop-n-test.true) c.convert_at.result c.convert_at.new.edges c.convert_at.ensures _ c.in_err-c.was)

pub loop-n-preserved : goal.loop-n-preserved
loop-n-preserved c =
    let l = c.loop-n in
    going_more c.args.room c.args.start c.args.edges.now l.c c.args.nodes.now l.edges _ _ l.invariant _ _ (nodes-step (room_of c.args.room) c.args.change.rule.0 c.args.change.result.0 c.args.change.source.0 c.args.start.nodes l.n (grown_of l.c c.args.nodes.now l.edges) c.loop-n-test.true) c.convert_at.result c.convert_at.new.edges c.convert_at.ensures _ c.in_ok-c.was c.convert_at.auto.edges

pub returns : goal.returns
returns c =
    let l = c.loop-n in
    going_end c.args.room c.args.start c.args.edges.now l.c c.args.nodes.now l.edges _ _ l.invariant (nodes-end (room_of c.args.room) c.args.change.rule.0 c.args.change.result.0 c.args.change.source.0 c.args.start.nodes l.n
    (grown_of l.c c.args.nodes.now l.edges) c.loop-n-test.false)
