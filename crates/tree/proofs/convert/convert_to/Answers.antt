use native.Mathlib.Omega.{arith}
use Rattle.tree.proofs.Converting.{differ, new-edge, other-to, bad-copy, copied}
use Rattle.tree.proofs.convert.convert_to.Goals as goal

pub add_converted-requires : goal.add_converted-requires
add_converted-requires c = (c.requires.0, c.requires.2, rw c.requires.3 c.in_default.ensures)

pub returns-in_default : goal.returns-in_default
returns-in_default c =
    let w = c.with_reduce-reduces in
    new-edge c.args.room c.args.c c.args.nodes.now c.args.edges.now c.requires.0 c.args.change.rule.0 c.args.change.source.0 c.args.n.0 c.args.e c.requires.2 w.result c.add_converted.result c.add_converted.new.edges w.ensures c.in_default.ensures (c.add_converted.ensures c.args.nodes.now)

pub apart-requires : goal.apart-requires
apart-requires c =
    let d = c.end_of-to in
    (omega (arith, c.requires.1, c.requires.2), omega (arith, c.requires.1, other-to c.args.room c.args.c c.args.nodes.now c.args.edges.now c.requires.0 c.args.change.rule.0 c.args.change.source.0 c.args.n.0 c.args.e c.requires.2 c.in-Some.row c.in-Some.ensures d.result d.ensures))

pub returns-then-not-apart : goal.returns-then-not-apart
returns-then-not-apart c =
    let d = c.end_of-to in
    bad-copy c.args.room c.args.c c.args.nodes.now c.args.edges.now c.requires.0 c.args.change.rule.0 c.args.change.source.0 c.args.n.0 c.args.e c.requires.2 c.in-Some.row c.in-Some.ensures d.result d.ensures c.apart.result c.apart.ensures c.if-not-apart.true

pub copy_branches-requires : goal.copy_branches-requires
copy_branches-requires c =
    let d = c.end_of-to in
    let a = c.apart in
    (c.requires.0, differ c.args.room c.args.c c.args.nodes.now c.args.edges.now c.requires.0 c.args.change.rule.0 c.args.change.source.0 c.args.n.0 c.args.e c.requires.2 c.in-Some.row c.in-Some.ensures d.result d.ensures a.result a.ensures c.if-not-apart.false, omega (arith, c.requires.2, c.requires.4))

pub returns : goal.returns
returns c =
    let d = c.end_of-to in
    copied c.args.room c.args.c c.args.nodes.now c.args.edges.now c.requires.0 c.args.change.rule.0 c.args.change.source.0 c.args.n.0 c.args.e c.requires.2 c.in-Some.row c.in-Some.ensures d.result d.ensures c.apart.result c.apart.ensures c.if-not-apart.false
    c.copy_branches.result c.copy_branches.new.edges (c.copy_branches.ensures c.args.nodes.now)
