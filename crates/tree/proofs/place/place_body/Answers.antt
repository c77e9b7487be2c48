use mathlib.Core.Path.{◌≡◌}
use Prim.Native.Nat.{◌-◌}
use native.Mathlib.Omega.{arith}
use Rattle.std.proofs.lemmas.Result.{err_from_is_err_and}
use Rattle.rules.specs.Rules.{items_of}
use Rattle.rules.specs.Code.{item_is}
use Rattle.tree.proofs.Placing.{left-start, left-more, left-stuck, left-last}
use Rattle.tree.proofs.place.place_body.Goals as goal

pub overflow_sub-last : goal.overflow_sub-last
overflow_sub-last c = omega (arith, c.items_in-last.ensures, c.requires.1)

pub loop-k-init : goal.loop-k-init
loop-k-init c =
    left-start c.args.room c.args.rule.0 (items_of c.args.body.now) c.args.start c.args.nodes.now c.args.edges.now c.requires.0 c.requires.1

pub item_in-requires : goal.item_in-requires
item_in-requires c = c.loop-k.invariant.inside

pub returns-in_err-c : goal.returns-in_err-c
returns-in_err-c c =
    let l = c.loop-k in
    let it = c.item_in in
    let p = err_from_is_err_and c.from_residual.result c.from_residual.ensures.1 in
    rw (p.1, p.2)
    (left-stuck c.args.room c.args.rule.0 (items_of c.args.body.now) c.args.start c.args.nodes.now c.args.edges.now l.c l.nodes l.edges l.n.0 l.k l.invariant
    (item_is it.result) it.ensures
    c.place_inner.result c.place_inner.new.nodes c.place_inner.new.edges c.place_inner.ensures (omega (arith, c.loop-k-test.true, c.items_in-last.ensures))
    _ c.in_err-c.was)

pub loop-k-preserved : goal.loop-k-preserved
loop-k-preserved c =
    let l = c.loop-k in
    let it = c.item_in in
    left-more c.args.room c.args.rule.0 (items_of c.args.body.now) c.args.start c.args.nodes.now c.args.edges.now l.c l.nodes l.edges l.n.0 l.k l.invariant
    (item_is it.result) it.ensures
    c.place_inner.result c.place_inner.new.nodes c.place_inner.new.edges c.place_inner.ensures (omega (arith, c.loop-k-test.true, c.items_in-last.ensures))
    _ _ c.in_ok-c.was c.place_inner.auto.nodes c.place_inner.auto.edges

pub item_in-requires-2 : goal.item_in-requires-2
item_in-requires-2 c = omega (arith, c.items_in-last.ensures, c.requires.1)

pub returns : goal.returns
returns c =
    let l = c.loop-k in
    let it = c.item_in-2 in
    let end : l.k ≡ c.items_in-last.result - 1 = omega (arith, c.loop-k-test.false) in
    left-last c.args.room c.args.rule.0 (items_of c.args.body.now) c.args.start c.args.nodes.now c.args.edges.now l.c l.nodes l.edges l.n.0 l.k l.invariant
    (item_is it.result) (rw end it.ensures)
    c.place_last.result c.place_last.new.nodes c.place_last.new.edges (omega (arith, c.loop-k-test.false, c.items_in-last.ensures)) c.place_last.ensures
