use Rattle.walk.proofs.Laws.{trying_start, trying-here, trying-next, trying-end}
use Rattle.walk.proofs.wanted.conversion.Goals as goal

pub loop-no-init : goal.loop-no-init
loop-no-init c =
    let a = c.args in
    rw (c.into_iter-no-iterator.ensures.into_iter_gives, c.each-no-items.ensures.0, c.each-no-items.ensures.1)
    (trying_start a.g.now.edges.now a.wish a.g.now.book.rules.now a.t.0 a.g.now.book.ruled.good)

pub each-no-items-requires : goal.each-no-items-requires
each-no-items-requires c = c.args.g.now.book.ruled.good

pub converts-requires : goal.converts-requires
converts-requires c = let s = c.in-Some.ensures.steps in rw s.3 s.1

pub result_of-requires : goal.result_of-requires
result_of-requires c = let s = c.in-Some.ensures.steps in rw s.3 s.1

pub returns-then-converts : goal.returns-then-converts
returns-then-converts c =
    let l = c.loop-no in
    let s = c.in-Some.ensures.steps in
    rw s.2
    (trying-here _ _ _ _ _ _ l.invariant s.0 (rw s.3 at c.converts.ensures) c.if-converts.true c.result_of.result (rw s.3 at c.result_of.ensures))

pub loop-no-preserved : goal.loop-no-preserved
loop-no-preserved c =
    let l = c.loop-no in
    let s = c.in-Some.ensures.steps in
    rw (s.4, s.5) (trying-next _ _ _ _ _ _ l.invariant s.0 (rw s.3 at c.converts.ensures) c.if-converts.false)

pub returns : goal.returns
returns c = trying-end _ _ _ _ _ _ c.loop-no.invariant c.in-None.ensures.steps
