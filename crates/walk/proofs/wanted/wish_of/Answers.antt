use native.Mathlib.Omega.{arith}
use borrow.Author.Tests.{false-ltb}
use Rattle.walk.proofs.Laws.{wish-none, wish-top}
use Rattle.walk.proofs.wanted.wish_of.Goals as goal

pub returns-in-Some : goal.returns-in-Some
returns-in-Some c =
    let i = c.in-Some.ensures.item in
    wish-top c.args.goal.0 c.args.frames.now c.in-Some.top.now (λ e. omega (arith, i.3.0, e)) (i.3.1 0)

pub returns-in-None : goal.returns-in-None
returns-in-None c = wish-none c.args.goal c.args.frames.now (omega (arith, false-ltb _ _ c.in-None.ensures.item.0))
