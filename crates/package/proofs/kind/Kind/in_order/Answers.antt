use Rattle.std.proofs.Common.{◌∙◌, sym}
use Rattle.package.proofs.Ranks.{first-order, next-order, out_of_order}
use Rattle.package.proofs.kind.Kind.in_order.Goals as goal

pub returns-in-None : goal.returns-in-None
returns-in-None c = rw c.in-None.is (c.eq.ensures ∙ first-order c.args.self)

pub returns-then-ne : goal.returns-then-ne
returns-then-ne c =
    rw c.in-Some.is (next-order c.in-Some.last c.args.self c.rank.result c.rank-then-ne.result (sym c.if-ne.true ∙ c.ne.ensures) c.rank.ensures c.rank-then-ne.ensures)

pub returns-else-ne : goal.returns-else-ne
returns-else-ne c = rw (c.in-Some.is, c.if-ne.false) (out_of_order c.in-Some.last c.args.self (sym c.if-ne.false ∙ c.ne.ensures))
