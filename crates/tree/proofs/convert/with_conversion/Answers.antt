use Rattle.tree.proofs.Converting.{offset-constant, offset-variable}
use Rattle.tree.proofs.convert.with_conversion.Goals as goal

pub returns-then-kind-eq0 : goal.returns-then-kind-eq0
returns-then-kind-eq0 c =
    rw (offset-constant c.args.e.key.kind c.if-kind-eq0.true) c.with_reduce.ensures

pub returns : goal.returns
returns c =
    rw (offset-variable c.args.e.key.kind c.if-kind-eq0.false) c.with_offset_reduce.ensures
