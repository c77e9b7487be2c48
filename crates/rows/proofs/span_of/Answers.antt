use mathlib.Core.Path.{◌≡◌}
use native.Mathlib.Omega.{arith}
use Rattle.rows.proofs.Index.{constants-by, variables-by}
use Rattle.rows.proofs.span_of.Goals as goal

pub returns-then-kind-eq0 : goal.returns-then-kind-eq0
returns-then-kind-eq0 c =
    rw (c.constants_of-constants.ensures.0, c.constants_of-constants.ensures.1, c.if-kind-eq0.true)
    (constants-by c.args.edges.now c.args.firsts.now c.requires.0 c.args.from c.requires.1)

pub returns : goal.returns
returns c =
    let k : c.args.kind ≡ 1 = omega (arith, c.if-kind-eq0.false, c.requires.2) in
    rw (c.constants_of-after.ensures.0, c.constants_of-constants.ensures.1, k)
    (variables-by c.args.edges.now c.args.firsts.now c.requires.0 c.args.from c.requires.1)
