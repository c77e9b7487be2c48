use native.Mathlib.Omega.{arith}
use Rattle.rows.proofs.Index.{leaves_by}
use Rattle.rows.proofs.leaves.Goals as goal

pub returns : goal.returns
returns c =
    rw (c.constants_of-2.ensures.0, c.constants_of.ensures.0)
    (leaves_by c.args.edges.now c.args.firsts.now c.requires c.args.from.0 (omega (arith, c.if-firsts-node.false)))
