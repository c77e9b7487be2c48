use native.Mathlib.Omega.{arith}
use Rattle.formula.proofs.Reducing.{replaced}
use Rattle.formula.proofs.sizes.replace.Goals as goal

pub returns : goal.returns
returns c =
    rw c.copy_within.ensures.after (replaced c.args.work.now c.args.count c.args.at c.args.k c.args.size (omega arith) (omega arith))
