use native.Mathlib.Omega.{arith}
use Rattle.rules.proofs.Theorems.Words.{good-rule}
use Rattle.rules.proofs.result_of.Goals as goal

pub bounds-s-0 : goal.bounds-s-0
bounds-s-0 c = omega (arith, (good-rule 0 c.args.s.now c.requires).two)
