use native.Mathlib.Omega.{arith}
use Rattle.rules.proofs.Theorems.Words.{good-rule}
use Rattle.rules.proofs.body_of.Goals as goal

pub size_of-size-requires : goal.size_of-size-requires
size_of-size-requires c = (good-rule 0 c.args.s.now c.requires).two

pub slice_bounds-result-end : goal.slice_bounds-result-end
slice_bounds-result-end c = omega (arith, (good-rule 0 c.args.s.now c.requires).fits)

pub returns : goal.returns
returns c = rw c.size_of-size.ensures
