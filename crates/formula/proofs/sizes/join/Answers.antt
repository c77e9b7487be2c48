use native.Mathlib.Omega.{arith}
use Rattle.formula.proofs.Reducing.{top-sum, middle-sum, joins}
use Rattle.formula.proofs.sizes.join.Goals as goal

pub total-requires : goal.total-requires
total-requires c =
    omega (arith, top-sum _ _ _ _ _ c.requires.0 c.requires.1, c.requires.0.words, c.requires.0.fits)

pub overflow_sub-place : goal.overflow_sub-place
overflow_sub-place c =
    omega (arith, top-sum _ _ _ _ _ c.requires.0 c.requires.1, c.total.ensures)

pub total-size-requires : goal.total-size-requires
total-size-requires c =
    omega (arith, top-sum _ _ _ _ _ c.requires.0 c.requires.1, middle-sum _ _ _ _ _ c.requires.0 c.requires.1, c.requires.0.words, c.requires.0.fits)

pub overflow_add-size : goal.overflow_add-size
overflow_add-size c =
    omega (arith, top-sum _ _ _ _ _ c.requires.0 c.requires.1, middle-sum _ _ _ _ _ c.requires.0 c.requires.1, c.requires.0.words, c.requires.0.fits, c.total-size.ensures)

pub returns : goal.returns
returns c =
    rw c.total.ensures
    (joins _ _ _ _ _ c.requires.0 c.requires.1 c.replace.new.work (rw c.total-size.ensures at c.replace.ensures))
