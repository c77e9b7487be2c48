use Rattle.std.proofs.Common.{◌∙◌, refl}
use Rattle.garden.proofs.Carried.{same-pairs}
use Rattle.garden.proofs.lists.same_reduces.Goals as goal

pub returns : goal.returns
returns c = c.eq.ensures ∙ same-pairs _ (λ a b. refl) c.as_slice.result.now c.as_slice-2.result.now ∙ rw (c.as_slice.ensures, c.as_slice-2.ensures)
