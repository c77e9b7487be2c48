use mathlib.Core.Path.{refl}
use Rattle.rows.specs.Rows.{edge_of}
use Rattle.rows.proofs.key_of.Goals as goal

pub returns : goal.returns
unfolding edge_of
returns c = refl
