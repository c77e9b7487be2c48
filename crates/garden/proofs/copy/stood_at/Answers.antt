use Prim.Native.Nat.{◌+◌, ◌*◌}
use native.Mathlib.Omega.{arith}
use Rattle.garden.proofs.Copying.{age-word}
use Rattle.garden.proofs.copy.stood_at.Goals as goal

pub overflow_cast-result : goal.overflow_cast-result
overflow_cast-result c =
    record { fits = omega (arith, c.type_inv.edges (16 * c.args.row + 15)) }

pub returns : goal.returns
returns c =
    rw (age-word c.args.edges.now c.args.row)
