use native.Mathlib.Omega.{arith}
use Rattle.words.proofs.Laws.{moved-done}
use Rattle.words.proofs.insert.Goals as goal

pub returns : goal.returns
returns c =
    rw c.move_up.ensures (moved-done c.args.s.now c.args.p c.args.n c.args.x (omega (arith, c.requires)))
