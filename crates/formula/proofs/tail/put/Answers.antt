use Prim.Native.Nat.{◌-◌}
use mathlib.Core.Path.{refl}
use native.Mathlib.Omega.{arith}
use lib.Seq.{length-take-le}
use Rattle.formula.proofs.Weaving.{put-in}
use Rattle.formula.proofs.tail.put.Goals as goal

pub returns : goal.returns
returns c =
    let i = c.rank-i.result in
    rw c.copy_within.ensures.after
    (put-in c.args.n i (record { place = c.args.place - i; rule = c.args.rule }) c.args.entries.now (omega (arith, c.rank-i.ensures.within, length-take-le c.args.n c.args.entries.now (omega arith)))
    (omega arith) c.args.place c.rank-i.ensures.counted refl)
