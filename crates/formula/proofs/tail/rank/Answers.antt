use lib.ListN.{length-map}
use Prim.Native.Nat.{◌+◌}
use native.Mathlib.Omega.{arith}
use native.Mathlib.Numerals.{add-one}
use native.Mathlib.Nat.{sub-zero}
use Rattle.formula.specs.TailCode.{entry_is, entries_of}
use Rattle.formula.proofs.Weaving.{entry_at, rank-le, rank-here, rank-next, rank-end}
use Rattle.formula.proofs.tail.rank.Goals as goal

pub loop-i-init : goal.loop-i-init
loop-i-init c = rw (sub-zero c.args.place) (omega arith)

pub returns-then-place-e-clause-counted : goal.returns-then-place-e-clause-counted
returns-then-place-e-clause-counted c =
    let i = c.loop-i.i in
    let d = entry_at c.args.entries.now i (i + 1) _ (add-one i) c.loop-i-test.true in
    omega (arith, c.loop-i.invariant, rank-here (entries_of c.args.entries.now) c.args.place i _ d c.if-place-e.true)

pub returns-then-place-e-clause-within : goal.returns-then-place-e-clause-within
returns-then-place-e-clause-within c =
    let i = c.loop-i.i in
    let es = entries_of c.args.entries.now in
    let d = entry_at c.args.entries.now i (i + 1) _ (add-one i) c.loop-i-test.true in
    omega (arith, c.loop-i.invariant, rank-here es c.args.place i _ d c.if-place-e.true, rank-le c.args.place es, c.loop-i-test.true)

pub loop-i-preserved : goal.loop-i-preserved
loop-i-preserved c =
    let i = c.loop-i.i in
    let d = entry_at c.args.entries.now i (i + 1) _ (add-one i) c.loop-i-test.true in
    omega (arith, c.loop-i.invariant, rank-next (entries_of c.args.entries.now) c.args.place i _ d c.if-place-e.false)

pub returns-clause-counted : goal.returns-clause-counted
returns-clause-counted c =
    let es = entries_of c.args.entries.now in
    omega (arith, c.loop-i.invariant, length-map c.args.entries.now entry_is, rank-end es c.args.place c.loop-i.i (omega (arith, length-map c.args.entries.now entry_is)))

pub returns-clause-within : goal.returns-clause-within
returns-clause-within c =
    let es = entries_of c.args.entries.now in
    let l = length-map c.args.entries.now entry_is in
    omega (arith, c.loop-i.invariant, l, rank-end es c.args.place c.loop-i.i (omega (arith, l)), rank-le c.args.place es)
