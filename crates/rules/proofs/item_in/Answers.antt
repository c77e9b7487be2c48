use Prim.Native.Nat.{◌+◌, ◌*◌, ◌<◌}
use native.Mathlib.Omega.{arith}
use lib.ListN.{length}
use Rattle.rules.specs.Rules.{item_width}
use Rattle.rules.proofs.Theorems.Words.{item-within, item-con, item-slot}
use Rattle.rules.proofs.item_in.Goals as goal

pub overflow_mul-at : goal.overflow_mul-at
overflow_mul-at c =
    let inside : item_width * c.args.k + 2 < length c.args.body.now = item-within c.args.body.now c.args.k c.requires in
    omega (arith, inside)

pub overflow_add-symbol : goal.overflow_add-symbol
overflow_add-symbol c =
    let inside : item_width * c.args.k + 2 < length c.args.body.now = item-within c.args.body.now c.args.k c.requires in
    omega (arith, inside)

pub offset_bounds-body-at : goal.offset_bounds-body-at
offset_bounds-body-at c =
    let inside : item_width * c.args.k + 2 < length c.args.body.now = item-within c.args.body.now c.args.k c.requires in
    omega (arith, inside)

pub bounds-body-at : goal.bounds-body-at
bounds-body-at c =
    let inside : item_width * c.args.k + 2 < length c.args.body.now = item-within c.args.body.now c.args.k c.requires in
    omega (arith, inside)

pub offset_bounds-body-at-2 : goal.offset_bounds-body-at-2
offset_bounds-body-at-2 c =
    let inside : item_width * c.args.k + 2 < length c.args.body.now = item-within c.args.body.now c.args.k c.requires in
    omega (arith, inside)

pub bounds-body-at-2 : goal.bounds-body-at-2
bounds-body-at-2 c =
    let inside : item_width * c.args.k + 2 < length c.args.body.now = item-within c.args.body.now c.args.k c.requires in
    omega (arith, inside)

pub returns-then-body-at-eq0 : goal.returns-then-body-at-eq0
returns-then-body-at-eq0 c =
    item-con c.args.body.now c.args.k c.requires c.if-body-at-eq0.true

pub returns-else-body-at-eq0 : goal.returns-else-body-at-eq0
returns-else-body-at-eq0 c =
    item-slot c.args.body.now c.args.k c.requires c.if-body-at-eq0.false
