use Rattle.std.proofs.Common.{◌≡◌, length, arith, sym}
use Rattle.rules.proofs.Items.{source-slot-first, source-con-first, source-others}
use Rattle.rules.proofs.Theorems.Words.{good-rule}
use Rattle.rules.proofs.conversion_of.Goals as goal

pub returns-in_default : goal.returns-in_default
returns-in_default c =
    sym (source-others _ (good-rule 0 c.args.s.now c.requires).items λ e. omega (arith, c.in_default.len_below, c.body_of.ensures, rw (← c.body_of.ensures) at e))

pub returns-in_default-2 : goal.returns-in_default-2
returns-in_default-2 c =
    sym (source-others _ (good-rule 0 c.args.s.now c.requires).items λ e. omega (arith, c.in_default.len_at_least, rw (← c.body_of.ensures) at e))

pub returns-then-kind-eq1 : goal.returns-then-kind-eq1
returns-then-kind-eq1 c =
    let three : length c.body_of.result.now ≡ 3 = omega (arith, c.in-len3.len_at_least, c.in-len3.len_below) in
    rw c.body_of.ensures (sym (source-slot-first _ (rw c.body_of.ensures at three) (rw c.body_of.ensures at c.if-kind-eq1.true)))

pub returns-else-kind-eq1 : goal.returns-else-kind-eq1
returns-else-kind-eq1 c = sym (source-con-first _ (good-rule 0 c.args.s.now c.requires).items (rw c.body_of.ensures at c.if-kind-eq1.false))
