use mathlib.Core.Path.{subst}
use native.Mathlib.Omega.{arith}
use borrow.Author.Rules.{rules}
use Rattle.rules.specs.Code.{Starts, Found}
use Rattle.formula.proofs.Reducing.{measures-none, measures-few, measures-full, measures-fits}
use Rattle.formula.proofs.sizes.measure.Goals as goal

pub returns-in_default : goal.returns-in_default
returns-in_default c =
    measures-none _ _ _ _ _ c.args.work.now _
    (subst (λ r. Found c.args.book.now.rules.now c.args.rule.0 r) c.in_default.is c.find_rule.ensures)

pub slots_at-k-requires : goal.slots_at-k-requires
slots_at-k-requires c =
    let starts : Starts c.args.book.now.rules.now c.args.rule.0 c.in-Some.i = subst (λ r. Found c.args.book.now.rules.now c.args.rule.0 r) c.in-Some.is c.find_rule.ensures in
    (c.args.book.now.ruled, starts)

pub returns-then-count-needed : goal.returns-then-count-needed
returns-then-count-needed c =
    let starts : Starts c.args.book.now.rules.now c.args.rule.0 c.in-Some.i = subst (λ r. Found c.args.book.now.rules.now c.args.rule.0 r) c.in-Some.is c.find_rule.ensures in
    measures-few _ _ _ _ _ _ _ c.requires _ _ starts c.slots_at-k.ensures (omega arith)

pub returns-then-room-grown : goal.returns-then-room-grown
returns-then-room-grown c =
    let starts : Starts c.args.book.now.rules.now c.args.rule.0 c.in-Some.i = subst (λ r. Found c.args.book.now.rules.now c.args.rule.0 r) c.in-Some.is c.find_rule.ensures in
    measures-full _ _ _ _ _ _ _ c.requires _ _ starts c.slots_at-k.ensures (omega arith) (omega arith)

pub returns : goal.returns
returns c =
    let starts : Starts c.args.book.now.rules.now c.args.rule.0 c.in-Some.i = subst (λ r. Found c.args.book.now.rules.now c.args.rule.0 r) c.in-Some.is c.find_rule.ensures in
    measures-fits _ _ _ _ _ _ _ c.requires _ _ starts c.slots_at-k.ensures _ (omega arith) (omega arith) c.join-place.ensures (search rules)
