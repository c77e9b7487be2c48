use mathlib.Core.Path.{refl, ◌∙◌}
use native.Mathlib.Omega.{arith}
use borrow.Author.Rules.{rules}
use Rattle.formula.specs.Code.{still_of, Turned}
use Rattle.std.specs.declared.ops.ControlFlow.TheVariants.{Continue}
use Rattle.formula.proofs.Checking.{turned_on, turned-ended}
use Rattle.formula.proofs.run.Goals as goal

pub loop-q-init : goal.loop-q-init
loop-q-init c = (refl, c.requires.0, c.requires.1, refl)

pub loop-q-smaller : goal.loop-q-smaller
loop-q-smaller c =
    let on : (let l = c.loop-q in Turned c.args.book.now.rules.now c.args.tokens.now c.args.list.now l.s (still_of c.args.book.now.rules.now c.args.tokens.now c.args.list.now l.s l.work) (Continue c.in-Continue.q) c.take_turn.new.work) = turned_on _ _ _ _ _ _ _ c.take_turn.ensures _ c.in-Continue.is in
    on.lower.1

pub loop-q-preserved : goal.loop-q-preserved
loop-q-preserved c =
    let on : (let l = c.loop-q in Turned c.args.book.now.rules.now c.args.tokens.now c.args.list.now l.s (still_of c.args.book.now.rules.now c.args.tokens.now c.args.list.now l.s l.work) (Continue c.in-Continue.q) c.take_turn.new.work) = turned_on _ _ _ _ _ _ _ c.take_turn.ensures _ c.in-Continue.is in
    let l = c.loop-q in
    (search rules, on.lower.0, omega (arith, on.lower.2, l.invariant.2), on.answer ∙ l.invariant.3)

pub returns-in-Break : goal.returns-in-Break
returns-in-Break c = turned-ended _ _ _ _ _ _ _ c.take_turn.ensures _ c.in-Break.is ∙ c.loop-q.invariant.3
