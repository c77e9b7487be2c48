use mathlib.Core.Path.{◌∙◌}
use Rattle.formula.proofs.Checking.{starts-on, starts-ended}
use Rattle.formula.proofs.check.Goals as goal

pub run-requires : goal.run-requires
run-requires c =
    let t = starts-on _ c.args.tokens.now _ _ _ c.args.work.now _ c.fill.ensures _ c.in-Continue.is in
    (t.0, t.1)

pub returns-in-Continue : goal.returns-in-Continue
returns-in-Continue c =
    let t = starts-on _ c.args.tokens.now _ _ _ c.args.work.now _ c.fill.ensures _ c.in-Continue.is in
    c.run.ensures ∙ t.2

pub returns-in-Break : goal.returns-in-Break
returns-in-Break c = starts-ended _ c.args.tokens.now _ _ _ c.args.work.now _ c.fill.ensures _ c.in-Break.is
