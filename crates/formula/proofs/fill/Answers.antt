use mathlib.Core.Path.{sym, ◌∙◌}
use native.Mathlib.Omega.{arith}
use borrow.Author.Tests.{eqb-true, eqb-false}
use Rattle.words.proofs.Theorems.Parts.{part-all}
use Rattle.std.proofs.lemmas.Bool.{not-true, not-false}
use Rattle.formula.proofs.Checking.{fills-short, fills-none, fills-wrong, fills-on}
use Rattle.formula.proofs.fill.Goals as goal

pub returns-then-entry-eq0 : goal.returns-then-entry-eq0
returns-then-entry-eq0 c = fills-short _ _ _ _ _ c.requires c.if-entry-eq0.true

pub returns-in_default : goal.returns-in_default
returns-in_default c = fills-none _ _ _ _ _ c.requires (omega arith) c.in_default.ensures

pub returns-then-ne : goal.returns-then-ne
returns-then-ne c =
    let result-is = rw (part-all c.args.book.now.rules.now c.in-Some.i) at c.result_of.ensures in
    let z = eqb-false _ _ (not-true _ (sym c.ne.ensures ∙ c.if-ne.true)) in
    fills-wrong _ _ _ _ _ c.requires (omega arith) _ c.in-Some.ensures λ e. z (result-is ∙ e)

pub returns : goal.returns
returns c =
    let result-is = rw (part-all c.args.book.now.rules.now c.in-Some.i) at c.result_of.ensures in
    let q = eqb-true _ _ (not-false _ (sym c.ne.ensures ∙ c.if-ne.false)) in
    fills-on _ _ _ _ _ c.requires (omega arith) _ c.in-Some.ensures (sym result-is ∙ q) c.whole_body.result c.whole_body.ensures
