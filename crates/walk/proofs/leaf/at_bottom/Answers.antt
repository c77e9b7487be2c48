use mathlib.Core.Path.{sym, ◌∙◌}
use Rattle.std.proofs.lemmas.Bool.{not-true, not-false}
use Rattle.walk.proofs.Parts.{bottom-other, bottom-token, bottom-ends}
use Rattle.walk.proofs.leaf.at_bottom.Goals as goal

pub returns-then-ne : goal.returns-then-ne
returns-then-ne c =
    let a = c.args in
    bottom-other a.g.now.book.rules.now a.g.now.edges.now a.tokens.now a.p a.list.now a.work.now a.t.0
    c.requires.1 (not-true _ (sym c.ne.ensures ∙ c.if-ne.true)) c.unwanted-closed.ensures

pub returns-then-tokens-p : goal.returns-then-tokens-p
returns-then-tokens-p c =
    let a = c.args in
    bottom-ends a.g.now.book.rules.now a.g.now.edges.now a.tokens.now a.p a.list.now a.work.now a.t.0
    c.requires.1 (not-false _ (sym c.ne.ensures ∙ c.if-ne.false)) c.if-tokens-p.true c.finish.ensures

pub returns : goal.returns
returns c =
    let a = c.args in
    bottom-token a.g.now.book.rules.now a.g.now.edges.now a.tokens.now a.p a.list.now a.work.now a.t.0
    c.requires.1 (not-false _ (sym c.ne.ensures ∙ c.if-ne.false)) c.if-tokens-p.false c.root_step-stepped.ensures
