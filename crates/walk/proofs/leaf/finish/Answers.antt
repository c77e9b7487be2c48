use mathlib.Core.Bool.{not}
use mathlib.Core.Path.{ap}
use Rattle.walk.proofs.Parts.{finish-few, finish-fails, finish-ends}
use Rattle.walk.proofs.leaf.finish.Goals as goal

pub returns-then-p-ne1 : goal.returns-then-p-ne1
returns-then-p-ne1 c =
    let a = c.args in
    finish-few a.g.now.book.rules.now a.p.goal.0 a.tokens.now a.p.at.trees a.list.now a.work.now c.requires.1 c.if-p-ne1.true

pub returns-then-not-check : goal.returns-then-not-check
returns-then-not-check c =
    let a = c.args in
    finish-fails a.g.now.book.rules.now a.p.goal.0 a.tokens.now a.p.at.trees a.list.now a.work.now c.requires.1
    c.if-p-ne1.false c.check.ensures _ (ap not c.if-not-check.true)

pub returns : goal.returns
returns c =
    let a = c.args in
    finish-ends a.g.now.book.rules.now a.p.goal.0 a.tokens.now a.p.at.trees a.list.now a.work.now c.requires.1
    c.if-p-ne1.false c.check.ensures _ (ap not c.if-not-check.false)
