use Rattle.walk.proofs.Parts.{unwanted-token, unwanted-none, unwanted-by}
use Rattle.walk.proofs.leaf.unwanted.Goals as goal

pub returns-then-p-tokens : goal.returns-then-p-tokens
returns-then-p-tokens c =
    let a = c.args in
    unwanted-token a.g.now.book.rules.now a.g.now.edges.now a.tokens.now a.p a.list.now a.work.now a.t.0
    c.if-p-tokens.true c.root_step-stepped.ensures

pub returns-in-None : goal.returns-in-None
returns-in-None c =
    let a = c.args in
    unwanted-none a.g.now.book.rules.now a.g.now.edges.now a.tokens.now a.p a.list.now a.work.now a.t.0
    c.if-p-tokens.false c.conversion.ensures c.in-None.is c.root_step-stepped-in-None.ensures

pub returns-in-Some : goal.returns-in-Some
returns-in-Some c =
    let a = c.args in
    unwanted-by a.g.now.book.rules.now a.g.now.edges.now a.tokens.now a.p a.list.now a.work.now a.t.0
    c.if-p-tokens.false c.conversion.ensures c.in-Some.k c.in-Some.is c.convert.ensures
