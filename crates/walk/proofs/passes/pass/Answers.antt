use Rattle.walk.proofs.Running.{pass-branch, pass-leaf}
use Rattle.walk.proofs.passes.pass.Goals as goal

pub returns-in-None : goal.returns-in-None
returns-in-None c =
    let a = c.args in
    pass-branch a.g.now.book.rules.now a.g.now.nodes.now a.g.now.edges.now a.tokens.now a.p a.frames.now a.list.now a.work.now
    c.leaf_rule.ensures c.in-None.is c.branch-g.ensures

pub returns-in-Some : goal.returns-in-Some
returns-in-Some c =
    let a = c.args in
    pass-leaf a.g.now.book.rules.now a.g.now.nodes.now a.g.now.edges.now a.tokens.now a.p a.frames.now a.list.now a.work.now
    c.leaf_rule.ensures c.in-Some.rule c.in-Some.is c.requires.1 c.leaf.ensures
