use lib.ListN.{get_or}
use Rattle.walk.proofs.Parts.{branch-ended, branch-open, branch-taken, slim-row}
use Rattle.walk.proofs.branch.branch.Goals as goal

pub returns-then-tokens-i : goal.returns-then-tokens-i
returns-then-tokens-i c =
    let a = c.args in
    branch-ended a.g.now.book.rules.now a.g.now.edges.now a.tokens.now a.p.room a.p.at a.frames.now a.list.now a.work.now c.if-tokens-i.true

pub returns-in_default : goal.returns-in_default
returns-in_default c =
    let a = c.args in
    branch-open a.g.now.book.rules.now a.g.now.edges.now a.tokens.now a.p.room a.p.at a.frames.now a.list.now a.work.now
    c.requires.1.placed c.requires.0.inside c.if-tokens-i.false c.constant_row.ensures c.in_default.is c.open_frame.ensures

pub follow-requires : goal.follow-requires
follow-requires c =
    let a = c.args in
    let f = slim-row a.g.now.fit a.p.at.node.0 0 (get_or a.tokens.now a.p.at.token 0) c.constant_row.ensures c.in-Some.row c.in-Some.is in
    (f.0, f.1, c.requires.0.inside)

pub returns : goal.returns
returns c =
    let a = c.args in
    branch-taken a.g.now.book.rules.now a.g.now.edges.now a.tokens.now a.p.room a.p.at a.frames.now a.list.now a.work.now
    c.requires.1.placed c.requires.0.inside c.if-tokens-i.false c.constant_row.ensures c.in-Some.row c.in-Some.is c.follow.ensures
