use Rattle.std.proofs.lemmas.Result.{err_from_is_err_and}
use Rattle.walk.proofs.Parts.{follow-on, follow-refused}
use Rattle.walk.proofs.edge.follow_reducing.Goals as goal

pub returns-in_err-reduced : goal.returns-in_err-reduced
returns-in_err-reduced c =
    let p = err_from_is_err_and c.from_residual.result c.from_residual.ensures.1 in
    let a = c.args in
    rw (p.1, p.2) (follow-refused a.g.now.book.rules.now a.p.room c.read_row-e.ensures a.p.at a.list.now a.work.now _ c.in_err-reduced.ensures)

pub returns : goal.returns
returns c =
    let a = c.args in
    follow-on a.g.now.book.rules.now a.p.room c.read_row-e.ensures a.p.at a.list.now a.work.now _ c.in_ok-reduced.ensures
