use mathlib.Core.Path.{sym}
use borrow.Author.Tests.{le-ltb}
use Rattle.rows.proofs.Keys.{row-keyed}
use Rattle.rows.proofs.Laws.{look-here, look-past}
use Rattle.rows.proofs.look_up.Goals as goal
use Rattle.rows.proofs.look_up.Goals.{then-row-edges, else-row-edges}

pub returns : goal.returns
returns c =
    let ws = c.args.edges.now in
    let k = c.args.key in
    let p = c.place_of-row in
    rw c.then_some.ensures
    (elim c.if-row-edges.branch [
      | then-row-edges w ↦
          rw (w.found-is, row-keyed ws p.result k w.row_at.ensures w.key_of.ensures w.eq-found.ensures)
          (look-here k.from.0 k.kind k.symbol.0 ws p.result p.ensures w.if-row-edges.true c.requires)
      | else-row-edges w ↦
          rw (w.found-is, le-ltb _ _ w.if-row-edges.false) (sym (look-past k.from.0 k.kind k.symbol.0 ws p.result p.ensures c.requires w.if-row-edges.false))
    ])
