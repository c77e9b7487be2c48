use mathlib.Core.Path.{sym, ◌∙◌}
use Prim.Native.Nat.{◌+◌}
use borrow.Author.Rules.{rules}
use Rattle.rows.specs.Rows.{edge_of}
use Rattle.rows.specs.Code.{row_at}
use Rattle.rows.proofs.Theorems.Lookup.{row_at-length}
use Rattle.rows.proofs.Keys.{row-lower}
use Rattle.rows.proofs.Laws.{last_row, next_row}
use Rattle.rows.proofs.check.precedes.Goals as goal

pub returns-then-edges-row : goal.returns-then-edges-row
returns-then-edges-row c =
    sym (last_row c.args.edges.now c.args.row c.if-edges-row.true (edge_of (row_at c.args.edges.now c.args.row)))

pub returns : goal.returns
returns c =
    let ws = c.args.edges.now in
    let r = c.args.row in
    row-lower ws r c.key_of-next.result c.row_at.ensures c.key_of-own.ensures c.lt.ensures
    ∙ rw (c.key_of-next.ensures, c.row_at-2.ensures) (sym (next_row ws r (search rules) (edge_of (row_at ws r))))

pub key_of-next-requires : goal.key_of-next-requires
key_of-next-requires c =
    rw c.row_at-2.ensures (row_at-length c.args.edges.now (c.args.row + 1) (search rules))
