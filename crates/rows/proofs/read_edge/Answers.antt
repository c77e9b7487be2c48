use mathlib.Core.Path.{refl}
use native.Mathlib.Omega.{arith}
use lib.ListN.{get_or, drop}
use Rattle.rows.specs.Rows.{edge_of}
use Rattle.rows.proofs.Theorems.Fair.{reduces-length}
use Rattle.rows.proofs.Laws.{row_read}
use Rattle.rows.proofs.read_edge.Goals as goal

pub invariant_of-result : goal.invariant_of-result
unfolding edge_of
invariant_of-result c =
    let row = c.args.row.now in
    record { few = omega (arith, c.requires.1, reduces-length (get_or row 4 0) (drop 5 row)) }

pub returns : goal.returns
returns c =
    rw c.key_of.ensures (row_read c.args.row.now _ refl c.requires.1 (
      c.reduce_at.ensures,
      (c.reduce_at-2.ensures, (c.reduce_at-3.ensures, (c.reduce_at-4.ensures, (c.reduce_at-5.ensures, tt)))),
    ) _)
