-- One row for each key: good tables have at most one, and the look-up gives its number, wherever it stands.
use Rattle.std.specs.Prelude.{◌≡◌, true, List, [], ℕ, ◌/◌, ◌<◌, length, get_or}
use Rattle.std.proofs.Common.{◌∙◌, ap, zero-add, arith}
use Rattle.std.proofs.Math.Option.{some}
use Rattle.words.specs.Limits.{row_width}
use Rattle.rows.specs.Rows.{Edge, edge_of, edges_of, keyed, find, tables_good}
use Rattle.rows.specs.Code.{row_at, looks_up}
use Rattle.std.specs.Prelude.{Some}
use Rattle.rows.proofs.Theorems.Order.{one-row, only_row, only-number}
use Rattle.rows.proofs.Theorems.Fair.{tables-fair}
use Rattle.rows.proofs.Theorems.Lookup.{edges-count, edge_at}

-- row i is there and has the key
pub record Keyed (ws : List ℕ) (n k s i : ℕ) : Type 0 where
  pub within : i < length ws / row_width
  pub key : keyed n k s (edge_of (row_at ws i)) ≡ true

module _ (rules : ℕ) (ns ws : List ℕ) (good : tables_good rules ns ws ≡ true) (n k s : ℕ) where
  blank : Edge
  blank = edge_of []

  listed : (i : ℕ) → Keyed ws n k s i → (i < length (edges_of ws)) × (keyed n k s (get_or (edges_of ws) i blank) ≡ true)
  listed i h = (omega (arith, edges-count ws, h.within), rw (edge_at ws i blank h.within) h.key)

  -- two rows with one key are one row
  pub key-once : (i j : ℕ) → Keyed ws n k s i → Keyed ws n k s j → i ≡ j
  key-once i j h l =
      let a = listed i h in
      let b = listed j l in
      one-row (edges_of ws) (tables-fair rules ns ws good).order n k s blank i j a.0 b.0 a.1 b.1

  -- the look-up gives that row's number, and its edge is the one that is found
  pub found-wherever : (i : ℕ) → Keyed ws n k s i → (looks_up ws n k s ≡ Some i) × (find (edges_of ws) n k s ≡ some (edge_of (row_at ws i)))
  found-wherever i h =
      let a = listed i h in
      let o = (tables-fair rules ns ws good).order in (
        rw zero-add at (only-number (edges_of ws) o n k s i 0 blank a.0 a.1),
        only_row (edges_of ws) o n k s i blank a.0 a.1 ∙ ap some (edge_at ws i blank h.within),
      )
