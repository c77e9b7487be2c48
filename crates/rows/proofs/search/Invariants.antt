use Prim.Native.Nat.{ℕ, ◌≤◌, ◌<◌, ◌+◌, ◌/◌}
use mathlib.Core.Path.{◌≡◌}
use lib.ListN.{length}
use Rattle.rows.proofs.Index.{sym_at}
use Rattle.rows.proofs.search.Given as goal

-- of the rows searched, one that has the symbol is still among those from `row` on
abbrev pub invariant-loop-size : goal.invariant-loop-size
invariant-loop-size l = (0 < l.size) × (l.initial.row ≤ l.row) × (l.row + l.size ≤ l.initial.row + l.initial.size) × (l.initial.row + l.initial.size ≤ length l.edges / 16)
    × ((i : ℕ) → l.initial.row ≤ i → i < l.initial.row + l.initial.size → sym_at l.edges i ≡ l.key.symbol.0 → (l.row ≤ i) × (i < l.row + l.size))

abbrev pub decreases-loop-size : goal.decreases-loop-size
decreases-loop-size l = l.size
