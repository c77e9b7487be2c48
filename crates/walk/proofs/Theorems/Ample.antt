-- Tables that pass the table check, and list room past what a walk over them can fill.
use Rattle.std.specs.Prelude.{◌≡◌, true, List, ◌∷◌, ℕ, ◌+◌, ◌*◌, ◌≤◌, length}
use Rattle.std.proofs.Common.{arith}
use Rattle.rules.specs.Rules.{Rule}
use Rattle.rows.specs.Rows.{edges_of, tables_good}
use Rattle.rows.proofs.Theorems.Fair.{tables-fair, root-level, edge-fair}
use Rattle.walk.specs.Walk.{tables_of, Room, walk}
use Rattle.walk.proofs.Theorems.View.{Fair, Slim}
use Rattle.walk.proofs.Theorems.Mono.{walk_same}
use Rattle.walk.proofs.Theorems.Length.{walk-list}

module _ (R : List Rule) (ns es : List ℕ) (g : tables_good (length R) ns es ≡ true) where
  pub tables-ok : Fair (tables_of R ns (edges_of es))
  unfolding tables_of
  tables-ok = let f = tables-fair (length R) ns es g in record { root = f.root; level = root-level f }

  pub tables-slim : Slim (tables_of R ns (edges_of es))
  unfolding tables_of
  tables-slim n k t e h = (edge-fair (tables-fair (length R) ns es g) n k t e h).few

  -- such room may as well be less
  pub walk-ample : (provable logic a : ℕ) (m : Room) (t : ℕ) (xs : List ℕ) (room : ℕ) → 18 * length xs ≤ 7 + room → room ≤ m.list →
      let T = tables_of R ns (edges_of es) in
      walk T provable logic a m (t ∷ xs) ≡ walk T provable logic a (record { frames = m.frames; list = room }) (t ∷ xs)
  walk-ample provable logic a m t xs room h l =
      let T = tables_of R ns (edges_of es) in
      let less : Room = record { frames = m.frames; list = room } in
      walk_same T provable logic a a less m (t ∷ xs) (record { frames = omega arith; list = l }) (omega arith)
      (record { passes = λ b. absurd (omega arith); frames = λ b. absurd (omega arith); list = λ b. walk-list T tables-ok tables-slim provable logic a less t xs h })
