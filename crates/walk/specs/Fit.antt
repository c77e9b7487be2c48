-- What a walk asks of its tables.
use Rattle.std.specs.Prelude.{ℕ, ◌≤◌, ◌≡◌, List, [], ◌∷◌, length}
use Rattle.std.specs.Coded.{×_prop, Unit-prop, le_prop}
use Rattle.std.proofs.Math.Option.{some}
use Rattle.std.proofs.Props.{props}
use Rattle.words.specs.Limits.{most_reduces}
use Rattle.rules.specs.Every.{All}
use Rattle.rows.specs.Rows.{Edge, edges_of, find}
use Rattle.rows.specs.Code.{Tabled}

-- where each edge has one proof of a fact, a list of them has one
pub kinds-prop : (es : List Edge) → IsProp (All (λ e. e.kind ≤ 1) es)
kinds-prop [] = Unit-prop
kinds-prop (e ∷ es) = ×_prop le_prop (kinds-prop es)

pub ruleset fit_props = (props, kinds-prop)

-- good rows with an index, and an edge that is found has at most five reduces
pub record Fit (es js : List ℕ) : Type 0 where
  pub rows : Tabled es js
  pub slim : (n k t : ℕ) (e : Edge) → find (edges_of es) n k t ≡ some e → length e.reduces ≤ most_reduces
