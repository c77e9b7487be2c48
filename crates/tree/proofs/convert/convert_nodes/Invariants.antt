use Rattle.tree.specs.declared.convert.Change.{Change}
use Rattle.tree.specs.declared.Room as lent
use Rattle.tree.specs.declared.Counts.{Counts}
use Rattle.words.specs.Numbers.{Fault}
use Rattle.words.specs.Outcome.{Res}
use Rattle.tree.specs.Grow.{Grown, convert_nodes}
use Rattle.tree.specs.Code.{room_of, grown_of}
use Prim.Native.Nat.{ℕ, ◌-◌}
use mathlib.Core.List.{List}
use Rattle.tree.proofs.Converting.{Going}
use Rattle.tree.proofs.convert.convert_nodes.Given as goal

-- k nodes from node n on
abbrev pub todo : lent.Room → Change → ℕ → ℕ → Counts → List ℕ → List ℕ → Res Fault Grown
todo z h k n c ns es = convert_nodes (room_of z) h.rule.0 h.result.0 h.source.0 k n (grown_of c ns es)

abbrev pub invariant-loop-n : goal.invariant-loop-n
invariant-loop-n l = Going l.room l.initial.c l.initial.edges l.c l.edges (todo l.room l.change (l.n-end - l.n) l.n l.c l.nodes l.edges) (todo l.room l.change l.n-end 0 l.initial.c l.nodes l.initial.edges)
