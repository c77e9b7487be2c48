use Prim.Native.Nat.{◌≤◌}
use mathlib.Core.Path.{◌≡◌}
use lib.ListN.{length}
use Rattle.formula.specs.Code.{Stacked, still_of, weight}
use Rattle.formula.proofs.run.Given as goal

abbrev pub invariant-loop-q : goal.invariant-loop-q
invariant-loop-q l = (length l.work ≡ length l.initial.work) × Stacked l.book.rules.now l.list l.s l.work × (l.s.token ≤ length l.tokens)
    × (still_of l.book.rules.now l.tokens l.list l.s l.work ≡ still_of l.book.rules.now l.tokens l.list l.initial.s l.initial.work)

abbrev pub decreases-loop-q : goal.decreases-loop-q
decreases-loop-q l = weight l.s
