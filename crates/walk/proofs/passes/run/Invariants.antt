use mathlib.Core.Path.{◌≡◌}
use lib.ListN.{length}
use Rattle.walk.proofs.Running.{Walking}
use Rattle.walk.proofs.passes.run.Given as goal

abbrev pub invariant-loop-n : goal.invariant-loop-n
invariant-loop-n l = (length l.list ≡ length l.initial.list) × (length l.work ≡ length l.initial.work)
    × Walking l.g.book.rules.now l.g.nodes.now l.g.edges.now l.tokens l.h l.initial.frames l.s l.n l.frames l.list l.work
