use mathlib.Core.Path.{◌≡◌}
use mathlib.Core.List.{[], map}
use lib.ListN.{length, take, drop}
use Rattle.rules.specs.Rules.{the_rules}
use Rattle.rows.specs.Code.{reduce_is}
use Rattle.formula.specs.Tail.{plan}
use Rattle.formula.specs.TailCode.{Sized, entries_in}
use Rattle.formula.proofs.tail.plan.Given as goal

abbrev pub invariant-loop-k : goal.invariant-loop-k
invariant-loop-k l = (length l.work ≡ length l.initial.work) × (length l.entries ≡ length l.initial.entries) × Sized l.room l.out l.work
    × (plan (the_rules l.book.rules.now) l.room (drop l.k (map reduce_is l.reduces)) (take l.out.count l.work) (entries_in l.k l.entries)
    ≡ plan (the_rules l.book.rules.now) l.room (map reduce_is l.reduces) (take l.initial.out.count l.initial.work) [])
