use Rattle.rows.specs.Code.{reduces_are}
use Rattle.garden.proofs.Copying.{Copying}
use Rattle.garden.proofs.copy.clone_with_reduce_vec.Given as goal

abbrev pub invariant-loop-place : goal.invariant-loop-place
invariant-loop-place l = Copying l.room l.n.0 l.m.0 (reduces_are l.list) l.initial.c l.initial.edges l.c l.edges l.place
