use mathlib.Core.Path.{sym, ◌∙◌}
use Rattle.walk.specs.Walk.{wanted_by}
use Rattle.walk.proofs.goal_of.Goals as goal

pub returns-then-eq : goal.returns-then-eq
unfolding wanted_by
returns-then-eq c = rw (sym c.eq.ensures ∙ c.if-eq.true)

pub returns : goal.returns
unfolding wanted_by
returns c = rw (sym c.eq.ensures ∙ c.if-eq.false)
