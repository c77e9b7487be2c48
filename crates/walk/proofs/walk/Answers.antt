use mathlib.Core.Path.{◌∙◌, ap}
use Prim.Native.Nat.{ℕ}
use native.Mathlib.Omega.{arith}
use lib.ListN.{length}
use Rattle.formula.specs.Code.{most_room}
use Rattle.words.specs.Outcome.{lesser}
use Rattle.walk.proofs.Running.{room-lent, walk-answers}
use Rattle.walk.proofs.walk.Goals as goal

pub run-requires : goal.run-requires
run-requires c =
    let a = c.args in
    let p = c.requires in (
      omega (arith, p.1),
      p.2,
      room-lent (length a.list.now) (length a.work.now) c.lesser.result
          (c.lesser.ensures ∙ ap (λ (n : ℕ). lesser n most_room) c.lesser-shorter.ensures),
    )

pub returns : goal.returns
returns c =
    let a = c.args in
    let q = a.terms.codes in
    let p = c.requires in
    walk-answers a.g.now.book.rules.now a.g.now.nodes.now a.g.now.edges.now q.provable.0 q.logic.0 a.terms.allowance a.tokens.now a.frames.now
    p.0 p.1 p.2 (lesser (length a.list.now) (length a.work.now)) c.lesser.result c.goal_of-goal.result.0
    (c.lesser.ensures ∙ ap (λ (n : ℕ). lesser n most_room) c.lesser-shorter.ensures) c.goal_of-goal.ensures c.run.ensures
