use mathlib.Core.Bool.{not}
use mathlib.Core.Path.{ap, sym, ◌∙◌}
use Rattle.walk.proofs.Parts.{open-root, open-bare, open_full, open-on}
use Rattle.walk.proofs.branch.open_frame.Goals as goal
use Rattle.walk.proofs.branch.open_frame.Goals.{then-eq-via-then-eq, then-eq-via-else-eq+then-not-leaves}

pub returns-then-eq : goal.returns-then-eq
returns-then-eq c =
    let a = c.args in
    elim c.then-eq.branch [
      | then-eq-via-then-eq w ↦ open-root a.g.now.edges.now a.s a.frames.now (sym c.eq.ensures ∙ w.if-eq.true)
      | then-eq-via-else-eq+then-not-leaves w ↦
          open-bare a.g.now.edges.now a.s a.frames.now (sym c.eq.ensures ∙ w.if-eq.false) w.leaves.ensures (ap not w.if-not-leaves.true)
    ]

pub returns-then-frames-n : goal.returns-then-frames-n
returns-then-frames-n c =
    let a = c.args in
    open_full a.g.now.edges.now a.s a.frames.now (sym c.eq.ensures ∙ c.if-eq.false) c.leaves.ensures (ap not c.if-not-leaves.false) c.if-frames-n.true

pub returns : goal.returns
returns c =
    let a = c.args in
    open-on a.g.now.edges.now a.s a.frames.now (sym c.eq.ensures ∙ c.if-eq.false) c.leaves.ensures (ap not c.if-not-leaves.false) c.if-frames-n.false
