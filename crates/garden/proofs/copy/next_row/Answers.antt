use Rattle.std.proofs.Common.{◌∙◌, sym}
use Rattle.garden.proofs.Copying.{from-word, seek-start, seek-end, seek-other, seek_found, seek-more, seek-young}
use Rattle.garden.proofs.copy.next_row.Goals as goal
use Rattle.garden.proofs.copy.next_row.Goals.{then-stood_at+else-left-eq0, else-stood_at}

pub loop-at-init : goal.loop-at-init
loop-at-init c =
    seek-start c.args.c c.args.edges.now c.requires c.args.from.0 c.args.stood c.args.place c.first_row-first.result c.first_row-first.ensures

pub returns-then-edges-at : goal.returns-then-edges-at
returns-then-edges-at c =
    let l = c.loop-at in
    seek-other c.args.c c.args.edges.now c.requires c.args.from.0 c.args.stood c.args.place l.at l.left l.invariant c.loop-at-test.true λ e. c.if-edges-at.true (sym (from-word c.args.edges.now l.at) ∙ e)

pub returns-then-left-eq0 : goal.returns-then-left-eq0
returns-then-left-eq0 c =
    let l = c.loop-at in
    let s = c.stood_at in
    seek_found c.args.c c.args.edges.now c.requires c.args.from.0 c.args.stood c.args.place l.at l.left l.invariant c.loop-at-test.true (from-word c.args.edges.now l.at ∙ c.if-edges-at.false)
    s.result s.ensures c.if-stood_at.true c.if-left-eq0.true

pub loop-at-preserved : goal.loop-at-preserved
loop-at-preserved c =
    let l = c.loop-at in
    let s = c.stood_at in
    elim c.if-stood_at.branch [
      | then-stood_at+else-left-eq0 w ↦
          rw w.left-is (seek-more c.args.c c.args.edges.now c.requires c.args.from.0 c.args.stood c.args.place l.at l.left l.invariant c.loop-at-test.true (from-word c.args.edges.now l.at ∙ c.if-edges-at.false)
          s.result s.ensures w.if-stood_at.true w.if-left-eq0.false)
      | else-stood_at w ↦
          rw w.left-is (seek-young c.args.c c.args.edges.now c.requires c.args.from.0 c.args.stood c.args.place l.at l.left l.invariant c.loop-at-test.true (from-word c.args.edges.now l.at ∙ c.if-edges-at.false)
          s.result s.ensures w.if-stood_at.false)
    ]

pub returns : goal.returns
returns c =
    let l = c.loop-at in
    seek-end c.args.c c.args.edges.now c.requires c.args.from.0 c.args.stood c.args.place l.at l.left l.invariant c.loop-at-test.false
