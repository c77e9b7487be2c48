use Rattle.std.proofs.Common.{◌∙◌, sym}
use Rattle.words.proofs.Theorems.Parts.{part-all}
use Rattle.garden.proofs.Commands.{path-short, path-cut, prefix-bad, shadow-bad, path-read}
use Rattle.garden.proofs.path_of.Goals as goal
use Rattle.garden.proofs.path_of.Goals.{else-good_pairs-via-then-good_pairs+else-good_pairs-2, else-good_pairs-via-else-good_pairs}

pub returns-in_default : goal.returns-in_default
returns-in_default c = path-short c.args.ws.now c.requires c.in_default.len_below

pub returns-then-words-p : goal.returns-then-words-p
returns-then-words-p c =
    let ws = c.args.ws.now in
    path-cut ws c.requires c.in-len3-up.len_at_least (rw (part-all ws 3) at c.if-words-p.true)

pub returns-then-good_pairs-2 : goal.returns-then-good_pairs-2
returns-then-good_pairs-2 c =
    let ws = c.args.ws.now in
    let a = c.split_at in
    let b = c.split_at-2 in
    path-read ws c.requires c.in-len3-up.len_at_least (rw (part-all ws 3) at c.if-words-p.false) a.result.0.now a.result.1.now b.result.0.now
    (rw (part-all ws 3) at a.ensures.front) (rw (part-all ws 3) at a.ensures.back) b.ensures.front
    (sym c.good_pairs.ensures ∙ c.if-good_pairs.true) (sym c.good_pairs-then-good_pairs.ensures ∙ c.if-good_pairs-2.true) b.result.1.now b.ensures.back

pub returns : goal.returns
returns c =
    let ws = c.args.ws.now in
    let a = c.split_at in
    let b = c.split_at-2 in
    elim c.else-good_pairs.branch [
      | else-good_pairs-via-then-good_pairs+else-good_pairs-2 w ↦
          shadow-bad ws c.requires c.in-len3-up.len_at_least (rw (part-all ws 3) at c.if-words-p.false) a.result.0.now a.result.1.now b.result.0.now
          (rw (part-all ws 3) at a.ensures.front) (rw (part-all ws 3) at a.ensures.back) b.ensures.front
          (sym c.good_pairs.ensures ∙ w.if-good_pairs.true) (sym w.good_pairs-then-good_pairs.ensures ∙ w.if-good_pairs-2.false)
      | else-good_pairs-via-else-good_pairs w ↦
          prefix-bad ws c.requires c.in-len3-up.len_at_least (rw (part-all ws 3) at c.if-words-p.false) a.result.0.now a.result.1.now b.result.0.now
          (rw (part-all ws 3) at a.ensures.front) (rw (part-all ws 3) at a.ensures.back) b.ensures.front
          (sym c.good_pairs.ensures ∙ w.if-good_pairs.false)
    ]
