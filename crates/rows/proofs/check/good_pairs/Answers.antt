use mathlib.Core.Path.{◌≡◌, sym, ap, ◌∙◌}
use mathlib.Core.Bool.{true, false}
use Rattle.rows.specs.Rows.{Reduce, good_pair}
use Rattle.rows.proofs.Laws.{pair_at, pairs-step, pairs_end}
use Rattle.rows.proofs.check.good_pairs.Goals as goal
use lib.ListN.{get_or}

pub returns-then-not-good_pair : goal.returns-then-not-good_pair
returns-then-not-good_pair c =
    let row = c.args.row.now in
    let k = c.loop-k.k in
    let bad : pair_at c.args.rules row k ≡ false =
    sym (c.good_pair.ensures ∙ ap (λ (d : Reduce). good_pair c.args.rules k (get_or row 4 0) d.rule d.offset) c.reduce_at-pair.ensures) ∙ c.if-not-good_pair.true in
    sym (sym c.loop-k.invariant ∙ pairs-step row c.args.rules k c.loop-k-test.true ∙ rw bad)

pub loop-k-preserved : goal.loop-k-preserved
loop-k-preserved c =
    let row = c.args.row.now in
    let k = c.loop-k.k in
    let good : pair_at c.args.rules row k ≡ true =
    sym (c.good_pair.ensures ∙ ap (λ (d : Reduce). good_pair c.args.rules k (get_or row 4 0) d.rule d.offset) c.reduce_at-pair.ensures) ∙ c.if-not-good_pair.false in
    sym (pairs-step row c.args.rules k c.loop-k-test.true ∙ rw good) ∙ c.loop-k.invariant

pub returns : goal.returns
returns c = sym (sym c.loop-k.invariant ∙ pairs_end c.args.rules c.loop-k.k c.args.row.now c.loop-k-test.false)
