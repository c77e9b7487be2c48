use Rattle.std.proofs.Common.{◌≡◌, List, ◌∷◌, refl, sym, ◌∙◌, ap, length, rules, arith}
use Rattle.desk.specs.Batch.{answer_width}
use Rattle.desk.specs.Code.{asked_many_over, lent}
use Rattle.desk.proofs.Batching.{Ahead, Batching, turn, answer-fits, batch-start, batch-more, batch-end}
use Rattle.desk.proofs.many.parse_all.Goals as goal
use Rattle.desk.proofs.many.parse_all.Goals.{In-Some}

-- a statement is left, and its tokens after their count
first : (c : In-Some) → Batching (asked_many_over c.args.ground.now c.args.statements.now) c.args.allowance (lent c.args.frames.now c.args.list.now c.args.work.now)
    c.args.statements.now c.loop-size.list c.loop-size.answers (c.in-Some.size.now ∷ c.in-Some.after.now) c.loop-size.used.answers c.loop-size.used.list
first c = rw c.in-Some.ensures.cases.0 at c.loop-size.invariant.4

pub loop-size-init : goal.loop-size-init
loop-size-init c = (refl, refl, refl, refl, batch-start _ _ _ _ _ _ c.requires.0)

pub split_at-requires : goal.split_at-requires
split_at-requires c = (turn _ _ _ _ _ _ _ _ _ _ (first (goal.at.split_at-requires c).In-Some)).within

pub parse_next-requires : goal.parse_next-requires
parse_next-requires c =
    let l = c.loop-size in
    (l.invariant.4.packed.within, answer-fits _ _ _ _ _ _ _ _ _ _ (first (goal.at.parse_next-requires c).In-Some) (omega (arith, l.invariant.3, c.requires.1)))

pub loop-size-preserved : goal.loop-size-preserved
loop-size-preserved c =
    let l = c.loop-size in
    let b = first (goal.at.loop-size-preserved c).In-Some in (
      c.parse_next.auto.frames ∙ l.invariant.0,
      c.parse_next.auto.list ∙ l.invariant.1,
      c.parse_next.auto.work ∙ l.invariant.2,
      c.parse_next.auto.answers ∙ l.invariant.3,
      rw c.split_at.ensures.back
          (batch-more (asked_many_over c.args.ground.now c.args.statements.now) c.args.allowance (lent c.args.frames.now c.args.list.now c.args.work.now) c.args.statements.now
          l.list l.answers c.in-Some.size.now c.in-Some.after.now l.used.answers l.used.list b
          (lent l.frames l.list l.work) c.parse_next.result c.parse_next.new.list c.parse_next.new.answers
          (λ j. record { frames = l.invariant.0 j; list = l.invariant.1 j; work = l.invariant.2 j }) (rw c.split_at.ensures.front at c.parse_next.ensures)),
    )

pub returns : goal.returns
returns c =
    let l = c.loop-size in
    batch-end _ _ _ _ l.list l.answers l.rest.now l.used.answers l.used.list l.invariant.4 (search rules)
