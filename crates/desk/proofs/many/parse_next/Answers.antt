use Rattle.std.proofs.Common.{length, ◌≤◌, ◌∙◌, arith}
use borrow.Rule.Slice.PartMut.{mid_len}
use Rattle.desk.specs.Code.{asked_over}
use Rattle.desk.proofs.Batching.{packed_more, part-walk}
use Rattle.desk.proofs.many.parse_next.Goals as goal

pub overflow_add-result : goal.overflow_add-result
overflow_add-result c =
    let list = c.args.list.now in
    let h : c.from-a.result.length ≤ length c.parse_one.new.list = rw c.from-a.ensures c.parse_one.ensures.within in
    record { fits = omega (arith, c.requires.0, h, c.parse_one.auto.list, mid_len c.args.used.list (length list) list (omega arith)) }

pub returns : goal.returns
returns c ws p e =
    let a = c.args in
    let q = asked_over a.ground.now a.tokens.now in
    let h = rw (← c.from-a.ensures) at c.parse_one.ensures in
    let t = part-walk q a.allowance a.used.list a.frames.now a.list.now a.work.now c.parse_one.new.list c.from-a.result h in
    packed_more _ c.from-a.result ws a.list.now c.parse_one.new.list a.answers.now c.copy_from_slice.new.self a.used.list a.used.answers p e t c.requires.0
    c.parse_one.auto.list c.requires.1 c.copy_from_slice.ensures.len (c.copy_from_slice.ensures.after ∙ c.words.ensures)
