use Rattle.std.proofs.Common.{◌≡◌, length, rules, ap, ◌∙◌}
use Rattle.words.specs.Lent.{zeros}
use Rattle.desk.specs.Entry.{parse_gives}
use Rattle.desk.proofs.Laws.{parsed-whole}
use Rattle.desk.proofs.parse.Goals as goal

pub returns : goal.returns
unfolding parse_gives
returns c =
    let f : c.fill.new.self ≡ zeros (length c.attempt-tried.new.frames) = search rules in
    let w : c.fill-2.new.self ≡ zeros (length c.attempt-tried.new.work) = search rules in
    parsed-whole _ _ _ _ _ _ _ (rw (← c.from-a.ensures) at c.attempt-tried.ensures) c.attempt-tried.auto.list (f ∙ ap zeros c.attempt-tried.auto.frames)
    c.clear_from.ensures (w ∙ ap zeros c.attempt-tried.auto.work)
