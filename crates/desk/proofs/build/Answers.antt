use Rattle.std.proofs.Common.{◌≡◌, length, rules, ◌∙◌, ap}
use Rattle.words.specs.Lent.{zeros}
use Rattle.desk.proofs.Laws.{built}
use Rattle.desk.proofs.build.Goals as goal

pub returns : goal.returns
returns c =
    let z : c.fill.new.self ≡ zeros (length c.raise.new.frames) = search rules in
    built _ _ _ _ _ _ _ _ (rw (← c.from-m.ensures) at c.raise.ensures) c.clear_from.ensures c.clear_from-2.ensures (z ∙ ap zeros c.raise.auto.frames)
