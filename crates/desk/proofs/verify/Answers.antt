use Rattle.std.proofs.Common.{◌≡◌, length, rules}
use Rattle.words.specs.Lent.{zeros}
use Rattle.desk.proofs.Laws.{verified}
use Rattle.desk.proofs.verify.Goals as goal

pub returns-in-Ok : goal.returns-in-Ok
returns-in-Ok c =
    let z : c.fill.new.self ≡ zeros (length c.args.work.now) = search rules in
    verified _ _ _ _ _ _ _ _ (search rules) z

pub returns-in-Err : goal.returns-in-Err
returns-in-Err c =
    let z : c.fill.new.self ≡ zeros (length c.args.work.now) = search rules in
    verified _ _ _ _ _ _ _ _ (search rules) z
