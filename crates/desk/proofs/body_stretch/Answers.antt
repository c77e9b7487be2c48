use borrow.Author.Rules.{rules}
use Rattle.desk.specs.Entry.{body_gives}
use Rattle.desk.proofs.body_stretch.Goals as goal

pub returns : goal.returns
unfolding body_gives
returns c = search rules
