use Rattle.package.proofs.Reading.{stands-rule}
use Rattle.package.proofs.scan.Contents.take_rule.Goals as goal

pub returns : goal.returns
returns c ss q s = stands-rule c.args.self q c.args.rules.now ss c.copy_words.new.to c.args.body.now c.copy_words.auto.to c.copy_words.ensures s
