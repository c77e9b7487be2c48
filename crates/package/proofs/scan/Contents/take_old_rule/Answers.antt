use Rattle.package.proofs.Reading.{stands-old-rule}
use Rattle.package.proofs.scan.Contents.take_old_rule.Goals as goal

pub returns : goal.returns
returns c ss q s =
    stands-old-rule c.args.self q c.args.rules.now ss c.put_old_rule.new.to c.args.body.now c.put_old_rule.result c.put_old_rule.auto.to c.put_old_rule.ensures s
