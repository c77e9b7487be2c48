use Rattle.package.proofs.Renewing.{OldPut, item_at}
use Rattle.package.proofs.scan.put_old_rule.Given as goal

abbrev pub invariant-loop-item : goal.invariant-loop-item
invariant-loop-item l = OldPut l.initial.to l.initial.next l.body l.to l.next l.v (item_at l.item-index)
