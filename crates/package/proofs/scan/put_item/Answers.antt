use Rattle.std.proofs.Common.{rules}
use Rattle.package.proofs.Renewing.{constant-item, slot-item}
use Rattle.package.proofs.scan.put_item.Goals as goal

pub returns-then-number_of-eq0 : goal.returns-then-number_of-eq0
returns-then-number_of-eq0 c =
    let a = c.args in
    let k = c.number_of in
    constant-item a.to.now c.copy_words.new.to c.put_word.new.to a.item.now a.at a.v k.result (search rules) k.ensures c.copy_words.auto.to c.copy_words.ensures
    c.if-number_of-eq0.true c.put_word.ensures

pub returns : goal.returns
returns c =
    let a = c.args in
    let k = c.number_of in
    slot-item a.to.now c.copy_words.new.to c.put_word-2.new.to a.item.now a.at a.v k.result (search rules) k.ensures c.copy_words.auto.to c.copy_words.ensures
    c.if-number_of-eq0.false c.put_word-2.ensures
