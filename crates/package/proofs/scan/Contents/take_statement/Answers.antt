use Rattle.package.proofs.Reading.{stands-statement}
use Rattle.package.proofs.scan.Contents.take_statement.Goals as goal

pub returns : goal.returns
returns c rs q s =
    stands-statement c.args.self q rs c.args.statements.now c.put_word.new.to c.copy_words.new.to c.args.body.now c.put_word.auto.to c.copy_words.auto.to
    c.put_word.ensures c.copy_words.ensures s
