use Rattle.std.proofs.lemmas.Result.{err_from_is_err_and}
use Rattle.package.proofs.Settling.{Said, said, settled-scan, settled-short, settled-bad, settled-read}
use Rattle.package.proofs.settle.Goals as goal
use Rattle.package.proofs.settle.Goals.{In_ok-contents}

pub returns-in_err-contents : goal.returns-in_err-contents
returns-in_err-contents c =
    let p = err_from_is_err_and c.from_residual.result c.from_residual.ensures.1 in
    rw (← c.scan.auto.rules, ← c.scan.auto.statements, p.1, p.2)
    (settled-scan c.args.bytes.now c.in_err-contents.field-0.0 c.scan.new.rules c.scan.new.statements c.in_err-contents.ensures)

-- no record was refused
here : (c : In_ok-contents) → Said c.args.bytes.now c.in_ok-contents.contents c.scan.new.rules c.scan.new.statements
here c = said c.args.bytes.now c.in_ok-contents.contents c.scan.new.rules c.scan.new.statements c.in_ok-contents.ensures

pub returns-then-rules-contents : goal.returns-then-rules-contents
returns-then-rules-contents c =
    rw (← c.scan.auto.rules, ← c.scan.auto.statements)
    (settled-short c.args.bytes.now c.in_ok-contents.contents c.scan.new.rules c.scan.new.statements c.into.result (here (goal.at.returns-then-rules-contents c).In_ok-contents)
    c.then-rules-contents.either c.into.ensures)

pub returns-then-not-rules_good : goal.returns-then-not-rules_good
returns-then-not-rules_good c =
    rw (← c.scan.auto.rules, ← c.scan.auto.statements)
    (settled-bad c.args.bytes.now c.in_ok-contents.contents c.scan.new.rules c.scan.new.statements c.into-then-not-rules_good.result
    (here (goal.at.returns-then-not-rules_good c).In_ok-contents) c.if-rules-contents.false c.if-statements-contents.false c.if-not-rules_good.ensures c.into-then-not-rules_good.ensures)

pub returns : goal.returns
returns c =
    rw (← c.scan.auto.rules, ← c.scan.auto.statements)
    (settled-read c.args.bytes.now c.in_ok-contents.contents c.scan.new.rules c.scan.new.statements (here (goal.at.returns c).In_ok-contents)
    c.if-rules-contents.false c.if-statements-contents.false c.if-not-rules_good.ensures)
