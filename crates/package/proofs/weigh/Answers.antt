use Rattle.std.proofs.Common.{sym}
use Rattle.rules.proofs.Theorems.Words.{rules-good}
use Rattle.package.proofs.Weighing.{Statements, statements-are, weighed-bad, weighed-cut, weighed-long, weighed-tight, weighed-fine}
use Rattle.package.proofs.weigh.Goals as goal
use Rattle.package.proofs.weigh.Goals.{In-Ok}

pub returns-then-not-rules_good : goal.returns-then-not-rules_good
returns-then-not-rules_good c =
    let a = c.args in
    weighed-bad a.codes.provable.0 a.codes.logic.0 a.rules.now a.statements.now a.room c.if-not-rules_good.ensures

pub returns-in_default : goal.returns-in_default
returns-in_default c =
    let a = c.args in
    weighed-cut a.codes.provable.0 a.codes.logic.0 a.rules.now a.statements.now a.room c.in_default.field-0 c.if-not-rules_good.ensures c.in_default.ensures

-- the statements are whole
whole : (c : In-Ok) → Statements c.args.statements.now c.in-Ok.n
whole c = statements-are c.args.statements.now c.in-Ok.n c.in-Ok.ensures

pub invariant_of-parcel : goal.invariant_of-parcel
invariant_of-parcel c =
    let a = c.args in
    let w = whole (goal.at.invariant_of-parcel c).In-Ok in
    record { good = rules-good a.codes.provable.0 a.codes.logic.0 a.rules.now (sym c.if-not-rules_good.ensures); whole = w.words }

pub returns-then-not-short : goal.returns-then-not-short
returns-then-not-short c =
    let a = c.args in
    weighed-long a.codes.provable.0 a.codes.logic.0 a.rules.now a.statements.now a.room c.in-Ok.n c.if-not-rules_good.ensures
    (whole (goal.at.returns-then-not-short c).In-Ok) c.if-not-short.ensures

pub needed-length-requires : goal.needed-length-requires
needed-length-requires c = (whole (goal.at.needed-length-requires c).In-Ok).count

pub returns-then-room-length : goal.returns-then-room-length
returns-then-room-length c =
    let a = c.args in
    weighed-tight a.codes.provable.0 a.codes.logic.0 a.rules.now a.statements.now a.room c.in-Ok.n c.if-not-rules_good.ensures
    (whole (goal.at.returns-then-room-length c).In-Ok) c.if-not-short.ensures (rw c.needed-length.ensures at c.if-room-length.true)

pub returns : goal.returns
returns c =
    let a = c.args in
    weighed-fine a.codes.provable.0 a.codes.logic.0 a.rules.now a.statements.now a.room c.in-Ok.n c.needed-length.result c.if-not-rules_good.ensures
    (whole (goal.at.returns c).In-Ok) c.if-not-short.ensures c.if-room-length.false c.needed-length.ensures
