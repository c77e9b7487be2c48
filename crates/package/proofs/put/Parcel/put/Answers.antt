use Rattle.std.proofs.Common.{◌+◌, ◌-◌, length, refl, sym, arith}
use mathlib.Core.List.{[], append-nil}
use borrow.Rule.Slice.PartMut.{put_mid}
use Rattle.words.specs.Limits.{most_rules}
use Rattle.words.specs.Counted.{the_lists}
use Rattle.package.specs.Package.{the_end, record_bytes, rule_records, statement_records, written}
use Rattle.package.specs.Code.{package_of}
use Rattle.package.proofs.Pasting.{Left, left-done, part-room, left-in}
use Rattle.package.proofs.Writing.{after_typecodes, after_rules, typecodes-room, typecodes-put}
use Rattle.package.proofs.put.Parcel.put.Goals as goal
use Rattle.package.proofs.put.Parcel.put.Goals.{After-put_record-head, After-put_rules}

pub put_record-head-requires : goal.put_record-head-requires
put_record-head-requires c =
    let a = c.args in
    (typecodes-room (package_of a.self.codes.provable.0 a.self.codes.logic.0 a.self.rules.now a.self.statements.now) a.to.now c.requires.0, omega arith)

-- the typecodes are put
head : (c : After-put_record-head) → let a = c.args in
    let q = package_of a.self.codes.provable.0 a.self.codes.logic.0 a.self.rules.now a.self.statements.now in
    Left c.put_record-head.new.to c.put_record-head.result (after_typecodes q) a.to.now 0 (written q)
head c =
    let a = c.args in
    let p = c.put_record-head in
    typecodes-put (package_of a.self.codes.provable.0 a.self.codes.logic.0 a.self.rules.now a.self.statements.now) a.to.now c.requires.0 p.new.to p.result p.ensures.0 p.ensures.1

pub put_rules-requires : goal.put_rules-requires
put_rules-requires c =
    let a = c.args in
    let q = package_of a.self.codes.provable.0 a.self.codes.logic.0 a.self.rules.now a.self.statements.now in
    part-room (head (goal.at.put_rules-requires c).After-put_record-head) (rule_records most_rules a.self.rules.now) (after_rules q) refl

-- the rules too
middle : (c : After-put_rules) → let a = c.args in
    let q = package_of a.self.codes.provable.0 a.self.codes.logic.0 a.self.rules.now a.self.statements.now in
    let to = c.put_record-head.new.to in
    let n = c.put_record-head.result in
    Left (put_mid n (length to - n) to c.put_rules.new.to) (n + c.put_rules.result) (after_rules q) a.to.now 0 (written q)
middle c =
    let a = c.args in
    let q = package_of a.self.codes.provable.0 a.self.codes.logic.0 a.self.rules.now a.self.statements.now in
    let h = c.put_record-head in
    let p = c.put_rules in
    left-in (typecodes-put q a.to.now c.requires.0 h.new.to h.result h.ensures.0 h.ensures.1) (rule_records most_rules a.self.rules.now) (after_rules q) refl p.new.to p.result p.ensures.0 p.ensures.1

pub put_statements-requires : goal.put_statements-requires
put_statements-requires c =
    let m = middle (goal.at.put_statements-requires c).After-put_rules in
    (part-room m (statement_records (the_lists c.args.self.statements.now)) (record_bytes the_end []) refl, c.requires.1)

pub put_record-requires : goal.put_record-requires
put_record-requires c =
    let m = middle (goal.at.put_record-requires c).After-put_rules in
    let p = c.put_statements in
    let end = record_bytes the_end [] in
    let s = left-in m (statement_records (the_lists c.args.self.statements.now)) end refl p.new.to p.result p.ensures.0 p.ensures.1 in
    (part-room s end [] (sym (append-nil end)), omega arith)

pub returns : goal.returns
returns c =
    let m = middle (goal.at.returns c).After-put_rules in
    let p = c.put_statements in
    let end = record_bytes the_end [] in
    let s = left-in m (statement_records (the_lists c.args.self.statements.now)) end refl p.new.to p.result p.ensures.0 p.ensures.1 in
    let l = left-in s end [] (sym (append-nil end)) c.put_record.new.to c.put_record.result c.put_record.ensures.0 c.put_record.ensures.1 in
    (left-done _ _ _ _ _ _ l refl).1
