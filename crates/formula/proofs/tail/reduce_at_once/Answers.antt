use lib.ListN.{length-map}
use native.Mathlib.Omega.{arith}
use lib.Seq.{length-take-le}
use Rattle.std.proofs.lemmas.Result.{err_from_is_err_and}
use mathlib.Core.List.{map}
use lib.ListN.{length}
use Rattle.rows.specs.Code.{reduce_is}
use Rattle.formula.proofs.Reducing.{sized_of}
use Rattle.formula.proofs.Weaving.{all-refused, laid, room-left, all_done}
use Rattle.formula.proofs.tail.reduce_at_once.Goals as goal

pub plan-requires : goal.plan-requires
plan-requires c = (sized_of _ _ _ _ c.requires.0, c.requires.1, omega arith)

pub returns-in_err-t : goal.returns-in_err-t
returns-in_err-t c =
    let p = err_from_is_err_and c.from_residual.result c.from_residual.ensures.1 in
    rw (p.1, p.2) (all-refused _ _ (map reduce_is c.args.reduces.now) _ _ _ c.requires.0 _ _ _ _ _ c.in_err-t.ensures)

pub weave-requires : goal.weave-requires
weave-requires c =
    let count-is = length-map c.args.reduces.now reduce_is in
    let entries = length-take-le (length c.args.reduces.now) c.plan.new.entries (omega arith) in
    let a = laid _ _ (map reduce_is c.args.reduces.now) _ _ _ c.requires.0 _ _ _ count-is _ c.in_ok-t.ensures in
    let b = room-left _ _ (map reduce_is c.args.reduces.now) _ _ _ c.requires.0 _ _ _ count-is _ c.in_ok-t.ensures in
    (rw entries b, a.0)

pub returns : goal.returns
returns c =
    let count-is = length-map c.args.reduces.now reduce_is in
    let entries = length-take-le (length c.args.reduces.now) c.plan.new.entries (omega arith) in
    all_done _ _ (map reduce_is c.args.reduces.now) _ _ _ c.requires.0 _ _ _ count-is _ c.in_ok-t.ensures _ (rw entries at c.weave.ensures) c.weave.auto.list
