use Rattle.std.proofs.lemmas.Result.{err_from_is_err_and}
use Rattle.words.specs.Code.{code}
use mathlib.Core.Path.{sym, ◌∙◌}
use mathlib.Core.Path.{◌≡◌, refl}
use mathlib.Core.Bool.{true}
use lib.ListN.{length}
use Rattle.words.specs.Numbers.{bad_rules}
use Rattle.rules.specs.Rules.{rules_good}
use native.Mathlib.Omega.{arith}
use Rattle.rules.proofs.Theorems.Words.{rules-good}
use Rattle.desk.proofs.Laws.{raised-no, build-bad, raised-on, raised-refused, room_fits, counts-small}
use Rattle.desk.proofs.raise.Goals as goal

pub returns-then-not-rules_good : goal.returns-then-not-rules_good
returns-then-not-rules_good c = raised-no _ bad_rules _ _ _ _ _ (build-bad _ _ _ _ _ _ _ (sym c.rules_good.ensures ∙ c.if-not-rules_good.true)) refl refl

pub build-requires : goal.build-requires
build-requires c =
    let good : rules_good c.args.codes.provable.0 c.args.codes.logic.0 c.args.rules.now ≡ true = sym c.rules_good.ensures ∙ c.if-not-rules_good.false in
    let f = room_fits _ _ _ c.build_room-room.ensures in
    (rules-good _ _ _ good, record { nodes = f.nodes-in; few = f.nodes-few; edges = f.edges-in }, f.edges_few)

pub overflow_cast-result : goal.overflow_cast-result
overflow_cast-result c =
    let f = room_fits _ (length c.args.nodes.now) (length c.args.edges.now) c.build_room-room.ensures in
    omega (arith, (counts-small _ _ _ _ _ _ f.nodes-few f.edges_few c.build.ensures c.in_ok-counts.was).0)

pub overflow_cast-result-2 : goal.overflow_cast-result-2
overflow_cast-result-2 c =
    let f = room_fits _ (length c.args.nodes.now) (length c.args.edges.now) c.build_room-room.ensures in
    omega (arith, (counts-small _ _ _ _ _ _ f.nodes-few f.edges_few c.build.ensures c.in_ok-counts.was).1)

pub returns : goal.returns
returns c =
    let good : rules_good c.args.codes.provable.0 c.args.codes.logic.0 c.args.rules.now ≡ true = sym c.rules_good.ensures ∙ c.if-not-rules_good.false in
    raised-on _ _ _ _ _ _ _ good _ c.build_room-room.ensures _ _ _ c.build.auto.nodes c.build.auto.edges c.build.ensures _ c.in_ok-counts.was

pub returns-in_err-counts : goal.returns-in_err-counts
returns-in_err-counts c =
    let good : rules_good c.args.codes.provable.0 c.args.codes.logic.0 c.args.rules.now ≡ true = sym c.rules_good.ensures ∙ c.if-not-rules_good.false in
    let p = err_from_is_err_and c.from_residual.result c.from_residual.ensures.1 in
    rw p.1 (raised-refused _ _ _ _ _ _ _ good _ c.build_room-room.ensures _ _ _ c.build.auto.nodes c.build.auto.edges c.build.ensures _ (code p.0) c.in_err-counts.was p.2)
