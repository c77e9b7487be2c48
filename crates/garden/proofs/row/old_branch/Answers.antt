use Rattle.rows.specs.Code.{reduces_are}
use Rattle.std.proofs.lemmas.Result.{err_from_is_err_and}
use Rattle.garden.proofs.Carried.{listed, unlisted}
use Rattle.garden.proofs.Copying.{kept_same}
use Rattle.garden.proofs.Taking.{other-refused, other-begins}
use Rattle.garden.proofs.row.old_branch.Goals as goal

pub returns-in_err-stored : goal.returns-in_err-stored
returns-in_err-stored c =
    let a = c.store_other in
    let p = err_from_is_err_and c.from_residual.result c.from_residual.ensures.1 in
    rw (p.1, p.2)
    (λ z ns es s. (other-refused z c.args.c ns es s (reduces_are c.args.stored) c.args.e c.args.d _ (unlisted _ a.result a.ensures _ c.in_err-stored.was), tt))

pub returns : goal.returns
returns c =
    let a = c.store_other in
    λ z ns es s. (
      other-begins z c.args.c ns es s (reduces_are c.args.stored) c.args.e c.args.d c.in_ok-stored.stored (listed _ a.result a.ensures c.in_ok-stored.stored c.in_ok-stored.was) c.requires,
      kept_same z c.args.c es s.rowed,
    )
