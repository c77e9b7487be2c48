use Rattle.std.proofs.Common.{◌∙◌, sym}
use Rattle.garden.proofs.Paths.{leads-nowhere, leads-on, other-kind, of-kind}
use Rattle.garden.proofs.Taking.{leads-in}
use Rattle.garden.proofs.path.follow.Goals as goal

pub returns-then-pair-kind : goal.returns-then-pair-kind
returns-then-pair-kind c = (tt, λ ns. other-kind _ _ _ c.if-pair-kind.true)

pub returns-in_err-row : goal.returns-in_err-row
returns-in_err-row c =
    rw c.from_residual.ensures (tt, λ ns. leads-nowhere c.args.c ns c.args.edges.now c.args.n.0 _ c.in_err-row.ensures ∙ sym (of-kind _ _ _ c.if-pair-kind.false))

pub returns : goal.returns
returns c =
    let t = c.end_of in (
      leads-in c.args.room c.args.c c.args.edges.now c.requires c.in_ok-row.row c.in_ok-row.ensures.within t.result t.ensures,
      λ ns. leads-on c.args.c ns c.args.edges.now c.args.n.0 _ c.in_ok-row.row t.result c.in_ok-row.ensures t.ensures ∙ sym (of-kind _ _ _ c.if-pair-kind.false),
    )
