use Rattle.std.proofs.Common.{◌∙◌, sym}
use Rattle.std.proofs.lemmas.Result.{err_from_is_err_and}
use Rattle.tree.proofs.Laws.{row-free}
use Rattle.garden.proofs.Carried.{listed, unlisted}
use Rattle.garden.proofs.Copying.{kept_same, copy-kept, copy-far, copy-sixth, copy-added}
use Rattle.garden.proofs.copy.copy_with.Goals as goal

pub returns-then-is_some : goal.returns-then-is_some
returns-then-is_some c = (
  λ ns. copy-kept c.args.room c.args.c ns c.args.edges.now c.requires.0 c.args.m c.args.list c.args.e c.look.result c.look.ensures (sym c.is_some.ensures ∙ c.if-is_some.true),
  kept_same c.args.room c.args.c c.args.edges.now c.requires.0,
)

pub returns-in_err-more : goal.returns-in_err-more
returns-in_err-more c =
    let free = row-free c.args.c c.args.edges.now _ _ _ c.look.result c.look.ensures (sym c.is_some.ensures ∙ c.if-is_some.false) in
    let p = err_from_is_err_and c.from_residual.result c.from_residual.ensures.1 in
    rw (p.1, p.2)
    (λ ns. copy-far c.args.room c.args.c ns c.args.edges.now c.requires.0 c.args.m c.args.list c.args.e free _ (unlisted _ c.raised_on.result c.raised_on.ensures _ c.in_err-more.was), tt)

pub returns-in_err-reduces : goal.returns-in_err-reduces
returns-in_err-reduces c =
    let free = row-free c.args.c c.args.edges.now _ _ _ c.look.result c.look.ensures (sym c.is_some.ensures ∙ c.if-is_some.false) in
    let more = listed _ c.raised_on.result c.raised_on.ensures c.in_ok-more.more c.in_ok-more.was in
    let p = err_from_is_err_and c.from_residual-in_err-reduces.result c.from_residual-in_err-reduces.ensures.1 in
    rw (p.1, p.2)
    (λ ns. copy-sixth c.args.room c.args.c ns c.args.edges.now c.requires.0 c.args.m c.args.list c.args.e free c.in_ok-more.more more _ (unlisted _ c.extend.result c.extend.ensures _ c.in_err-reduces.was), tt)

pub returns : goal.returns
returns c =
    let free = row-free c.args.c c.args.edges.now _ _ _ c.look.result c.look.ensures (sym c.is_some.ensures ∙ c.if-is_some.false) in
    let more = listed _ c.raised_on.result c.raised_on.ensures c.in_ok-more.more c.in_ok-more.was in
    let added = listed _ c.extend.result c.extend.ensures c.in_ok-reduces.reduces c.in_ok-reduces.was in
    (λ ns. copy-added c.args.room c.args.c ns c.args.edges.now c.requires.0 c.args.m c.args.list c.args.e free c.in_ok-more.more more c.in_ok-reduces.reduces added c.put_row.result c.put_row.new.edges (c.put_row.ensures.0 ns), c.put_row.ensures.1)
