use Rattle.std.proofs.Common.{ap, ◌∙◌}
use Rattle.std.specs.Result.{result_ok}
use Rattle.std.proofs.lemmas.Result.{err_from_is_err_and}
use Rattle.tree.proofs.Converting.{sixth-refused, converted-added}
use Rattle.tree.proofs.convert.add_converted.Goals as goal

pub returns-in_err-reduces : goal.returns-in_err-reduces
returns-in_err-reduces c =
    let p = err_from_is_err_and c.from_residual.result c.from_residual.ensures.1 in
    rw (p.1, p.2)
    (λ ns. sixth-refused c.args.room c.args.c ns c.args.edges.now c.args.from c.args.symbol c.args.e c.args.reduces c.ok_or.result _ c.ok_or.ensures.value c.in_err-reduces.was)

pub returns : goal.returns
returns c =
    let given = c.ok_or.ensures.ok_part ∙ ap result_ok c.in_ok-reduces.was in
    λ ns. converted-added c.args.room c.args.c ns c.args.edges.now c.args.from c.args.symbol c.args.e c.args.reduces c.add_edge.result c.add_edge.new.edges _ given (c.add_edge.ensures.0 ns)
