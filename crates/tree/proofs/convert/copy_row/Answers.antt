use Rattle.std.proofs.Common.{◌∙◌, sym}
use Rattle.tree.proofs.Laws.{row-free}
use Rattle.tree.proofs.Converting.{row_kept, row_copied}
use Rattle.tree.proofs.convert.copy_row.Goals as goal

pub returns-then-is_some : goal.returns-then-is_some
returns-then-is_some c =
    λ ns. row_kept c.args.room c.args.c ns c.args.edges.now c.requires.0 c.args.rule.0 c.args.m.0 c.args.e c.look.result c.look.ensures (sym c.is_some.ensures ∙ c.if-is_some.true)

pub add_converted-requires : goal.add_converted-requires
add_converted-requires c =
    let free = row-free c.args.c c.args.edges.now _ _ _ c.look.result c.look.ensures (sym c.is_some.ensures ∙ c.if-is_some.false) in
    (c.requires.0, c.requires.1, free)

pub returns : goal.returns
returns c =
    let w = c.with_conversion-reduces in
    let free = row-free c.args.c c.args.edges.now _ _ _ c.look.result c.look.ensures (sym c.is_some.ensures ∙ c.if-is_some.false) in
    λ ns. row_copied c.args.room c.args.c ns c.args.edges.now c.requires.0 c.args.rule.0 c.args.m.0 c.args.e w.result c.add_converted.result c.add_converted.new.edges w.ensures free (c.add_converted.ensures ns)
