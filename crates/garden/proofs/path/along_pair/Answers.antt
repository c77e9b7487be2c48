use Rattle.tree.proofs.Laws.{row-readable, read-leads}
use Rattle.garden.proofs.Paths.{no-first, no_second, both-edges}
use Rattle.garden.proofs.path.along_pair.Goals as goal

pub returns-in_default : goal.returns-in_default
returns-in_default c = λ ns. no-first c.args.c ns c.args.edges.now c.args.s _ c.in_default.ensures

pub returns-in_default-look : goal.returns-in_default-look
returns-in_default-look c = λ ns. no_second c.args.c ns c.args.edges.now c.args.s _ c.in-Some.i c.in-Some.ensures c.in_default-look.ensures

pub read_row-e-requires : goal.read_row-e-requires
read_row-e-requires c =
    row-readable c.args.room c.args.c c.args.edges.now c.in-Some.i c.requires c.in-Some.ensures.within

pub read_row-f-requires : goal.read_row-f-requires
read_row-f-requires c =
    row-readable c.args.room c.args.c c.args.edges.now c.in-Some-look.j c.requires c.in-Some-look.ensures.within

pub move_on-requires : goal.move_on-requires
move_on-requires c =
    let e = c.read_row-e in
    let f = c.read_row-f in
    let es = c.args.edges.now in
    (read-leads c.args.room c.args.c es c.in-Some.i e.result c.requires c.in-Some.ensures.within e.ensures, read-leads c.args.room c.args.c es c.in-Some-look.j f.result c.requires c.in-Some-look.ensures.within f.ensures)

pub returns : goal.returns
returns c =
    let e = c.read_row-e in
    let f = c.read_row-f in
    λ ns. both-edges c.args.c ns c.args.edges.now c.args.s _ c.in-Some.i c.in-Some.ensures c.in-Some-look.j c.in-Some-look.ensures e.result f.result e.ensures f.ensures c.move_on.result c.move_on.ensures
