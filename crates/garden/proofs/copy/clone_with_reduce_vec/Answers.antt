use Rattle.std.proofs.lemmas.Result.{err_from_is_err_and}
use Rattle.rows.specs.Code.{reduces_are}
use Rattle.tree.proofs.Laws.{rows-rise, row-readable, read-leads}
use Rattle.garden.specs.Code.{NextAt}
use Rattle.garden.proofs.Copying.{copying-start, copying-none, copying-end, copying-more, copying-refused}
use Rattle.garden.proofs.copy.clone_with_reduce_vec.Goals as goal

pub loop-place-init : goal.loop-place-init
loop-place-init c =
    copying-start c.args.room c.args.n.0 c.args.m.0 (reduces_are c.args.list) c.args.start c.args.edges.now c.requires.0

pub next_row-requires : goal.next_row-requires
next_row-requires c =
    let l = c.loop-place in
    rows-rise c.args.room l.c l.edges l.invariant.rowed

pub returns-in_default : goal.returns-in_default
returns-in_default c =
    let l = c.loop-place in
    (copying-none c.args.room c.args.n.0 c.args.m.0 (reduces_are c.args.list) c.args.start c.args.edges.now l.c l.edges l.place l.invariant (rw c.in_default.is at c.next_row.ensures), l.invariant.stood)

pub read_row-e-requires : goal.read_row-e-requires
read_row-e-requires c =
    let l = c.loop-place in
    let i = c.in-Some.at in
    let a : NextAt l.c c.args.n.0 c.args.start.edges l.place l.edges i = rw c.in-Some.is at c.next_row.ensures in
    row-readable c.args.room l.c l.edges i l.invariant.rowed a.within

pub copy_with-requires : goal.copy_with-requires
copy_with-requires c =
    let l = c.loop-place in
    let i = c.in-Some.at in
    let a : NextAt l.c c.args.n.0 c.args.start.edges l.place l.edges i = rw c.in-Some.is at c.next_row.ensures in
    let e = c.read_row-e in
    (l.invariant.rowed, c.requires.1, read-leads c.args.room l.c l.edges i e.result l.invariant.rowed a.within e.ensures)

pub returns-in_err-c : goal.returns-in_err-c
returns-in_err-c c =
    let l = c.loop-place in
    let i = c.in-Some.at in
    let a : NextAt l.c c.args.n.0 c.args.start.edges l.place l.edges i = rw c.in-Some.is at c.next_row.ensures in
    let e = c.read_row-e in
    let p = err_from_is_err_and c.from_residual.result c.from_residual.ensures.1 in
    rw (p.1, p.2)
    (copying-refused c.args.room c.args.n.0 c.args.m.0 (reduces_are c.args.list) c.args.start c.args.edges.now l.c l.edges l.place l.invariant i a e.result e.ensures c.copy_with.result c.copy_with.new.edges c.copy_with.ensures.0 _ c.in_err-c.was, tt)

pub loop-place-preserved : goal.loop-place-preserved
loop-place-preserved c =
    let l = c.loop-place in
    let i = c.in-Some.at in
    let a : NextAt l.c c.args.n.0 c.args.start.edges l.place l.edges i = rw c.in-Some.is at c.next_row.ensures in
    let e = c.read_row-e in
    copying-more c.args.room c.args.n.0 c.args.m.0 (reduces_are c.args.list) c.args.start c.args.edges.now l.c l.edges l.place l.invariant i a e.result e.ensures c.copy_with.result c.copy_with.new.edges c.copy_with.ensures.0 c.copy_with.ensures.1 _ c.in_ok-c.was c.copy_with.auto.edges

pub returns : goal.returns
returns c =
    let l = c.loop-place in
    (copying-end c.args.room c.args.n.0 c.args.m.0 (reduces_are c.args.list) c.args.start c.args.edges.now l.c l.edges l.place l.invariant c.loop-place-test.false, l.invariant.stood)
