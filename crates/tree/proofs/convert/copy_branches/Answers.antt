use mathlib.Core.Path.{◌≡◌}
use Prim.Native.Nat.{ℕ, ◌<◌}
use native.Mathlib.Omega.{arith}
use Rattle.std.proofs.lemmas.Result.{err_from_is_err_and}
use Rattle.tree.proofs.Converting.{copying-start, row_inside, copying-more, copying-refused, copying-end}
use Rattle.tree.proofs.Laws.{rows-rise, row-readable, read-leads}
use Rattle.tree.proofs.convert.copy_branches.Goals as goal

-- the counted rows are those that the definition goes over
some_left : {k end many : ℕ} → k < end → end ≡ many → k < many
some_left h e = omega arith

pub rows_of-end-requires : goal.rows_of-end-requires
rows_of-end-requires c =
    (rows-rise c.args.room c.args.start c.args.edges.now c.requires.0, c.requires.2)

pub loop-k-init : goal.loop-k-init
loop-k-init c =
    copying-start c.args.room c.args.rule.0 c.args.n.0 c.args.m.0 c.args.start c.args.edges.now c.requires.0

pub first_row-requires : goal.first_row-requires
first_row-requires c =
    let l = c.loop-k in
    rows-rise c.args.room l.c l.edges l.invariant.rowed

pub overflow_add-row : goal.overflow_add-row
overflow_add-row c =
    let l = c.loop-k in
    let left = some_left c.loop-k-test.true c.rows_of-end.ensures in
    let p = c.first_row in
    record { fits = omega (arith, row_inside c.args.room c.args.rule.0 c.args.n.0 c.args.m.0 c.args.start c.args.edges.now l.c l.edges l.k l.invariant left p.result p.ensures, l.invariant.rowed.within, l.invariant.rowed.fits, l.invariant.kept) }

pub read_row-e-requires : goal.read_row-e-requires
read_row-e-requires c =
    let l = c.loop-k in
    let left = some_left c.loop-k-test.true c.rows_of-end.ensures in
    let p = c.first_row in
    row-readable c.args.room l.c l.edges _ l.invariant.rowed (row_inside c.args.room c.args.rule.0 c.args.n.0 c.args.m.0 c.args.start c.args.edges.now l.c l.edges l.k l.invariant left p.result p.ensures)

pub copy_row-requires : goal.copy_row-requires
copy_row-requires c =
    let l = c.loop-k in
    let left = some_left c.loop-k-test.true c.rows_of-end.ensures in
    let p = c.first_row in
    let e = c.read_row-e in
    (l.invariant.rowed, read-leads c.args.room l.c l.edges _ e.result l.invariant.rowed (row_inside c.args.room c.args.rule.0 c.args.n.0 c.args.m.0 c.args.start c.args.edges.now l.c l.edges l.k l.invariant left p.result p.ensures) e.ensures)

pub returns-in_err-c : goal.returns-in_err-c
returns-in_err-c c =
    let l = c.loop-k in
    let left = some_left c.loop-k-test.true c.rows_of-end.ensures in
    let p = c.first_row in
    let e = c.read_row-e in
    let err = err_from_is_err_and c.from_residual.result c.from_residual.ensures.1 in
    rw (err.1, err.2)
    (λ ns. copying-refused c.args.room c.args.rule.0 c.args.n.0 c.args.m.0 c.args.start c.args.edges.now l.c l.edges l.k l.invariant left p.result p.ensures e.result e.ensures c.copy_row.result c.copy_row.new.edges c.copy_row.ensures _ c.in_err-c.was ns)

pub loop-k-preserved : goal.loop-k-preserved
loop-k-preserved c =
    let l = c.loop-k in
    let left = some_left c.loop-k-test.true c.rows_of-end.ensures in
    let p = c.first_row in
    let e = c.read_row-e in
    copying-more c.args.room c.args.rule.0 c.args.n.0 c.args.m.0 c.args.start c.args.edges.now l.c l.edges l.k l.invariant left p.result p.ensures e.result e.ensures c.copy_row.result c.copy_row.new.edges c.copy_row.ensures _ c.requires.1 c.in_ok-c.was
    c.copy_row.auto.edges

pub returns : goal.returns
returns c =
    let l = c.loop-k in
    copying-end c.args.room c.args.rule.0 c.args.n.0 c.args.m.0 c.args.start c.args.edges.now l.c l.edges l.k l.invariant (omega (arith, c.loop-k-test.false, c.rows_of-end.ensures))
