use Rattle.std.proofs.Common.{arith, refl}
use Rattle.std.proofs.lemmas.Result.{err_from_is_err_and}
use Rattle.garden.proofs.Carried.{listed, unlisted}
use Rattle.garden.proofs.Taking.{leaf-unlisted, leaf-free, leads-in, copy-refused, copy-unlisted, rows-copied}
use Rattle.garden.proofs.row.take_leaf.Goals as goal

pub returns-in_err-reduces : goal.returns-in_err-reduces
returns-in_err-reduces c =
    let p = err_from_is_err_and c.from_residual.result c.from_residual.ensures.1 in
    let x = c.leaf_reduces-listed in
    rw (p.1, p.2)
    (leaf-unlisted c.args.room c.args.c c.args.nodes.now c.args.edges.now c.args.t.0 c.args.clone c.args.e c.requires.4 _ refl c.in_default.ensures _ (unlisted _ x.result x.ensures _ c.in_err-reduces.was), tt)

pub returns-in_default : goal.returns-in_default
returns-in_default c =
    let x = c.leaf_reduces-listed in (
      leaf-free c.args.room c.args.c c.args.nodes.now c.args.edges.now c.args.t.0 c.args.clone c.args.e c.requires.4 _ refl c.in_default.ensures c.in_ok-reduces.reduces (listed _ x.result x.ensures c.in_ok-reduces.reduces c.in_ok-reduces.was)
          c.put_row.result c.put_row.new.edges (c.put_row.ensures.0 c.args.nodes.now),
      c.put_row.ensures.1,
    )

pub apart-requires : goal.apart-requires
apart-requires c =
    let z = leads-in c.args.room c.args.c c.args.edges.now c.requires.0 c.in-Some.row c.in-Some.ensures.within c.end_of-z.result c.end_of-z.ensures in
    (omega (arith, c.requires.2, c.requires.3), omega (arith, c.requires.2, z))

pub returns-then-not-apart : goal.returns-then-not-apart
returns-then-not-apart c =
    let z = leads-in c.args.room c.args.c c.args.edges.now c.requires.0 c.in-Some.row c.in-Some.ensures.within c.end_of-z.result c.end_of-z.ensures in (
      copy-refused c.args.room c.args.c c.args.nodes.now c.args.edges.now c.args.t.0 c.args.clone c.args.e c.requires.4 _ refl c.in-Some.row c.in-Some.ensures c.end_of-z.result c.end_of-z.ensures c.requires.3 z
          c.apart.result c.apart.ensures c.if-not-apart.true,
      tt,
    )

pub returns-in_err-listed : goal.returns-in_err-listed
returns-in_err-listed c =
    let z = leads-in c.args.room c.args.c c.args.edges.now c.requires.0 c.in-Some.row c.in-Some.ensures.within c.end_of-z.result c.end_of-z.ensures in
    let x = c.leaf_reduces-listed in
    let p = err_from_is_err_and c.from_residual-in_err-listed.result c.from_residual-in_err-listed.ensures.1 in
    rw (p.1, p.2) (
      copy-unlisted c.args.room c.args.c c.args.nodes.now c.args.edges.now c.args.t.0 c.args.clone c.args.e c.requires.4 _ refl c.in-Some.row c.in-Some.ensures c.end_of-z.result c.end_of-z.ensures c.requires.3 z
          c.apart.result c.apart.ensures c.if-not-apart.false _ (unlisted _ x.result x.ensures _ c.in_err-listed.was),
      tt,
    )

pub returns : goal.returns
returns c =
    let z = leads-in c.args.room c.args.c c.args.edges.now c.requires.0 c.in-Some.row c.in-Some.ensures.within c.end_of-z.result c.end_of-z.ensures in
    let x = c.leaf_reduces-listed in
    let r = c.clone_with_reduce_vec in (
      rows-copied c.args.room c.args.c c.args.nodes.now c.args.edges.now c.args.t.0 c.args.clone c.args.e c.requires.4 _ refl c.in-Some.row c.in-Some.ensures c.end_of-z.result c.end_of-z.ensures c.requires.3 z
          c.apart.result c.apart.ensures c.if-not-apart.false c.in_ok-listed.field-0 (listed _ x.result x.ensures c.in_ok-listed.field-0 c.in_ok-listed.was) r.result r.new.edges (r.ensures.0 c.args.nodes.now),
      r.ensures.1,
    )
