use lib.ListN.{length-map}
use Prim.Native.Nat.{◌+◌, ◌-◌}
use mathlib.Core.Path.{◌≡◌, refl, sym, ap}
use mathlib.Core.List.{List}
use native.Mathlib.Omega.{arith}
use borrow.Author.Rules.{rules}
use lib.ListN.{length-set}
use Rattle.formula.specs.Tail.{Entry}
use Rattle.formula.specs.TailCode.{entry_is, entries_of}
use Rattle.formula.proofs.Weaving.{entry_at, first_place, first-none, woven-none, place-le, woven-more, woven-all}
use Rattle.formula.proofs.tail.weave.Goals as goal

pub loop-last-init : goal.loop-last-init
loop-last-init c =
    let es = entries_of c.args.entries.now in
    let h = length-map c.args.entries.now entry_is in
    (omega arith, omega arith, refl, first-none es _ c.args.len (omega (arith, h)), woven-none c.args.list.now es c.args.len _ c.requires.1 c.requires.0 (omega (arith, h)))

pub move_up-requires : goal.move_up-requires
move_up-requires c =
    let l = c.loop-last in
    let d = entry_at c.args.entries.now (l.last - 1) l.last (record { place = 0; rule = record { 0 = 0 } }) (omega arith) (omega arith) in
    let before = place-le c.args.list.now (entries_of c.args.entries.now) c.args.len _ c.requires.1 c.requires.0 l.end l.last (l.last - 1) _ _ (omega arith) d l.invariant.3 in
    (before, omega (arith, l.invariant, c.requires.0))

pub bounds-list-place : goal.bounds-list-place
bounds-list-place c =
    let l = c.loop-last in
    let d = entry_at c.args.entries.now (l.last - 1) l.last (record { place = 0; rule = record { 0 = 0 } }) (omega arith) (omega arith) in
    let before = place-le c.args.list.now (entries_of c.args.entries.now) c.args.len _ c.requires.1 c.requires.0 l.end l.last (l.last - 1) _ _ (omega arith) d l.invariant.3 in
    omega (arith, c.move_up.auto.s, l.invariant, c.requires.0, before)

pub loop-last-preserved : goal.loop-last-preserved
loop-last-preserved c =
    let l = c.loop-last in
    let es = entries_of c.args.entries.now in
    let by : l.last - 1 + 1 ≡ l.last = omega arith in
    let d = entry_at c.args.entries.now (l.last - 1) l.last (record { place = 0; rule = record { 0 = 0 } }) (omega arith) (omega arith) in
    let before = place-le c.args.list.now es c.args.len _ c.requires.1 c.requires.0 l.end l.last (l.last - 1) _ _ (omega arith) d l.invariant.3 in (
      omega (arith, l.invariant.0),
      omega (arith, before, l.invariant.1),
      simp length-set (search rules),
      sym (ap (λ (x : List Entry). first_place x c.args.len) d),
      rw (c.move_up.ensures, by)
          (woven-more c.args.list.now es c.args.len _ c.requires.1 c.requires.0 l.end l.last (l.last - 1) _ _ (omega arith) d l.invariant.3 l.list l.invariant.4 l.invariant.0),
    )

pub returns : goal.returns
returns c =
    let l = c.loop-last in
    let z : l.last ≡ 0 = omega arith in
    rw (l.invariant.4, z) (woven-all c.args.list.now (entries_of c.args.entries.now) c.args.len _ c.requires.1 c.requires.0 l.end (rw z at l.invariant.3))
