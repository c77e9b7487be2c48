-- The nodes that are counted while the tree grows: code reads them in the slice that it was lent.
use Rattle.std.specs.Prelude.{◌≡◌, ◌&&◌, not, List, ℕ, ◌<◌, eqb, length, take, get_or}
use Rattle.std.proofs.Common.{arith, length-take-le, get_or-take}
use Rattle.tree.specs.Grow.{branch_at, apart}
use Rattle.tree.specs.Code.{grown_of, Stands}
use Rattle.tree.specs.declared.Counts.{Counts}
use Rattle.tree.specs.declared.Room as lent

-- there are as many
pub nodes-count : (z : lent.Room) (c : Counts) (ns es : List ℕ) → Stands z c ns es → length (take c.nodes ns) ≡ c.nodes
nodes-count z c ns es s = length-take-le c.nodes ns (omega (arith, s.within, s.fits))

module _ (c : Counts) (ns es : List ℕ) where
  -- whether one of them is a branch, and whether two are different ones
  pub branch-is : (n : ℕ) → n < c.nodes → branch_at (grown_of c ns es) n ≡ eqb (get_or ns n 0) 0
  unfolding branch_at
  branch-is n h = rw (get_or-take c.nodes ns n 0 h)

  pub apart-is : (n m : ℕ) → n < c.nodes → m < c.nodes → apart (grown_of c ns es) n m ≡ not (eqb n m) && eqb (get_or ns n 0) 0 && eqb (get_or ns m 0) 0
  unfolding apart
  apart-is n m h k = rw (branch-is n h, branch-is m k)
