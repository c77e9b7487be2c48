-- Laws of the whole.
use mathlib.Core.Path.{◌≡◌, refl, sym, ap, ◌∙◌}
use mathlib.Core.List.{List}
use Prim.Native.Nat.{ℕ, ◌*◌, ◌<◌}
use native.Mathlib.Omega.{arith}
use lib.ListN.{take, set, length-set}
use lib.Seq.{take-suc-set}
use borrow.Author.Tests.{lt-ltb, le-ltb}
use Rattle.words.specs.Limits.{row_width}
use Rattle.words.specs.Outcome.{Res, bind, when}
use Rattle.words.specs.Numbers.{Fault}
use Rattle.rules.specs.Rules.{Rule}
use Rattle.rows.specs.Rows.{rows_from, edges_from, edge_words, rising}
use Rattle.rows.proofs.Theorems.Put.{edges-cut, cleared-front}
use Rattle.tree.specs.Grow.{Grown, place_rules, root_alone, plant}
use Rattle.tree.specs.Code.{Grew, room_of, edges_in, grown_of, Rowed, Stands, StillStands, Meets, Ready, Finishes, Within, Grows}
use Rattle.tree.proofs.Theorems.Counted.{nodes-count}
use Rattle.tree.specs.declared.Counts.{Counts}
use Rattle.tree.specs.declared.Room as lent
use Rattle.tree.specs.declared.Fault.TheVariants as code
use Rattle.std.specs.Prelude.{Ok, Err}
use Rattle.tree.proofs.Laws.{rows-count}

abbrev pub root_counts : Counts
root_counts = record { nodes = 1; edges = 0 }

module _ (z : lent.Room) (R : List Rule) (ns es : List ℕ) (w : Within z ns es) where
  pub no-root : z.nodes ≡ 0 → Meets z (plant (room_of z) R) (Err code.NoNode) ns es
  unfolding plant bind when
  no-root h = record { answer = rw (le-ltb 0 z.nodes (omega arith)); stands = tt }

  module _ (h : 0 < z.nodes) where
    pub root_stands : Stands z root_counts (set ns 0 0) es
    unfolding edges_in rows_from edges_from rising
    root_stands = record {
      root = omega arith;
      within = omega arith;
      fits = simp length-set w.nodes;
      few = w.few;
      rowed = record { within = omega arith; fits = w.edges; words = tt; aged = tt; leads = tt; order = refl };
    }

    root-alone : grown_of root_counts (set ns 0 0) es ≡ root_alone
    unfolding edges_in rows_from edges_from
    root-alone = rw (take-suc-set ns 0 0 (omega (arith, w.nodes)))

    plant-is : place_rules (room_of z) 1 R (grown_of root_counts (set ns 0 0) es) ≡ plant (room_of z) R
    unfolding plant bind when
    plant-is = rw (lt-ltb 0 z.nodes h, root-alone)

    pub planted : (r : Grew) (ns' es' : List ℕ) → Meets z (place_rules (room_of z) 1 R (grown_of root_counts (set ns 0 0) es)) r ns' es' → Meets z (plant (room_of z) R) r ns' es'
    planted r ns' es' m = record { answer = m.answer ∙ plant-is; stands = m.stands }

-- ---- the end of a build

-- rows that are in order can be finished
pub rows-ready : (z : lent.Room) (c : Counts) (es : List ℕ) → Rowed z c es → Ready (Ok c) es
rows-ready z c es r = (omega (arith, r.within, r.fits), r.words)

pub stands-ready : (z : lent.Room) (r : Grew) (ns es : List ℕ) → StillStands z r ns es → Ready r es
stands-ready z (Ok c) ns es s = rows-ready z c es s.rowed
stands-ready z (Err y) ns es s = tt

-- and then the words before the counts are the tree's own
pub finished-words : (z : lent.Room) (c : Counts) (es es' : List ℕ) → Rowed z c es → Finishes (Ok c) es es' → take (row_width * c.edges) es' ≡ edge_words (edges_in c.edges es)
unfolding edges_in
finished-words z c es es' r f = rw f (cleared-front es c.edges ∙ ap edge_words (sym (edges-cut c.edges es (omega (arith, r.within, r.fits)))))

pub finished-grows : (z : lent.Room) (x : Res Fault Grown) (r : Grew) (ns es es' : List ℕ) → Meets z x r ns es → Finishes r es es' → Grows z x r ns es'
finished-grows z x (Err y) ns es es' m f = sym m.answer
finished-grows z x (Ok c) ns es es' m f =
    let s : Stands z c ns es = m.stands in
    record {
      tree = grown_of c ns es;
      grows = sym m.answer;
      node-count = sym (nodes-count z c ns es s);
      edge_count = sym (rows-count z c es s.rowed);
      nodes-in = s.within;
      edges-in = s.rowed.within;
      nodes = refl;
      edges = finished-words z c es es' s.rowed f;
    }
