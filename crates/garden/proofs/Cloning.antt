-- Laws of clones: the rows that stood stay, and a frame stands for a clone that has begun.
use mathlib.Core.Path.{◌≡◌, refl, sym, ap, ◌∙◌}
use mathlib.Core.List.{List, [], ◌∷◌, map}
use mathlib.Core.Option as math
use Prim.Native.Nat.{ℕ, zero, suc, ◌+◌, ◌*◌, ◌-◌, ◌/◌, ◌≤◌, ◌<◌}
use native.Mathlib.Numerals.{add-one}
use native.Mathlib.Omega.{arith}
use lib.ListN.{length, take, length-map}
use lib.Seq.{length-take-le, take_at, drop_at}
use borrow.Author.Tests.{lt-ltb, le-ltb}
use Rattle.words.specs.Limits.{most_edges, most_taken, row_width, most_reduces}
use Rattle.words.specs.Outcome.{Res, ok, no, bind, when}
use Rattle.words.specs.Numbers.{Fault, many_rows}
use Rattle.rules.proofs.Theorems.Every.{All, all_map}
use Rattle.rows.specs.Rows.{Edge, edge_of, rows_from, row_words}
use Rattle.rows.specs.Code.{reduces_are, edge_is, Holds, row_at, written}
use Rattle.rows.proofs.Theorems.Words.{row-length, row_back}
use Rattle.rows.proofs.Theorems.Lookup.{same_rows}
use Rattle.rows.proofs.Theorems.Put.{written-length}
use Rattle.rows.specs.declared.Edge as held
use Rattle.tree.specs.Grow.{Grown}
use Rattle.tree.specs.Code.{Grew, room_of, fault_of, grown_of, Stands, Meets}
use Rattle.tree.specs.declared.Counts.{Counts}
use Rattle.tree.specs.declared.Room as lent
use Rattle.tree.specs.declared.Fault as why
use Rattle.tree.specs.declared.Fault.TheVariants as code
use Rattle.std.specs.Prelude.{Option, Some, None, Ok, Err}
use Rattle.tree.proofs.Laws.{row-readable, read-leads}
use Rattle.garden.specs.Garden.{Bounds, Begun, Taken, take_up, begin, clones, clone_branches}
use Rattle.garden.specs.Code.{Turned, rest_from, NextAt, Nexts, Kept, cloning_of, next_of, Took, taken_of, NextIn, Takes, TakesKeeping, frame_is, begun_of, frames_in, begun_in, FrameOk, bounds_of, Staged, stage_of, turned_of, turns_left, Turns, first_frame, Begins, BeginsNext, taking, AfterRow}
use Rattle.garden.specs.declared.row.Taken as row
use Rattle.garden.specs.declared.row.Cloning.{Cloning}
use Rattle.garden.specs.declared.clones.Frame as held-frame
use Rattle.garden.specs.declared.clones.Stage.{Stage}
use Rattle.garden.proofs.Carried.{carried-few}
use Rattle.garden.proofs.Copying.{stood-kept, rest_all}

-- ---- the rows that stood

module _ (c c' : Counts) (es es' : List ℕ) (x : Kept c es c' es') where
  -- what the frames say is the same
  pub frames-stay : (l : List Edge) → All (FrameOk c) l → map (begun_of (rows_from c'.edges es')) l ≡ map (begun_of (rows_from c.edges es)) l
  frames-stay [] a = refl
  frames-stay (f ∷ l) a = rw (stood-kept c es c' es' x f.from f.kind f.sym a.0.stood-in, frames-stay l a.1)

  pub frames-still : (l : List Edge) → All (FrameOk c) l → All (FrameOk c') l
  frames-still l a = all_map (FrameOk c) (FrameOk c')
      (λ f o. record { to_in = omega (arith, o.to_in, x.nodes); stood-in = omega (arith, o.stood-in, x.edges); few = o.few }) l a

-- ---- frames, written and read

module _ (fs : List ℕ) (i : ℕ) (e : Edge) (h : i < length fs / row_width) where
  front : length (take (row_width * i) fs) ≡ row_width * i
  front = length-take-le (16 * i) fs (omega arith)

  frames-below : (k : ℕ) → k ≤ i → frames_in k (written fs i e) ≡ frames_in k fs
  unfolding frames_in
  frames-below zero l = refl
  frames-below (suc k) l =
      rw (same_rows (written fs i e) fs i k (take_at (take (16 * i) fs) _ (16 * i) front) (omega arith), frames-below k (omega arith))

  row_written : row_at (written fs i e) i ≡ row_words e
  row_written = ap (take 16) (drop_at (take (16 * i) fs) _ (16 * i) front) ∙ take_at (row_words e) _ 16 (row-length e)

  pub frame-written : length e.reduces ≤ most_reduces → frames_in (i + 1) (written fs i e) ≡ e ∷ frames_in i fs
  unfolding frames_in
  frame-written few = rw (add-one, row_written, row_back e few, frames-below i (omega arith))

-- the frame on top
pub frame-on-top : (fs : List ℕ) (d : ℕ) → 0 < d → frames_in d fs ≡ edge_of (row_at fs (d - 1)) ∷ frames_in (d - 1) fs
unfolding frames_in
frame-on-top fs zero h = absurd (omega arith)
frame-on-top fs (suc d) h = let e : suc d - 1 ≡ d = omega arith in rw e

frames-count : (d : ℕ) (fs : List ℕ) → length (frames_in d fs) ≡ d
unfolding frames_in
frames-count zero fs = refl
frames-count (suc d) fs = ap suc (frames-count d fs)

-- ---- clones, by the one on top

module _ (b : Bounds) (t k : ℕ) (g : Grown) where
  pub none_left : (cs : List Begun) → cs ≡ [] → clones b t k cs g ≡ ok g
  unfolding clones
  none_left cs e = rw e (by k)
    where
      by : (k : ℕ) → clones b t k [] g ≡ ok g
      by zero = refl
      by (suc k) = refl

  module _ (c : Begun) (cs : List Begun) where
    pub clone-done : c.rows ≡ [] → clones b t k (c ∷ cs) g ≡ clones b t k cs g
    unfolding clones
    clone-done e = by k
      where
        by : (k : ℕ) → clones b t k (c ∷ cs) g ≡ clones b t k cs g
        by zero = rw e
        by (suc k) = rw e

    module _ (e : Edge) (es : List Edge) (h : c.rows ≡ e ∷ es) where
      pub clone-many : k ≡ 0 → clones b t k (c ∷ cs) g ≡ no many_rows
      unfolding clones
      clone-many z = rw (z, h)

      -- what comes of a row
      abbrev pub after_taken : ℕ → Taken → Res Fault Grown
      after_taken j u = bind (begin b.frames u.grown u.next (record { rows = es; to = c.to; stored = c.stored } ∷ cs)) λ cs. clones b t j cs u.grown

      pub clone-step : (j : ℕ) → k ≡ suc j → clones b t k (c ∷ cs) g ≡ bind (take_up b.room t c.to c.stored g e) (after_taken j)
      unfolding clones
      clone-step j q = rw (q, h)

-- ---- a clone begins

-- a stage whose counts stand, and another clone
module _ (z : lent.Room) (b : Bounds) (t : ℕ) (s : Stage) (e : Cloning) (ns es fs gs : List ℕ) (o : Staged z t s ns es fs) (wide : b.frames ≡ length fs / row_width) where
  abbrev pub begun_then : Res Fault Grown
  begun_then = bind (begin b.frames (grown_of s.counts ns es) (math.some (cloning_of e)) (begun_in (rows_from s.counts.edges es) s.depth fs)) λ cs. clones b t s.left cs (grown_of s.counts ns es)

  many : length (begun_in (rows_from s.counts.edges es) s.depth fs) ≡ s.depth
  many = rw length-map (frames-count s.depth fs)

  pub begin-refused : (y : why.Fault) → Begins s e (Err y) fs gs → no (fault_of y) ≡ begun_then
  unfolding bind begin when
  begin-refused y h = rw (many, wide, le-ltb s.depth (length fs / 16) h.0, h.1)

  module _ (v : Stage) (h : Begins s e (Ok v) fs gs) (to : e.to.0 < s.counts.nodes) where
    new-frames : frames_in (s.depth + 1) gs ≡ first_frame s e ∷ frames_in s.depth fs
    new-frames = rw h.2 (frame-written fs s.depth (first_frame s e) h.0 (carried-few e.stored))

    pub begin-goes-on : stage_of b t v ns es gs ≡ begun_then
    unfolding bind begin when
    begin-goes-on = rw (h.1, new-frames, rest_all z s.counts es o.stands.rowed e.from.0, many, wide, lt-ltb s.depth (length fs / 16) h.0)

    pub begin-staged : Staged z t v ns es gs
    begin-staged =
        let same = written-length fs s.depth (first_frame s e) h.0 in
        rw h.1 (record {
          stands = o.stands;
          shadow-in = o.shadow-in;
          few = o.few;
          depth-in = rw (h.2, same) (omega (arith, h.0));
          frames = rw new-frames (record { to_in = to; stood-in = omega arith; few = carried-few e.stored }, o.frames);
        })

-- ---- the clone on top takes up its next row

-- the frame, with so many rows taken up
abbrev pub moved_to : held-frame.Frame → ℕ → held-frame.Frame
moved_to f p = record { clone = f.clone; stood = f.stood; place = p }

-- a frame that is read is the one on top
module _ (z : lent.Room) (t : ℕ) (s : Stage) (f : held-frame.Frame) (ns es fs : List ℕ) (o : Staged z t s ns es fs) (deep : 0 < s.depth)
    (top : frame_is f ≡ edge_of (row_at fs (s.depth - 1))) where
  frames-are : frames_in s.depth fs ≡ frame_is f ∷ frames_in (s.depth - 1) fs
  frames-are = frame-on-top fs s.depth deep ∙ ap (λ (e : Edge). e ∷ frames_in (s.depth - 1) fs) (sym top)

  frames-ok : FrameOk s.counts (frame_is f) × All (FrameOk s.counts) (frames_in (s.depth - 1) fs)
  frames-ok = rw frames-are at o.frames

  -- it is done
  pub top-done : rest_from f.clone.from.0 f.stood f.place (rows_from s.counts.edges es) ≡ []
      → let b = bounds_of z (length fs) in
      Turns z b t (turns_left s) (stage_of b t s ns es fs) (Ok (record { counts = s.counts; depth = s.depth - 1; left = s.left })) ns es fs
  top-done e = record {
    answer = rw frames-are (sym (clone-done _ t s.left _ (begun_of (rows_from s.counts.edges es) (frame_is f)) _ e));
    staged = (
      record { stands = o.stands; shadow-in = o.shadow-in; few = o.few; depth-in = omega (arith, o.depth-in); frames = frames-ok.1 },
      omega arith,
    );
  }

  module _ (at : ℕ) (next : NextAt s.counts f.clone.from.0 f.stood f.place es at) where
    pub many-taken : s.left ≡ 0
        → let b = bounds_of z (length fs) in
        Turns z b t (turns_left s) (stage_of b t s ns es fs) (Err code.ManyRows) ns es fs
    many-taken e = record { answer = rw frames-are (sym (clone-many _ t s.left _ (begun_of (rows_from s.counts.edges es) (frame_is f)) _ _ _ next.rows e)); staged = tt }

    module _ (h : held.Edge) (reads : Holds h (edge_of (row_at es at))) (x : Took) (ns' es' : List ℕ)
        (w : Takes z (take_up (room_of z) t f.clone.to.0 (reduces_are f.clone.stored) (grown_of s.counts ns es) (edge_is h)) x ns' es')
        (v : TakesKeeping s.counts es x es') (left : 0 < s.left) where
      abbrev pub frames_after : List ℕ
      frames_after = written fs (s.depth - 1) (frame_is (moved_to f (f.place + 1)))

      abbrev rest_after : Taken → Res Fault Grown
      rest_after u = bind (begin (length fs / row_width) u.grown u.next (begun_of (rows_from s.counts.edges es) (frame_is (moved_to f (f.place + 1))) ∷ begun_in (rows_from s.counts.edges es) (s.depth - 1) fs))
          λ cs. clones (bounds_of z (length fs)) t (s.left - 1) cs u.grown

      stage_is : stage_of (bounds_of z (length fs)) t s ns es fs ≡ bind (taken_of x ns' es') rest_after
      stage_is = rw (frames-are, w.answer, reads.says) (clone-step _ t s.left _ (begun_of (rows_from s.counts.edges es) (frame_is f)) _ _ _ next.rows (s.left - 1) (omega arith))

      same_length : length frames_after ≡ length fs
      same_length = written-length fs (s.depth - 1) (frame_is (moved_to f (f.place + 1))) (omega (arith, o.depth-in))

      frames-after : frames_in s.depth frames_after ≡ frame_is (moved_to f (f.place + 1)) ∷ frames_in (s.depth - 1) fs
      frames-after =
          let one : s.depth - 1 + 1 ≡ s.depth = omega arith in
          rw one at (frame-written fs (s.depth - 1) (frame_is (moved_to f (f.place + 1))) (omega (arith, o.depth-in)) (carried-few f.clone.stored))

      still-ok : FrameOk s.counts (frame_is (moved_to f (f.place + 1))) × All (FrameOk s.counts) (frames_in (s.depth - 1) fs)
      still-ok = (record { to_in = frames-ok.0.to_in; stood-in = frames-ok.0.stood-in; few = frames-ok.0.few }, frames-ok.1)

      -- it is refused
      pub row-refuses : (y : why.Fault) → x ≡ Err y → Turns z (bounds_of z (length fs)) t (turns_left s) (stage_of (bounds_of z (length fs)) t s ns es fs) (Err y) ns' es' frames_after
      unfolding bind
      row-refuses y q = record { answer = sym (stage_is ∙ rw q); staged = tt }

      module _ (u : row.Taken) (q : x ≡ Ok u) where
        abbrev c : Counts
        c = u.counts

        took : Takes z (take_up (room_of z) t f.clone.to.0 (reduces_are f.clone.stored) (grown_of s.counts ns es) (edge_is h)) (Ok u) ns' es'
        took = rw q at w

        more : Kept s.counts es c es'
        more = rw q at v

        begun-after : begun_in (rows_from c.edges es') s.depth frames_after ≡ begun_of (rows_from s.counts.edges es) (frame_is (moved_to f (f.place + 1))) ∷ begun_in (rows_from s.counts.edges es) (s.depth - 1) fs
        begun-after = rw frames-after (frames-stay s.counts c es es' more (frame_is (moved_to f (f.place + 1)) ∷ frames_in (s.depth - 1) fs) still-ok)

        staged-after : Staged z t (taking s c) ns' es' frames_after
        staged-after = record {
          stands = took.stands.0;
          shadow-in = omega (arith, o.shadow-in, more.nodes);
          few = o.few;
          depth-in = rw same_length o.depth-in;
          frames = rw frames-after (frames-still s.counts c es es' more (frame_is (moved_to f (f.place + 1)) ∷ frames_in (s.depth - 1) fs) still-ok);
        }

        goes_on : stage_of (bounds_of z (length fs)) t s ns es fs
            ≡ bind (begin (length fs / row_width) (grown_of c ns' es') (next_of u.next) (begun_in (rows_from c.edges es') s.depth frames_after)) (λ cs. clones (bounds_of z (length fs)) t (s.left - 1) cs (grown_of c ns' es'))
        unfolding bind
        goes_on = stage_is ∙ rw (q, begun-after)

        -- the count of edges fits a frame
        pub few-edges : c.edges ≤ most_edges
        few-edges = omega (arith, staged-after.stands.rowed.within, o.few)

        by-next : (k : Option Cloning) → u.next ≡ k → NextIn c.nodes k → (r : Turned) (gs : List ℕ) → BeginsNext (taking s c) k r frames_after gs
            → Turns z (bounds_of z (length fs)) t (turns_left s) (stage_of (bounds_of z (length fs)) t s ns es fs) r ns' es' gs
        unfolding bind begin
        by-next None p i r gs k = rw (k.0, k.1) (record { answer = sym (goes_on ∙ rw p); staged = (staged-after, omega arith) })
        by-next (Some e) p i (Err y) gs k =
            record {
              answer = begin-refused z (bounds_of z (length fs)) t (taking s c) e ns' es' frames_after gs staged-after (rw same_length refl) y k ∙ sym (goes_on ∙ rw p);
              staged = tt;
            }
        by-next (Some e) p i (Ok v) gs k =
            let wide : length fs / row_width ≡ length frames_after / row_width = rw same_length refl in
            let b = bounds_of z (length fs) in
            record {
              answer = begin-goes-on z b t (taking s c) e ns' es' frames_after gs staged-after wide v k i ∙ sym (goes_on ∙ rw p);
              staged = (begin-staged z b t (taking s c) e ns' es' frames_after gs staged-after wide v k i, rw k.1 (omega arith));
            }

        pub row-turns : (r : Turned) (gs : List ℕ) → AfterRow s u r frames_after gs
            → Turns z (bounds_of z (length fs)) t (turns_left s) (stage_of (bounds_of z (length fs)) t s ns es fs) r ns' es' gs
        row-turns = by-next u.next refl took.stands.1

-- ---- what the calls of a turn ask

module _ (z : lent.Room) (t : ℕ) (s : Stage) (ns es fs : List ℕ) (o : Staged z t s ns es fs) (deep : 0 < s.depth) where
  pub top-readable : (s.depth - 1 < length fs / row_width) × (length (edge_of (row_at fs (s.depth - 1))).reduces ≤ most_reduces)
  top-readable =
      let a : FrameOk s.counts (edge_of (row_at fs (s.depth - 1))) × All (FrameOk s.counts) (frames_in (s.depth - 1) fs) = rw (frame-on-top fs s.depth deep) at o.frames in
      (omega (arith, o.depth-in), a.0.few)

  module _ (f : held-frame.Frame) (top : frame_is f ≡ edge_of (row_at fs (s.depth - 1))) where
    stood-low : f.stood ≤ most_edges
    stood-low = omega (arith, (frames-ok z t s f ns es fs o deep top).0.stood-in, o.stands.rowed.within, o.few)

    module _ (at : ℕ) (x : NextAt s.counts f.clone.from.0 f.stood f.place es at) where
      pub frame-fits : (s.depth - 1 < length fs / row_width) × (f.stood ≤ most_edges) × (f.place + 1 ≤ most_edges)
      frame-fits = (omega (arith, o.depth-in), stood-low, omega (arith, x.after, x.within, o.stands.rowed.within, o.few))

      pub next-readable : (at < length es / row_width) × (length (edge_of (row_at es at)).reduces ≤ most_reduces)
      next-readable = row-readable z s.counts es at o.stands.rowed x.within

      pub row_fits : (h : held.Edge) → Holds h (edge_of (row_at es at))
          → Stands z s.counts ns es × (z.edges ≤ most_edges) × (t < s.counts.nodes) × (f.clone.to.0 < s.counts.nodes) × (h.to.0 < s.counts.nodes)
      row_fits h reads =
          (o.stands, o.few, o.shadow-in, (frames-ok z t s f ns es fs o deep top).0.to_in, read-leads z s.counts es at h o.stands.rowed x.within reads)

-- what a search for the next row says
module _ (c : Counts) (n k p : ℕ) (ws : List ℕ) (r : Option ℕ) (h : Nexts c n k p ws r) where
  pub a-row : (i : ℕ) → r ≡ Some i → NextAt c n k p ws i
  a-row i e = rw e at h

  pub no_row : r ≡ None → rest_from n k p (rows_from c.edges ws) ≡ []
  no_row e = rw e at h

-- ---- turn after turn

-- what is still to do comes to what there was to do
pub record Turning (z : lent.Room) (t : ℕ) (s₀ : Stage) (ns₀ es₀ fs₀ : List ℕ) (s : Stage) (ns es fs : List ℕ) : Type 0 where
  pub staged : Staged z t s ns es fs
  pub nodes-kept : length ns ≡ length ns₀
  pub edges-kept : length es ≡ length es₀
  pub frames-kept : length fs ≡ length fs₀
  pub same : stage_of (bounds_of z (length fs₀)) t s ns es fs ≡ stage_of (bounds_of z (length fs₀)) t s₀ ns₀ es₀ fs₀

pub turning-start : (z : lent.Room) (t : ℕ) (s : Stage) (ns es fs : List ℕ) → Staged z t s ns es fs → Turning z t s ns es fs s ns es fs
turning-start z t s ns es fs o = record { staged = o; nodes-kept = refl; edges-kept = refl; frames-kept = refl; same = refl }

module _ (z : lent.Room) (t : ℕ) (s₀ : Stage) (ns₀ es₀ fs₀ : List ℕ) (s : Stage) (ns es fs : List ℕ) (l : Turning z t s₀ ns₀ es₀ fs₀ s ns es fs) where
  abbrev whole : Res Fault Grown
  whole = stage_of (bounds_of z (length fs₀)) t s₀ ns₀ es₀ fs₀

  module _ (r : Turned) (ns' es' fs' : List ℕ)
      (k : Turns z (bounds_of z (length fs)) t (turns_left s) (stage_of (bounds_of z (length fs)) t s ns es fs) r ns' es' fs') where
    answers : turned_of (bounds_of z (length fs₀)) t r ns' es' fs' ≡ whole
    answers = rw l.frames-kept at k.answer ∙ l.same

    module _ (v : Stage) (q : r ≡ Ok v) where
      goes : Staged z t v ns' es' fs' × (turns_left v < turns_left s)
      goes = rw q at k.staged

      pub turning-less : turns_left v < turns_left s
      turning-less = goes.1

      pub turning-more : length ns' ≡ length ns → length es' ≡ length es → length fs' ≡ length fs → Turning z t s₀ ns₀ es₀ fs₀ v ns' es' fs'
      turning-more a b c = record {
        staged = goes.0;
        nodes-kept = a ∙ l.nodes-kept;
        edges-kept = b ∙ l.edges-kept;
        frames-kept = c ∙ l.frames-kept;
        same = rw q at answers;
      }

    pub turning-refused : (y : why.Fault) → r ≡ Err y → Meets z whole (Err y) ns' es'
    turning-refused y q = record { answer = rw q at answers; stands = tt }

  pub turning-end : s.depth ≡ 0 → Meets z whole (Ok s.counts) ns es
  unfolding frames_in
  turning-end e = record {
    answer = sym (none_left (bounds_of z (length fs₀)) t s.left (grown_of s.counts ns es) (begun_in (rows_from s.counts.edges es) s.depth fs) (rw e)) ∙ l.same;
    stands = l.staged.stands;
  }

-- ---- the whole

-- no clone has begun
abbrev pub first_stage : Counts → Stage
first_stage c = record { counts = c; depth = 0; left = most_taken }

module _ (z : lent.Room) (c : Counts) (t : ℕ) (e : Cloning) (ns es fs gs : List ℕ) (stands : Stands z c ns es) (room : z.edges ≤ most_edges) (shadow : t < c.nodes) where
  first-staged : Staged z t (first_stage c) ns es fs
  unfolding frames_in
  first-staged = record { stands = stands; shadow-in = shadow; few = room; depth-in = omega arith; frames = tt }

  abbrev cloned : Res Fault Grown
  cloned = clone_branches (bounds_of z (length fs)) t (cloning_of e) (grown_of c ns es)

  cloned-is : begun_then z (bounds_of z (length fs)) t (first_stage c) e ns es fs gs first-staged refl ≡ cloned
  unfolding clone_branches frames_in
  cloned-is = refl

  module _ (r : Turned) (h : Begins (first_stage c) e r fs gs) where
    pub none-begun : (y : why.Fault) → r ≡ Err y → Meets z cloned (Err y) ns es
    none-begun y q = record {
      answer = begin-refused z (bounds_of z (length fs)) t (first_stage c) e ns es fs gs first-staged refl y (rw q at h) ∙ cloned-is;
      stands = tt;
    }

    module _ (v : Stage) (q : r ≡ Ok v) (to : e.to.0 < c.nodes) where
      begun : Begins (first_stage c) e (Ok v) fs gs
      begun = rw q at h

      pub begun-staged : Staged z t v ns es gs
      begun-staged = begin-staged z (bounds_of z (length fs)) t (first_stage c) e ns es fs gs first-staged refl v begun to

      pub all-cloned : (x : Grew) (ns' es' : List ℕ) → Meets z (stage_of (bounds_of z (length gs)) t v ns es gs) x ns' es' → Meets z cloned x ns' es'
      all-cloned x ns' es' m =
          let same : length gs ≡ length fs = rw begun.2 (written-length fs 0 (first_frame (first_stage c) e) begun.0) in
          record {
            answer = rw same at m.answer ∙ begin-goes-on z (bounds_of z (length fs)) t (first_stage c) e ns es fs gs first-staged refl v begun to ∙ cloned-is;
            stands = m.stands;
          }
