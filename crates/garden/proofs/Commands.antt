-- Laws of the commands: what their words say, and what comes of them in order.
use mathlib.Core.Path.{◌≡◌, refl, sym, ap, ◌∙◌}
use mathlib.Core.Bool.{Bool, true, false, ◌&&◌, ◌||◌}
use mathlib.Core.List.{List, [], ◌∷◌}
use Prim.Native.Nat.{ℕ, zero, suc, ◌+◌, ◌*◌, ◌≤◌, ◌<◌}
use native.Mathlib.Omega.{arith}
use lib.Dec.{eqb}
use lib.ListN.{length, get_or, take, drop, length-drop}
use lib.Seq.{drop-drop}
use borrow.Author.Tests.{lt-ltb, le-ltb, ne_eqb}
use Rattle.words.proofs.Theorems.Tests.{by-test}
use Rattle.words.specs.Outcome.{Res, bind, pick}
use Rattle.words.specs.Numbers.{Fault}
use Rattle.rules.specs.Rules.{Rule}
use Rattle.tree.specs.Grow.{Grown, plant, convert_all}
use Rattle.tree.specs.Code.{Grew, room_of, grown_of, Stands, Rows, Meets}
use Rattle.tree.specs.declared.Counts.{Counts}
use Rattle.tree.specs.declared.Room as lent
use Rattle.std.specs.Prelude.{◌==◌, Ok, Err, Some}
use Rattle.tree.specs.declared.Fault as why-of
use Rattle.tree.specs.declared.Fault.TheVariants as why
use Rattle.tree.proofs.Laws.{both-stand, on_then, refused-then}
use Rattle.garden.specs.Garden.{good_pairs, pairs_of, prefix_words, shadow_words, path_size, good_path, Command, conversions, path, bad, command_of, command_size, commands_of, the_commands, handle_common_prefixes, handle_command, handle_commands, is_conversions, asked, convert_last, tend, build}
use Rattle.std.specs.Borrow.{Bor}
use Rattle.garden.specs.Code.{Handled, bounds_of, command_is, CommandIn, Commands, Handles}
use Rattle.garden.specs.declared.Command as coded
use Rattle.garden.specs.declared.Command.TheVariants as command

-- ---- pairs

-- fewer than two words are pairs if there are none
pub pairs-left : (ws : List ℕ) → length ws < 2 → length ws == 0 ≡ good_pairs ws
unfolding good_pairs
pairs-left [] h = refl
pairs-left (k ∷ []) h = refl
pairs-left (k ∷ s ∷ ws) h = absurd (omega arith)

-- ---- one command

-- a path, by the tests of its words
module _ (ws : List ℕ) (one : get_or ws 0 0 ≡ 1) where
  bad-path : good_path ws ≡ false → bad ≡ command_of ws
  unfolding command_of
  bad-path h = rw (one, h)

  pub path-short : length ws < 3 → bad ≡ command_of ws
  unfolding good_path
  path-short h = bad-path (rw (lt-ltb (length ws) 3 h))

  module _ (three : 3 ≤ length ws) where
    pub path-cut : length (drop 3 ws) < 2 * get_or ws 1 0 + 2 * get_or ws 2 0 → bad ≡ command_of ws
    unfolding good_path
    path-cut h = bad-path (rw (le-ltb (length ws) 3 three, lt-ltb (length ws) (path_size ws) (omega (arith, h, length-drop 3 ws))))

    -- its words are there, and are split so
    module _ (fits : 2 * get_or ws 1 0 + 2 * get_or ws 2 0 ≤ length (drop 3 ws)) (prefix rest shadow : List ℕ)
        (p : prefix ≡ prefix_words ws) (q : rest ≡ drop (2 * get_or ws 1 0) (drop 3 ws)) (r : shadow ≡ take (2 * get_or ws 2 0) rest) where
      whole : path_size ws ≤ length ws
      whole = omega (arith, fits, length-drop 3 ws)

      shadow-is : shadow ≡ shadow_words ws
      shadow-is = r ∙ rw (q, drop-drop (2 * get_or ws 1 0) 3 ws)

      pub prefix-bad : good_pairs prefix ≡ false → bad ≡ command_of ws
      unfolding good_path
      prefix-bad h = bad-path (rw (le-ltb (length ws) 3 three, le-ltb (length ws) (path_size ws) whole, rw p at h))

      module _ (good : good_pairs prefix ≡ true) where
        pub shadow-bad : good_pairs shadow ≡ false → bad ≡ command_of ws
        unfolding good_path
        shadow-bad h = bad-path (rw (le-ltb (length ws) 3 three, le-ltb (length ws) (path_size ws) whole, rw p at good, rw shadow-is at h))

        path-is : good_pairs shadow ≡ true → path (pairs_of prefix) (pairs_of shadow) ≡ command_of ws
        unfolding command_of good_path
        path-is h = rw (one, le-ltb (length ws) 3 three, le-ltb (length ws) (path_size ws) whole, rw p at good, rw shadow-is at h, p, shadow-is)

        after-is : (after : List ℕ) → after ≡ drop (2 * get_or ws 2 0) rest → after ≡ drop (command_size ws) ws
        unfolding command_size
        after-is after e =
            let n : 3 + (2 * get_or ws 1 0 + 2 * get_or ws 2 0) ≡ path_size ws = omega arith in
            rw (one, e, q, drop-drop (2 * get_or ws 2 0) (2 * get_or ws 1 0) (drop 3 ws), drop-drop (2 * get_or ws 1 0 + 2 * get_or ws 2 0) 3 ws, n)

        pub path-read : good_pairs shadow ≡ true → (after : List ℕ) → after ≡ drop (2 * get_or ws 2 0) rest
            → ((good_pairs prefix ≡ true) × (good_pairs shadow ≡ true)) × (path (pairs_of prefix) (pairs_of shadow) ≡ command_of ws) × (after ≡ drop (command_size ws) ws)
        path-read h after e = ((good, h), path-is h, after-is after e)

pub conversions-are : (ws : List ℕ) → get_or ws 0 0 ≡ 2 → conversions ≡ command_of ws
unfolding command_of
conversions-are ws h = rw h

pub no-command : (ws : List ℕ) → (get_or ws 0 0 ≡ 2 → ⊥) → (get_or ws 0 0 ≡ 1 → ⊥) → bad ≡ command_of ws
unfolding command_of
no-command ws h k = rw (ne_eqb (get_or ws 0 0) 2 h, ne_eqb (get_or ws 0 0) 1 k)

pub conversions-after : (ws : List ℕ) → get_or ws 0 0 ≡ 2 → drop 1 ws ≡ drop (command_size ws) ws
unfolding command_size
conversions-after ws e = rw e

-- ---- what comes of it

pub rows-meet : (z : lent.Room) (c : Counts) (x : Res Fault Grown) (r : Grew) (ns es es' : List ℕ) → Stands z c ns es → Rows z c x r ns es' → Meets z x r ns es'
rows-meet z c x r ns es es' s w =
    record { answer = w.answer; stands = both-stand z c.nodes r ns es' s.root s.within s.fits s.few w.rowed }

module _ (z : lent.Room) (n : ℕ) (R : List Rule) (k : coded.Command) (c : Counts) (ns es : List ℕ) where
  abbrev handled : Res Fault Grown
  handled = handle_command (bounds_of z n) R (command_is k) (grown_of c ns es)

  pub converted : (r : Grew) (es' : List ℕ) → k ≡ command.Conversions → Stands z c ns es
      → Rows z c (convert_all (room_of z) 1 R (grown_of c ns es)) r ns es' → Meets z handled r ns es'
  unfolding handle_command
  converted r es' e s w = rw e (rows-meet z c _ r ns es es' s w)

  pub pathed : (r : Grew) (ns' es' : List ℕ) (prefix shadow : Bor (List ℕ)) → k ≡ command.Path prefix shadow
      → Meets z (handle_common_prefixes (bounds_of z n) (pairs_of prefix.now) (pairs_of shadow.now) (grown_of c ns es)) r ns' es'
      → Meets z handled r ns' es'
  unfolding handle_command
  pathed r ns' es' prefix shadow e m = rw e m

-- the words of a path are pairs
pub are-pairs : (k : coded.Command) (prefix shadow : Bor (List ℕ)) → CommandIn k → k ≡ command.Path prefix shadow
    → (good_pairs prefix.now ≡ true) × (good_pairs shadow.now ≡ true)
are-pairs k prefix shadow i e = rw e at i

-- ---- the commands in order

some_word : (ws : List ℕ) → 1 ≤ command_size ws
unfolding command_size
some_word ws = by-test (λ n. 1 ≤ n) (eqb (get_or ws 0 0) 2) (λ _. omega arith) λ _. omega arith

-- a number of turns that is enough
enough : (k m : ℕ) (ws : List ℕ) → length ws ≤ k → length ws ≤ m → commands_of k ws ≡ commands_of m ws
unfolding commands_of
enough zero zero ws a b = refl
enough zero (suc m) [] a b = refl
enough zero (suc m) (w ∷ ws) a b = absurd (omega arith)
enough (suc k) zero [] a b = refl
enough (suc k) zero (w ∷ ws) a b = absurd (omega arith)
enough (suc k) (suc m) [] a b = refl
enough (suc k) (suc m) (w ∷ ws) a b =
    let l = length-drop (command_size (w ∷ ws)) (w ∷ ws) in
    let s = some_word (w ∷ ws) in
    ap (λ (cs : List Command). command_of (w ∷ ws) ∷ cs) (enough k m (drop (command_size (w ∷ ws)) (w ∷ ws)) (omega (arith, l, s)) (omega (arith, l, s)))

commands-first : (ws : List ℕ) → 0 < length ws → the_commands ws ≡ command_of ws ∷ the_commands (drop (command_size ws) ws)
unfolding commands_of
commands-first [] h = absurd (omega arith)
commands-first (w ∷ ws) h =
    let rest = drop (command_size (w ∷ ws)) (w ∷ ws) in
    ap (λ (cs : List Command). command_of (w ∷ ws) ∷ cs) (enough (length ws) (length rest) rest (omega (arith, length-drop (command_size (w ∷ ws)) (w ∷ ws), some_word (w ∷ ws))) (omega arith))

asks-conversions : (ws : List ℕ) → is_conversions (command_of ws) ≡ eqb (get_or ws 0 0) 2
unfolding is_conversions command_of
asks-conversions ws = by (eqb (get_or ws 0 0) 2) (eqb (get_or ws 0 0) 1 && good_path ws)
  where
    by : (a b : Bool) → is_conversions (pick a conversions (pick b (path (pairs_of (prefix_words ws)) (pairs_of (shadow_words ws))) bad)) ≡ a
    by true b = refl
    by false true = refl
    by false false = refl

-- the loop over them has these words left: what is still to do comes to what there was to do, and so does what was asked for
pub record Commanded (z : lent.Room) (n : ℕ) (R : List Rule) (ws : List ℕ) (x₀ : Res Fault Grown) (c : Counts) (ns es : List ℕ) (b : Bool) (left : List ℕ) : Type 0 where
  pub stands : Stands z c ns es
  pub same : handle_commands (bounds_of z n) R (the_commands left) (grown_of c ns es) ≡ x₀
  pub asks : b || asked (the_commands left) ≡ asked (the_commands ws)

or-false : (b : Bool) → b ≡ b || false
or-false true = refl
or-false false = refl

or_assoc : (a b c : Bool) → a || (b || c) ≡ (a || b) || c
or_assoc true b c = refl
or_assoc false b c = refl

module _ (z : lent.Room) (n : ℕ) (R : List Rule) (ws : List ℕ) (x₀ : Res Fault Grown) (c : Counts) (ns es : List ℕ) (b : Bool) (left : List ℕ)
    (l : Commanded z n R ws x₀ c ns es b left) where
  module _ (h : 0 < length left) where
    first : bind (handle_command (bounds_of z n) R (command_of left) (grown_of c ns es))
        (λ g. handle_commands (bounds_of z n) R (the_commands (drop (command_size left) left)) g) ≡ x₀
    unfolding handle_commands
    first = rw (commands-first left h) at l.same

    pub commanded-bad : bad ≡ command_of left → Handles z (the_commands ws) x₀ (Err why.BadCopy) ns es
    unfolding handle_command bind
    commanded-bad e = record { meets = record { answer = rw (← e) at first; stands = tt }; asked-for = tt }

    module _ (k : coded.Command) (after : Bor (List ℕ)) (e : Commands left (Some (k, after)))
        (r : Grew) (ns' es' : List ℕ) (m : Meets z (handle_command (bounds_of z n) R (command_is k) (grown_of c ns es)) r ns' es') where
      step : bind (handle_command (bounds_of z n) R (command_is k) (grown_of c ns es)) (λ g. handle_commands (bounds_of z n) R (the_commands after.now) g) ≡ x₀
      step = rw (e.1, e.2) first

      pub commanded-more : (d : Counts) → r ≡ Ok d → (w : ℕ) → w ≡ get_or left 0 0 → Commanded z n R ws x₀ d ns' es' (b || eqb w 2) after.now
      unfolding asked
      commanded-more d q w v = record {
        stands = rw q at m.stands;
        same = sym (on_then r ns' es' _ m.answer d q _) ∙ step;
        asks = rw (e.2, v, ← (asks-conversions left)) (sym (or_assoc b _ _) ∙ (rw (commands-first left h) at l.asks));
      }

      pub commanded-refused : (y : why-of.Fault) → r ≡ Err y → Handles z (the_commands ws) x₀ (Err y) ns' es'
      commanded-refused y q =
          record { meets = record { answer = sym (refused-then r ns' es' _ m.answer y q _) ∙ step; stands = tt }; asked-for = tt }

  pub commanded-end : length left ≡ 0 → Handles z (the_commands ws) x₀ (Ok (c, b)) ns es
  unfolding handle_commands asked commands_of
  commanded-end h = by left h l
    where
      by : (left : List ℕ) → length left ≡ 0 → Commanded z n R ws x₀ c ns es b left → Handles z (the_commands ws) x₀ (Ok (c, b)) ns es
      by [] h l = record { meets = record { answer = l.same; stands = l.stands }; asked-for = or-false b ∙ l.asks }
      by (w ∷ left) h l = absurd (omega arith)

-- a command has a word at least
pub fewer : (ws : List ℕ) (k : coded.Command) (after : Bor (List ℕ)) → 0 < length ws → Commands ws (Some (k, after)) → length after.now < length ws
fewer ws k after h e = rw e.2 (omega (arith, length-drop (command_size ws) ws, some_word ws))

-- ---- and then the conversions

module _ (z : lent.Room) (n : ℕ) (R : List Rule) (cs : List Command) (g : Grown) (h : Handled) (ns es : List ℕ)
    (k : Handles z cs (handle_commands (bounds_of z n) R cs g) h ns es) where
  module _ (c : Counts) (b : Bool) (q : h ≡ Ok (c, b)) where
    done : Handles z cs (handle_commands (bounds_of z n) R cs g) (Ok (c, b)) ns es
    done = rw q at k

    last : bind (handle_commands (bounds_of z n) R cs g) (λ g. convert_last (bounds_of z n) R g (asked cs)) ≡ convert_last (bounds_of z n) R (grown_of c ns es) b
    last =
        let t : b ≡ asked cs = done.asked-for in
        on_then (Ok c) ns es _ done.meets.answer c refl _ ∙ rw t

    pub tended-stands : Stands z c ns es
    tended-stands = done.meets.stands

    -- they were asked for
    pub tended : b ≡ true → Meets z (tend (bounds_of z n) R cs g) (Ok c) ns es
    unfolding tend convert_last
    tended a = record { answer = sym (rw a at last); stands = tended-stands }

    -- they were not
    pub tended-last : b ≡ false → (r : Grew) (es' : List ℕ) → Rows z c (convert_all (room_of z) 1 R (grown_of c ns es)) r ns es'
        → Meets z (tend (bounds_of z n) R cs g) r ns es'
    unfolding tend convert_last
    tended-last a r es' w = rw (rw a at last) (rows-meet z c _ r ns es es' tended-stands w)

  pub tended-refused : (y : why-of.Fault) → h ≡ Err y → Meets z (tend (bounds_of z n) R cs g) (Err y) ns es
  unfolding tend
  tended-refused y q =
      let k : Handles z cs (handle_commands (bounds_of z n) R cs g) (Err y) ns es = rw q at k in
      record { answer = sym (refused-then (Err y) ns es _ k.meets.answer y refl _); stands = tt }

-- ---- the whole

module _ (z : lent.Room) (n : ℕ) (R : List Rule) (cs : List Command) (r : Grew) (ns es : List ℕ) (m : Meets z (plant (room_of z) R) r ns es) where
  pub none-built : (y : why-of.Fault) → r ≡ Err y → Meets z (build (bounds_of z n) R cs) (Err y) ns es
  unfolding build
  none-built y q = record { answer = sym (refused-then r ns es _ m.answer y q _); stands = tt }

  pub all-built : (c : Counts) → r ≡ Ok c → (x : Grew) (ns' es' : List ℕ) → Meets z (tend (bounds_of z n) R cs (grown_of c ns es)) x ns' es'
      → Meets z (build (bounds_of z n) R cs) x ns' es'
  unfolding build
  all-built c q x ns' es' k = record { answer = k.answer ∙ sym (on_then r ns es _ m.answer c q _); stands = k.stands }
