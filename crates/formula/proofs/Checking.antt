-- The check in lent slices: items, pending bodies as words, and one turn.
use mathlib.Core.Path.{◌≡◌, sym, ap, subst, ◌∙◌}
use mathlib.Core.Bool.{Bool, true, false, ◌&&◌}
use mathlib.Core.Logic.{◌≢◌}
use mathlib.Core.List.{List, [], ◌∷◌, ◌++◌}
use mathlib.Core.Option.{some}
use Prim.Native.Nat.{ℕ, suc, ◌+◌, ◌*◌, ◌-◌, ◌/◌, ◌%◌, ◌≤◌, ◌<◌}
use native.Mathlib.Omega.{arith}
use native.Mathlib.Numerals.{add-one}
use lib.ListN.{length, get_or, take, drop, set, get_elem?, length-set, length-drop}
use lib.Seq.{take-suc, take-suc-set, take-length}
use lib.Dec.{eqb}
use borrow.Author.Tests.{eq-eqb, ne_eqb}
use Rattle.words.specs.Limits.{most_rules}
use Rattle.rules.specs.Rules.{Item, rule_of, the_rules, good_rules}
use Rattle.rules.specs.Code.{a_rule, Starts, Missing}
use Rattle.rules.proofs.Theorems.Words.{to_item, body-count, words-most, good-rule}
use Rattle.rules.proofs.Theorems.Every.{All, all_append}
use Rattle.formula.specs.Check.{check}
use Rattle.formula.specs.Code.{places, Whole, unread, Pending, Stacked, Turn, Turned, Fills, Meets, still_of, facing_of}
use Rattle.formula.specs.declared.Seek.{Seek}
use Rattle.std.specs.declared.ops.ControlFlow.TheVariants.{Continue, Break}
use Rattle.formula.proofs.Theorems.Turns.{start-facing}
use Rattle.formula.specs.Turns.{turn_end, turn-off, turn-item, con-met, con-short, slot-filled, slot-wrong, slot-no-rule, slot-short}

-- ---- the items of a body

-- the last of the first n items has number n - 1
pub last-is : (b : List Item) (n : ℕ) (i : Item) → 1 ≤ n → get_elem? b (n - 1) ≡ some i → take n b ≡ take (n - 1) b ++ i ∷ []
last-is b n i h e =
    let q : n ≡ suc (n - 1) = omega arith in
    ap (λ (m : ℕ). take m b) q ∙ to_item b (n - 1) i e

-- the word for all of a body: where its rule starts among good rules, and its items
module _ (rs : List ℕ) (i n : ℕ) (g : good_rules 0 most_rules rs ≡ true) (h : i ≤ length rs) (a : a_rule (drop i rs) ≡ true) (e : n ≡ length (rule_of (drop i rs)).body) where
  pub word_fits : i * places + n < 16777216
  word_fits = omega (arith, (body-count 0 (drop i rs) a).1, words-most 0 most_rules rs g)

  pub whole-body : Whole rs i (i * places + n)
  whole-body = let f = (body-count 0 (drop i rs) a).1 in record { start = omega (arith, f); all = omega (arith, f) }

-- ---- a slot is faced

-- a stack with one word more
pushed : (ws : List ℕ) (n w : ℕ) → n < length ws → take (n + 1) (set ws n w) ≡ take n ws ++ w ∷ []
pushed ws n w h = rw (add-one, take-suc-set ws n w h)

module _ (rs : List ℕ) (i w : ℕ) (x : Whole rs i w) where
  whole-unread : unread rs w ≡ (rule_of (drop i rs)).body
  unfolding unread
  whole-unread = rw (x.start, x.all) (take-length (rule_of (drop i rs)).body)

  whole-pending : a_rule (drop i rs) ≡ true → Pending rs w
  whole-pending g = record { good = rw x.start g; left = rw x.start (omega (arith, x.all)) }

module _ (rs l : List ℕ) (t : ℕ) (s : Seek) (ws : List ℕ) (k : Stacked rs l s ws) where
  pub fills-short : s.entry ≡ 0 → Fills rs l t s ws (Break false) ws
  fills-short e ts = record { answer = sym (rw e (slot-short (the_rules rs) (unread rs) l ts t (take s.depth ws) s.token)); lower = tt }

  module _ (h : 0 < s.entry) where
    pub fills-none : Missing rs (get_or l (s.entry - 1) 0) → Fills rs l t s ws (Break false) ws
    fills-none m ts = record {
      answer = sym (slot-no-rule (the_rules rs) (unread rs) l ts t s.entry (take s.depth ws) s.token h (omega (arith, k.entries)) m.unnamed);
      lower = tt;
    }

    module _ (i : ℕ) (b : Starts rs (get_or l (s.entry - 1) 0) i) where
      pub fills-wrong : (rule_of (drop i rs)).result ≢ t → Fills rs l t s ws (Break false) ws
      fills-wrong z ts = record {
        answer = sym (slot-wrong (the_rules rs) (unread rs) l ts t s.entry (take s.depth ws) s.token (rule_of (drop i rs)) h (omega (arith, k.entries)) b.named z);
        lower = tt;
      }

      pub fills-on : (rule_of (drop i rs)).result ≡ t → (w : ℕ) → Whole rs i w
          → Fills rs l t s ws (Continue (record { depth = s.depth + 1; token = s.token; entry = s.entry - 1 })) (set ws s.depth w)
      fills-on e w x ts =
          let p = pushed ws s.depth w (omega (arith, k.entries, k.room)) in
          let f = slot-filled (the_rules rs) (unread rs) l ts t s.entry (take s.depth ws) w s.token (rule_of (drop i rs)) h (omega (arith, k.entries)) b.named (whole-unread rs i w x) in
          record {
            answer = sym (f ∙ rw (eq-eqb _ _ e, p));
            lower = (
              record {
                bodies = rw p (all_append (Pending rs) (take s.depth ws) (w ∷ []) k.bodies (whole-pending rs i w x b.good, tt));
                entries = omega (arith, k.entries);
                room = rw (length-set ws s.depth w) k.room;
              },
              omega arith,
              omega arith,
            );
          }

-- ---- a constant is faced

module _ (ts : List ℕ) (c : ℕ) (s : Seek) where
  pub meets-short : s.token ≡ 0 → Meets ts c s (Break false)
  meets-short e rs l ws k = record { answer = sym (rw e (con-short (the_rules rs) (unread rs) l ts c s.entry (take s.depth ws))); lower = tt }

  module _ (h : 0 < s.token) (b : s.token ≤ length ts) where
    pub meets-wrong : get_or ts (s.token - 1) 0 ≢ c → Meets ts c s (Break false)
    meets-wrong z rs l ws k = record {
      answer = sym (con-met (the_rules rs) (unread rs) l ts c s.entry (take s.depth ws) s.token h b ∙ rw (ne_eqb c (get_or ts (s.token - 1) 0) (λ e. z (sym e))));
      lower = tt;
    }

    pub meets_on : get_or ts (s.token - 1) 0 ≡ c → Meets ts c s (Continue (record { depth = s.depth; token = s.token - 1; entry = s.entry }))
    meets_on e rs l ws k = record {
      answer = sym (con-met (the_rules rs) (unread rs) l ts c s.entry (take s.depth ws) s.token h b ∙ rw (eq-eqb c (get_or ts (s.token - 1) 0) (sym e)));
      lower = (record { bodies = k.bodies; entries = k.entries; room = k.room }, omega arith, omega arith);
    }

-- ---- a turn

-- a word of which nothing is left
all-met : (rs : List ℕ) (w : ℕ) → w % places ≡ 0 → unread rs w ≡ []
unfolding unread
all-met rs w z = rw z

-- a word with its last item met
module _ (rs : List ℕ) (w : ℕ) where
  one_less : (i : Item) → 1 ≤ w % places
      → take (w % places) (rule_of (drop (w / places) rs)).body ≡ take (w % places - 1) (rule_of (drop (w / places) rs)).body ++ i ∷ []
      → unread rs w ≡ unread rs (w - 1) ++ i ∷ []
  unfolding unread
  one_less i n e =
      let a : (w - 1) / places ≡ w / places = omega arith in
      let b : (w - 1) % places ≡ w % places - 1 = omega arith in
      rw (a, b) e

  one-less-pending : 1 ≤ w % places → Pending rs w → Pending rs (w - 1)
  one-less-pending n p =
      let a : (w - 1) / places ≡ w / places = omega arith in
      let b : (w - 1) % places ≡ w % places - 1 = omega arith in
      record { good = rw a p.good; left = rw (a, b) (omega (arith, p.left)) }

all-last : (P : ℕ → Type 0) (xs : List ℕ) (x : ℕ) → All P (xs ++ x ∷ []) → All P xs × P x
all-last P [] x a = (tt, a.0)
all-last P (y ∷ xs) x a = let h = all-last P xs x a.1 in ((a.0, h.0), h.1)

module _ (rs l : List ℕ) (s : Seek) (ws : List ℕ) (k : Stacked rs l s ws) where
  pub turns-done : (ts : List ℕ) → s.token ≤ length ts → s.depth ≡ 0 → (b : Bool) → (eqb s.entry 0 && eqb s.token 0) ≡ b
      → Turned rs ts l s (still_of rs ts l s ws) (Break b) ws
  turns-done ts h e b q =
      record { answer = sym (rw e (turn_end (the_rules rs) (unread rs) l ts s.entry s.token (omega (arith, k.entries)) h ∙ q)); lower = tt }

  module _ (d : 0 < s.depth) where
    abbrev w : ℕ
    w = get_or ws (s.depth - 1) 0

    -- the top word
    top-last : take s.depth ws ≡ take (s.depth - 1) ws ++ w ∷ []
    top-last =
        let q : s.depth ≡ suc (s.depth - 1) = omega arith in
        ap (λ (n : ℕ). take n ws) q ∙ take-suc ws (s.depth - 1) 0 (omega (arith, k.entries, k.room))

    split-bodies : All (Pending rs) (take (s.depth - 1) ws) × Pending rs w
    split-bodies = all-last (Pending rs) (take (s.depth - 1) ws) w (rw top-last at k.bodies)

    pub top-pending : Pending rs w
    top-pending = split-bodies.1

    -- its rule has two words more at least
    pub top-near : w / places + 1 < length rs
    top-near = omega (arith, (good-rule 0 (drop (w / places) rs) top-pending.good).two, length-drop (w / places) rs)

    pub turns-off : (ts : List ℕ) → w % places ≡ 0
        → Turned rs ts l s (still_of rs ts l s ws) (Continue (record { depth = s.depth - 1; token = s.token; entry = s.entry })) ws
    turns-off ts z = record {
      answer = sym (rw top-last (turn-off (the_rules rs) (unread rs) l ts s.entry (take (s.depth - 1) ws) w s.token (all-met rs w z)));
      lower = (record { bodies = split-bodies.0; entries = omega (arith, k.entries); room = k.room }, omega arith, omega arith);
    }

    module _ (i : Item) (n : 1 ≤ w % places)
        (e : take (w % places) (rule_of (drop (w / places) rs)).body ≡ take (w % places - 1) (rule_of (drop (w / places) rs)).body ++ i ∷ []) where
      abbrev lowered : List ℕ
      lowered = set ws (s.depth - 1) (w - 1)

      lowered-last : take s.depth lowered ≡ take (s.depth - 1) ws ++ (w - 1) ∷ []
      lowered-last =
          let q : s.depth ≡ suc (s.depth - 1) = omega arith in
          ap (λ (n : ℕ). take n lowered) q ∙ take-suc-set ws (s.depth - 1) (w - 1) (omega (arith, k.entries, k.room))

      pub turns-stacked : Stacked rs l s lowered
      turns-stacked = record {
        bodies = rw lowered-last (all_append (Pending rs) (take (s.depth - 1) ws) ((w - 1) ∷ []) split-bodies.0 (one-less-pending rs w n top-pending, tt));
        entries = k.entries;
        room = rw (length-set ws (s.depth - 1) (w - 1)) k.room;
      }

      turns-facing : (ts : List ℕ) → still_of rs ts l s ws ≡ facing_of rs ts l i s lowered
      turns-facing ts = rw (top-last, lowered-last)
          (turn-item (the_rules rs) (unread rs) l ts s.entry (take (s.depth - 1) ws) w (w - 1) s.token i (one_less rs w i n e))

      -- whatever is said of the item
      pub turns-item : (ts : List ℕ) (r : Turn) (ws' : List ℕ) → Turned rs ts l s (facing_of rs ts l i s lowered) r ws'
          → Turned rs ts l s (still_of rs ts l s ws) r ws'
      turns-item ts r ws' f = rw (turns-facing ts) f

-- what a turn says, by what it gives back
module _ (rs ts l : List ℕ) (s : Seek) (b : Bool) (r : Turn) (ws : List ℕ) (t : Turned rs ts l s b r ws) where
  pub turned_on : (q : Seek) → r ≡ Continue q → Turned rs ts l s b (Continue q) ws
  turned_on q e = subst (λ r. Turned rs ts l s b r ws) e t

  pub turned-ended : (a : Bool) → r ≡ Break a → a ≡ b
  turned-ended a e = (subst (λ r. Turned rs ts l s b r ws) e t).answer

-- ---- the start: a slot of typecode t, and nothing on the stack

module _ (rs ts l : List ℕ) (t : ℕ) (r : Turn) (ws ws' : List ℕ) (f : Fills rs l t (record { depth = 0; token = length ts; entry = length l }) ws r ws') where
  pub starts-on : (q : Seek) → r ≡ Continue q → Stacked rs l q ws' × (q.token ≤ length ts) × (still_of rs ts l q ws' ≡ check (the_rules rs) t ts l)
  starts-on q e =
      let u = turned_on rs ts l _ _ r ws' (f ts) q e in
      (u.lower.0, u.lower.2, u.answer ∙ sym (start-facing (the_rules rs) (unread rs) l ts t))

  pub starts-ended : (a : Bool) → r ≡ Break a → a ≡ check (the_rules rs) t ts l
  starts-ended a e = turned-ended rs ts l _ _ r ws' (f ts) a e ∙ sym (start-facing (the_rules rs) (unread rs) l ts t)
