-- An edge put in at its place: where it stands, what is found afterwards, and that rows still rise.
use Rattle.std.proofs.Math.Path.{◌≡◌, refl}
use Rattle.std.proofs.Common.{sym, ap, ◌∙◌}
use Rattle.std.specs.Prelude.{Bool, eqb, take, drop}
use Rattle.std.proofs.Math.Bool.{true, false}
use mathlib.Core.List.{List, [], ◌∷◌, ◌++◌}
use Rattle.std.proofs.Math.Option.{Option, none, some, none-ne-some}
use Prim.Native.Nat.{ℕ, suc, ◌+◌}
use native.Mathlib.Omega.{arith}
use Rattle.std.proofs.Math.ListN.{length}
use borrow.Author.Tests.{eq-eqb}
use Rattle.words.specs.Outcome.{pick}
use Rattle.words.proofs.Theorems.Tests.{and_l}
use Rattle.rules.proofs.Theorems.Every.{All}
use Rattle.rows.specs.Rows.{Edge, below, precedes, rising, insert_edge, keyed, find, leaving}
use Rattle.rows.specs.Code.{place_of}
use Rattle.rows.proofs.Theorems.Order.{Stand, under, equal, over, stand, under-below, keyed-is, rising-rest}

module _ (e : Edge) where
  abbrev under-e : Edge → Bool
  under-e d = below e.from e.kind e.sym d

  -- ---- where it stands

  pub insert-split : (es : List Edge) → let p = place_of e.from e.kind e.sym es in insert_edge e es ≡ take p es ++ e ∷ drop p es
  unfolding insert_edge place_of
  insert-split [] = refl
  insert-split (d ∷ es) = by (under-e d) (insert-split es)
    where
      p : ℕ
      p = place_of e.from e.kind e.sym es

      by : (b : Bool) → insert_edge e es ≡ take p es ++ e ∷ drop p es
          → pick b (d ∷ insert_edge e es) (e ∷ d ∷ es) ≡ take (pick b (suc p) 0) (d ∷ es) ++ e ∷ drop (pick b (suc p) 0) (d ∷ es)
      by true h = ap (λ (r : List Edge). d ∷ r) h
      by false h = refl

  pub insert-length : (es : List Edge) → length (insert_edge e es) ≡ length es + 1
  unfolding insert_edge
  insert-length [] = refl
  insert-length (d ∷ es) = by (under-e d) (insert-length es)
    where
      by : (b : Bool) → length (insert_edge e es) ≡ length es + 1 → length (pick b (d ∷ insert_edge e es) (e ∷ d ∷ es)) ≡ suc (length es) + 1
      by true h = omega arith
      by false h = omega arith

  pub insert_all : (P : Edge → Type 0) (es : List Edge) → All P es → P e → All P (insert_edge e es)
  unfolding insert_edge
  insert_all P [] a h = (h, tt)
  insert_all P (d ∷ es) a h = by (under-e d) (insert_all P es a.1 h)
    where
      by : (b : Bool) → All P (insert_edge e es) → All P (pick b (d ∷ insert_edge e es) (e ∷ d ∷ es))
      by true f = (a.0, f)
      by false f = (h, a)

  -- ---- rows still rise, if none had its key

  precedes-both : (d : Edge) (es : List Edge) → under-e d ≡ true → precedes d es ≡ true → precedes d (insert_edge e es) ≡ true
  unfolding insert_edge precedes
  precedes-both d [] u h = u
  precedes-both d (c ∷ es) u h = by (under-e c)
    where
      by : (b : Bool) → precedes d (pick b (c ∷ insert_edge e es) (e ∷ c ∷ es)) ≡ true
      by true = h
      by false = u

  pub insert-rises : (es : List Edge) → rising es ≡ true → find es e.from e.kind e.sym ≡ none → rising (insert_edge e es) ≡ true
  unfolding insert_edge rising find precedes
  insert-rises [] r f = refl
  insert-rises (d ∷ es) r f = by (stand e.from e.kind e.sym d) f (insert-rises es (rising-rest d es r))
    where
      by : Stand e.from e.kind e.sym d
          → ◌≡◌ {A = Option Edge} (elim (keyed e.from e.kind e.sym d) [ true ↦ some d | false ↦ find es e.from e.kind e.sym ]) none
          → (find es e.from e.kind e.sym ≡ none → rising (insert_edge e es) ≡ true)
          → rising (pick (under-e d) (d ∷ insert_edge e es) (e ∷ d ∷ es)) ≡ true
      by (under b q u) f h = rw (b, precedes-both d es b (and_l (precedes d es) (rising es) r)) (h (rw q at f))
      by (equal b q) f h = absurd (none-ne-some d (sym (rw q at f)))
      by (over b q o) f h = rw (b, under-below d.from d.kind d.sym e o) r

  -- ---- what is found

  own : keyed e.from e.kind e.sym e ≡ true
  unfolding keyed
  own = rw (eq-eqb e.from e.from refl, eq-eqb e.kind e.kind refl, eq-eqb e.sym e.sym refl)

  -- it is found by its key
  pub find-own : (es : List Edge) → find (insert_edge e es) e.from e.kind e.sym ≡ some e
  unfolding insert_edge find
  find-own [] = rw (own, find)
  find-own (d ∷ es) = by (stand e.from e.kind e.sym d) (find-own es)
    where
      by : Stand e.from e.kind e.sym d → find (insert_edge e es) e.from e.kind e.sym ≡ some e
          → find (pick (under-e d) (d ∷ insert_edge e es) (e ∷ d ∷ es)) e.from e.kind e.sym ≡ some e
      by (under b q u) h = rw (b, q, find) h
      by (equal b q) h = rw (b, own, find)
      by (over b q o) h = rw (b, own, find)

  pub find_at : (es : List Edge) (n k s : ℕ) → keyed n k s e ≡ true → find (insert_edge e es) n k s ≡ some e
  find_at es n k s q = let i = keyed-is n k s e q in rw (← i.0, ← i.1, ← i.2) (find-own es)

  -- and by no other
  pub find-other : (es : List Edge) (n k s : ℕ) → keyed n k s e ≡ false → find (insert_edge e es) n k s ≡ find es n k s
  unfolding insert_edge find
  find-other [] n k s q = rw (q, find)
  find-other (d ∷ es) n k s q = by (under-e d) (find-other es n k s q)
    where
      after : find (insert_edge e es) n k s ≡ find es n k s → find (d ∷ insert_edge e es) n k s ≡ find (d ∷ es) n k s
      after h = go (keyed n k s d)
        where
          go : (b : Bool) → ◌≡◌ {A = Option Edge} (elim b [ true ↦ some d | false ↦ find (insert_edge e es) n k s ]) (elim b [ true ↦ some d | false ↦ find es n k s ])
          go true = refl
          go false = h

      by : (b : Bool) → find (insert_edge e es) n k s ≡ find es n k s → find (pick b (d ∷ insert_edge e es) (e ∷ d ∷ es)) n k s ≡ find (d ∷ es) n k s
      by true h = after h
      by false h = rw (q, find)

  -- old look-ups stay, if none had its key
  pub find-kept : (es : List Edge) → find es e.from e.kind e.sym ≡ none → (n k s : ℕ) (d : Edge) → find es n k s ≡ some d → find (insert_edge e es) n k s ≡ some d
  find-kept es f n k s d h = by (keyed n k s e) refl
    where
      by : (b : Bool) → keyed n k s e ≡ b → find (insert_edge e es) n k s ≡ some d
      by false q = find-other es n k s q ∙ h
      by true q =
          let i = keyed-is n k s e q in
          absurd (none-ne-some d (sym f ∙ rw (i.0, i.1, i.2) h))

  -- the rows of other nodes stay as they are
  pub leaving-other : (n : ℕ) (es : List Edge) → eqb e.from n ≡ false → leaving n (insert_edge e es) ≡ leaving n es
  unfolding insert_edge leaving
  leaving-other n [] q = rw q
  leaving-other n (d ∷ es) q = by (under-e d) (leaving-other n es q)
    where
      by : (b : Bool) → leaving n (insert_edge e es) ≡ leaving n es → leaving n (pick b (d ∷ insert_edge e es) (e ∷ d ∷ es)) ≡ leaving n (d ∷ es)
      by true h = rw h
      by false h = rw q
