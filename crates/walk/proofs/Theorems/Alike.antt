-- Tables that answer alike walk alike: of its tables a walk knows no more than their answers. So the order of rows shows nowhere but in `find`.
use Rattle.std.specs.Prelude.{◌≡◌, refl, Bool, true, false, List, [], ◌∷◌, ℕ, eqb}
use Rattle.std.proofs.Common.{sym, ap, ◌∙◌, eq-eqb}
use Rattle.std.proofs.lemmas.Bool.{false≢true}
use Rattle.std.proofs.Math.Option.{Option, some, none, none-ne-some}
use Rattle.words.proofs.Theorems.Tests.{same_test}
use Rattle.rules.specs.Rules.{Rule}
use Rattle.rows.specs.Rows.{Edge, keyed, find, bare}
use Rattle.walk.specs.Walk.{Tables, tables_of, Room, walk}

-- the same answers to all that a walk asks
pub record Alike (T U : Tables) : Type 0 where
  pub rules : T.rules ≡ U.rules
  pub word : (n : ℕ) → T.word n ≡ U.word n
  pub edge : (n k s : ℕ) → T.edge n k s ≡ U.edge n k s
  pub bare : (n : ℕ) → T.bare n ≡ U.bare n

alike : (T U : Tables) → Alike T U → T ≡ U
alike T U a = λ i. record { rules = a.rules i; word = λ n. a.word n i; edge = λ n k s. a.edge n k s i; bare = λ n. a.bare n i }

pub walk-alike : (T U : Tables) → Alike T U → (provable logic a : ℕ) (m : Room) (ts : List ℕ) → walk T provable logic a m ts ≡ walk U provable logic a m ts
walk-alike T U h provable logic a m ts = ap (λ (T : Tables). walk T provable logic a m ts) (alike T U h)

-- ---- rows that are found alike

-- a node that no row leaves has no row for any key, and another has one
bare-none : (es : List Edge) (n k s : ℕ) → bare es n ≡ true → find es n k s ≡ none
unfolding bare find keyed
bare-none [] n k s h = refl
bare-none (e ∷ es) n k s h = by (eqb e.from n) refl h (bare-none es n k s)
  where
    by : (b : Bool) → eqb e.from n ≡ b → elim b [ true ↦ false | false ↦ bare es n ] ≡ true → (bare es n ≡ true → find es n k s ≡ none) → find (e ∷ es) n k s ≡ none
    by true q h f = absurd (false≢true h)
    by false q h f = rw (q, find) (f h)

record Leaves (es : List Edge) (n : ℕ) : Type 0 where
  kind : ℕ
  symbol : ℕ
  edge : Edge
  finds : find es n kind symbol ≡ some edge

left-some : (es : List Edge) (n : ℕ) → bare es n ≡ false → Leaves es n
unfolding bare find keyed
left-some [] n h = absurd (false≢true (sym h))
left-some (e ∷ es) n h = by (eqb e.from n) refl h (left-some es n)
  where
    first : (b : Bool) (o : Option Edge) → b ≡ true → ◌≡◌ {A = Option Edge} (elim b [ true ↦ some e | false ↦ o ]) (some e)
    first true o h = refl
    first false o h = absurd (false≢true h)

    later : (d : Edge) (k s : ℕ) → find es n k s ≡ some d → (b : Bool) → keyed n k s e ≡ b → (x : Edge) × (find (e ∷ es) n k s ≡ some x)
    later d k s f true q = (e, rw (q, find))
    later d k s f false q = (d, rw (q, find) f)

    by : (b : Bool) → eqb e.from n ≡ b → elim b [ true ↦ false | false ↦ bare es n ] ≡ false → (bare es n ≡ false → Leaves es n) → Leaves (e ∷ es) n
    by true q h f =
        let own : keyed n e.kind e.sym e ≡ true = rw (q, eq-eqb e.kind e.kind refl, eq-eqb e.sym e.sym refl) in
        record { kind = e.kind; symbol = e.sym; edge = e; finds = first (keyed n e.kind e.sym e) (find es n e.kind e.sym) own }
    by false q h f = let l = f h in let r = later l.edge l.kind l.symbol l.finds _ refl in record { kind = l.kind; symbol = l.symbol; edge = r.0; finds = r.1 }

bare_alike : (es fs : List Edge) → ((n k s : ℕ) → find es n k s ≡ find fs n k s) → (n : ℕ) → bare es n ≡ true → bare fs n ≡ true
bare_alike es fs a n h = by (bare fs n) refl
  where
    by : (b : Bool) → bare fs n ≡ b → bare fs n ≡ true
    by true q = q
    by false q = let l = left-some fs n q in absurd (none-ne-some l.edge (sym (bare-none es n l.kind l.symbol h) ∙ a n l.kind l.symbol ∙ l.finds))

pub rows_alike : (R : List Rule) (ns : List ℕ) (es fs : List Edge) → ((n k s : ℕ) → find es n k s ≡ find fs n k s) → Alike (tables_of R ns es) (tables_of R ns fs)
unfolding tables_of
rows_alike R ns es fs a = record {
  rules = refl;
  word = λ n. refl;
  edge = a;
  bare = λ n. same_test (bare es n) (bare fs n) (bare_alike es fs a n) (bare_alike fs es (λ n k s. sym (a n k s)) n);
}
