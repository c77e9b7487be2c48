-- The reduces of an edge with the list's tail moved once. On the sizes of the trees alone it is worked out whether each reduce fits and where its
-- entry goes; then the words of the list and the new entries are put together. proofs/Theorems/Tail proves that this is `reduce_all`.
use Rattle.std.specs.Prelude.{List, [], ◌∷◌, ◌++◌, ℕ, suc, ◌+◌, ◌-◌, ◌≤◌, ltb, leb, length, take, drop}
use Rattle.std.proofs.Math.Option.{Option, some, none}
use Rattle.words.specs.Outcome.{Res, ok, no, bind, when, pick}
use Rattle.words.specs.Numbers.{Why, misfit, no_entry}
use Rattle.rules.specs.Rules.{Rule, rule_at, slots}
use Rattle.rows.specs.Rows.{Reduce}

-- ---- sizes, the bottom tree's first

unfoldable pub total : List ℕ → ℕ
total [] = 0
total (x ∷ xs) = x + total xs

-- what a reduce comes to: the words of the list before its entry, and the sizes after it
pub record Measured : Type 0 where
  pub place : ℕ
  pub sizes : List ℕ

-- with a trees below them, k trees become one
abbrev pub joined : ℕ → ℕ → List ℕ → Measured
joined a k zs = record { place = total (take (a + k) zs); sizes = take a zs ++ suc (total (take k (drop a zs))) ∷ drop (a + k) zs }

-- 4 if there are fewer than o + k trees, else 7 if the list is full
unfoldable pub measure_by : ℕ → ℕ → List ℕ → Option Rule → Res Why Measured
measure_by room o zs none = no misfit
measure_by room o zs (some q) =
    bind (when (leb (o + slots q.body) (length zs)) misfit zs)
    λ zs. when (ltb (total zs) room) no_entry (joined (length zs - (o + slots q.body)) (slots q.body) zs)

-- rule r is reduced at offset o, in a list of this room
unfoldable pub measure : List Rule → ℕ → ℕ → ℕ → List ℕ → Res Why Measured
measure R room r o zs = measure_by room o zs (rule_at R r)

-- ---- entries, in the order in which they come to stand

-- a rule, and the words before it in the list as it was
pub record Entry : Type 0 where
  pub place : ℕ
  pub rule : ℕ

-- rule r more, with p words before it, entries among them
unfoldable pub put : ℕ → ℕ → List Entry → List Entry
put p r [] = record { place = p; rule = r } ∷ []
put p r (e ∷ es) = pick (leb p e.place) (record { place = p; rule = r } ∷ e ∷ es) (e ∷ put (p - 1) r es)

-- their places rise, from i to n
abbrev pub Rising : ℕ → List Entry → ℕ → Type 0
Rising i [] n = i ≤ n
Rising i (e ∷ es) n = (i ≤ e.place) × Rising e.place es n

-- the words of a list from i on, with the entries
unfoldable pub woven : ℕ → List Entry → List ℕ → List ℕ
woven i [] l = drop i l
woven i (e ∷ es) l = drop i (take e.place l) ++ e.rule ∷ woven e.place es l

-- ---- all reduces of an edge

pub record Plan : Type 0 where
  pub sizes : List ℕ
  pub entries : List Entry

-- in order, after those that gave these entries; the first that fails decides
unfoldable pub plan : List Rule → ℕ → List Reduce → List ℕ → List Entry → Res Why Plan
plan R room [] zs es = ok (record { sizes = zs; entries = es })
plan R room (d ∷ ds) zs es = bind (measure R room d.rule d.offset zs) λ m. plan R room ds m.sizes (put m.place d.rule es)
