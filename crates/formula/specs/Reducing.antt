-- Reducing: the trees of a walk, and what a rule does to them.
use Rattle.std.specs.Prelude.{List, [], ◌∷◌, ◌++◌, ℕ, ◌+◌, ltb, leb, length, take, drop}
use Rattle.std.proofs.Math.Option.{Option, some, none}
use Rattle.words.specs.Outcome.{Res, ok, no, bind, when}
use Rattle.words.specs.Numbers.{Why, misfit, no_entry}
use Rattle.rules.specs.Rules.{Rule, rule_at, slots}
use Rattle.rows.specs.Rows.{Reduce}

-- the trees, the top one first, each as its own postfix list
abbrev pub Trees : Type 0
Trees = List (List ℕ)

-- the whole list
unfoldable pub flat : Trees → List ℕ
flat [] = []
flat (t ∷ s) = flat s ++ t

-- the k trees under the top o become one
unfoldable pub merge : ℕ → ℕ → ℕ → Trees → Trees
merge r k o s = take o s ++ (flat (take k (drop o s)) ++ r ∷ []) ∷ drop (o + k) s

-- too few trees are 4; enough of them, and no room for the entry, 7
unfoldable pub reduce_by : ℕ → ℕ → ℕ → Trees → Option Rule → Res Why Trees
reduce_by room r o s none = no misfit
reduce_by room r o s (some q) =
    bind (when (leb (o + slots q.body) (length s)) misfit s) λ s. when (ltb (length (flat s)) room) no_entry (merge r (slots q.body) o s)

-- rule r is reduced at offset o, in a list of this room
unfoldable pub reduce : List Rule → ℕ → ℕ → ℕ → Trees → Res Why Trees
reduce R room r o s = reduce_by room r o s (rule_at R r)

-- the reduces of an edge, in order; the first that fails decides
unfoldable pub reduce_all : List Rule → ℕ → List Reduce → Trees → Res Why Trees
reduce_all R room [] s = ok s
reduce_all R room (d ∷ ds) s = bind (reduce R room d.rule d.offset s) (reduce_all R room ds)

unfoldable pub reducing : Unit {0}
unfolding rule_at slots bind when flat merge reduce_by reduce reduce_all
reducing = tt
