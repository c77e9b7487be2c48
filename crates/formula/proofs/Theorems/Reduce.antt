-- A reduce, by what it meets: no such rule, too few trees, a full list, or room.
use Rattle.std.specs.Prelude.{◌≡◌, List, ◌∷◌, ℕ, ◌+◌, ◌≤◌, ◌<◌, length}
use Rattle.std.proofs.Math.Option.{some, none}
use Rattle.words.specs.Outcome.{ok, no, bind, when}
use Rattle.words.specs.Numbers.{Why, misfit, no_entry}
use borrow.Author.Tests.{lt-leb, le-leb, lt-ltb, le-ltb}
use Rattle.rules.specs.Rules.{Rule, rule_at, slots}
use Rattle.rows.specs.Rows.{Reduce}
use Rattle.formula.specs.Reducing.{Trees, flat, merge, reduce_by, reduce, reduce_all}

module _ (R : List Rule) (room r o : ℕ) (s : Trees) where
  pub reduce-no-rule : rule_at R r ≡ none → reduce R room r o s ≡ no misfit
  unfolding reduce reduce_by
  reduce-no-rule e = rw e

  module _ (q : Rule) (e : rule_at R r ≡ some q) where
    pub reduce-few : length s < o + slots q.body → reduce R room r o s ≡ no misfit
    unfolding reduce reduce_by bind when
    reduce-few h = rw (e, lt-leb (o + slots q.body) (length s) h)

    pub reduce-full : o + slots q.body ≤ length s → room ≤ length (flat s) → reduce R room r o s ≡ no no_entry
    unfolding reduce reduce_by bind when
    reduce-full h f = rw (e, le-leb (o + slots q.body) (length s) h, le-ltb (length (flat s)) room f)

    pub reduce-fits : o + slots q.body ≤ length s → length (flat s) < room → reduce R room r o s ≡ ok (merge r (slots q.body) o s)
    unfolding reduce reduce_by bind when
    reduce-fits h f = rw (e, le-leb (o + slots q.body) (length s) h, lt-ltb (length (flat s)) room f)

-- an edge's reduces: the first that fails decides
module _ (R : List Rule) (room : ℕ) (d : Reduce) (ds : List Reduce) (s : Trees) where
  pub reduce_all-no : (y : Why) → reduce R room d.rule d.offset s ≡ no y → reduce_all R room (d ∷ ds) s ≡ no y
  unfolding reduce_all bind
  reduce_all-no y e = rw e

  pub reduce_all-ok : (s' : Trees) → reduce R room d.rule d.offset s ≡ ok s' → reduce_all R room (d ∷ ds) s ≡ reduce_all R room ds s'
  unfolding reduce_all bind
  reduce_all-ok s' e = rw e
