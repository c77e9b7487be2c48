-- What a formula's postfix list means, from the Metamath language and no algorithm.
use Rattle.std.specs.Prelude.{◌≡◌, List, [], ◌∷◌, ◌++◌, ℕ}
use Rattle.std.proofs.Math.Option.{some}
use Rattle.rules.specs.Rules.{Item, con, slot, Rule, rule_at}

-- `Spells R b ts l`: the items b, each slot filled by a well typed tree, spell the tokens ts, and l is the postfix list of those trees,
-- children left to right
pub data Spells (R : List Rule) : List Item → List ℕ → List ℕ → Type 0 where
  done : Spells R [] [] []
  word : {c : ℕ} {b : List Item} {ts l : List ℕ} → Spells R b ts l → Spells R (con c ∷ b) (c ∷ ts) l
  tree : {b : List Item} {ts ts' l l' : List ℕ} (r : ℕ) (q : Rule) → rule_at R r ≡ some q
      → Spells R q.body ts l → Spells R b ts' l' → Spells R (slot q.result ∷ b) (ts ++ ts') (l ++ r ∷ l')

-- a well typed tree of typecode t that spells ts, whose postfix list is l
abbrev pub Tree : List Rule → ℕ → List ℕ → List ℕ → Type 0
Tree R t ts l = Spells R (slot t ∷ []) ts l
