-- The check: a list is run from its front over a stack of values, each a typecode and the tokens that it spells.
use Rattle.std.specs.Prelude.{Bool, true, false, ◌&&◌, List, [], ◌∷◌, ◌++◌, ℕ, eqb}
use Rattle.std.proofs.Math.Option.{Option, some, none, bind}
use Rattle.words.specs.Outcome.{same_words}
use Rattle.rules.specs.Rules.{Item, con, slot, Rule, rule_at, slots, source}

pub record Value : Type 0 where
  pub typecode : ℕ
  pub tokens : List ℕ

-- the tokens of the items met so far, and the values left
abbrev pub Taken : Type 0
Taken = Option (List ℕ × List Value)

unfoldable pub keep : Bool → List ℕ × List Value → Taken
keep true p = some p
keep false p = none

-- a value of typecode t is taken off, its tokens before ts
unfoldable pub take_value : ℕ → List ℕ → List Value → Taken
take_value t ts [] = none
take_value t ts (v ∷ vs) = keep (eqb t v.typecode) (v.tokens ++ ts, vs)

unfoldable pub take_slot : ℕ → Taken → Taken
take_slot t none = none
take_slot t (some p) = take_value t p.0 p.1

unfoldable pub take_con : ℕ → Taken → Taken
take_con c none = none
take_con c (some p) = some (c ∷ p.0, p.1)

-- a body's slots are taken off, the last one first
unfoldable pub take_body : List Item → List Value → Taken
take_body [] vs = some ([], vs)
take_body (con c ∷ b) vs = take_con c (take_body b vs)
take_body (slot t ∷ b) vs = take_slot t (take_body b vs)

unfoldable pub push : ℕ → Taken → Option (List Value)
push t none = none
push t (some p) = some (record { typecode = t; tokens = p.0 } ∷ p.1)

-- one entry of the list: a number that names no rule has no value
unfoldable pub apply : Option Rule → List Value → Option (List Value)
apply none vs = none
apply (some q) vs = push q.result (take_body q.body vs)

unfoldable pub values : List Rule → List ℕ → List Value → Option (List Value)
values R [] vs = some vs
values R (r ∷ l) vs = bind (apply (rule_at R r) vs) λ vs. values R l vs

-- one value is left, of typecode t and with the tokens ts
unfoldable pub only : ℕ → List ℕ → Option (List Value) → Bool
only t ts none = false
only t ts (some []) = false
only t ts (some (v ∷ [])) = eqb v.typecode t && same_words v.tokens ts
only t ts (some (v ∷ w ∷ vs)) = false

-- the list is one well typed tree of typecode t that spells ts
unfoldable pub check : List Rule → ℕ → List ℕ → List ℕ → Bool
check R t ts l = only t ts (values R l [])

unfoldable pub checking : Unit {0}
unfolding rule_at slots source same_words keep take_value take_slot take_con take_body push apply bind values only check
checking = tt
