-- The walk. A pass is one turn of the Rust's `parse_formula` loop. Frames are node numbers.
-- Each choice is a function by clauses whose last argument is what was looked up.
use Rattle.std.specs.Prelude.{Bool, true, false, ◌&&◌, ◌||◌, not, List, [], ◌∷◌, ℕ, zero, suc, pred, eqb, ltb, length, get_or}
use Rattle.std.proofs.Math.Option.{Option, some, none}
use Rattle.words.specs.Outcome.{Res, ok, no, bind, when}
use Rattle.words.specs.Numbers.{accepted, too_few_tokens, no_pass, Why, unparseable, too_short, misfit, no_frame, number, place, numbering}
use Rattle.rules.specs.Rules.{Rule, rule_at, source}
use Rattle.rows.specs.Rows.{Edge, keyed, find, bare}
use Rattle.formula.specs.Check.{check, checking}
use Rattle.formula.specs.Reducing.{Trees, flat, reduce, reduce_all, reducing}

-- the tables as a walk asks them: the rules, a node's word, the look-up by from, kind and symbol, and whether no edge leaves a node
pub record Tables : Type 0 where
  pub rules : List Rule
  pub word : ℕ → ℕ
  pub edge : ℕ → ℕ → ℕ → Option Edge
  pub bare : ℕ → Bool

-- nodes and rows as such tables
unfoldable pub tables_of : List Rule → List ℕ → List Edge → Tables
tables_of R ns es = record { rules = R; word = λ n. get_or ns n 0; edge = find es; bare = bare es }

-- the room that the caller lends
pub record Room : Type 0 where
  pub frames : ℕ
  pub list : ℕ

-- the tokens left, the place of the next one, and the last one noted
pub record State : Type 0 where
  pub node : ℕ
  pub frames : List ℕ
  pub trees : Trees
  pub rest : List ℕ
  pub at : ℕ
  pub last : ℕ

-- the walk goes on, or has a list
pub data Turn : Type 0 where
  on : State → Turn
  end : List ℕ → Turn

-- a conversion: its rule, and the typecode that it goes to
pub record Choice : Type 0 where
  pub rule : ℕ
  pub to : ℕ

unfoldable pub present : Option Edge → Bool
present none = false
present (some e) = true

-- a conversion from t
unfoldable pub comes_from : Option ℕ → ℕ → Bool
comes_from none t = false
comes_from (some u) t = eqb u t

-- `goal` is the wanted typecode, `statement` the tokens after the typecode
module _ (T : Tables) (goal : ℕ) (statement : List ℕ) where
  -- t is wanted: by the top frame's node, or without frames by the goal
  unfoldable pub wanted : List ℕ → ℕ → Bool
  wanted [] t = eqb t goal
  wanted (f ∷ fs) t = present (T.edge f 1 t)

  -- the first conversion, counted from c, from t to a wanted typecode
  unfoldable pub conversion : List Rule → ℕ → List ℕ → ℕ → Option Choice
  conversion [] c fs t = none
  conversion (q ∷ qs) c fs t = elim (comes_from (source q.body) t && wanted fs q.result)
      [ true ↦ some (record { rule = c; to = q.result }) | false ↦ conversion qs (suc c) fs t ]

  -- an edge is followed, its reduces first
  unfoldable pub follow : Room → List ℕ → State → Edge → Trees → Res Why Turn
  follow m fs s e ts = bind (reduce_all T.rules m.list e.reduces ts) λ ts.
      ok (on (record { node = e.to; frames = fs; trees = ts; rest = s.rest; at = s.at; last = s.last }))

  -- a variable edge that was looked up is followed; none, 2 at the last noted token
  unfoldable pub step_by : Room → List ℕ → State → Trees → Option Edge → Res Why Turn
  step_by m fs s ts none = no (unparseable s.last)
  step_by m fs s ts (some e) = follow m fs s e ts

  -- root step: node 0's variable edge for t
  unfoldable pub root_step : Room → State → ℕ → Trees → Res Why Turn
  root_step m s t ts = step_by m s.frames s ts (T.edge 0 1 t)

  -- finish: one tree, which passes the check; else 4
  unfoldable pub finish : Trees → Res Why Turn
  finish ts = bind (when (eqb (length ts) 1 && check T.rules goal statement (flat ts)) misfit (flat ts)) λ l. ok (end l)

  -- a conversion to t was reduced: without frames the walk finishes; else the top one is popped and its edge for t followed, which is there since
  -- t is wanted
  unfoldable pub converted : Room → State → ℕ → List ℕ → Trees → Res Why Turn
  converted m s t [] ts = finish ts
  converted m s t (f ∷ fs) ts = step_by m fs s ts (T.edge f 1 t)

  -- t is not wanted: at the end of the tokens a conversion to a wanted typecode is reduced
  unfoldable pub convert_by : Room → State → ℕ → Trees → Option Choice → Res Why Turn
  convert_by m s t ts none = root_step m s t ts
  convert_by m s t ts (some k) = bind (reduce T.rules m.list k.rule 0 ts) (converted m s k.to s.frames)

  unfoldable pub unwanted : Room → State → ℕ → Trees → List ℕ → Res Why Turn
  unwanted m s t ts [] = convert_by m s t ts (conversion T.rules 1 s.frames t)
  unwanted m s t ts (x ∷ xs) = root_step m s t ts

  -- t is wanted by a frame: it is popped and its edge followed
  unfoldable pub pop_by : Room → State → ℕ → Trees → List ℕ → Option Edge → Res Why Turn
  pop_by m s t ts fs none = unwanted m s t ts s.rest
  pop_by m s t ts fs (some e) = follow m fs s e ts

  -- no frame: the goal finishes if no token is left
  unfoldable pub goal_by : Room → State → ℕ → Trees → List ℕ → Bool → Res Why Turn
  goal_by m s t ts xs false = unwanted m s t ts xs
  goal_by m s t ts [] true = finish ts
  goal_by m s t ts (x ∷ xs) true = root_step m s t ts

  -- a tree of typecode t is complete
  unfoldable pub complete : Room → State → ℕ → List ℕ → Trees → Res Why Turn
  complete m s t [] ts = goal_by m s t ts s.rest (eqb t goal)
  complete m s t (f ∷ fs) ts = pop_by m s t ts fs (T.edge f 1 t)

  -- leaf: its rule is reduced at offset 0
  unfoldable pub leaf : Room → State → ℕ → Option Rule → Res Why Turn
  leaf m s r none = no misfit
  leaf m s r (some q) = bind (reduce T.rules m.list r 0 s.trees) (complete m s q.result s.frames)

  -- branch, at a token: its constant edge is followed and the token taken. Without one it is 2 here at node 0, or where
  -- nothing leaves the node; elsewhere the node is kept as a frame, or 6, and the walk is at 0 again
  unfoldable pub token : Room → State → ℕ → List ℕ → Option Edge → Res Why Turn
  token m s x xs (some e) =
      follow m s.frames (record { node = s.node; frames = s.frames; trees = s.trees; rest = xs; at = suc s.at; last = s.at }) e s.trees
  token m s x xs none = bind (when (not (eqb s.node 0 || T.bare s.node)) (unparseable s.at) s.node) λ n.
      when (ltb (length s.frames) m.frames) no_frame
      (on (record { node = 0; frames = n ∷ s.frames; trees = s.trees; rest = x ∷ xs; at = s.at; last = s.at }))

  -- branch, no token left: 3 at the last token
  unfoldable pub branch : Room → State → List ℕ → Res Why Turn
  branch m s [] = no (too_short (pred s.at))
  branch m s (x ∷ xs) = token m s x xs (T.edge s.node 0 x)

  unfoldable pub pass_by : Room → State → ℕ → Res Why Turn
  pass_by m s zero = branch m s s.rest
  pass_by m s (suc r) = leaf m s (suc r) (rule_at T.rules (suc r))

  unfoldable pub pass : Room → State → Res Why Turn
  pass m s = pass_by m s (T.word s.node)

-- ---- passes under an allowance

-- what a walk gives back
pub record Walked : Type 0 where
  pub number : ℕ
  pub place : ℕ
  pub list : List ℕ
  pub passes : ℕ

abbrev pub refused : ℕ → ℕ → ℕ → Walked
refused k p n = record { number = k; place = p; list = []; passes = n }

-- after pass n: `more` says what comes of a walk that goes on
unfoldable pub after : ℕ → (State → Walked) → Res Why Turn → Walked
after n more (no y) = refused (number y) (place y) n
after n more (ok (end l)) = record { number = accepted; place = 0; list = l; passes = n }
after n more (ok (on s)) = more s

-- at most a further passes, after n were made; refused where a further one is needed
unfoldable pub run : (Room → State → Res Why Turn) → ℕ → Room → ℕ → State → Walked
run next zero m n s = refused no_pass 0 n
run next (suc a) m n s = after (suc n) (λ s. run next a m (suc n) s) (next m s)

unfoldable pub start : List ℕ → State
start xs = record { node = 0; frames = []; trees = []; rest = xs; at = 1; last = 0 }

-- the logic typecode, if the stated one is the provable one
unfoldable pub wanted_by : Bool → ℕ → ℕ → ℕ
wanted_by true logic t = logic
wanted_by false logic t = t

abbrev pub wanted_of : ℕ → ℕ → ℕ → ℕ
wanted_of provable logic t = wanted_by (eqb t provable) logic t

-- the walk of a statement that has tokens after its typecode
unfoldable pub walk : Tables → ℕ → ℕ → ℕ → Room → List ℕ → Walked
walk T provable logic a m [] = refused too_few_tokens 0 0
walk T provable logic a m (t ∷ xs) = run (pass T (wanted_of provable logic t) xs) a m 0 (start xs)

unfoldable pub walking : Unit {0}
unfolding source keyed find bare bind when numbering checking reducing tables_of present comes_from wanted conversion follow step_by root_step finish converted convert_by unwanted pop_by goal_by complete leaf token branch pass_by pass after run start wanted_by walk
walking = tt
