-- Garden paths: commands that are run after the rules, in the order given. The numbers in comments are those of the rules in the paper on
-- garden paths. In all of them a fault on a row comes in the order 17, 16, 15, 14, 12, 13, 6.
use Rattle.std.specs.Prelude.{Bool, true, false, ◌&&◌, ◌||◌, not, List, [], ◌∷◌, ◌++◌, map, ℕ, zero, suc, ◌+◌, ◌*◌, eqb, ltb, leb, length, get_or, take, drop}
use Rattle.std.proofs.Math.Option.{Option, some, none}
use Rattle.words.specs.Limits.{most_reduces, most_offset}
use Rattle.words.specs.Outcome.{Res, ok, no, bind, when, pick}
use Rattle.words.specs.Numbers.{Fault, no_node, sixth_reduce, far_offset, bad_copy, many_rows, no_clone}
use Rattle.rules.specs.Rules.{Rule, symbol}
use Rattle.rows.specs.Rows.{Reduce, Edge, find, leaving}
use Rattle.tree.specs.Grow.{Grown, Room, branch_at, add_edge, apart, plant, convert_all, growing}

-- the room of the tables, the frames for clones, and how many rows `clone_branches` may take up in one garden path
pub record Bounds : Type 0 where
  pub room : Room
  pub frames : ℕ
  pub rows : ℕ

-- ---- commands as words (2 to 5)

-- one place of a path's lists: 0 and a constant, or 1 and a slot's typecode
pub record Pair : Type 0 where
  pub kind : ℕ
  pub sym : ℕ

pub data Command : Type 0 where
  conversions : Command
  path : List Pair → List Pair → Command
  bad : Command

unfoldable pub good_pairs : List ℕ → Bool
good_pairs [] = true
good_pairs (k ∷ []) = false
good_pairs (k ∷ s ∷ ws) = not (ltb 1 k) && symbol s && good_pairs ws

unfoldable pub pairs_of : List ℕ → List Pair
pairs_of [] = []
pairs_of (k ∷ []) = []
pairs_of (k ∷ s ∷ ws) = record { kind = k; sym = s } ∷ pairs_of ws

-- a path's words: 1, P, S, the P pairs of the prefix and the S pairs of the shadow
abbrev pub prefix_words : List ℕ → List ℕ
prefix_words ws = take (2 * get_or ws 1 0) (drop 3 ws)

abbrev pub shadow_words : List ℕ → List ℕ
shadow_words ws = take (2 * get_or ws 2 0) (drop (3 + 2 * get_or ws 1 0) ws)

abbrev pub path_size : List ℕ → ℕ
path_size ws = 3 + 2 * get_or ws 1 0 + 2 * get_or ws 2 0

-- the words that a path says it has are there, and both lists are pairs
unfoldable pub good_path : List ℕ → Bool
good_path ws = not (ltb (length ws) 3) && not (ltb (length ws) (path_size ws)) && good_pairs (prefix_words ws) && good_pairs (shadow_words ws)

-- the command that stands first, and how many words it has
unfoldable pub command_of : List ℕ → Command
command_of ws = pick (eqb (get_or ws 0 0) 2) conversions
    (pick (eqb (get_or ws 0 0) 1 && good_path ws) (path (pairs_of (prefix_words ws)) (pairs_of (shadow_words ws))) bad)

unfoldable pub command_size : List ℕ → ℕ
command_size ws = pick (eqb (get_or ws 0 0) 2) 1 (path_size ws)

-- at most k commands; what comes after a bad one is never run
unfoldable pub commands_of : ℕ → List ℕ → List Command
commands_of zero ws = []
commands_of (suc k) [] = []
commands_of (suc k) (w ∷ ws) = command_of (w ∷ ws) ∷ commands_of k (drop (command_size (w ∷ ws)) (w ∷ ws))

-- no command is shorter than a word
abbrev pub the_commands : List ℕ → List Command
the_commands ws = commands_of (length ws) ws

-- ---- lists of reduces

-- increment_offsets: 15 for an offset past 255
unfoldable pub low_offsets : List Reduce → Bool
low_offsets [] = true
low_offsets (d ∷ ds) = ltb d.offset most_offset && low_offsets ds

abbrev pub raised : Reduce → Reduce
raised d = record { rule = d.rule; offset = d.offset + 1 }

unfoldable pub increment_offsets : List Reduce → Res Fault (List Reduce)
increment_offsets ds = when (low_offsets ds) far_offset (map raised ds)

-- as they are before a constant, raised by one before a variable
unfoldable pub raised_on : ℕ → List Reduce → Res Fault (List Reduce)
raised_on zero ds = ok ds
raised_on (suc k) ds = increment_offsets ds

-- one list behind another: 14 for a sixth
unfoldable pub extend : List Reduce → List Reduce → Res Fault (List Reduce)
extend ds more = when (leb (length (ds ++ more)) most_reduces) sixth_reduce (ds ++ more)

-- diff_extend (13b): those of the first list that the second lacks, by their rules; 16 if some of the second are left over
unfoldable pub diff_extend : List Reduce → List Reduce → Res Fault (List Reduce)
diff_extend [] [] = ok []
diff_extend [] (c ∷ cs) = no bad_copy
diff_extend (d ∷ ds) [] = ok (d ∷ ds)
diff_extend (d ∷ ds) (c ∷ cs) =
    elim (eqb d.rule c.rule) [ true ↦ diff_extend ds cs | false ↦ bind (diff_extend ds (c ∷ cs)) λ more. ok (d ∷ more) ]

-- the same rules and offsets in the same order
unfoldable pub same_reduces : List Reduce → List Reduce → Bool
same_reduces [] [] = true
same_reduces [] (d ∷ ds) = false
same_reduces (c ∷ cs) [] = false
same_reduces (c ∷ cs) (d ∷ ds) = eqb c.rule d.rule && eqb c.offset d.offset && same_reduces cs ds

-- ---- the rows of a node that stand when a copy begins

-- in row order: rows rise, so constants come before variables, each by its symbol
unfoldable pub standing : ℕ → List Edge → List Edge
standing n es = leaving n es

-- ---- clone_with_reduce_vec (17): the rows of a node are copied with a list behind their reduces

-- the key and the end of row e, from node n and with these reduces
abbrev pub row_from : ℕ → Edge → List Reduce → Edge
row_from n e ds = record { from = n; kind = e.kind; sym = e.sym; to = e.to; reduces = ds }

-- a key that node m has is kept; else 15, 14, 13
unfoldable pub copy_with : Room → ℕ → List Reduce → Grown → Edge → Option Edge → Res Fault Grown
copy_with z m ds g e (some d) = ok g
copy_with z m ds g e none = bind (raised_on e.kind ds) λ ds. bind (extend e.reduces ds) λ ds. add_edge z g (row_from m e ds)

unfoldable pub copy_rows : Room → ℕ → List Reduce → List Edge → Grown → Res Fault Grown
copy_rows z m ds [] g = ok g
copy_rows z m ds (e ∷ es) g = bind (copy_with z m ds g e (find g.edges m e.kind e.sym)) λ g. copy_rows z m ds es g

unfoldable pub clone_with_reduce_vec : Room → ℕ → ℕ → List Reduce → Grown → Res Fault Grown
clone_with_reduce_vec z n m ds g = copy_rows z m ds (standing n g.edges) g

-- ---- clone_branches (16): node F is cloned to node X with a stored list; t is the shadow's node T

-- F, X and the list
pub record Cloning : Type 0 where
  pub from : ℕ
  pub to : ℕ
  pub stored : List Reduce

-- one that has begun: the rows of F that stood then and are not taken up yet, X and the list
pub record Begun : Type 0 where
  pub rows : List Edge
  pub to : ℕ
  pub stored : List Reduce

-- what comes of a row: the tables, and the clone that has to begin, if any
pub record Taken : Type 0 where
  pub grown : Grown
  pub next : Option Cloning

-- d. what a row that leads to the leaf of rule r carries: its own reduces, the stored ones, and the leaf's rule (15, 14)
unfoldable pub leaf_reduces : ℕ → Edge → List Reduce → Res Fault (List Reduce)
leaf_reduces r e ds = bind (raised_on e.kind ds) λ ds. extend e.reduces (ds ++ record { rule = r; offset = 0 } ∷ [])

abbrev pub leaf_rule : Grown → Edge → ℕ
leaf_rule g e = get_or g.nodes e.to 0

-- the last argument is X's row with the key
unfoldable pub take_leaf : Room → ℕ → ℕ → List Reduce → Grown → Edge → Option Edge → Res Fault Grown
take_leaf z t m ds g e none = bind (leaf_reduces (leaf_rule g e) e ds) λ ds. add_edge z g (record { from = m; kind = e.kind; sym = e.sym; to = t; reduces = ds })
take_leaf z t m ds g e (some d) =
    bind (when (apart g t d.to) bad_copy g) λ g. bind (leaf_reduces (leaf_rule g e) e ds) λ ds. clone_with_reduce_vec z t d.to ds g

-- e. add_branch_with_reduce: a new branch and X's row to it (12, 13); or the row that is there, where other reduces are stored (14)
unfoldable pub add_branch : Room → Grown → ℕ → Edge → Res Fault Grown
add_branch z g m e = bind (when (ltb (length g.nodes) z.nodes) no_node (length g.nodes)) λ k.
    add_edge z (record { nodes = g.nodes ++ 0 ∷ []; edges = g.edges }) (record { from = m; kind = e.kind; sym = e.sym; to = k; reduces = e.reduces })

unfoldable pub store_other : List Reduce → Edge → Edge → Res Fault (List Reduce)
store_other ds e d = elim (same_reduces e.reduces d.reduces) [ true ↦ ok ds | false ↦ extend ds e.reduces ]

unfoldable pub new_branch : Room → ℕ → List Reduce → Grown → Edge → Res Fault Taken
new_branch z m ds g e = bind (add_branch z g m e) λ g'. ok (record { grown = g'; next = some (record { from = e.to; to = length g.nodes; stored = ds }) })

unfoldable pub old_branch : List Reduce → Grown → Edge → Edge → Res Fault Taken
old_branch ds g e d = bind (store_other ds e d) λ ds. ok (record { grown = g; next = some (record { from = e.to; to = d.to; stored = ds }) })

unfoldable pub take_branch : Room → ℕ → List Reduce → Grown → Edge → Option Edge → Res Fault Taken
take_branch z m ds g e none = bind (raised_on e.kind ds) λ ds. new_branch z m ds g e
take_branch z m ds g e (some d) = bind (raised_on e.kind ds) λ ds. old_branch ds g e d

-- whether the row leads to a branch
unfoldable pub take_by : Room → ℕ → ℕ → List Reduce → Grown → Edge → Bool → Res Fault Taken
take_by z t m ds g e true = take_branch z m ds g e (find g.edges m e.kind e.sym)
take_by z t m ds g e false =
    bind (take_leaf z t m ds g e (find g.edges m e.kind e.sym)) λ g. ok (record { grown = g; next = none })

-- b. a row that leads to X is skipped; c. 16 if X is a leaf, or F is X
unfoldable pub take_up : Room → ℕ → ℕ → List Reduce → Grown → Edge → Res Fault Taken
take_up z t m ds g e = elim (eqb e.to m) [
  | true ↦ ok (record { grown = g; next = none })
  | false ↦ bind (when (not (eqb e.from m) && branch_at g m) bad_copy g) λ g. take_by z t m ds g e (branch_at g e.to)
]

-- a clone begins, beside those that have begun and are not done: 6 where there is no frame for it
unfoldable pub begin : ℕ → Grown → Option Cloning → List Begun → Res Fault (List Begun)
begin frames g none cs = ok cs
begin frames g (some c) cs =
    when (ltb (length cs) frames) no_clone (record { rows = standing c.from g.edges; to = c.to; stored = c.stored } ∷ cs)

-- the clones that have begun and are not done, the last one first; k more rows may be taken up (a), and each clone is done whole before the
-- next row of the one that began it
unfoldable pub clones : Bounds → ℕ → ℕ → List Begun → Grown → Res Fault Grown
clones z t zero [] g = ok g
clones z t zero (c ∷ cs) g = elim c.rows [ [] ↦ clones z t zero cs g | e ∷ es ↦ no many_rows ]
clones z t (suc k) [] g = ok g
clones z t (suc k) (c ∷ cs) g = elim c.rows [
  | [] ↦ clones z t (suc k) cs g
  | e ∷ es ↦ bind (take_up z.room t c.to c.stored g e) λ u.
      bind (begin z.frames u.grown u.next (record { rows = es; to = c.to; stored = c.stored } ∷ cs)) λ cs. clones z t k cs u.grown
]

unfoldable pub clone_branches : Bounds → ℕ → Cloning → Grown → Res Fault Grown
clone_branches z t c g = bind (begin z.frames g (some c) []) λ cs. clones z t z.rows cs g

-- ---- a garden path (10 to 15)

-- the edge for a pair, or 16
unfoldable pub the_edge : Option Edge → Res Fault Edge
the_edge none = no bad_copy
the_edge (some e) = ok e

abbrev pub edge_for : Grown → ℕ → Pair → Res Fault Edge
edge_for g n p = the_edge (find g.edges n p.kind p.sym)

-- where the two lists part: the node C, the rest of the prefix, and the shadow's pair
pub record Parting : Type 0 where
  pub node : ℕ
  pub rest : List Pair
  pub shadow : Pair

-- where an edge leads, asked for a pair of this kind alone
unfoldable pub leads_to : Res Fault Edge → Res Fault ℕ
leads_to x = bind x λ e. ok e.to

unfoldable pub of_kind : ℕ → Pair → Res Fault ℕ → Res Fault ℕ
of_kind k p x = bind (when (eqb p.kind k) bad_copy p) λ p. x

-- 10 and 11: constants from node n on, as long as the two are equal; a leaf has no edge
unfoldable pub part_at : Grown → ℕ → List Pair → List Pair → Res Fault Parting
part_at g n [] qs = no bad_copy
part_at g n (p ∷ ps) [] = no bad_copy
part_at g n (p ∷ ps) (q ∷ qs) = elim (eqb p.kind q.kind && eqb p.sym q.sym) [
  | true ↦ bind (of_kind 0 p (leads_to (edge_for g n p))) λ n. part_at g n ps qs
  | false ↦ ok (record { node = n; rest = p ∷ ps; shadow = q })
]

-- 12: the node T that the shadow's slot leads to
unfoldable pub shadowed : Grown → Parting → Res Fault ℕ
shadowed g c = of_kind 1 c.shadow (leads_to (edge_for g c.node c.shadow))

-- 13: the two places, and the list that is stored on the way
pub record Places : Type 0 where
  pub first : ℕ
  pub second : ℕ
  pub stored : List Reduce

-- b to e: for each pair 16, 15, 14
unfoldable pub move_on : ℕ → Places → Edge → Edge → Res Fault Places
move_on k s e f = bind (diff_extend f.reduces e.reduces) λ missing. bind (raised_on k s.stored) λ ds. bind (extend ds missing) λ ds.
    ok (record { first = e.to; second = f.to; stored = ds })

unfoldable pub along_pair : Grown → Places → Pair → Res Fault Places
along_pair g s p = bind (edge_for g s.first p) λ e. bind (edge_for g s.second p) λ f. move_on p.kind s e f

unfoldable pub along : Grown → Places → List Pair → Res Fault Places
along g s [] = ok s
along g s (p ∷ ps) = bind (along_pair g s p) λ s. along g s ps

-- 14: the second place is the leaf of a rule
unfoldable pub graft_leaf : Room → ℕ → Places → Grown → Res Fault Grown
graft_leaf z t s g = bind (when (apart g t s.first) bad_copy g) λ g.
    bind (extend s.stored (record { rule = get_or g.nodes s.second 0; offset = 0 } ∷ [])) λ ds. clone_with_reduce_vec z t s.first ds g

-- 15: it is a branch
unfoldable pub graft : Bounds → ℕ → Places → Grown → Bool → Res Fault Grown
graft z t s g true = clone_branches z t (record { from = s.second; to = s.first; stored = s.stored }) g
graft z t s g false = graft_leaf z.room t s g

unfoldable pub graft_at : Bounds → ℕ → ℕ → List Pair → Grown → Res Fault Grown
graft_at z n t rest g = bind (along g (record { first = n; second = 0; stored = [] }) rest) λ s. graft z t s g (branch_at g s.second)

unfoldable pub handle_common_prefixes : Bounds → List Pair → List Pair → Grown → Res Fault Grown
handle_common_prefixes z prefix shadow g = bind (part_at g 0 prefix shadow) λ c. bind (shadowed g c) λ t. graft_at z c.node t c.rest g

-- ---- the build (6 to 9)

unfoldable pub handle_command : Bounds → List Rule → Command → Grown → Res Fault Grown
handle_command z R conversions g = convert_all z.room 1 R g
handle_command z R (path prefix shadow) g = handle_common_prefixes z prefix shadow g
handle_command z R bad g = no bad_copy

-- in the order given, each done whole before the next
unfoldable pub handle_commands : Bounds → List Rule → List Command → Grown → Res Fault Grown
handle_commands z R [] g = ok g
handle_commands z R (c ∷ cs) g = bind (handle_command z R c g) λ g. handle_commands z R cs g

-- the conversions, unless a command asked for them
unfoldable pub is_conversions : Command → Bool
is_conversions conversions = true
is_conversions (path prefix shadow) = false
is_conversions bad = false

unfoldable pub asked : List Command → Bool
asked [] = false
asked (c ∷ cs) = is_conversions c || asked cs

unfoldable pub convert_last : Bounds → List Rule → Grown → Bool → Res Fault Grown
convert_last z R g true = ok g
convert_last z R g false = convert_all z.room 1 R g

unfoldable pub tend : Bounds → List Rule → List Command → Grown → Res Fault Grown
tend z R cs g = bind (handle_commands z R cs g) λ g. convert_last z R g (asked cs)

unfoldable pub build : Bounds → List Rule → List Command → Res Fault Grown
build z R cs = bind (plant z.room R) λ g. tend z R cs g

unfoldable pub gardening : Unit {0}
unfolding growing symbol good_pairs pairs_of good_path command_of command_size commands_of low_offsets increment_offsets raised_on extend diff_extend same_reduces standing copy_with copy_rows clone_with_reduce_vec leaf_reduces take_leaf add_branch store_other new_branch old_branch take_branch take_by take_up begin clones clone_branches the_edge leads_to of_kind part_at shadowed move_on along_pair along graft_leaf graft graft_at handle_common_prefixes handle_command handle_commands is_conversions asked convert_last tend build
gardening = tt
