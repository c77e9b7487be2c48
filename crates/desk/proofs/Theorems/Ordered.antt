-- The order of rows is not seen: what a build without garden paths makes is parsed as if each row had been put after those before it.
use Rattle.std.specs.Prelude.{◌≡◌, Bool, not, ℕ, ◌*◌, ◌-◌, ◌≤◌}
use Rattle.std.proofs.Math.Path.{refl, ap}
use Rattle.std.proofs.Common.{sym, ◌∙◌, arith, le-ltb}
use Rattle.std.proofs.Math.Bool.{true, false}
use mathlib.Core.List.{List, []}
use Rattle.std.proofs.Math.ListN.{length}
use Rattle.std.proofs.Math.Seq.{take_at}
use Rattle.words.specs.Limits.{most_tokens, row_width}
use Rattle.words.specs.Lent.{zeros}
use Rattle.words.specs.Outcome.{Res, ok, no, pick, first_fault}
use Rattle.words.specs.Numbers.{too_few_tokens, bad_tables, too_many_tokens, bad_rules, Fault}
use Rattle.words.proofs.Theorems.Faults.{met}
use Rattle.rules.specs.Rules.{Rule, the_rules, rules_good}
use Rattle.rules.proofs.Theorems.Every.{All, all_map}
use Rattle.rows.specs.Rows.{edges_of, edge_words}
use Rattle.rows.proofs.Theorems.Fair.{RowOk}
use Rattle.rows.proofs.Theorems.Words.{Short, edge_words-length, edges-back}
use Rattle.tree.specs.Grow.{Grown, Room, grow}
use Rattle.tree.proofs.Theorems.Appended.{grow_appending, Alike, Same, grow-same}
use Rattle.garden.specs.Garden.{the_commands}
use Rattle.garden.proofs.Theorems.Alone.{no-commands}
use Rattle.garden.proofs.Theorems.Built.{built-inv}
use Rattle.walk.specs.Walk.{tables_of, walk}
use Rattle.walk.specs.Walk as passes
use Rattle.walk.proofs.Theorems.Alike.{walk-alike, rows_alike}
use Rattle.desk.specs.Entry.{Built, not_built, built_by, build_room, garden_bounds, build_gives, Lent, walk_room, parsed, parse_demands, parse_gives}
use Rattle.desk.proofs.Theorems.Promises.{walk-goes, none-fails, nodes_in, edges_in, fault-not-0, built-passes, asked_of, no-commands-build}

-- ---- the two trees

-- what comes of the rules where each row is put after those before it
pub record Came (z : Room) (R : List Rule) (g : Grown) : Type 0 where
  pub tree : Grown
  pub grows : grow_appending z R ≡ ok tree
  pub alike : Alike g tree

came : (z : Room) (R : List Rule) (g : Grown) → grow z R ≡ ok g → Came z R g
came z R g e = by (grow_appending z R) refl (rw e at (grow-same z R))
  where
    by : (x : Res Fault Grown) → grow_appending z R ≡ x → Same (ok g) x → Came z R g
    by (ok h) q a = record { tree = h; grows = q; alike = a }
    by (no y) q a = absurd a

trees-walk : (R : List Rule) (g h : Grown) → Alike g h → (provable logic a : ℕ) (m : passes.Room) (ts : List ℕ)
    → walk (tables_of R g.nodes g.edges) provable logic a m ts ≡ walk (tables_of R h.nodes h.edges) provable logic a m ts
trees-walk R g h l provable logic a m ts = rw l.nodes
    (walk-alike (tables_of R h.nodes g.edges) (tables_of R h.nodes h.edges) (rows_alike R h.nodes g.edges h.edges l.edges.finds) provable logic a m ts)

-- ---- a build without commands, and a parse of what it made

module _ (provable logic : ℕ) (rules : List ℕ) (nodes edges frames : ℕ) where
  abbrev pub made : Built
  made = build_gives provable logic rules [] nodes edges frames

  -- every answer of a parse, list and passes among them, is that of the walk over the rows in the order of their coming
  pub record Unseen : Type 0 where
    pub tree : Grown
    pub grows : grow_appending (build_room nodes edges) (the_rules rules) ≡ ok tree
    pub parses : (tokens : List ℕ) → 2 ≤ length tokens → length tokens ≤ most_tokens → (a : ℕ) (s : Lent)
        → parse_gives (asked_of provable logic rules made tokens) a s ≡ parsed s (walk (tables_of (the_rules rules) tree.nodes tree.edges) provable logic a (walk_room s) tokens)

  module _ (e : made.number ≡ 0) (r : rules_good provable logic rules ≡ true) (g : Grown) (w : grow (build_room nodes edges) (the_rules rules) ≡ ok g)
      (q : made ≡ built_by nodes edges frames (ok g)) where
    all_short : All Short g.edges
    all_short =
        let z = garden_bounds nodes edges frames in
        let v = built-inv provable logic rules z (the_commands []) r g (no-commands z (the_rules rules) ∙ w) in
        all_map (RowOk (length (the_rules rules)) g.nodes) Short (λ e o. o.few) g.edges v.fair.rows

    nodes-are : nodes_in made ≡ g.nodes
    unfolding built_by
    nodes-are = ap (λ (b : Built). nodes_in b) q ∙ take_at g.nodes (zeros (nodes - length g.nodes)) (length g.nodes) refl

    edges_are : edges_of (edges_in made) ≡ g.edges
    unfolding built_by
    edges_are =
        let cut = take_at (edge_words g.edges) (zeros (edges - length (edge_words g.edges))) (row_width * length g.edges) (edge_words-length g.edges) in
        ap (λ (b : Built). edges_of (edges_in b)) q ∙ ap (λ (ws : List ℕ). edges_of ws) cut ∙ edges-back g.edges all_short

    demands-met : (tokens : List ℕ) → 2 ≤ length tokens → length tokens ≤ most_tokens → first_fault (parse_demands (asked_of provable logic rules made tokens)) ≡ 0
    demands-met tokens long short = met r bad_rules _ ∙ met (built-passes provable logic rules [] nodes edges frames e) bad_tables _
        ∙ met (ap not (le-ltb _ _ long)) too_few_tokens _ ∙ met (ap not (le-ltb _ _ short)) too_many_tokens _ ∙ none-fails

    unseen : Unseen
    unfolding parse_gives
    unseen =
        let c = came (build_room nodes edges) (the_rules rules) g w in
        record {
          tree = c.tree;
          grows = c.grows;
          parses = λ tokens long short a s. ap (parsed s)
              (sym (walk-goes (asked_of provable logic rules made tokens) a (walk_room s) (demands-met tokens long short))
              ∙ (λ i. walk (tables_of (the_rules rules) (nodes-are i) (edges_are i)) provable logic a (walk_room s) tokens)
              ∙ trees-walk (the_rules rules) g c.tree c.alike provable logic a (walk_room s) tokens);
        }

  pub order-unseen : made.number ≡ 0 → Unseen
  unfolding built_by
  order-unseen e = by (rules_good provable logic rules) refl (grow (build_room nodes edges) (the_rules rules)) refl (no-commands-build provable logic rules nodes edges frames).0
    where
      by : (b : Bool) → rules_good provable logic rules ≡ b → (x : Res Fault Grown) → grow (build_room nodes edges) (the_rules rules) ≡ x
          → made ≡ pick b (built_by nodes edges frames x) (not_built bad_rules nodes edges frames) → Unseen
      by true r (ok g) w q = unseen e r g w q
      by true r (no y) w q = absurd (fault-not-0 y (sym (ap (λ (b : Built). b.number) q) ∙ e))
      by false r x w q = absurd (omega (arith, e, ap (λ (b : Built). b.number) q))
