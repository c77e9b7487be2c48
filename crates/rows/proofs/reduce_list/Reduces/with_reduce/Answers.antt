use mathlib.Core.Path.{◌≡◌}
use borrow.Author.Rules.{rules}
use lib.ListN.{length}
use Rattle.rows.specs.Code.{reduce_is}
use Rattle.rows.proofs.Laws.{refuses, adds}
use Rattle.rows.proofs.reduce_list.Reduces.with_reduce.Goals as goal

pub returns-then-self-ge-MOST_REDUCES : goal.returns-then-self-ge-MOST_REDUCES
returns-then-self-ge-MOST_REDUCES c =
    let s = c.args.self in
    let h : length s.items ≡ 5 = search rules in
    refuses s.count s.items (reduce_is c.args.r) h (search rules)

pub returns : goal.returns
returns c =
    let s = c.args.self in
    let h : length s.items ≡ 5 = search rules in
    rw c.copy_within.ensures.after (adds s.count s.items c.args.r h (search rules))
