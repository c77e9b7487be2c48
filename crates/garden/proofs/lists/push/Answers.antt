use Rattle.std.proofs.Common.{◌≡◌, rules, length}
use Rattle.garden.proofs.Carried.{pushes-none, pushes-one}
use Rattle.garden.proofs.lists.push.Goals as goal

pub returns-then-count-ge-MOST_REDUCES : goal.returns-then-count-ge-MOST_REDUCES
returns-then-count-ge-MOST_REDUCES c =
    let l : length c.args.list.items ≡ 5 = search rules in
    pushes-none c.args.list c.args.r l c.if-count-ge-MOST_REDUCES.true

pub returns : goal.returns
returns c =
    let l : length c.args.list.items ≡ 5 = search rules in
    pushes-one c.args.list c.args.r l c.if-count-ge-MOST_REDUCES.false
