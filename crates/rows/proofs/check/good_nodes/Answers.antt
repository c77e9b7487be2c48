use Prim.Native.Nat.{ℕ, ◌≤◌, ◌<◌}
use borrow.Author.Rules.{rules}
use borrow.Author.Tests.{tests}
use Rattle.std.proofs.lemmas.Iterator.{cases_from_all, YieldsList-from_slice}
use Rattle.rows.proofs.Laws.{nodes-checked}
use Rattle.rows.proofs.check.good_nodes.Goals as goal

pub returns : goal.returns
returns c =
    let most = c.args.rules in
    nodes-checked most c.args.nodes.now c.all.result
    (cases_from_all _ _ _ (λ (w : ℕ). w ≤ most) (λ (w : ℕ). most < w) c.all.ensures.ran (YieldsList-from_slice c.args.nodes.now cc) (λ x q k. search (rules, tests)) (λ x q k. search (rules, tests)))
