use Prim.Native.Nat.{ℕ, ◌/◌}
use mathlib.Core.Path.{◌≡◌, refl}
use mathlib.Core.Bool.{true, false}
use native.Mathlib.Nat.{sub-zero}
use borrow.Author.Rules.{rules}
use borrow.Author.Tests.{tests}
use lib.ListN.{length}
use Rattle.std.proofs.lemmas.Iterator.{cases_from_all, YieldsList-from_range}
use Rattle.rows.proofs.Laws.{row_ok, rows-checked}
use Rattle.rows.proofs.check.rows_good.Goals as goal

pub returns : goal.returns
returns c =
    let most = c.args.rules in
    let ns = c.args.nodes.now in
    let ws = c.args.edges.now in
    rows-checked ns ws most c.all.result
    (cases_from_all _ _ _ (λ (i : ℕ). row_ok ns ws most i ≡ true) (λ (i : ℕ). row_ok ns ws most i ≡ false) c.all.ensures.ran (YieldsList-from_range 0 (length ws / 16) (length ws / 16) refl (sub-zero _)) (λ x q k. search (rules, tests)) (λ x q k. search (rules, tests)))
