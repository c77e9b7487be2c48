use Rattle.std.proofs.Common.{arith, sym, ◌∙◌}
use Rattle.words.specs.Outcome.{first_fault}
use Rattle.words.proofs.Theorems.Tests.{tests}
use Rattle.rules.proofs.Theorems.Words.{rules-good}
use Rattle.desk.proofs.Laws.{counted-tables}
use Rattle.desk.proofs.ground.Ground.new.Goals as goal

pub returns-then-not-rules_good-clause-number : goal.returns-then-not-rules_good-clause-number
unfolding first_fault
returns-then-not-rules_good-clause-number c = search (tests, sym c.rules_good.ensures ∙ c.if-not-rules_good.true)

pub count-requires : goal.count-requires
count-requires c = rules-good _ _ _ (sym c.rules_good.ensures ∙ c.if-not-rules_good.false)

pub returns-then-not-tables_good-clause-number : goal.returns-then-not-tables_good-clause-number
unfolding first_fault
returns-then-not-tables_good-clause-number c =
    search (tests, sym c.rules_good.ensures ∙ c.if-not-rules_good.false, sym (counted-tables _ _ c.count.ensures c.tables_good.ensures) ∙ c.if-not-tables_good.true)

pub invariant_of-book : goal.invariant_of-book
invariant_of-book c =
    record { ruled = record { good = rules-good _ _ _ (sym c.rules_good.ensures ∙ c.if-not-rules_good.false); index = λ n h. absurd (omega arith) } }

pub returns-clause-number : goal.returns-clause-number
unfolding first_fault
returns-clause-number c =
    search (tests, sym c.rules_good.ensures ∙ c.if-not-rules_good.false, sym (counted-tables _ _ c.count.ensures c.tables_good.ensures) ∙ c.if-not-tables_good.false)
