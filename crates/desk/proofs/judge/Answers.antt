use Rattle.std.proofs.Common.{◌≡◌, Err, [], ◌∷◌, not, ltb, length, rules, arith, sym, ◌∙◌}
use Rattle.words.specs.Limits.{most_tokens}
use Rattle.words.specs.Numbers.{number, misfit, bad_rules, too_few_tokens, too_many_tokens}
use Rattle.words.specs.Outcome.{demand, first_fault}
use Rattle.words.specs.Code.{code}
use Rattle.words.proofs.Theorems.Tests.{tests}
use Rattle.words.proofs.Theorems.Faults.{met, unmet, fault-first, code-some}
use Rattle.rules.proofs.Theorems.Words.{rules-good}
use Rattle.desk.proofs.Laws.{decided}
use Rattle.desk.proofs.Theorems.Promises.{Asks}
use Rattle.desk.proofs.judge.Goals as goal

pub returns-then-not-rules_good : goal.returns-then-not-rules_good
unfolding first_fault
returns-then-not-rules_good c = search (tests, sym c.rules_good.ensures ∙ c.if-not-rules_good.true)

pub returns-in_err-allowed : goal.returns-in_err-allowed
returns-in_err-allowed c =
    let y = c.in_err-allowed.field-0.0 in
    let e : c.from_residual.result ≡ Err y = search rules in
    let f = fault-first (demand (not (ltb (length c.args.tokens.now) 2)) too_few_tokens ∷ demand (not (ltb most_tokens (length c.args.tokens.now))) too_many_tokens ∷ []) _ (code y) (code-some y) (search rules) in
    rw e (f ∙ sym (met (sym c.rules_good.ensures ∙ c.if-not-rules_good.false) bad_rules _))

pub returns-then-work-list : goal.returns-then-work-list
unfolding first_fault number
returns-then-work-list c = search (tests, rules, sym c.rules_good.ensures ∙ c.if-not-rules_good.false)

pub invariant_of-book : goal.invariant_of-book
invariant_of-book c =
    record { ruled = record { good = rules-good _ _ _ (sym c.rules_good.ensures ∙ c.if-not-rules_good.false); index = λ n g. absurd (omega arith) } }

pub check-requires : goal.check-requires
check-requires c = search rules

pub returns-then-not-check : goal.returns-then-not-check
unfolding first_fault number
returns-then-not-check c =
    let a = c.args in
    let h : Asks a.codes.provable.0 a.codes.logic.0 a.rules.now a.tokens.now a.list.now (length a.work.now) = record { good = sym c.rules_good.ensures ∙ c.if-not-rules_good.false; long = search rules; short = search rules; room = search rules } in
    sym (decided _ _ _ _ _ _ _ _ h c.goal_of-goal.ensures c.check.ensures ∙ unmet {b = c.check.result} c.if-not-check.true (number misfit) [])

pub returns : goal.returns
unfolding first_fault
returns c =
    let a = c.args in
    let h : Asks a.codes.provable.0 a.codes.logic.0 a.rules.now a.tokens.now a.list.now (length a.work.now) = record { good = sym c.rules_good.ensures ∙ c.if-not-rules_good.false; long = search rules; short = search rules; room = search rules } in
    sym (decided _ _ _ _ _ _ _ _ h c.goal_of-goal.ensures c.check.ensures ∙ met {b = c.check.result} c.if-not-check.false (number misfit) [])
