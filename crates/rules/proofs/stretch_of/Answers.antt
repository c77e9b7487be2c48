use mathlib.Core.Path.{sym, ◌∙◌}
use Prim.Native.Nat.{◌≤◌, ◌*◌, ◌+◌}
use mathlib.Core.Path.{◌≡◌, subst}
use mathlib.Core.Bool.{true}
use native.Mathlib.Omega.{arith}
use lib.ListN.{length, drop}
use Rattle.words.specs.Limits.{most_items, most_rules}
use Rattle.words.proofs.Theorems.Parts.{part-all}
use Rattle.rules.specs.Rules.{item_width, size_of, rules_good}
use Rattle.rules.specs.Code.{Starts, Found}
use Rattle.rules.proofs.Theorems.Words.{rules-good, good-rule, words-most}
use Rattle.rules.proofs.Laws.{part-size-of}
use Rattle.rules.proofs.stretch_of.Goals as goal

pub returns-then-not-rules_good : goal.returns-then-not-rules_good
returns-then-not-rules_good c = rw (sym c.rules_good.ensures ∙ c.if-not-rules_good.true)

pub step_to-requires : goal.step_to-requires
step_to-requires c =
    let good : rules_good c.args.codes.provable.0 c.args.codes.logic.0 c.args.rules.now ≡ true = sym c.rules_good.ensures ∙ c.if-not-rules_good.false in
    rules-good _ _ _ good

pub returns-in_default : goal.returns-in_default
returns-in_default c =
    let good : rules_good c.args.codes.provable.0 c.args.codes.logic.0 c.args.rules.now ≡ true = sym c.rules_good.ensures ∙ c.if-not-rules_good.false in
    let none = subst (λ r. Found c.args.rules.now c.args.no.0 r) c.in_default.is c.step_to.ensures in
    rw (good, none.unstretched)

pub offset_bounds-rules-i : goal.offset_bounds-rules-i
offset_bounds-rules-i c =
    let starts : Starts c.args.rules.now c.args.no.0 c.in-Some.i = subst (λ r. Found c.args.rules.now c.args.no.0 r) c.in-Some.is c.step_to.ensures in
    omega (arith, starts.fits)

pub slice_bounds-size_of-count : goal.slice_bounds-size_of-count
slice_bounds-size_of-count c =
    let starts : Starts c.args.rules.now c.args.no.0 c.in-Some.i = subst (λ r. Found c.args.rules.now c.args.no.0 r) c.in-Some.is c.step_to.ensures in
    omega (arith, starts.fits)

pub slice_bounds-size_of-start : goal.slice_bounds-size_of-start
slice_bounds-size_of-start c =
    let starts : Starts c.args.rules.now c.args.no.0 c.in-Some.i = subst (λ r. Found c.args.rules.now c.args.no.0 r) c.in-Some.is c.step_to.ensures in
    omega (arith, starts.fits)

pub size_of-size-requires : goal.size_of-size-requires
size_of-size-requires c =
    let starts : Starts c.args.rules.now c.args.no.0 c.in-Some.i = subst (λ r. Found c.args.rules.now c.args.no.0 r) c.in-Some.is c.step_to.ensures in
    let i = c.in-Some.i in
    let ws = c.args.rules.now in
    rw (part-all ws i) (good-rule 0 (drop i ws) starts.good).two

pub overflow_add-result : goal.overflow_add-result
overflow_add-result c =
    let starts : Starts c.args.rules.now c.args.no.0 c.in-Some.i = subst (λ r. Found c.args.rules.now c.args.no.0 r) c.in-Some.is c.step_to.ensures in
    let good : rules_good c.args.codes.provable.0 c.args.codes.logic.0 c.args.rules.now ≡ true = sym c.rules_good.ensures ∙ c.if-not-rules_good.false in
    let few : length c.args.rules.now ≤ most_rules * (2 + item_width * most_items) = words-most 0 most_rules _ (rules-good _ _ _ good) in
    omega (arith, starts.fits, few)

pub overflow_cast-result : goal.overflow_cast-result
overflow_cast-result c =
    let starts : Starts c.args.rules.now c.args.no.0 c.in-Some.i = subst (λ r. Found c.args.rules.now c.args.no.0 r) c.in-Some.is c.step_to.ensures in
    let good : rules_good c.args.codes.provable.0 c.args.codes.logic.0 c.args.rules.now ≡ true = sym c.rules_good.ensures ∙ c.if-not-rules_good.false in
    let few : length c.args.rules.now ≤ most_rules * (2 + item_width * most_items) = words-most 0 most_rules _ (rules-good _ _ _ good) in
    omega (arith, starts.fits, few)

pub overflow_cast-result-2 : goal.overflow_cast-result-2
overflow_cast-result-2 c =
    let starts : Starts c.args.rules.now c.args.no.0 c.in-Some.i = subst (λ r. Found c.args.rules.now c.args.no.0 r) c.in-Some.is c.step_to.ensures in
    let good : rules_good c.args.codes.provable.0 c.args.codes.logic.0 c.args.rules.now ≡ true = sym c.rules_good.ensures ∙ c.if-not-rules_good.false in
    let few : length c.args.rules.now ≤ most_rules * (2 + item_width * most_items) = words-most 0 most_rules _ (rules-good _ _ _ good) in
    let size : c.size_of-size.result ≡ size_of (drop c.in-Some.i c.args.rules.now) = part-size-of c.args.rules.now c.in-Some.i c.size_of-size.ensures in
    omega (arith, starts.fits, few, size)

pub returns : goal.returns
returns c =
    let good : rules_good c.args.codes.provable.0 c.args.codes.logic.0 c.args.rules.now ≡ true = sym c.rules_good.ensures ∙ c.if-not-rules_good.false in
    let starts : Starts c.args.rules.now c.args.no.0 c.in-Some.i = subst (λ r. Found c.args.rules.now c.args.no.0 r) c.in-Some.is c.step_to.ensures in
    let size : c.size_of-size.result ≡ size_of (drop c.in-Some.i c.args.rules.now) = part-size-of c.args.rules.now c.in-Some.i c.size_of-size.ensures in
    rw (good, starts.stretched, size)
