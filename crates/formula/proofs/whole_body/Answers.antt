use Prim.Native.Nat.{◌+◌, ◌*◌, ◌<◌}
use mathlib.Core.Path.{◌≡◌, ap, ◌∙◌}
use native.Mathlib.Omega.{arith}
use lib.ListN.{length, drop}
use Rattle.words.proofs.Theorems.Parts.{part-all}
use Rattle.rules.specs.Rules.{items_of, rule_of}
use Rattle.formula.specs.Code.{places}
use Rattle.formula.proofs.Checking.{word_fits, whole-body}
use Rattle.formula.proofs.whole_body.Goals as goal

pub body_of-body-requires : goal.body_of-body-requires
body_of-body-requires c = rw (part-all c.args.rules.now c.args.i) c.requires.2

pub overflow_cast-items : goal.overflow_cast-items
overflow_cast-items c =
    let count : c.items_in-items.result ≡ length (rule_of (drop c.args.i c.args.rules.now)).body = c.items_in-items.ensures ∙ ap (λ ws. length (items_of ws)) (rw (part-all c.args.rules.now c.args.i) at c.body_of-body.ensures) in
    let small : c.args.i * places + c.items_in-items.result < 16777216 = word_fits c.args.rules.now c.args.i c.items_in-items.result c.requires.0 c.requires.1 c.requires.2 count in
    omega (arith, small)

pub overflow_cast-result : goal.overflow_cast-result
overflow_cast-result c =
    let count : c.items_in-items.result ≡ length (rule_of (drop c.args.i c.args.rules.now)).body = c.items_in-items.ensures ∙ ap (λ ws. length (items_of ws)) (rw (part-all c.args.rules.now c.args.i) at c.body_of-body.ensures) in
    let small : c.args.i * places + c.items_in-items.result < 16777216 = word_fits c.args.rules.now c.args.i c.items_in-items.result c.requires.0 c.requires.1 c.requires.2 count in
    omega (arith, small)

pub overflow_mul-result : goal.overflow_mul-result
overflow_mul-result c =
    let count : c.items_in-items.result ≡ length (rule_of (drop c.args.i c.args.rules.now)).body = c.items_in-items.ensures ∙ ap (λ ws. length (items_of ws)) (rw (part-all c.args.rules.now c.args.i) at c.body_of-body.ensures) in
    let small : c.args.i * places + c.items_in-items.result < 16777216 = word_fits c.args.rules.now c.args.i c.items_in-items.result c.requires.0 c.requires.1 c.requires.2 count in
    omega (arith, small)

pub overflow_add-result : goal.overflow_add-result
overflow_add-result c =
    let count : c.items_in-items.result ≡ length (rule_of (drop c.args.i c.args.rules.now)).body = c.items_in-items.ensures ∙ ap (λ ws. length (items_of ws)) (rw (part-all c.args.rules.now c.args.i) at c.body_of-body.ensures) in
    let small : c.args.i * places + c.items_in-items.result < 16777216 = word_fits c.args.rules.now c.args.i c.items_in-items.result c.requires.0 c.requires.1 c.requires.2 count in
    omega (arith, small)

pub returns : goal.returns
returns c =
    let count : c.items_in-items.result ≡ length (rule_of (drop c.args.i c.args.rules.now)).body = c.items_in-items.ensures ∙ ap (λ ws. length (items_of ws)) (rw (part-all c.args.rules.now c.args.i) at c.body_of-body.ensures) in
    whole-body c.args.rules.now c.args.i c.items_in-items.result c.requires.0 c.requires.1 c.requires.2 count
