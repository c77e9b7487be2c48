use mathlib.Core.Path.{refl, sym, ◌∙◌}
use Rattle.rules.specs.Rules.{rule_of}
use Rattle.walk.proofs.Laws.{from-is, converts-not, converts-from}
use Rattle.walk.proofs.wanted.converts.Goals as goal

pub returns-then-eq : goal.returns-then-eq
returns-then-eq c =
    let a = c.args in
    let e = sym (from-is _ (λ x y. refl) c.conversion_of.result a.t) ∙ sym c.eq.ensures ∙ c.if-eq.true in
    converts-from a.g.now.edges.now a.wish (rule_of a.s.now) a.t.0 c.conversion_of.result c.conversion_of.ensures e c.result_of.result.0 c.result_of.ensures c.wanted.ensures

pub returns-else-eq : goal.returns-else-eq
returns-else-eq c =
    let a = c.args in
    let e = sym (from-is _ (λ x y. refl) c.conversion_of.result a.t) ∙ sym c.eq.ensures ∙ c.if-eq.false in
    rw c.if-eq.false (converts-not a.g.now.edges.now a.wish (rule_of a.s.now) a.t.0 c.conversion_of.result c.conversion_of.ensures e)
