use Rattle.std.proofs.Common.{refl, arith, rules}
use Rattle.rules.proofs.Theorems.Words.{rules-good}
use Rattle.rows.proofs.Theorems.Fair.{tables-fair, tables-few}
use Rattle.desk.specs.Code.{asked_many_over, lent_many}
use Rattle.desk.proofs.Theorems.Batches.{fits-fails-none}
use Rattle.desk.proofs.Whole.{few-answers, few-index, tried-refused, tried-accepted}
use Rattle.desk.proofs.many.parse_indexed.Goals as goal

pub count-n-requires : goal.count-n-requires
count-n-requires c = rules-good _ _ _ c.args.ground.now.rules

pub returns-then-answers-count : goal.returns-then-answers-count
returns-then-answers-count c =
    let a = c.args in
    let g = a.ground.now in
    let q = asked_many_over g a.statements.now in
    let s = lent_many a.frames.now a.list.now a.work.now a.answers.now a.index.now in
    tried-refused q _ s _ _ refl refl 7 0 (few-answers q s g.rules g.tables c.requires.0 (omega (arith, c.requires.1, c.if-answers-count.true))) (λ e. absurd (omega arith)) refl

pub returns-then-index-size : goal.returns-then-index-size
returns-then-index-size c =
    let a = c.args in
    let g = a.ground.now in
    let q = asked_many_over g a.statements.now in
    let s = lent_many a.frames.now a.list.now a.work.now a.answers.now a.index.now in
    tried-refused q _ s _ _ refl refl 7 0
    (few-index q s g.rules g.tables c.requires.0 (omega (arith, c.requires.1, c.if-answers-count.false)) (omega (arith, c.count-n.ensures, c.if-index-size.true)))
    (λ e. absurd (omega arith)) refl

pub index_rows-requires : goal.index_rows-requires
index_rows-requires c =
    let g = c.args.ground.now in
    let f = tables-few _ g.grammar.nodes.now g.grammar.edges.now g.tables in
    ((tables-fair _ g.grammar.nodes.now g.grammar.edges.now g.tables).order, f.1, omega (arith, f.0, c.split_at_mut-firsts.ensures.front_len))

pub returns : goal.returns
returns c =
    let a = c.args in
    let g = a.ground.now in
    let q = asked_many_over g a.statements.now in
    let s = lent_many a.frames.now a.list.now a.work.now a.answers.now a.index.now in
    let f = fits-fails-none q s (record { rules = g.rules; tables = g.tables; statements = c.requires.0; answers = omega (arith, c.requires.1, c.if-answers-count.false); index = omega (arith, c.count-n.ensures, c.if-index-size.false) }) in
    tried-accepted q _ s _ _ c.parse_all-used.auto.list c.parse_all-used.auto.answers f _ _ c.requires.1 (search rules)
