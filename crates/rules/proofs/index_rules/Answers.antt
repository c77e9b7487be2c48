use Rattle.std.proofs.Common.{length-drop, rules, arith}
use Rattle.words.proofs.Theorems.Parts.{part-all}
use Rattle.words.specs.Limits.{most_rules}
use Rattle.rules.proofs.Theorems.Words.{words-most}
use Rattle.rules.proofs.Laws.{part-size-of}
use Rattle.rules.proofs.Index.{marking-none, marking-here, marking-more, marking-inside, few}
use Rattle.rules.proofs.index_rules.Goals as goal

pub loop-mark-init : goal.loop-mark-init
loop-mark-init c = marking-none c.args.rules.now c.args.starts.now c.requires.0

-- the place of a rule, as the index word has it, is small enough for it
pub overflow_cast-mark : goal.overflow_cast-mark
overflow_cast-mark c =
    let short = words-most 0 most_rules c.args.rules.now c.requires.0 in
    omega (arith, short, c.loop-mark.invariant.within)

pub overflow_mul-mark : goal.overflow_mul-mark
overflow_mul-mark c =
    let short = words-most 0 most_rules c.args.rules.now c.requires.0 in
    omega (arith, short, c.loop-mark.invariant.within)

pub slots_of-requires : goal.slots_of-requires
slots_of-requires c =
    let l = c.loop-mark in
    let b = marking-inside c.args.rules.now l.mark-index l.at l.mark-items l.invariant (omega (arith, c.loop-mark-test.true, c.requires.1)) in
    rw (part-all c.args.rules.now l.at) (marking-here c.args.rules.now l.mark-index l.at l.mark-items l.invariant b).good

pub overflow_add-mark : goal.overflow_add-mark
overflow_add-mark c =
    let l = c.loop-mark in
    let short = words-most 0 most_rules c.args.rules.now c.requires.0 in
    let b = marking-inside c.args.rules.now l.mark-index l.at l.mark-items l.invariant (omega (arith, c.loop-mark-test.true, c.requires.1)) in
    let f = few c.args.rules.now l.mark-index l.at l.mark-items l.invariant b in
    let e = rw (part-all c.args.rules.now l.at) at c.slots_of.ensures in
    omega (arith, short, f, e, b)

pub size_of-at-requires : goal.size_of-at-requires
size_of-at-requires c =
    let l = c.loop-mark in
    let b = marking-inside c.args.rules.now l.mark-index l.at l.mark-items l.invariant (omega (arith, c.loop-mark-test.true, c.requires.1)) in
    let here = marking-here c.args.rules.now l.mark-index l.at l.mark-items l.invariant b in
    rw (part-all c.args.rules.now l.at) (omega (arith, length-drop l.at c.args.rules.now, here.two))

pub overflow_add-at : goal.overflow_add-at
overflow_add-at c =
    let l = c.loop-mark in
    let b = marking-inside c.args.rules.now l.mark-index l.at l.mark-items l.invariant (omega (arith, c.loop-mark-test.true, c.requires.1)) in
    let size = part-size-of c.args.rules.now l.at c.size_of-at.ensures in
    omega (arith, size, (marking-here c.args.rules.now l.mark-index l.at l.mark-items l.invariant b).fits)

pub loop-mark-preserved : goal.loop-mark-preserved
loop-mark-preserved c =
    let l = c.loop-mark in
    let b = marking-inside c.args.rules.now l.mark-index l.at l.mark-items l.invariant (omega (arith, c.loop-mark-test.true, c.requires.1)) in
    let size = part-size-of c.args.rules.now l.at c.size_of-at.ensures in
    let found = rw (part-all c.args.rules.now l.at) at c.slots_of.ensures in
    rw size (marking-more c.args.rules.now l.mark-index l.at l.mark-items l.invariant b (search rules) c.slots_of.result found)

pub returns : goal.returns
returns c =
    let l = c.loop-mark in
    (λ m h. l.invariant.marks m (omega (arith, h, c.loop-mark-test.false, l.auto.mark-items)), l.auto.mark-items)
