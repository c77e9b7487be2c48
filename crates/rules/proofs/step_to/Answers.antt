use mathlib.Core.Path.{◌≡◌}
use native.Mathlib.Omega.{arith}
use borrow.Author.Rules.{rules}
use lib.ListN.{drop, length-drop}
use Rattle.words.specs.Limits.{most_rules}
use Rattle.words.proofs.Theorems.Parts.{part-all}
use Rattle.rules.specs.Rules.{size_of}
use Rattle.rules.proofs.Theorems.Words.{Here, ahead-here, rules-most}
use Rattle.rules.proofs.Laws.{part-size-of, search-start, search-found, search-next, search-end}
use Rattle.rules.proofs.step_to.Goals as goal

pub loop-i-init : goal.loop-i-init
loop-i-init c = (search rules, search-start c.args.rules.now c.args.no.0 c.requires)

pub overflow_add-n : goal.overflow_add-n
overflow_add-n c =
    let here : Here c.args.rules.now c.loop-i.i c.loop-i.n = let l = c.loop-i in
    ahead-here c.args.rules.now l.i l.n l.invariant.1.ahead c.loop-i-test.true in
    omega (arith, here.counted, rules-most most_rules c.args.rules.now)

pub returns-then-n-wanted : goal.returns-then-n-wanted
returns-then-n-wanted c =
    let l = c.loop-i in
    search-found c.args.rules.now c.args.no.0 l.i l.n l.invariant.1 c.loop-i-test.true c.if-n-wanted.true

pub size_of-i-requires : goal.size_of-i-requires
size_of-i-requires c =
    let here : Here c.args.rules.now c.loop-i.i c.loop-i.n = let l = c.loop-i in
    ahead-here c.args.rules.now l.i l.n l.invariant.1.ahead c.loop-i-test.true in
    let l = c.loop-i in
    let ws = c.args.rules.now in
    rw (part-all ws l.i) (omega (arith, length-drop l.i ws, here.two))

pub overflow_add-i : goal.overflow_add-i
overflow_add-i c =
    let size : (let l = c.loop-i in c.size_of-i.result ≡ size_of (drop l.i c.args.rules.now)) = part-size-of c.args.rules.now c.loop-i.i c.size_of-i.ensures in
    let here : Here c.args.rules.now c.loop-i.i c.loop-i.n = let l = c.loop-i in
    ahead-here c.args.rules.now l.i l.n l.invariant.1.ahead c.loop-i-test.true in
    omega (arith, size, here.fits)

pub loop-i-smaller : goal.loop-i-smaller
loop-i-smaller c =
    let size : (let l = c.loop-i in c.size_of-i.result ≡ size_of (drop l.i c.args.rules.now)) = part-size-of c.args.rules.now c.loop-i.i c.size_of-i.ensures in
    let here : Here c.args.rules.now c.loop-i.i c.loop-i.n = let l = c.loop-i in
    ahead-here c.args.rules.now l.i l.n l.invariant.1.ahead c.loop-i-test.true in
    omega (arith, size, here.fits)

pub loop-i-preserved : goal.loop-i-preserved
loop-i-preserved c =
    let size : (let l = c.loop-i in c.size_of-i.result ≡ size_of (drop l.i c.args.rules.now)) = part-size-of c.args.rules.now c.loop-i.i c.size_of-i.ensures in
    let here : Here c.args.rules.now c.loop-i.i c.loop-i.n = let l = c.loop-i in
    ahead-here c.args.rules.now l.i l.n l.invariant.1.ahead c.loop-i-test.true in
    let l = c.loop-i in (
      omega (arith, size, here.fits),
      rw size
          (search-next c.args.rules.now c.args.no.0 l.i l.n l.invariant.1 c.loop-i-test.true c.if-n-wanted.false),
    )

pub returns : goal.returns
returns c =
    let l = c.loop-i in
    search-end c.args.rules.now c.args.no.0 l.i l.n l.invariant.1 (search rules)
