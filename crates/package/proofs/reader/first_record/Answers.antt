use Rattle.std.proofs.Common.{◌≡◌, ℕ, ◌+◌, sym, ap, ◌∙◌, length-drop, arith}
use Rattle.std.proofs.lemmas.Result.{err_from_is_err_and}
use Rattle.words.specs.Outcome.{first_fault}
use Rattle.words.proofs.Theorems.Parts.{part-all}
use Rattle.words.proofs.Theorems.Tests.{tests}
use Rattle.package.specs.Package.{kind_of}
use Rattle.package.specs.Code.{kind_number}
use Rattle.package.proofs.Theorems.Records.{Fits, whole-fits}
use Rattle.package.proofs.Ranks.{known-kind, unknown-number}
use Rattle.package.proofs.Heads.{kind-is, unknown-fault, size-fault, faultless-head}
use Rattle.package.proofs.reader.first_record.Goals as goal

pub returns-then-is_empty : goal.returns-then-is_empty
unfolding first_fault
returns-then-is_empty c = search (tests, sym c.is_empty.ensures ∙ c.if-is_empty.true)

pub returns-then-not-whole : goal.returns-then-not-whole
unfolding first_fault
returns-then-not-whole c = search (tests, sym c.is_empty.ensures ∙ c.if-is_empty.false, sym c.whole.ensures ∙ c.if-not-whole.true)

pub slice_bounds-number_of-count : goal.slice_bounds-number_of-count
slice_bounds-number_of-count c =
    let fits : Fits c.args.s.now = whole-fits c.args.s.now (sym c.whole.ensures ∙ c.if-not-whole.false) in
    omega (arith, fits)

pub slice_bounds-number_of-start : goal.slice_bounds-number_of-start
slice_bounds-number_of-start c =
    let fits : Fits c.args.s.now = whole-fits c.args.s.now (sym c.whole.ensures ∙ c.if-not-whole.false) in
    omega (arith, fits)

pub number_of-requires : goal.number_of-requires
number_of-requires c =
    let fits : Fits c.args.s.now = whole-fits c.args.s.now (sym c.whole.ensures ∙ c.if-not-whole.false) in
    (omega arith, rw (part-all c.args.s.now 4) (simp length-drop (omega (arith, fits))))

pub returns-in_err-kind : goal.returns-in_err-kind
returns-in_err-kind c =
    let s = c.args.s.now in
    let p = err_from_is_err_and c.from_residual.result c.from_residual.ensures.1 in
    let e = c.in_err-kind.ensures in
    let kind = kind-is s c.number_of.result c.number_of.ensures in
    rw (p.1, p.2, e.0) (unknown-fault s (sym c.whole.ensures ∙ c.if-not-whole.false) (rw kind (unknown-number c.number_of.result e.1)))

pub number_of-requires-2 : goal.number_of-requires-2
number_of-requires-2 c =
    let fits : Fits c.args.s.now = whole-fits c.args.s.now (sym c.whole.ensures ∙ c.if-not-whole.false) in
    (omega arith, omega (arith, fits))

pub slice_bounds-sized-count : goal.slice_bounds-sized-count
slice_bounds-sized-count c =
    let fits : Fits c.args.s.now = whole-fits c.args.s.now (sym c.whole.ensures ∙ c.if-not-whole.false) in
    omega (arith, fits.head, c.number_of-2.ensures)

pub slice_bounds-sized-start : goal.slice_bounds-sized-start
slice_bounds-sized-start c =
    let fits : Fits c.args.s.now = whole-fits c.args.s.now (sym c.whole.ensures ∙ c.if-not-whole.false) in
    omega (arith, fits.head, c.number_of-2.ensures)

pub slice_bounds-sized-end : goal.slice_bounds-sized-end
slice_bounds-sized-end c =
    let fits : Fits c.args.s.now = whole-fits c.args.s.now (sym c.whole.ensures ∙ c.if-not-whole.false) in
    omega (arith, fits.inside, c.number_of-2.ensures)

pub returns-then-not-sized : goal.returns-then-not-sized
returns-then-not-sized c =
    let s = c.args.s.now in
    let kind : kind_of s ≡ kind_number c.in_ok-kind.kind = kind-is s c.number_of.result c.number_of.ensures ∙ sym c.in_ok-kind.ensures in
    size-fault s (sym c.whole.ensures ∙ c.if-not-whole.false) (rw kind (known-kind c.in_ok-kind.kind))
    (rw (kind, ← c.number_of-2.ensures) (sym c.sized.ensures ∙ c.if-not-sized.true))

pub returns : goal.returns
returns c =
    let s = c.args.s.now in
    let kind : kind_of s ≡ kind_number c.in_ok-kind.kind = kind-is s c.number_of.result c.number_of.ensures ∙ sym c.in_ok-kind.ensures in (
      faultless-head s (sym c.whole.ensures ∙ c.if-not-whole.false) (rw kind (known-kind c.in_ok-kind.kind))
          (rw (kind, ← c.number_of-2.ensures) (sym c.sized.ensures ∙ c.if-not-sized.false)),
      sym kind,
      ap (λ (n : ℕ). 4 + n) c.number_of-2.ensures,
    )
