use Prim.Native.Nat.{◌≤◌, ◌+◌, ◌*◌, ◌-◌}
use mathlib.Core.Path.{◌≡◌, subst, sym, ap}
use native.Mathlib.Omega.{arith}
use lib.ListN.{length}
use Rattle.rules.specs.Rules.{Stretch, cut}
use Rattle.rules.specs.Code.{word_bytes}
use Rattle.rules.proofs.Theorems.Words.{body-inside}
use Rattle.rules.proofs.body.Goals as goal

pub slice_bounds-result-end : goal.slice_bounds-result-end
slice_bounds-result-end c =
    let ws = c.args.rules.now in
    let r = c.stretch_of-at.result in
    let h : r.start + r.length ≤ length ws =
    subst (λ (s : Stretch). s.start + s.length ≤ length ws) (sym c.stretch_of-at.ensures) (body-inside _ _ ws c.args.no.0) in
    omega (arith, h)

pub returns : goal.returns
returns c =
    let r = c.stretch_of-at.result in
    let e : r.start + r.length - r.start ≡ r.length = omega arith in
    let a = c.args in
    record {
      words = rw e (ap (λ (s : Stretch). cut a.rules.now s) c.stretch_of-at.ensures);
      place = ap (λ (s : Stretch). (a.rules.ref_ptr.0, s.start * word_bytes + a.rules.ref_ptr.1)) c.stretch_of-at.ensures;
    }
