use Rattle.std.proofs.Common.{◌∙◌, sym}
use Rattle.rows.specs.Code.{reduces_are}
use Rattle.garden.proofs.Carried.{raised-zero, raised-other}
use Rattle.garden.proofs.lists.raised_on.Goals as goal

pub returns-then-kind-eq0 : goal.returns-then-kind-eq0
returns-then-kind-eq0 c = sym (raised-zero c.args.kind (reduces_are c.args.list) c.if-kind-eq0.true)

pub returns : goal.returns
returns c = c.increment_offsets.ensures ∙ sym (raised-other c.args.kind (reduces_are c.args.list) c.if-kind-eq0.false)
