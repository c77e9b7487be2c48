use Rattle.std.proofs.Common.{◌∙◌, sym}
use Rattle.rows.specs.Code.{reduces_are, edge_is}
use Rattle.garden.proofs.Carried.{store_same, store-more}
use Rattle.garden.proofs.lists.store_other.Goals as goal

pub returns-then-same_reduces : goal.returns-then-same_reduces
returns-then-same_reduces c =
    sym (store_same (reduces_are c.args.stored) (edge_is c.args.e) (edge_is c.args.d) (sym c.same_reduces.ensures ∙ c.if-same_reduces.true))

pub returns : goal.returns
returns c =
    c.extend.ensures ∙ sym (store-more (reduces_are c.args.stored) (edge_is c.args.e) (edge_is c.args.d) (sym c.same_reduces.ensures ∙ c.if-same_reduces.false))
