use Rattle.formula.proofs.Weaving.{all_none, all_one}
use Rattle.formula.proofs.reduce_all.Goals as goal

pub returns-in-empty : goal.returns-in-empty
returns-in-empty c = rw (← c.as_slice.ensures) (all_none _ _ c.as_slice.result.now _ _ _ c.requires c.in-empty.len_below)

pub returns-in-len1 : goal.returns-in-len1
returns-in-len1 c =
    rw (← c.as_slice.ensures, all_one _ _ c.as_slice.result.now (record { rule = record { 0 = 0 }; offset = 0 }) _ c.in-len1.len_at_least c.in-len1.len_below) c.reduce.ensures
