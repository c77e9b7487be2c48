use Rattle.desk_c.proofs.jiehkavon_build.Goals as goal

pub returns : goal.returns
returns c = rw c.codes_of-codes.ensures at c.build.ensures
