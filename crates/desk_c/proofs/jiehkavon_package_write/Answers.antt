use Rattle.desk_c.proofs.jiehkavon_package_write.Goals as goal

pub returns : goal.returns
returns c = rw c.codes_of-codes.ensures at c.write.ensures
