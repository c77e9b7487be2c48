use Rattle.desk_c.proofs.jiehkavon_parse_many.Goals as goal

pub returns : goal.returns
returns c = rw c.codes_of-codes.ensures at c.parse_many.ensures
