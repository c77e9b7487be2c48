use Rattle.desk_c.proofs.jiehkavon_body.Goals as goal

pub returns : goal.returns
returns c = rw c.codes_of-codes.ensures at c.body_stretch.ensures
