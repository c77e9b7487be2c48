use Rattle.desk.proofs.build_room.Goals as goal

pub returns : goal.returns
returns c = λ i. record { nodes = c.lesser.ensures i; edges = c.lesser-2.ensures i }
