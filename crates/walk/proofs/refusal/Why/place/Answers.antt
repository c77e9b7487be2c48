use Rattle.std.proofs.Common.{inl, inr}
use Rattle.words.specs.Numbers.{place}
use Rattle.walk.proofs.refusal.Why.place.Goals as goal

pub returns-in-Misfit : goal.returns-in-Misfit
unfolding place
returns-in-Misfit c = elim c.in-Misfit.is [ inl e ↦ rw e | inr h ↦ elim h [ inl e ↦ rw e | inr e ↦ rw e ] ]

pub returns-in-Unparseable : goal.returns-in-Unparseable
unfolding place
returns-in-Unparseable c = elim c.in-Unparseable.is [ inl e ↦ rw e | inr e ↦ rw e ]

pub returns-in-Unparseable-2 : goal.returns-in-Unparseable-2
unfolding place
returns-in-Unparseable-2 c = elim c.in-Unparseable.is [ inl e ↦ rw e | inr e ↦ rw e ]
