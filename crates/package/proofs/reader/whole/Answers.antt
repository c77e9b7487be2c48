use Rattle.words.proofs.Theorems.Tests.{tests}
use Rattle.package.specs.Package.{whole}
use Rattle.package.proofs.reader.whole.Goals as goal

pub returns-then-s-lt4 : goal.returns-then-s-lt4
unfolding whole
returns-then-s-lt4 c = search tests

pub returns-then-length-ge2 : goal.returns-then-length-ge2
unfolding whole
returns-then-length-ge2 c = search (tests, ← c.number_of-length.ensures)

pub returns-else-length-ge2 : goal.returns-else-length-ge2
unfolding whole
returns-else-length-ge2 c = search (tests, ← c.number_of-length.ensures)
