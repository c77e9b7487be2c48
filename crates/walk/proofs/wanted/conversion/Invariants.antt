use Rattle.walk.proofs.Laws.{Trying}
use Rattle.walk.proofs.wanted.conversion.Given as goal

abbrev pub invariant-loop-no : goal.invariant-loop-no
invariant-loop-no l = Trying l.g.edges.now l.wish l.g.book.rules.now l.t.0 l.no-iterator.taken l.no-iterator.words.now
