use Rattle.std.proofs.Common.{◌≡◌}
use lib.Seq.{paste}
use Rattle.package.specs.Bytes.{words_of}
use Rattle.package.proofs.number.copy_words.Given as goal

abbrev pub invariant-loop-i : goal.invariant-loop-i
invariant-loop-i l = l.to ≡ paste l.initial.to l.at (words_of l.bytes) l.i
