use Rattle.std.proofs.Common.{◌*◌, drop}
use Rattle.package.specs.Bytes.{word_bytes}
use Rattle.package.proofs.Pasting.{Left}
use Rattle.package.proofs.number.put_words.Given as goal

abbrev pub invariant-loop-i : goal.invariant-loop-i
invariant-loop-i l = Left l.to (4 * l.i) (word_bytes (drop l.i l.ws)) l.initial.to 0 (word_bytes l.ws)
