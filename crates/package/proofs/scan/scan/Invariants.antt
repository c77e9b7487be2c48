use Rattle.std.proofs.Common.{◌≡◌, ◌-◌, length}
use Rattle.package.specs.Code.{last_number}
use Rattle.package.proofs.Reading.{Underway}
use Rattle.package.proofs.scan.scan.Given as goal

abbrev pub invariant-loop-last : goal.invariant-loop-last
invariant-loop-last l = record {
  same : l.reader.bytes.now ≡ l.bytes;
  underway : Underway l.bytes l.contents l.reader.at (last_number l.last) l.k l.rules l.statements;
}

abbrev pub decreases-loop-last : goal.decreases-loop-last
decreases-loop-last l = length l.bytes - l.reader.at
