use Rattle.std.proofs.Common.{arith}
use lib.Seq.{paste-zero}
use Rattle.package.specs.Bytes.{words_of}
use Rattle.package.proofs.Theorems.Bytes.{words-length}
use Rattle.package.proofs.Numbers.{words_more, words-put}
use Rattle.package.proofs.number.copy_words.Goals as goal

pub returns-then-saturating_sub-words : goal.returns-then-saturating_sub-words
returns-then-saturating_sub-words c h = absurd (omega (arith, words-length c.args.bytes.now, c.as_chunks.ensures.front_len))

pub loop-i-init : goal.loop-i-init
loop-i-init c = paste-zero c.args.to.now c.args.at (words_of c.args.bytes.now)

pub loop-i-preserved : goal.loop-i-preserved
loop-i-preserved c =
    let l = c.loop-i in
    words_more c.args.to.now c.args.at c.args.bytes.now c.as_chunks.result.0.now l.i l.to c.from_le_bytes.result l.invariant c.as_chunks.ensures.front
    (omega (arith, c.as_chunks.ensures.front_len)) c.from_le_bytes.ensures (omega (arith, c.as_chunks.ensures.front_len))

pub returns : goal.returns
returns c =
    let l = c.loop-i in
    words-put c.args.to.now c.args.at c.args.bytes.now l.i l.to l.invariant (omega (arith, c.as_chunks.ensures.front_len, l.auto.i-end))
