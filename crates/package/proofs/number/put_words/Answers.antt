use Rattle.std.proofs.Common.{◌+◌, ◌*◌, get_or, drop, arith}
use Rattle.package.specs.Bytes.{bytes_of, word_bytes}
use Rattle.package.proofs.Theorems.Bytes.{bytes-length, words-bytes}
use Rattle.package.proofs.Pasting.{left-start, left-more, left-done, pasted-in, words_left, words-none}
use Rattle.package.proofs.number.put_words.Goals as goal

pub loop-i-init : goal.loop-i-init
loop-i-init c =
    left-start c.args.to.now 0 (word_bytes c.args.ws.now) (omega (arith, words-bytes c.args.ws.now, c.requires))

pub loop-i-preserved : goal.loop-i-preserved
loop-i-preserved c =
    let l = c.loop-i in
    let ws = c.args.ws.now in
    let x = get_or ws l.i 0 in
    left-more l.to (4 * l.i) (word_bytes (drop l.i ws)) c.args.to.now 0 (word_bytes ws) l.invariant
    (bytes_of 4 x) (word_bytes (drop (l.i + 1) ws)) _ (4 * (l.i + 1))
    (words_left ws l.i c.loop-i-test.true) (pasted-in l.to (4 * l.i) (bytes_of 4 x) c.put_number.new.to c.put_number.ensures) (omega (arith, bytes-length 4 x))

pub returns : goal.returns
returns c =
    let l = c.loop-i in
    let ws = c.args.ws.now in
    (left-done l.to (4 * l.i) (word_bytes (drop l.i ws)) c.args.to.now 0 (word_bytes ws) l.invariant (words-none ws l.i c.loop-i-test.false)).1
