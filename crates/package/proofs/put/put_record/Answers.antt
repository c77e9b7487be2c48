use Rattle.std.proofs.Common.{◌-◌, ◌++◌, length, arith, refl}
use borrow.Rule.Slice.PartMut.{put_mid}
use Rattle.package.specs.Bytes.{bytes_of, word_bytes}
use Rattle.package.specs.Package.{record_bytes}
use Rattle.package.specs.Code.{kind_number}
use Rattle.package.proofs.Theorems.Bytes.{bytes-length, words-bytes}
use Rattle.package.proofs.Theorems.Records.{record-length}
use Rattle.package.proofs.Pasting.{Left, left-room, room-left, room-in, pasted-in}
use Rattle.package.proofs.Writing.{size-put, kind-put, words-put}
use Rattle.package.proofs.put.put_record.Goals as goal
use Rattle.package.proofs.put.put_record.Goals.{After-put_number, After-put_number-2}

pub put_number-requires : goal.put_number-requires
put_number-requires c = (omega arith, omega (arith, c.requires.0, record-length (kind_number c.args.kind) c.args.ws.now))

-- the kind and the words are left
size-left : (c : After-put_number) → let k = kind_number c.args.kind in
    Left c.put_number.new.to 4 (bytes_of 2 k ++ word_bytes c.args.ws.now) c.args.to.now 0 (record_bytes k c.args.ws.now)
size-left c = size-put c.args.to.now (kind_number c.args.kind) c.args.ws.now c.requires.0 c.put_number.new.to c.put_number.ensures

-- the words are left
kind-left : (c : After-put_number-2) → let k = kind_number c.args.kind in
    Left (put_mid 4 (length c.put_number.new.to - 4) c.put_number.new.to c.put_number-2.new.to) 6 (word_bytes c.args.ws.now) c.args.to.now 0 (record_bytes k c.args.ws.now)
kind-left c =
    let k = kind_number c.args.kind in
    let d = c.put_number.new.to in
    kind-put c.args.to.now k c.args.ws.now c.requires.0 d _ (size-put c.args.to.now k c.args.ws.now c.requires.0 d c.put_number.ensures)
    (pasted-in d 4 (bytes_of 2 k) c.put_number-2.new.to (rw c.into.ensures at c.put_number-2.ensures))

pub slice_bounds-put_number-count : goal.slice_bounds-put_number-count
slice_bounds-put_number-count c = let l = size-left (goal.at.slice_bounds-put_number-count c).After-put_number in omega (arith, room-left l)

pub slice_bounds-put_number-start : goal.slice_bounds-put_number-start
slice_bounds-put_number-start c = let l = size-left (goal.at.slice_bounds-put_number-start c).After-put_number in omega (arith, room-left l)

pub put_number-requires-2 : goal.put_number-requires-2
put_number-requires-2 c =
    let k = kind_number c.args.kind in
    let l = size-left (goal.at.put_number-requires-2 c).After-put_number in
    let r = room-in c.put_number.new.to 4 (bytes_of 2 k) (left-room c.put_number.new.to 4 (bytes_of 2 k ++ word_bytes c.args.ws.now) c.args.to.now 0 (record_bytes k c.args.ws.now) l (bytes_of 2 k) (word_bytes c.args.ws.now) refl) in
    (omega arith, omega (arith, r, bytes-length 2 k))

pub slice_bounds-put_words-count : goal.slice_bounds-put_words-count
slice_bounds-put_words-count c = let l = kind-left (goal.at.slice_bounds-put_words-count c).After-put_number-2 in omega (arith, room-left l)

pub slice_bounds-put_words-start : goal.slice_bounds-put_words-start
slice_bounds-put_words-start c = let l = kind-left (goal.at.slice_bounds-put_words-start c).After-put_number-2 in omega (arith, room-left l)

pub put_words-requires : goal.put_words-requires
put_words-requires c =
    let l = kind-left (goal.at.put_words-requires c).After-put_number-2 in
    omega (arith, room-in _ 6 (word_bytes c.args.ws.now) (room-left l), words-bytes c.args.ws.now)

pub returns : goal.returns
returns c =
    let l = kind-left (goal.at.returns c).After-put_number-2 in
    words-put c.args.to.now (kind_number c.args.kind) c.args.ws.now c.requires.0 _ _ l (pasted-in _ 6 (word_bytes c.args.ws.now) c.put_words.new.to c.put_words.ensures)
