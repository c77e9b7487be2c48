use Rattle.std.proofs.Common.{◌≡◌, ◌+◌, refl, arith}
use Rattle.package.proofs.Numbers.{lowest}
use Rattle.package.proofs.Theorems.Bytes.{bytes-length}
use Rattle.package.proofs.number.put_number.Goals as goal

pub returns : goal.returns
returns g c =
    let n = g.row.N in
    let x = c.args.x in
    let zero : 0 + n ≡ n = omega arith in
    rw (c.copy_from_slice.ensures.after, lowest n x c.to_le_bytes.result c.requires.0 c.to_le_bytes.ensures, bytes-length n x, zero) refl
