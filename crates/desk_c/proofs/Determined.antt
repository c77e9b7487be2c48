-- Two results that meet an exported function's contract coincide, every word of every slice lent for writing included.
use mathlib.Core.Path.{◌≡◌}
use Rattle.rules.specs.Code.{stretch_of}
use Rattle.package.specs.Code.{read_is, written_is}
use Rattle.desk.specs.Code.{built_is, parsed_is, verified_is, batch_is}
use Rattle.desk.proofs.Theorems.Promises.{determined}
use Rattle.desk_c.proofs.jiehkavon_body.Reads as body
use Rattle.desk_c.proofs.jiehkavon_build.Reads as build
use Rattle.desk_c.proofs.jiehkavon_package_read.Reads as read
use Rattle.desk_c.proofs.jiehkavon_package_write.Reads as write
use Rattle.desk_c.proofs.jiehkavon_parse.Reads as parse
use Rattle.desk_c.proofs.jiehkavon_parse_many.Reads as parse-many
use Rattle.desk_c.proofs.jiehkavon_verify.Reads as verify

pub body-determined : (κs : _) (args : _) (r₁ r₂ : _) (x₁ x₂ : _) → body.Post κs args r₁ x₁ → body.Post κs args r₂ x₂ → stretch_of r₁ ≡ stretch_of r₂
body-determined κs args r₁ r₂ x₁ x₂ m n = determined m n

-- the fifth, sixth and seventh parameter are the two tables and the frames
pub build-determined : (κs : _) (args : _) (r₁ r₂ : _) (x₁ x₂ : _) → build.Post κs args r₁ x₁ → build.Post κs args r₂ x₂
    → built_is r₁ x₁.1.1.1.1.0.now x₁.1.1.1.1.1.0.now x₁.1.1.1.1.1.1.0.now
    ≡ built_is r₂ x₂.1.1.1.1.0.now x₂.1.1.1.1.1.0.now x₂.1.1.1.1.1.1.0.now
build-determined κs args r₁ r₂ x₁ x₂ m n = determined m n

-- the sixth is the work slice
pub verify-determined : (κs : _) (args : _) (r₁ r₂ : _) (x₁ x₂ : _) → verify.Post κs args r₁ x₁ → verify.Post κs args r₂ x₂
    → verified_is r₁ x₁.1.1.1.1.1.0.now ≡ verified_is r₂ x₂.1.1.1.1.1.0.now
verify-determined κs args r₁ r₂ x₁ x₂ m n = determined m n

-- the eighth, ninth and tenth are the frame, list and work slices
pub parse-determined : (κs : _) (args : _) (r₁ r₂ : _) (x₁ x₂ : _) → parse.Post κs args r₁ x₁ → parse.Post κs args r₂ x₂
    → parsed_is r₁ x₁.1.1.1.1.1.1.1.0.now x₁.1.1.1.1.1.1.1.1.0.now x₁.1.1.1.1.1.1.1.1.1.0.now
    ≡ parsed_is r₂ x₂.1.1.1.1.1.1.1.0.now x₂.1.1.1.1.1.1.1.1.0.now x₂.1.1.1.1.1.1.1.1.1.0.now
parse-determined κs args r₁ r₂ x₁ x₂ m n = determined m n

pub many-determined : (κs : _) (args : _) (r₁ r₂ : _) (x₁ x₂ : _) → parse-many.Post κs args r₁ x₁ → parse-many.Post κs args r₂ x₂
    → batch_is r₁ x₁.1.1.1.1.1.1.1.0.now x₁.1.1.1.1.1.1.1.1.0.now x₁.1.1.1.1.1.1.1.1.1.0.now x₁.1.1.1.1.1.1.1.1.1.1.0.now x₁.1.1.1.1.1.1.1.1.1.1.1.0.now
    ≡ batch_is r₂ x₂.1.1.1.1.1.1.1.0.now x₂.1.1.1.1.1.1.1.1.0.now x₂.1.1.1.1.1.1.1.1.1.0.now x₂.1.1.1.1.1.1.1.1.1.1.0.now x₂.1.1.1.1.1.1.1.1.1.1.1.0.now
many-determined κs args r₁ r₂ x₁ x₂ m n = determined m n

-- the second and the third are the rule and the statement slice
pub read-determined : (κs : _) (args : _) (r₁ r₂ : _) (x₁ x₂ : _) → read.Post κs args r₁ x₁ → read.Post κs args r₂ x₂
    → read_is r₁ x₁.1.0.now x₁.1.1.0.now ≡ read_is r₂ x₂.1.0.now x₂.1.1.0.now
read-determined κs args r₁ r₂ x₁ x₂ m n = determined m n

-- the fifth is the byte slice
pub write-determined : (κs : _) (args : _) (r₁ r₂ : _) (x₁ x₂ : _) → write.Post κs args r₁ x₁ → write.Post κs args r₂ x₂
    → written_is r₁ x₁.1.1.1.1.0.now ≡ written_is r₂ x₂.1.1.1.1.0.now
write-determined κs args r₁ r₂ x₁ x₂ m n = determined m n
