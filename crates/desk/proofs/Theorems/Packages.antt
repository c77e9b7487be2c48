-- The promises about packages. They are about all that `read` and `write` give back, and are proved beside these definitions.

-- a refusal leaves zeros in every slice lent for writing, and slices come back as long as they were lent; the room that is always enough
pub use Rattle.package.proofs.Theorems.Reads.{refused-zeros-read, lengths-kept-read, read-enough}
pub use Rattle.package.proofs.Theorems.Writes.{refused-zeros-write, lengths-kept-write, write-enough, write-length, write-tight}
-- reading and writing undo one another, where no rule is of the old kind; and a rule of the old kind is read as the same one of the new
pub use Rattle.package.proofs.Theorems.Promises.{write-then-read, read-then-write, read-then-write-renews}
pub use Rattle.package.proofs.Theorems.Old.{old-kind-reads-as-new}
