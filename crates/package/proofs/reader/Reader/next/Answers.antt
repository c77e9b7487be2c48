use Rattle.std.proofs.Common.{rules}
use Rattle.package.proofs.Heads.{found_none}
use Rattle.package.proofs.reader.Reader.next.Goals as goal

pub returns-in-None : goal.returns-in-None
returns-in-None c = found_none c.args.self.bytes.now c.args.self.at (search rules)
