use Rattle.std.proofs.Common.{ap, arith, length}
use Rattle.words.specs.Limits.{most_rules}
use Rattle.rules.proofs.Theorems.Words.{rules-most, words-most}
use Rattle.package.specs.Code.{package_of}
use Rattle.package.proofs.Theorems.Lengths.{package-length}
use Rattle.package.proofs.Writing.{few-statements}
use Rattle.package.proofs.put.Parcel.needed.Goals as goal

pub overflow_mul-result-3 : goal.overflow_mul-result-3
overflow_mul-result-3 c = omega (arith, few-statements c.args.self.statements.now c.args.count c.requires c.args.self.whole)

pub overflow_add-result-3 : goal.overflow_add-result-3
overflow_add-result-3 c =
    let few = few-statements c.args.self.statements.now c.args.count c.requires c.args.self.whole in
    let ws = c.args.self.rules.now in
    omega (arith, few, c.count-r.ensures, rules-most most_rules ws, words-most 0 most_rules ws c.args.self.good)

pub overflow_add-result-4 : goal.overflow_add-result-4
overflow_add-result-4 c =
    let few = few-statements c.args.self.statements.now c.args.count c.requires c.args.self.whole in
    let ws = c.args.self.rules.now in
    omega (arith, few, c.count-r.ensures, rules-most most_rules ws, words-most 0 most_rules ws c.args.self.good)

pub returns : goal.returns
returns c =
    let a = c.args.self in
    let q = package_of a.codes.provable.0 a.codes.logic.0 a.rules.now a.statements.now in
    omega (arith, c.count-r.ensures, c.requires, ap length a.whole, package-length q a.good)
