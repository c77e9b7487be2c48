-- The kinds of records and their numbers.
use Rattle.std.proofs.Common.{◌≡◌, ◌≢◌, refl, sym, ℕ, zero, suc, ◌≤◌, true, false, not, ◌&&◌, eqb, leb, arith, Option, Some, None, true≢false}
use Rattle.std.specs.Option.{option_eq}
use denote.Enum.Bare.{sameb}
use Rattle.words.specs.Code.{code}
use Rattle.words.specs.declared.Refusal.{Refusal}
use Rattle.words.specs.declared.Refusal.TheVariants.{TooFewTokens, Unparseable, TooShort, Misfit, NoPass, NoFrame, NoRoom, BadTables, TooManyTokens, BadRules, Collides, NoNode, NoEdge, SixthReduce, FarOffset, BadCopy, ManyRows, CutShort, UnknownKind, WrongSize, WrongOrder}
use borrow.Author.Tests.{le-ltb, lt-leb}
use Rattle.package.specs.Package.{typecodes, the_end, known, rank, in_order}
use Rattle.package.specs.Code.{kind_number, last_number}
use Rattle.package.specs.contracts.kind.Kind.{the_type}
use Rattle.package.specs.contracts.kind.KindPartialEq.TheImpl.{eq-value}
use Rattle.package.specs.declared.kind.Kind.{Kind}
use Rattle.package.specs.declared.kind.Kind.TheVariants.{Typecodes, OneRule, Statement, TheEnd, OldRule}

-- a refusal's number is none of 0
pub refused-some : (y : Refusal) → 1 ≤ code y
refused-some TooFewTokens = omega arith
refused-some Unparseable = omega arith
refused-some TooShort = omega arith
refused-some Misfit = omega arith
refused-some NoPass = omega arith
refused-some NoFrame = omega arith
refused-some NoRoom = omega arith
refused-some BadTables = omega arith
refused-some TooManyTokens = omega arith
refused-some BadRules = omega arith
refused-some Collides = omega arith
refused-some NoNode = omega arith
refused-some NoEdge = omega arith
refused-some SixthReduce = omega arith
refused-some FarOffset = omega arith
refused-some BadCopy = omega arith
refused-some ManyRows = omega arith
refused-some CutShort = omega arith
refused-some UnknownKind = omega arith
refused-some WrongSize = omega arith
refused-some WrongOrder = omega arith

-- numbers of kinds are known, and no others
pub known-kind : (k : Kind) → known (kind_number k) ≡ true
unfolding known
known-kind Typecodes = refl
known-kind OneRule = refl
known-kind Statement = refl
known-kind TheEnd = refl
known-kind OldRule = refl

pub unknown-number : (n : ℕ) → ((k : Kind) → kind_number k ≢ n) → known n ≡ false
unfolding known
unknown-number zero h = refl
unknown-number (suc zero) h = absurd (h Typecodes refl)
unknown-number (suc (suc zero)) h = absurd (h OneRule refl)
unknown-number (suc (suc (suc zero))) h = absurd (h Statement refl)
unknown-number (suc (suc (suc (suc zero)))) h = absurd (h TheEnd refl)
unknown-number (suc (suc (suc (suc (suc zero))))) h = absurd (h OldRule refl)
unknown-number (suc (suc (suc (suc (suc (suc n)))))) h =
    let m = suc (suc (suc (suc (suc (suc n))))) in
    rw (le-ltb m 1 (omega arith), lt-leb m 5 (omega arith)) refl

pub rank-same : (k : Kind) → (k ≡ OldRule → ⊥) → kind_number k ≡ rank (kind_number k)
unfolding rank
rank-same Typecodes h = refl
rank-same OneRule h = refl
rank-same Statement h = refl
rank-same TheEnd h = refl
rank-same OldRule h = absurd (h refl)

-- kinds are the same as their numbers are
pub same-typecodes : (k : Kind) → sameb the_type k Typecodes ≡ eqb (kind_number k) typecodes
same-typecodes Typecodes = refl
same-typecodes OneRule = refl
same-typecodes Statement = refl
same-typecodes TheEnd = refl
same-typecodes OldRule = refl

some-kind : (k : Kind) → eqb (kind_number k) 0 ≡ false
some-kind Typecodes = refl
some-kind OneRule = refl
some-kind Statement = refl
some-kind TheEnd = refl
some-kind OldRule = refl

pub first-order : (k : Kind) → sameb the_type k Typecodes ≡ in_order 0 (kind_number k)
unfolding in_order
first-order k = same-typecodes k

order-by : (l k : Kind) → in_order (kind_number l) (kind_number k) ≡ not (sameb the_type k Typecodes) && leb (rank (kind_number l)) (rank (kind_number k))
unfolding in_order
order-by l k = rw (some-kind l, same-typecodes k) refl

pub next-order : (l k : Kind) (r s : ℕ) → true ≡ not (sameb the_type k Typecodes) → r ≡ rank (kind_number l) → s ≡ rank (kind_number k)
    → leb r s ≡ in_order (kind_number l) (kind_number k)
next-order l k r s e f g = rw (order-by l k, ← e, f, g) refl

pub out_of_order : (l k : Kind) → false ≡ not (sameb the_type k Typecodes) → false ≡ in_order (kind_number l) (kind_number k)
out_of_order l k e = rw (order-by l k, ← e) refl

-- whether the record before was the end
pub goes-on : (last : Option Kind) → true ≡ not (option_eq eq-value.it last (Some TheEnd)) → last_number last ≢ the_end
goes-on None e = λ z. omega (arith, z)
goes-on (Some Typecodes) e = λ z. omega (arith, z)
goes-on (Some OneRule) e = λ z. omega (arith, z)
goes-on (Some Statement) e = λ z. omega (arith, z)
goes-on (Some TheEnd) e = absurd (true≢false e)
goes-on (Some OldRule) e = λ z. omega (arith, z)

pub at-last : (last : Option Kind) → false ≡ not (option_eq eq-value.it last (Some TheEnd)) → last_number last ≡ the_end
at-last None e = absurd (true≢false (sym e))
at-last (Some Typecodes) e = absurd (true≢false (sym e))
at-last (Some OneRule) e = absurd (true≢false (sym e))
at-last (Some Statement) e = absurd (true≢false (sym e))
at-last (Some TheEnd) e = refl
at-last (Some OldRule) e = absurd (true≢false (sym e))
