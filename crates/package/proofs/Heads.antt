-- The record that stands first.
use Rattle.std.proofs.Common.{◌≡◌, ℕ, zero, suc, ◌-◌, ◌≤◌, refl, sym, ap, ◌∙◌, Bool, true, false, List, [], ◌∷◌, arith, length, get_or, take, drop, drop_of_length-le, eqb, ne_eqb}
use mathlib.Core.Bool.{false≢true}
use Rattle.words.specs.Code.{code}
use Rattle.words.specs.declared.Refusal.{Refusal}
use Rattle.words.specs.Numbers.{cut_short, unknown_kind, wrong_size, wrong_order}
use Rattle.words.specs.Outcome.{pick, demand, first_fault}
use Rattle.words.proofs.Theorems.Faults.{Each, none_left, one_more, fault-stays, fault-after}
use Rattle.words.proofs.Theorems.Parts.{part-all}
use Rattle.package.specs.Bytes.{little, words_of}
use Rattle.package.specs.Package.{kind_of, body_of, whole, known, sized, in_order, head_demands, record_demands}
use Rattle.package.proofs.Theorems.Records.{whole-fits}
use Rattle.package.proofs.Ranks.{refused-some}
use Rattle.package.proofs.Numbers.{items_at}

-- the items that a rule's body says, read behind its first word
pub rule-items : (body : List ℕ) (n : ℕ) → n ≡ little (take 4 (take (length body - 4) (drop 4 body))) → 8 ≤ length body
    → get_or (words_of body) 1 0 ≡ n
rule-items body n e h = items_at body h ∙ sym (e ∙ ap (λ (l : List ℕ). little (take 4 l)) (part-all body 4))

-- a kind, read behind the length
pub kind-is : (bs : List ℕ) (n : ℕ) → n ≡ little (take 2 (take (length bs - 4) (drop 4 bs))) → kind_of bs ≡ n
kind-is bs n e = sym (e ∙ ap (λ (l : List ℕ). little (take 2 l)) (part-all bs 4))

-- past the end there is no record
pub found_none : (bs : List ℕ) (at : ℕ) → length bs ≤ at → wrong_order ≡ first_fault (head_demands (drop at bs))
unfolding first_fault
found_none bs at h = rw (drop_of_length-le bs h)

-- the faults behind the length
some-bytes : (bs : List ℕ) → whole bs ≡ true → eqb (length bs) 0 ≡ false
some-bytes bs h = let f = whole-fits bs h in ne_eqb (length bs) 0 (λ z. omega (arith, f.head, f.inside, z))

pub unknown-fault : (bs : List ℕ) → whole bs ≡ true → known (kind_of bs) ≡ false → unknown_kind ≡ first_fault (head_demands bs)
unfolding first_fault
unknown-fault bs w k = rw (some-bytes bs w, w, k) refl

pub size-fault : (bs : List ℕ) → whole bs ≡ true → known (kind_of bs) ≡ true → sized (kind_of bs) (body_of bs) ≡ false → wrong_size ≡ first_fault (head_demands bs)
unfolding first_fault
size-fault bs w k s = rw (some-bytes bs w, w, k, s) refl

pub faultless-head : (bs : List ℕ) → whole bs ≡ true → known (kind_of bs) ≡ true → sized (kind_of bs) (body_of bs) ≡ true → first_fault (head_demands bs) ≡ 0
unfolding first_fault
faultless-head bs w k s = rw (some-bytes bs w, w, k, s) refl

-- a record is as its head says, unless it is out of order
pub next-refused : (bs : List ℕ) (last : ℕ) (y : Refusal) → code y ≡ first_fault (head_demands bs) → code y ≡ first_fault (record_demands last bs)
next-refused bs last y e = by_number (code y) (refused-some y) e
  where
    by_number : (n : ℕ) → 1 ≤ n → n ≡ first_fault (head_demands bs) → n ≡ first_fault (record_demands last bs)
    by_number zero h e = absurd (omega arith)
    by_number (suc n) h e = sym (fault-stays (head_demands bs) (demand (in_order last (kind_of bs)) wrong_order ∷ []) n (sym e))

-- the numbers of a record's faults are none of them 0
head-numbers : (bs : List ℕ) → Each (λ k. 1 ≤ k) (head_demands bs)
head-numbers bs =
    one_more {k = wrong_order} (omega arith)
    (one_more {k = cut_short} (omega arith) (one_more {k = unknown_kind} (omega arith) (one_more {k = wrong_size} (omega arith) none_left)))

order-fault : (b : Bool) (s : Bool) → b ≡ s → first_fault (demand b wrong_order ∷ []) ≡ pick s 0 wrong_order
unfolding first_fault
order-fault true true e = refl
order-fault true false e = absurd (false≢true (sym e))
order-fault false true e = absurd (false≢true e)
order-fault false false e = refl

next-by : (bs : List ℕ) (last kind : ℕ) (b : Bool) → first_fault (head_demands bs) ≡ 0 → kind ≡ kind_of bs → b ≡ in_order last kind
    → first_fault (record_demands last bs) ≡ pick b 0 wrong_order
next-by bs last kind b f k o =
    fault-after (head-numbers bs) (demand (in_order last (kind_of bs)) wrong_order ∷ []) f
    ∙ order-fault (in_order last (kind_of bs)) b (ap (λ (k : ℕ). in_order last k) (sym k) ∙ sym o)

pub next-ordered : (bs : List ℕ) (last kind : ℕ) → first_fault (head_demands bs) ≡ 0 → kind ≡ kind_of bs → true ≡ in_order last kind
    → first_fault (record_demands last bs) ≡ 0
next-ordered bs last kind f k o = next-by bs last kind true f k o

pub next-disordered : (bs : List ℕ) (last kind : ℕ) → first_fault (head_demands bs) ≡ 0 → kind ≡ kind_of bs → false ≡ in_order last kind
    → wrong_order ≡ first_fault (record_demands last bs)
next-disordered bs last kind f k o = sym (next-by bs last kind false f k o)
