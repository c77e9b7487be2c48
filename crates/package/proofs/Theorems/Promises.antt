-- Reading and writing undo one another, for all that they give back.
use Rattle.std.specs.Prelude.{ℕ, ◌-◌, ◌≤◌, ◌≡◌, refl, true, List, length, take}
use Rattle.std.proofs.Common.{sym, ap, ◌∙◌, arith, take_at}
use Rattle.words.specs.Lent.{zeros, padded}
use Rattle.words.specs.Counted.{counted, the_lists}
use Rattle.words.specs.Numbers.{accepted}
use Rattle.words.specs.Outcome.{ok}
use Rattle.words.proofs.Theorems.Counted.{lists-of, lists-whole}
use Rattle.rules.specs.Rules.{rules_good}
use Rattle.rules.proofs.Theorems.Words.{rules-good}
use Rattle.package.specs.Package.{Package, Read, read_after, read_gives, written, short, Written, write_after, write_lists, write_gives}
use Rattle.package.specs.Code.{package_of}
use Rattle.package.proofs.Theorems.Bytes.{Octets, Words}
use Rattle.package.proofs.Theorems.Old.{no_old, Renews, no-old-same}
use Rattle.package.proofs.Theorems.Trips.{says-written, written_new, written_back}
use Rattle.package.proofs.Theorems.Reads.{got, gets}
use Rattle.package.proofs.Theorems.Writes.{fine-gives, wrote, write-lists, lists-by, no-fault}

-- the bytes of a write, and the words of a read, cut to their counts
abbrev pub bytes_in : Written → List ℕ
bytes_in w = take w.length w.bytes

abbrev pub rules_in : Read → List ℕ
rules_in r = take r.rules r.rule-words

abbrev pub statements_in : Read → List ℕ
statements_in r = take r.words r.statement-words

-- what stands before the zeros
front : (xs : List ℕ) (n : ℕ) → take (length xs) (padded xs n) ≡ xs
front xs n = take_at xs (zeros (n - length xs)) (length xs) refl

-- ---- write-then-read: the bytes of a write that answers 0 are read with 0, and give the same typecodes, rule words and statement words

-- n and m words are lent to the read
pub write-then-read : (p l : ℕ) (rs ss : List ℕ) (room n m : ℕ) → Words ss → (write_gives p l rs ss room).number ≡ accepted → length rs ≤ n → length ss ≤ m
    → read_gives (bytes_in (write_gives p l rs ss room)) n m ≡ record {
      number = accepted;
      place = 0;
      provable = p;
      logic = l;
      rules = length rs;
      statements = length (the_lists ss);
      words = length ss;
      rule-words = padded rs n;
      statement-words = padded ss m;
    }
unfolding read_after
write-then-read p l rs ss room n m w e h k =
    let f = fine-gives p l rs ss room e in
    let q = package_of p l rs ss in
    let c = f.words in
    let b : bytes_in (write_gives p l rs ss room) ≡ written q = ap bytes_in f.gives ∙ front (written q) room in
    let s = says-written q f.judged f.brief (rw c w) in
    ap (λ (bs : List ℕ). read_gives bs n m) b ∙ gets (written q) n m q s h (rw c k) f.judged ∙ rw c

-- ---- read-then-write: what a read that answers 0 gave is written with 0

again : (q : Package) (room : ℕ) → rules_good q.provable q.logic q.rules ≡ true → short q.statements ≡ true → length (written q) ≤ room
    → write_gives q.provable q.logic q.rules (counted q.statements) room ≡ wrote room (written q)
unfolding write_after
again q room g b h =
    let ss = counted q.statements in
    let t = (lists-whole ss q.statements (lists-of q.statements)).0 in
    let same : package_of q.provable q.logic q.rules ss ≡ q =
    λ i. record { provable = q.provable; logic = q.logic; rules = q.rules; statements = t i } in
    write-lists q.provable q.logic q.rules ss room g (lists-of q.statements ∙ ap ok (sym t)) ∙ ap (λ (x : Package). write_lists x room) same
    ∙ lists-by room q 0 (no-fault q room b h)

-- what a read gave, written again, and the bytes for which there is room
abbrev pub again-in : Read → ℕ → Written
again-in r room = write_gives r.provable r.logic (rules_in r) (statements_in r) room

-- bytes that come back from what was read of others
pub record Again (bs : List ℕ) (r : Read) : Type 0 where
  pub cs : List ℕ
  pub renews : Renews bs cs
  pub none_old : no_old (length cs) cs ≡ true
  pub gives : (room : ℕ) → length cs ≤ room → again-in r room ≡ wrote room cs

-- always the same bytes, but that each old rule has become a rule
pub read-then-write-renews : (bs : List ℕ) (n m : ℕ) → Octets bs → (read_gives bs n m).number ≡ accepted → Again bs (read_gives bs n m)
unfolding read_after
read-then-write-renews bs n m a e =
    let g = got bs n m e in
    let q = g.q in
    let b = written_back q bs a g.said (rules-good q.provable q.logic q.rules g.good) in
    record {
      cs = written q;
      renews = b.bytes;
      none_old = written_new q g.good b.brief b.small (length (written q));
      gives = λ room h. rw (g.gives, front q.rules n, front (counted q.statements) m) (again q room g.good b.brief h);
    }

-- the same bytes where no record was an old rule
pub read-then-write : (bs : List ℕ) (n m room : ℕ) → Octets bs → no_old (length bs) bs ≡ true → (read_gives bs n m).number ≡ accepted → length bs ≤ room
    → let r = read_gives bs n m in
    write_gives r.provable r.logic (rules_in r) (statements_in r) room ≡ record { number = accepted; place = 0; length = length bs; bytes = padded bs room }
read-then-write bs n m room a v e h =
    let g = read-then-write-renews bs n m a e in
    let s = no-old-same bs g.cs g.renews v in
    g.gives room (omega (arith, ap length s)) ∙ ap (λ (x : List ℕ). wrote room x) (sym s)
