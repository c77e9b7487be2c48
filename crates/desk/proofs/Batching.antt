-- Many statements: each walk packed after those before it.
use mathlib.Core.Path.{◌≡◌, refl, sym, ◌∙◌, ap, subst}
use mathlib.Core.Bool.{true, false≢true}
use mathlib.Core.List.{List, [], ◌∷◌, ◌++◌, append-nil, append_assoc}
use Prim.Native.Nat.{ℕ, suc, ◌+◌, ◌*◌, ◌-◌, ◌≤◌, ◌<◌}
use native.Mathlib.Numerals.{add-one}
use native.Mathlib.Omega.{arith}
use lib.ListN.{length, get_or, set, drop, take, length-append, length-drop, drop_of_length-le}
use lib.Seq.{take_all, sets-eq, take-append-add, take-append-le, length-take-le, drop-cons, drop-drop, take_at, drop_at}
use borrow.Rule.Slice.PartMut.{put_mid, same_len_mid, mid_len}
use Rattle.words.specs.Outcome.{Res, ok, no}
use Rattle.words.specs.Counted.{counted, lists_of, the_lists}
use Rattle.words.proofs.Theorems.Counted.{lists-whole}
use Rattle.walk.specs.Walk.{Walked}
use Rattle.desk.specs.Entry.{Lent, Asked, walk_room, walk_of}
use Rattle.desk.specs.Batch.{answer_width, answer_words, list_words, whole, left, walk_one, walks_from}
use Rattle.desk.specs.Batch as many
use Rattle.desk.specs.Code.{Tried, Packed, Following, lent}
use Rattle.desk.specs.declared.Answer.{Answer}

-- ---- an answer

pub stored : (ws : List ℕ) (a : Answer) → length ws ≡ 4
    → set (set (set (set ws 0 a.number) 1 a.place) 2 a.length) 3 a.passes ≡ a.number ∷ a.place ∷ a.length ∷ a.passes ∷ []
stored ws a h =
    let vs = a.number ∷ a.place ∷ a.length ∷ a.passes ∷ [] in
    sets-eq vs ws 0 (omega arith) ∙ ap (λ (r : List ℕ). vs ++ r) (drop_of_length-le ws {i = 4} (omega arith))

-- ---- a walk more

list-more : (ws : List Walked) (w : Walked) → list_words (ws ++ (w ∷ [])) ≡ list_words ws ++ w.list
unfolding list_words
list-more [] w = append-nil w.list
list-more (v ∷ ws) w = ap (λ (r : List ℕ). v.list ++ r) (list-more ws w) ∙ sym (append_assoc v.list (list_words ws) w.list)

answers-more : (ws : List Walked) (w : Walked) → answer_words (ws ++ (w ∷ [])) ≡ answer_words ws ++ answer_words (w ∷ [])
unfolding answer_words
answers-more [] w = refl
answers-more (v ∷ ws) w = ap (λ (r : List ℕ). v.number ∷ v.place ∷ length v.list ∷ v.passes ∷ r) (answers-more ws w)

-- the front of a slice with a part that was written, up to the part's first n words
front : (xs ys : List ℕ) (a k n : ℕ) → a ≤ length xs → n ≤ length ys → take (a + n) (put_mid a k xs ys) ≡ take a xs ++ take n ys
front xs ys a k n h l =
    let r = ys ++ drop k (drop a xs) in
    let e : take (a + n) (take a xs ++ r) ≡ take a xs ++ take n r = rw (length-take-le a xs h) at (take-append-add (take a xs) r n) in
    e ∙ ap (λ (x : List ℕ). take a xs ++ x) (take-append-le n ys (drop k (drop a xs)) l)

module _ (w : Walked) (a : Answer) (ws : List Walked) (list part answers four : List ℕ) (used i : ℕ) where
  pub packed_more : Packed ws used list answers → i ≡ answer_width * length ws → Tried w a part → used ≤ length list
      → length part ≡ length (take (length list - used) (drop used list)) → i + answer_width ≤ length answers
      → length four ≡ length (take (i + answer_width - i) (drop i answers)) → four ≡ a.number ∷ a.place ∷ a.length ∷ a.passes ∷ []
      → Packed (ws ++ (w ∷ [])) (used + a.length) (put_mid used (length list - used) list part) (put_mid i (i + answer_width - i) answers four)
  unfolding answer_words
  packed_more p e t h l g m f =
      let long = same_len_mid used (length list - used) list part l in
      let wide = same_len_mid i (i + answer_width - i) answers four m in
      let size : length part ≡ length list - used = l ∙ mid_len used (length list) list (omega arith) in
      let many : length (ws ++ (w ∷ [])) ≡ length ws + 1 = length-append ws (w ∷ []) in
      let next : answer_width * length (ws ++ (w ∷ [])) ≡ i + answer_width = omega (arith, many) in
      let before : take i answers ≡ answer_words ws = ap (λ (n : ℕ). take n answers) e ∙ p.answered in
      let said : four ≡ answer_words (w ∷ []) = f ∙ (λ j. t.number j ∷ t.place j ∷ t.counted j ∷ t.passes j ∷ []) in
      let size-four : length four ≡ 4 = ap length f in
      let here : take answer_width four ≡ answer_words (w ∷ []) = take_all answer_width four (omega arith) ∙ said in
      record {
        counted = omega (arith, p.counted, t.counted, ap length (list-more ws w), length-append (list_words ws) w.list);
        within = omega (arith, t.within, long, size);
        listed = front list part used (length list - used) a.length h t.within ∙ rw (p.listed, t.listed, list-more ws w);
        room = omega (arith, wide, next);
        answered = ap (λ (n : ℕ). take n (put_mid i (i + answer_width - i) answers four)) next
            ∙ front answers four i (i + answer_width - i) answer_width (omega arith) (omega arith)
            ∙ (λ j. before j ++ here j)
            ∙ sym (answers-more ws w);
      }

-- the walk in the part of the list slice that is free
pub part-walk : (q : Asked) (allowance used : ℕ) (frames list work part : List ℕ) (a : Answer) → Tried (walk_of q allowance (walk_room (lent frames (take (length list - used) (drop used list)) work))) a part
    → Tried (walk_of q allowance (walk_room (left (lent frames list work) used))) a part
part-walk q allowance used frames list work part a t = rw (mid_len used (length list) list (omega arith)) at t

-- ---- the lists that are left

-- the first of the lists that are left, as the code reads it
pub record Ahead (size : ℕ) (after : List ℕ) (rest : List (List ℕ)) : Type 0 where
  pub first : List ℕ
  pub others : List (List ℕ)
  pub are : rest ≡ first ∷ others
  pub within : size ≤ length after
  pub part : take size after ≡ first
  pub left : drop size after ≡ counted others

ahead : (size : ℕ) (after : List ℕ) (rest : List (List ℕ)) → size ∷ after ≡ counted rest → Ahead size after rest
unfolding counted
ahead size after [] e = absurd (let z : suc (length after) ≡ 0 = ap length e in omega arith)
ahead size after (l ∷ ls) e =
    let n : size ≡ length l = ap (λ (x : List ℕ). get_or x 0 0) e in
    let r : after ≡ l ++ counted ls = ap (λ (x : List ℕ). drop 1 x) e in
    record {
      first = l;
      others = ls;
      are = refl;
      within = rw r (omega (arith, n, length-append l (counted ls)));
      part = rw (n, r) (take_at l (counted ls) (length l) refl);
      left = rw (n, r) (drop_at l (counted ls) (length l) refl);
    }

none_left : (rest : List (List ℕ)) → [] ≡ counted rest → rest ≡ []
unfolding counted
none_left [] e = refl
none_left (l ∷ ls) e = absurd (let z : 0 ≡ suc (length (l ++ counted ls)) = ap length e in omega arith)

whole-lists : (x : Res ℕ (List (List ℕ))) → whole x ≡ true → (ls : List (List ℕ)) × (x ≡ ok ls)
whole-lists (ok ls) e = (ls, refl)
whole-lists (no i) e = absurd (false≢true e)

-- ---- one statement after another

module _ (q : many.Asked) (allowance : ℕ) (s : Lent) (statements : List ℕ) where
  -- with these words left of the statements, and i answer words and n list words used: the walks so far are packed, and the lists left give
  -- the others
  pub record Batching (list answers words : List ℕ) (i n : ℕ) : Type 0 where
    pub done : List Walked
    pub rest : List (List ℕ)
    pub left : words ≡ counted rest
    pub same : done ++ walks_from q allowance s n rest ≡ walks_from q allowance s 0 (the_lists statements)
    pub packed : Packed done n list answers
    pub place : i ≡ answer_width * length done
    pub many : length done + length rest ≡ length (the_lists statements)

  pub batch-start : (list answers : List ℕ) → whole (lists_of statements) ≡ true → Batching list answers statements 0 0
  unfolding list_words answer_words
  batch-start list answers e =
      let x = whole-lists (lists_of statements) e in
      record {
        done = [];
        rest = the_lists statements;
        left = sym (lists-whole statements x.0 x.1).1;
        same = refl;
        packed = record { counted = refl; within = omega arith; listed = refl; room = omega arith; answered = refl };
        place = refl;
        many = omega arith;
      }

  pub batch-end : (list answers words : List ℕ) (i n : ℕ) → Batching list answers words i n → length words ≡ 0 → Packed (walks_from q allowance s 0 (the_lists statements)) n list answers
  unfolding walks_from
  batch-end list answers [] i n b h =
      let z : b.rest ≡ [] = none_left b.rest b.left in
      let e : b.done ≡ walks_from q allowance s 0 (the_lists statements) =
      sym (append-nil b.done) ∙ ap (λ (x : List (List ℕ)). b.done ++ walks_from q allowance s n x) (sym z) ∙ b.same in
      subst (λ ws. Packed ws n list answers) e b.packed
  batch-end list answers (w ∷ words) i n b h = absurd (omega arith)

  module _ (list answers : List ℕ) (size : ℕ) (after : List ℕ) (i n : ℕ) (b : Batching list answers (size ∷ after) i n) where
    pub turn : Ahead size after b.rest
    turn = ahead size after b.rest b.left

    pub answer-fits : answer_width * length (the_lists statements) ≤ length answers → i + answer_width ≤ length answers
    answer-fits k =
        let z : length b.rest ≡ suc (length turn.others) = ap length turn.are in
        omega (arith, b.place, b.many)

    pub batch-more : (z : Lent) (r : ℕ) (list' answers' : List ℕ) → z ≡ s
        → Following (walk_one q allowance z n (take size after)) n i list answers r list' answers'
        → Batching list' answers' (drop size after) (i + answer_width) r
    unfolding walks_from
    batch-more z r list' answers' e f =
        let t = turn.part in
        let w = walk_one q allowance s n turn.first in
        let same-walk : walk_one q allowance z n (take size after) ≡ w = λ j. walk_one q allowance (e j) n (t j) in
        let p : Packed (b.done ++ (w ∷ [])) r list' answers' = subst (λ v. Packed (b.done ++ (v ∷ [])) r list' answers') same-walk (f b.done b.packed b.place) in
        let k : r ≡ n + length w.list = p.counted ∙ ap length (list-more b.done w) ∙ length-append (list_words b.done) w.list
        ∙ ap (λ (x : ℕ). x + length w.list) (sym b.packed.counted) in
        let l : length b.rest ≡ suc (length turn.others) = ap length turn.are in
        let m : length (b.done ++ (w ∷ [])) ≡ length b.done + 1 = length-append b.done (w ∷ []) in
        record {
          done = b.done ++ (w ∷ []);
          rest = turn.others;
          left = turn.left;
          same = append_assoc b.done (w ∷ []) (walks_from q allowance s r turn.others)
              ∙ ap (λ (x : ℕ). b.done ++ (w ∷ walks_from q allowance s x turn.others)) k
              ∙ ap (λ (x : List (List ℕ)). b.done ++ walks_from q allowance s n x) (sym turn.are)
              ∙ b.same;
          packed = p;
          place = omega (arith, b.place);
          many = omega (arith, b.many);
        }
