-- Heads by the order bytes of their records, and a step of moving one down a heap.
use Rattle.std.proofs.Common.{◌≡◌, ◌≢◌, nat_lt, ℕ, ◌+◌, ◌*◌, ◌/◌, ◌<◌, ◌≤◌, Bool, true, false, List, [], ◌∷◌, ◌++◌, length, drop, refl, sym, ap, subst, ◌∙◌, arith, slice_index_or, slice_set, Ordering, Less, Equal, Greater, nat_cmp, inl, inr}
use Rattle.std.specs.Cmp.{IsTotalOrder, IsStrictWeakOrder}
use Rattle.std.specs.Ordering.{is_lt, on, flip_args, ordering_then}
use Rattle.std.specs.List.{All}
use Rattle.std.specs.List.Sorted.{IsPermutation}
use Rattle.std.specs.Slice.Heapsort.{IsHeapWithin, IsNotBelowChildren}
use Rattle.std.specs.BinaryHeap.Sift.{IsGreaterChild, SiftsDown}
use Rattle.std.proofs.HeapSift.{Sinking, sink_begins, sink_steps, sink_rests, sink_ends}
use Rattle.std.proofs.lemmas.Cmp.{on_total, back_total, nat_list_cmp_total}
use Rattle.std.proofs.lemmas.Bool.{cases_order}
use Rattle.std.proofs.lemmas.Bool.Decides.{nat_tests}
use Rattle.std.proofs.lemmas.Map.Lookups.{exact_unsigned}
use Rattle.std.specs.List.{swap, slice_range, swap_remove}
use Rattle.std.proofs.lemmas.List.{get_or_default}
use Rattle.std.proofs.lemmas.List.Sorted.{ranks_by, IsPermutation-refl, IsPermutation-trans, All-permutation}
use Rattle.opclass.specs.Order.{bytes_cmp}
use Rattle.shared_tape.specs.Runs.{RunView}
use Rattle.run_merge.specs.declared.head.Head.{Head}
use Rattle.shared_tape.proofs.Heads.{heads_may_decide}
use Rattle.shared_tape.specs.Places.{head_of}
use Rattle.shared_tape.specs.declared.stored.Record.{Record}
use Rattle.opclass.proofs.Pieces.{AreBytes}
use Rattle.run_merge.proofs.HeadBytes.{AreBytes-order_list}
use Rattle.run_merge.proofs.Moves.{IsPermutation-flat_map, without_first}
use Rattle.run_merge.proofs.Ranges.{range_next, range_end}
use Rattle.std.proofs.lemmas.List.Elements.{All-head}
use Rattle.run_merge.specs.Heads.{run_of, left_at, left_of, IsHead, IsHeapFrom, bytes_at, is_behind}

module _ (tapes : List (List RunView)) where
  -- heads the other way round, as the kit's heaps have the greatest first
  abbrev pub back_cmp : Head → Head → Ordering
  back_cmp = flip_args (on (bytes_at tapes) bytes_cmp)

  pub back_cmp_total : IsTotalOrder back_cmp
  back_cmp_total = back_total (on_total (bytes_at tapes) nat_list_cmp_total)

  pub behind_weak : IsStrictWeakOrder (is_behind tapes)
  behind_weak = ranks_by back_cmp_total (λ (head : Head). head)

  -- a head on its way down
  pub record Sinks (old new : List Head) (root hole : ℕ) : Type 0 where
    pub below : root ≤ hole
    pub moved : IsPermutation old new
    pub long : length new ≡ length old
    pub each : All (IsHead tapes) new
    pub sinking : Sinking back_cmp back_cmp_total old root (length old) new hole

-- what is decided by heads is decided by bytes
pub decided_by_head : (tapes : List (List RunView)) (a b : Head) (o : Ordering) → IsHead tapes a → IsHead tapes b
    → o ≡ nat_cmp a.start b.start → (o ≡ Equal → ⊥) → is_lt o ≡ is_lt (bytes_cmp (bytes_at tapes a) (bytes_at tapes b))
decided_by_head tapes a b o p q e apart =
    let first : o ≡ nat_cmp (head_of (bytes_at tapes a)) (head_of (bytes_at tapes b)) = e
    ∙ (λ i. nat_cmp (p.start i) (q.start i)) in
    ap is_lt (decides o (bytes_cmp (bytes_at tapes a) (bytes_at tapes b)) apart
    ∙ ap (λ (r : Ordering). ordering_then r (bytes_cmp (bytes_at tapes a) (bytes_at tapes b))) first
    ∙ heads_may_decide (bytes_at tapes a) (bytes_at tapes b) (are a p) (are b q))
  where
    are : (head : Head) → IsHead tapes head → AreBytes (bytes_at tapes head)
    are head h = AreBytes-order_list (run_of tapes head).order (run_of tapes head).records head.at
        (omega (arith, h.some, h.within)) h.sound.storable

    decides : (r s : Ordering) → (r ≡ Equal → ⊥) → r ≡ ordering_then r s
    decides Less s n = refl
    decides Equal s n = absurd (n refl)
    decides Greater s n = refl

lt_by_cmp : (m n : ℕ) → nat_lt m n ≡ is_lt (nat_cmp m n)
lt_by_cmp m n = grind (arith, nat_tests)

-- heads that differ decide
pub apart_by_head : (tapes : List (List RunView)) (a b : Head) → IsHead tapes a → IsHead tapes b → a.start ≢ b.start
    → nat_lt a.start b.start ≡ is_lt (bytes_cmp (bytes_at tapes a) (bytes_at tapes b))
apart_by_head tapes a b p q apart =
    lt_by_cmp a.start b.start
    ∙ decided_by_head tapes a b (nat_cmp a.start b.start) p q refl (λ e. apart (exact_unsigned a.start b.start e))

module _ {X : Type 0} (lt : X → X → Bool) (o : IsStrictWeakOrder lt) where
  never-self : (x : X) → lt x x ≡ false
  never-self x = by_test (lt x x) refl
    where
      by_test : (v : Bool) → lt x x ≡ v → lt x x ≡ false
      by_test true e = o.one_way x x e
      by_test false e = e

  -- the left child comes first, or there is no right one
  pub left_first : (xs : List X) (j : ℕ) (d : X) → (j * 2 + 1 + 1 < length xs
      → lt (slice_index_or xs (j * 2 + 1) d) (slice_index_or xs (j * 2 + 1 + 1) d) ≡ false)
      → (k : ℕ) → j * 2 + 1 ≤ k → k ≤ j * 2 + 2 → k < length xs → lt (slice_index_or xs (j * 2 + 1) d)
      (slice_index_or xs k d) ≡ false
  left_first xs j d right k a b h = elim (cases_order k (j * 2 + 1)) [
    | inl e ↦ rw e (never-self _)
    | inr n ↦ let e : k ≡ j * 2 + 1 + 1 = omega arith in rw e (right (omega arith))
  ]

  -- the right child comes first
  pub right_first : (xs : List X) (j : ℕ) (d : X) → lt (slice_index_or xs (j * 2 + 1) d)
      (slice_index_or xs (j * 2 + 1 + 1) d) ≡ true
      → (k : ℕ) → j * 2 + 1 ≤ k → k ≤ j * 2 + 2 → k < length xs → lt (slice_index_or xs (j * 2 + 1 + 1) d)
      (slice_index_or xs k d) ≡ false
  right_first xs j d left k a b h = elim (cases_order k (j * 2 + 1)) [
    | inl e ↦ rw e (o.one_way _ _ left)
    | inr n ↦ let e : k ≡ j * 2 + 1 + 1 = omega arith in rw e (never-self _)
  ]

  -- the child that is counted by a test whether the right one comes first
  pub counted_first : (xs : List X) (j : ℕ) (d : X) (count : Bool → ℕ) (test : Bool) → count true ≡ 1 → count false ≡ 0
      → lt (slice_index_or xs (j * 2 + 1) d) (slice_index_or xs (j * 2 + 1 + 1) d) ≡ test
      → (k : ℕ) → j * 2 + 1 ≤ k → k ≤ j * 2 + 2 → k < length xs
      → lt (slice_index_or xs (j * 2 + 1 + count test) d) (slice_index_or xs k d) ≡ false
  counted_first xs j d count true one none is k a b h =
      subst (λ (n : ℕ). lt (slice_index_or xs (j * 2 + 1 + n) d) (slice_index_or xs k d) ≡ false) (sym one)
      (right_first xs j d is k a b h)
  counted_first xs j d count false one none is k a b h =
      let same : j * 2 + 1 + count false ≡ j * 2 + 1 = omega (arith, none) in
      subst (λ (n : ℕ). lt (slice_index_or xs n d) (slice_index_or xs k d) ≡ false) (sym same)
      (left_first xs j d (λ right. is) k a b h)

-- a test of two items, whatever is read where none is
pub same_test : {X : Type 0} (test : X → X → Bool) (xs : List X) (i j : ℕ) (d e : X) (b : Bool) → i < length xs
    → j < length xs
    → test (slice_index_or xs i d) (slice_index_or xs j d) ≡ b → test (slice_index_or xs i e) (slice_index_or xs j e)
    ≡ b
same_test test xs i j d e b p q h = (λ k. test (get_or_default xs i e d p k) (get_or_default xs j e d q k)) ∙ h

pub sinks_start : (tapes : List (List RunView)) (heads : List Head) (root : ℕ) → All (IsHead tapes) heads
    → Sinks tapes heads heads root root
sinks_start tapes heads root each = record {
  below = omega arith;
  moved = IsPermutation-refl _;
  long = refl;
  each = each;
  sinking = sink_begins (back_cmp tapes) (back_cmp_total tapes) _ _ _;
}

pub sinks_more : (tapes : List (List RunView)) (old new next : List Head) (root hole child : ℕ)
    → Sinks tapes old new root hole
    → hole * 2 + 1 ≤ child → child ≤ hole * 2 + 2 → child < length new
    → IsNotBelowChildren (is_behind tapes) new hole child (length new)
    → ((d : Head) → is_behind tapes (slice_index_or new hole d) (slice_index_or new child d) ≡ true)
    → next ≡ swap new hole child → IsPermutation new next → length next ≡ length new → Sinks tapes old next root child
unfolding IsGreaterChild
sinks_more tapes old new next root hole child was from to in' first behind is moved long =
    let in-old : child < length old = omega (arith, was.long) in record {
      below = omega (arith, was.below);
      moved = IsPermutation-trans _ _ _ was.moved moved;
      long = long ∙ was.long;
      each = All-permutation (IsHead tapes) _ _ moved was.each;
      sinking = sink_steps (back_cmp tapes) (back_cmp_total tapes) old new next root (length old) hole child was.below
          from to in-old (omega (arith, was.long)) is
          (subst (λ n. IsNotBelowChildren (is_behind tapes) new hole child n) was.long first) behind was.sinking;
    }

pub sinks_stop : (tapes : List (List RunView)) (old new : List Head) (root hole child : ℕ)
    → Sinks tapes old new root hole
    → IsNotBelowChildren (is_behind tapes) new hole child (length new)
    → ((d : Head) → is_behind tapes (slice_index_or new hole d) (slice_index_or new child d) ≡ false)
    → IsHeapFrom tapes old (root + 1) → IsHeapFrom tapes new root
unfolding IsGreaterChild SiftsDown
sinks_stop tapes old new root hole child was first stays heap =
    let down = sink_rests (back_cmp tapes) (back_cmp_total tapes) old new root (length old) hole child
    (subst (λ n. IsNotBelowChildren (is_behind tapes) new hole child n) was.long first) stays was.sinking in
    subst (λ n. IsHeapWithin (is_behind tapes) new root n) (sym was.long) (down.1 heap)

pub sinks_end : (tapes : List (List RunView)) (old new : List Head) (root hole : ℕ) → Sinks tapes old new root hole
    → length new / 2 ≤ hole → IsHeapFrom tapes old (root + 1) → IsHeapFrom tapes new root
unfolding SiftsDown
sinks_end tapes old new root hole was leaf heap =
    let low : length old / 2 ≤ hole = omega (arith, was.long, leaf) in
    let down = sink_ends (back_cmp tapes) (back_cmp_total tapes) old new root (length old) hole low was.sinking in
    subst (λ n. IsHeapWithin (is_behind tapes) new root n) (sym was.long) (down.1 heap)

-- without children anything is a heap
pub heap_of_leaves : (tapes : List (List RunView)) (heads : List Head) → IsHeapFrom tapes heads (length heads / 2)
heap_of_leaves tapes heads = λ p k d a b e f. absurd (omega arith)

-- ---- the first head moves on

abbrev pub no_row : Record
no_row = record { keys = []; extra = []; ptr = record { block = 0; offset = 0 } }

-- the record at a head
abbrev pub row_at : List (List RunView) → Head → Record
row_at tapes head = slice_index_or (run_of tapes head).records head.at no_row

-- a head has its record left, and then those behind it
pub left_next : (tapes : List (List RunView)) (head : Head) → IsHead tapes head
    → left_at tapes head ≡ row_at tapes head ∷ slice_range (run_of tapes head).records (head.at + 1) head.end
left_next tapes head h = range_next (run_of tapes head).records head.at head.end no_row h.some h.within

-- the first head and what it has left besides its record
first_left : (tapes : List (List RunView)) (first head : Head) (heads : List Head) → first ≡ head
    → All (IsHead tapes) (head ∷ heads)
    → drop 1 (left_of tapes (head ∷ heads)) ≡ slice_range (run_of tapes first).records (first.at + 1) first.end ++
    left_of tapes heads
first_left tapes first head heads e each =
    let one = left_next tapes first (subst (IsHead tapes) (sym e) (All-head (IsHead tapes) head heads each)) in
    ap (λ (h : Head). drop 1 (left_at tapes h ++ left_of tapes heads)) (sym e)
    ∙ ap (λ l. drop 1 (l ++ left_of tapes heads)) one

-- the first head moved to its next record
pub replaced : (tapes : List (List RunView)) (heads : List Head) (next first : Head) → 0 < length heads
    → All (IsHead tapes) heads
    → first ≡ slice_index_or heads 0 first
    → left_at tapes next ≡ slice_range (run_of tapes first).records (first.at + 1) first.end
    → IsPermutation (drop 1 (left_of tapes heads)) (left_of tapes (slice_set heads 0 next))
replaced tapes [] next first some each at is = absurd (omega arith)
replaced tapes (head ∷ heads) next first some each at is =
    rw (first_left tapes first head heads at each ∙ ap (λ l. l ++ left_of tapes heads) (sym is)) (IsPermutation-refl _)

-- the first head had its last record
pub removed : (tapes : List (List RunView)) (heads : List Head) (first gone : Head) → 0 < length heads
    → All (IsHead tapes) heads
    → first ≡ slice_index_or heads 0 first → first.end ≤ first.at + 1
    → IsPermutation (drop 1 (left_of tapes heads)) (left_of tapes (swap_remove heads 0 gone))
removed tapes [] first gone some each at last = absurd (omega arith)
removed tapes (head ∷ heads) first gone some each at last =
    rw (first_left tapes first head heads at each ∙ ap (λ l. l ++ left_of tapes heads)
    (range_end (run_of tapes first).records _ _ last))
    (IsPermutation-flat_map (left_at tapes) _ _ (without_first head heads gone))
