-- The record of a heap's first head: no record that is left is below it.
use Rattle.std.proofs.Common.{◌≡◌, ◌+◌, ◌<◌, false, Some, List, [], ◌∷◌, ◌++◌, length, take, drop, refl, true≢false, sym, ap, subst, ◌∙◌, arith, slice_index_or, slice_get, All}
use Rattle.std.specs.Cmp.{IsStrictWeakOrder}
use Rattle.std.specs.Ordering.{is_lt}
use Rattle.std.specs.List.{flat_map, slice_range}
use Rattle.std.specs.List.Sorted.{IsPermutation}
use Rattle.std.specs.BinaryHeap.{IsHeap, IsUpperBound}
use Rattle.std.proofs.HeapSift.{greatest}
use Rattle.std.proofs.lemmas.Option.{get_or_from_slice_get}
use Rattle.std.proofs.lemmas.List.{get_or-map}
use Rattle.std.proofs.lemmas.List.Elements.{All-append, All-nil, All-head, All-tail, All-weaker, All-from_recursion}
use Rattle.std.proofs.lemmas.List.Sorted.{ranks_by, IsPermutation-cons}
use Rattle.opclass.specs.declared.spec.SortPart.{SortPart}
use Rattle.opclass.specs.Order.{bytes_cmp}
use Rattle.shared_tape.specs.declared.stored.Record.{Record}
use Rattle.shared_tape.specs.Stored.{record_cmp, order_bytes, IsStorable}
use Rattle.shared_tape.specs.Runs.{RunView}
use Rattle.run_merge.specs.declared.head.Head.{Head}
use Rattle.run_merge.specs.Sorted.{AllHaveOrder}
use Rattle.run_merge.specs.Merging.{IsNotBelow, IsFirstOf, GivesOne}
use Rattle.run_merge.specs.Heads.{no_run, run_of, bytes_at, left_at, left_of, IsHead, AreHeads}
use Rattle.shared_tape.proofs.OrderBytes.{order_bytes_ordered, record_cmp_total}
use Rattle.run_merge.proofs.Ranges.{range_next, range_end}
use Rattle.run_merge.proofs.Heaping.{back_cmp, back_cmp_total, no_row, row_at, left_next}
use Rattle.run_merge.proofs.Ascending.{range_first}

pub record_weak : (order : List SortPart) → IsStrictWeakOrder (λ (a b : Record). is_lt (record_cmp order a b))
record_weak order = ranks_by (record_cmp_total order) (λ (row : Record). row)

pub All-flat_map : {X Y : Type 0} (P : Y → Type 0) (f : X → List Y) (xs : List X) → All (λ x. All P (f x)) xs
    → All P (flat_map f xs)
All-flat_map P f [] all = All-nil P
All-flat_map P f (x ∷ xs) all =
    All-append P (f x) (flat_map f xs) (All-head (λ x. All P (f x)) x xs all)
    (All-flat_map P f xs (All-tail (λ x. All P (f x)) x xs all))

-- the run of a head has the order
head_order : (order : List SortPart) (tapes : List (List RunView)) (head : Head) → AllHaveOrder order tapes
    → IsHead tapes head
    → (run_of tapes head).order ≡ order
head_order order tapes head have h = have head.tape [] h.tape head.run no_run h.run

-- what is known of the record at a head
record AtHead (order : List SortPart) (tapes : List (List RunView)) (head : Head) : Type 0 where
  storable : IsStorable order (row_at tapes head)
  bytes : bytes_at tapes head ≡ order_bytes order (row_at tapes head)
  first : IsFirstOf order (row_at tapes head) (left_at tapes head)

at_head : (order : List SortPart) (tapes : List (List RunView)) (head : Head) → AllHaveOrder order tapes
    → IsHead tapes head → AtHead order tapes head
at_head order tapes head have h =
    let run = run_of tapes head in
    let here : head.at < length run.records = omega (arith, h.some, h.within) in
    let same = head_order order tapes head have h in record {
      storable = subst (λ (parts : List SortPart). IsStorable parts (row_at tapes head)) same
          (h.sound.storable head.at no_row here);
      bytes = get_or-map (order_bytes run.order) run.records head.at no_row [] here
          ∙ ap (λ (parts : List SortPart). order_bytes parts (row_at tapes head)) same;
      first = subst (λ (parts : List SortPart). IsFirstOf parts (row_at tapes head) (left_at tapes head)) same
          (range_first (λ a b. is_lt (record_cmp run.order a b)) (record_weak run.order) run.records head.at head.end
          no_row h.sound.ascending here);
    }

-- no record that is left is below that of the first head
pub first_of_heads : (order : List SortPart) (tapes : List (List RunView)) (heads : List Head) (head : Head)
    → AllHaveOrder order tapes → AreHeads tapes heads
    → 0 < length heads → head ≡ slice_index_or heads 0 head → IsFirstOf order (row_at tapes head) (left_of tapes heads)
unfolding IsHeap
first_of_heads order tapes heads head have are some at =
    let mine : IsHead tapes head = subst (IsHead tapes) (sym at) (are.each 0 head some) in
    let here = at_head order tapes head have mine in
    let top : IsUpperBound (back_cmp tapes) head heads = greatest (back_cmp_total tapes) heads head at are.heap in
    let above = All-from_recursion (λ other. is_lt (back_cmp tapes head other) ≡ false) heads top in
    let row = row_at tapes head in
    All-flat_map (λ other. IsNotBelow order other row) (left_at tapes) heads (λ k d h.
    let other = slice_index_or heads k d in
    let there = at_head order tapes other have (are.each k d h) in
    let not_below : IsNotBelow order (row_at tapes other) row =
    sym (ap is_lt (order_bytes_ordered order (row_at tapes other) row there.storable here.storable))
    ∙ (λ i. is_lt (bytes_cmp (sym there.bytes i) (sym here.bytes i))) ∙ above k d h in
    All-weaker (λ r. IsNotBelow order r (row_at tapes other)) (λ r. IsNotBelow order r row)
    (λ r e. (record_weak order).chain r (row_at tapes other) row e not_below) (left_at tapes other) there.first)

-- the records that are left begin with that of the first head
pub left_first : (tapes : List (List RunView)) (heads : List Head) (head : Head) → All (IsHead tapes) heads
    → 0 < length heads → head ≡ slice_index_or heads 0 head → left_of tapes heads ≡ row_at tapes head ∷ drop 1
    (left_of tapes heads)
left_first tapes [] head each some at = absurd (omega arith)
left_first tapes (h ∷ heads) head each some at =
    let next = left_next tapes head (subst (IsHead tapes) (sym at) (All-head (IsHead tapes) h heads each)) in
    let whole = ap (λ (x : Head). left_at tapes x ++ left_of tapes heads) (sym at)
    ∙ ap (λ l. l ++ left_of tapes heads) next in
    whole ∙ ap (λ l. row_at tapes head ∷ drop 1 l) (sym whole)

-- the record that was read is that of the head
pub row_read : (tapes : List (List RunView)) (head : Head) (run : RunView) (row : Record) → run ≡ run_of tapes head
    → slice_get run.records head.at ≡ Some row → row ≡ row_at tapes head
row_read tapes head run row e f =
    sym (get_or_from_slice_get run.records head.at row no_row f) ∙ ap (λ (r : RunView). slice_index_or r.records
    head.at no_row) e

-- a heap gives its first record
pub heap_gives : (order : List SortPart) (tapes : List (List RunView)) (heads new : List Head) (head : Head)
    (row : Record) → AllHaveOrder order tapes
    → AreHeads tapes heads → 0 < length heads → head ≡ slice_index_or heads 0 head → row ≡ row_at tapes head
    → IsPermutation (drop 1 (left_of tapes heads)) (left_of tapes new)
    → GivesOne (record { order = order; left = left_of tapes heads; in_order = false }) row
    (record { order = order; left = left_of tapes new; in_order = false })
heap_gives order tapes heads new head row have are some at is moved = record {
  order = refl;
  taken = rw (left_first tapes heads head are.each some at ∙ ap (λ (r : Record). r ∷ drop 1 (left_of tapes heads))
      (sym is)) (IsPermutation-cons row _ _ moved);
  first = subst (λ (r : Record). IsFirstOf order r (left_of tapes heads)) (sym is)
      (first_of_heads order tapes heads head have are some at);
  in_order = refl;
  in_place = λ no. absurd (true≢false (sym no));
}

-- the first record that is left, as a range of its run
pub first_range : (tapes : List (List RunView)) (heads : List Head) (head : Head) (run : RunView)
    → All (IsHead tapes) heads
    → 0 < length heads → head ≡ slice_index_or heads 0 head → run ≡ run_of tapes head
    → slice_range run.records head.at (head.at + 1) ≡ take 1 (left_of tapes heads)
first_range tapes heads head run each some at is =
    let mine : IsHead tapes head = subst (IsHead tapes) (sym at) (each 0 head some) in
    let recs = (run_of tapes head).records in
    ap (λ (r : RunView). slice_range r.records head.at (head.at + 1)) is
    ∙ range_next recs head.at (head.at + 1) no_row (omega arith) (omega (arith, mine.some, mine.within))
    ∙ ap (λ l. row_at tapes head ∷ l) (range_end recs (head.at + 1) (head.at + 1) (omega arith))
    ∙ sym (ap (take 1) (left_first tapes heads head each some at))

-- a heap's first record, and what is left besides
pub first_split : (order : List SortPart) (tapes : List (List RunView)) (heads : List Head) → AllHaveOrder order tapes
    → AreHeads tapes heads → 0 < length heads
    → (row : Record) × (left_of tapes heads ≡ row ∷ drop 1 (left_of tapes heads))
    × IsFirstOf order row (left_of tapes heads)
first_split order tapes [] have are some = absurd (omega arith)
first_split order tapes (head ∷ heads) have are some = (
  row_at tapes head,
  left_first tapes (head ∷ heads) head are.each some refl,
  first_of_heads order tapes
      (head ∷ heads) head have are some refl,
)
