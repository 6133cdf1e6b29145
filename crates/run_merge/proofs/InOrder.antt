-- Runs that stand in order, and the place of their next record.
use Rattle.std.proofs.Common.{◌≡◌, ℕ, ◌+◌, ◌<◌, ◌≤◌, Bool, true, Some, List, [], ◌∷◌, ◌++◌, length, take, drop, refl, sym, ap, subst, ◌∙◌, arith, slice_index_or, slice_get}
use Rattle.std.specs.Ordering.{is_lt}
use Rattle.std.specs.List.Sorted.{IsSortedBy}
use Rattle.std.specs.Cmp.{IsStrictWeakOrder}
use Rattle.std.proofs.lemmas.Option.{get_or_from_slice_get}
use Rattle.std.proofs.lemmas.List.{drop_more, drop_all, drop_at, drop-append-le, take-append-drop}
use Rattle.std.proofs.lemmas.List.Concat.{flat_map-append}
use Rattle.std.proofs.lemmas.List.Elements.{All-cons}
use Rattle.std.proofs.lemmas.List.Sorted.{IsPermutation-refl}
use Rattle.opclass.specs.declared.spec.SortPart.{SortPart}
use Rattle.shared_tape.specs.declared.stored.Record.{Record}
use Rattle.shared_tape.specs.Stored.{record_cmp}
use Rattle.shared_tape.specs.Runs.{RunView, IsAscending, records_of}
use Rattle.run_merge.specs.Merging.{IsNotBelow, StandInOrder, order_of, GivesOne}
use Rattle.run_merge.specs.Heads.{no_run}
use Rattle.run_merge.specs.Pass.{left_in}
use Rattle.run_merge.proofs.Firsts.{record_weak}
use Rattle.run_merge.proofs.Ascending.{sorted-head, sorted-tail, sorted-drop, never_below_itself}

-- the runs from one on are that one and those behind it
from_run : (runs : List RunView) (run : ℕ) → run < length runs
    → records_of (drop run runs) ≡ (slice_index_or runs run no_run).records ++ records_of (drop (run + 1) runs)
from_run runs run h = ap records_of (drop_more runs run no_run h)

-- past the last record of a run stands the next run
pub next_run : (runs : List RunView) (run at : ℕ) → run < length runs → at ≡ length
    (slice_index_or runs run no_run).records
    → left_in runs (run + 1) 0 ≡ left_in runs run at
next_run runs run at h e =
    let this = (slice_index_or runs run no_run).records in
    sym (ap (drop at) (from_run runs run h) ∙ drop_at this (records_of (drop (run + 1) runs)) at (sym e))

-- past all runs stands nothing
pub no_more : (runs : List RunView) (run at : ℕ) → length runs ≤ run → left_in runs run at ≡ []
no_more runs run at h = ap (λ (rs : List RunView). drop at (records_of rs)) (drop_all run runs h)
    ∙ drop_all at [] (omega arith)

-- the next record, and what stands behind it
pub next_row : (runs : List RunView) (run at : ℕ) (row : Record) → run < length runs
    → slice_get (slice_index_or runs run no_run).records at ≡ Some row
    → at < length (slice_index_or runs run no_run).records → left_in runs run at ≡ row ∷ left_in runs run (at + 1)
next_row runs run at row h is inside =
    let this = (slice_index_or runs run no_run).records in
    let rest = records_of (drop (run + 1) runs) in
    ap (drop at) (from_run runs run h)
    ∙ drop-append-le at this rest (omega arith)
    ∙ ap (λ l. l ++ rest) (drop_more this at row inside ∙ ap (λ (r : Record). r ∷ drop (at + 1) this)
    (get_or_from_slice_get this at row row is))
    ∙ ap (λ l. row ∷ l) (sym (drop-append-le (at + 1) this rest (omega arith)))
    ∙ ap (λ l. row ∷ drop (at + 1) l) (sym (from_run runs run h))

sorted-behind : {X : Type 0} (lt : X → X → Bool) (o : IsStrictWeakOrder lt) (xs ys : List X)
    → IsSortedBy lt (xs ++ ys) → IsSortedBy lt ys
sorted-behind lt o [] ys up = up
sorted-behind lt o (x ∷ xs) ys up = sorted-behind lt o xs ys (sorted-tail lt o x (xs ++ ys) up)

-- what is left ascends
left_ascends : (order : List SortPart) (runs : List RunView) (run at : ℕ) → IsAscending order (records_of runs)
    → IsAscending order (left_in runs run at)
left_ascends order runs run at up =
    let lt = λ (a b : Record). is_lt (record_cmp order a b) in
    let split : records_of runs ≡ records_of (take run runs) ++ records_of (drop run runs) =
    ap records_of (sym (take-append-drop run runs)) ∙ flat_map-append (λ (r : RunView). r.records) (take run runs)
    (drop run runs) in
    sorted-drop lt (record_weak order) at (records_of (drop run runs))
    (sorted-behind lt (record_weak order) (records_of (take run runs)) (records_of (drop run runs))
    (subst (IsAscending order) split up))

-- the next record is given
pub ordered_gives : (runs : List RunView) (run at next_run' next_at : ℕ) (row : Record) → StandInOrder runs
    → left_in runs run at ≡ row ∷ left_in runs run (at + 1) → left_in runs next_run' next_at ≡ left_in runs run (at + 1)
    → GivesOne (record { order = order_of runs; left = left_in runs run at; in_order = true }) row
    (record { order = order_of runs; left = left_in runs next_run' next_at; in_order = true })
ordered_gives runs run at next_run' next_at row stand is same =
    let order = order_of runs in
    let lt = λ (a b : Record). is_lt (record_cmp order a b) in
    let up : IsAscending order (row ∷ left_in runs run (at + 1)) = subst (IsAscending order) is
    (left_ascends order runs run at stand.ascending) in
    let in_place = is ∙ ap (λ l. row ∷ l) (sym same) in record {
      order = refl;
      taken = rw in_place (IsPermutation-refl _);
      first = rw is (All-cons (λ other. IsNotBelow order other row) row _
          (never_below_itself lt (record_weak order) row) (sorted-head lt (record_weak order) row _ up));
      in_order = refl;
      in_place = λ yes. in_place;
    }
