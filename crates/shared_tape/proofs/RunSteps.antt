-- Runs, as their records are taken and put.
use Rattle.std.proofs.Common.{◌≡◌, ℕ, zero, suc, ◌+◌, ◌-◌, ◌<◌, ◌≤◌, List, [], ◌∷◌, ◌++◌, length, take, drop, sym, ap, subst, ◌∙◌, arith, get_or, Some, length-append, length-drop, slice_get}
use Rattle.std.specs.Prelude.{All, slice_range}
use Rattle.std.specs.Option.{option_map}
use Rattle.std.proofs.lemmas.List.{length-map, drop_more, drop-append-le, get_or-drop, get_or_read}
use Rattle.std.proofs.lemmas.List.Elements.{All-map, All-tail, All-get_or}
use Rattle.std.proofs.lemmas.Option.{slice_get-map, slice_get-get_or}
use Rattle.opclass.specs.declared.spec.SortPart.{SortPart}
use Rattle.shared_tape.specs.declared.stored.Record.{Record}
use Rattle.shared_tape.specs.Stored.{stored, order_bytes, IsStorable}
use Rattle.shared_tape.specs.Reading.{counted_at, record_at}
use Rattle.shared_tape.specs.Runs.{RunView, IsAscending, IsRun, order_list, with_record_of}
use Rattle.shared_tape.specs.Places.{HasRecordAt, IsSoundRun, records_at, stored_at}
use Rattle.shared_tape.specs.Pass.{AreLaid}
use Rattle.shared_tape.proofs.Standing.{order_at-record, stored_at-record}
use Rattle.shared_tape.proofs.Held.{records-put, each-put}

storable_records : (order : List SortPart) (bytes places : List ℕ) → All (HasRecordAt order bytes) places → All (IsStorable order) (records_at order bytes places)
storable_records order bytes places each = All-map (IsStorable order) (record_at order bytes) places (λ k d inside. (each k d inside).storable)

-- a run as contracts see it
abbrev pub run_view : List SortPart → List ℕ → List ℕ → ℕ → RunView
run_view order bytes starts taken = record { order = order; records = records_at order bytes (drop taken starts) }

pub sound_is_run : (order : List SortPart) (bytes starts : List ℕ) (taken : ℕ) → IsSoundRun order bytes starts taken → IsRun (run_view order bytes starts taken)
sound_is_run order bytes starts taken sound =
    record { ascending = sound.ascending; storable = storable_records order bytes (drop taken starts) sound.each }

-- records that were laid in order are a run
pub laid_sound : (order : List SortPart) (bytes starts : List ℕ) (rows : List Record) → AreLaid order bytes starts rows → IsAscending order rows
    → IsSoundRun order bytes starts 0
laid_sound order bytes starts rows laid up =
    record { within = omega arith; each = laid.each; ascending = subst (IsAscending order) (sym laid.are) up }

-- the order bytes of a record of a run
pub order_at_place : (order : List SortPart) (bytes starts : List ℕ) (taken at : ℕ) (result : List ℕ) → IsSoundRun order bytes starts taken
    → at < length (records_at order bytes (drop taken starts)) → result ≡ counted_at bytes (get_or starts (taken + at) 0)
    → slice_get (order_list (run_view order bytes starts taken)) at ≡ Some result
order_at_place order bytes starts taken at result sound inside is =
    let left = drop taken starts in
    let among : at < length left = omega (arith, length-map left (record_at order bytes)) in
    let start : get_or left at 0 ≡ get_or starts (taken + at) 0 = get_or-drop taken starts at 0 in
    let has = subst (HasRecordAt order bytes) start (All-get_or (HasRecordAt order bytes) left at 0 among sound.each) in
    slice_get-map (order_bytes order) (records_at order bytes left) at
    ∙ ap (option_map (order_bytes order))
    (slice_get-map (record_at order bytes) left at ∙ ap (option_map (record_at order bytes)) (slice_get-get_or left at 0 among ∙ ap Some start))
    ∙ ap Some
    (sym (order_at-record order bytes (get_or starts (taken + at) 0) (record_at order bytes (get_or starts (taken + at) 0)) has) ∙ sym is)

pub record_at_place : (order : List SortPart) (bytes starts : List ℕ) (taken at : ℕ) → at < length (records_at order bytes (drop taken starts))
    → slice_get (records_at order bytes (drop taken starts)) at ≡ Some (record_at order bytes (get_or starts (taken + at) 0))
record_at_place order bytes starts taken at inside =
    let left = drop taken starts in
    let among : at < length left = omega (arith, length-map left (record_at order bytes)) in
    slice_get-map (record_at order bytes) left at
    ∙ ap (option_map (record_at order bytes)) (slice_get-get_or left at 0 among ∙ ap Some (get_or-drop taken starts at 0))

pub has_at_place : (order : List SortPart) (bytes starts : List ℕ) (taken at : ℕ) → IsSoundRun order bytes starts taken
    → at < length (records_at order bytes (drop taken starts)) → HasRecordAt order bytes (get_or starts (taken + at) 0)
has_at_place order bytes starts taken at sound inside =
    let left = drop taken starts in
    let among : at < length left = omega (arith, length-map left (record_at order bytes)) in
    subst (HasRecordAt order bytes) (get_or-drop taken starts at 0) (All-get_or (HasRecordAt order bytes) left at 0 among sound.each)

-- the first record is taken
ascending_rest : (order : List SortPart) (row : Record) (rows : List Record) → IsAscending order (row ∷ rows) → IsAscending order rows
ascending_rest order row rows up k d low inside =
    let above = up (suc k) d (omega arith) (omega arith) in
    let next : suc k + 1 ≡ suc (k + 1) = omega arith in
    rw next at above

pub records_next : (order : List SortPart) (bytes starts : List ℕ) (taken : ℕ) → taken < length starts
    → records_at order bytes (drop taken starts) ≡ record_at order bytes (get_or starts taken 0) ∷ records_at order bytes (drop (taken + 1) starts)
records_next order bytes starts taken inside = ap (records_at order bytes) (drop_more starts taken 0 inside)

pub sound_next : (order : List SortPart) (bytes starts : List ℕ) (taken : ℕ) → taken < length starts → IsSoundRun order bytes starts taken
    → IsSoundRun order bytes starts (taken + 1)
sound_next order bytes starts taken inside sound = record {
  within = omega arith;
  each =
      All-tail (HasRecordAt order bytes) (get_or starts taken 0) (drop (taken + 1) starts)
      (subst (All (HasRecordAt order bytes)) (drop_more starts taken 0 inside) sound.each);
  ascending =
      ascending_rest order (record_at order bytes (get_or starts taken 0)) (records_at order bytes (drop (taken + 1) starts))
      (subst (IsAscending order) (records_next order bytes starts taken inside) sound.ascending);
}

-- a record is put behind the others
drop_put : (starts : List ℕ) (start taken : ℕ) → taken ≤ length starts → drop taken (starts ++ start ∷ []) ≡ drop taken starts ++ start ∷ []
drop_put starts start taken within = drop-append-le taken starts (start ∷ []) within

pub records_append : (order : List SortPart) (bytes starts piece new new_starts : List ℕ) (taken : ℕ) (row : Record) → IsSoundRun order bytes starts taken
    → IsStorable order row → piece ≡ stored order row → new ≡ bytes ++ piece → new_starts ≡ starts ++ length bytes ∷ []
    → records_at order new (drop taken new_starts) ≡ records_at order bytes (drop taken starts) ++ row ∷ []
records_append order bytes starts piece new new_starts taken row sound is e put placed =
    (λ i. records_at order ((put ∙ ap (λ (xs : List ℕ). bytes ++ xs) e) i) (drop taken (placed i)))
    ∙ ap (records_at order (bytes ++ stored order row)) (drop_put starts (length bytes) taken sound.within)
    ∙ records-put order bytes (drop taken starts) row is sound.each

pub sound_append : (order : List SortPart) (bytes starts piece new new_starts : List ℕ) (taken : ℕ) (row : Record) → IsSoundRun order bytes starts taken
    → IsStorable order row → piece ≡ stored order row → new ≡ bytes ++ piece → new_starts ≡ starts ++ length bytes ∷ []
    → IsAscending order (records_at order bytes (drop taken starts) ++ row ∷ []) → IsSoundRun order new new_starts taken
sound_append order bytes starts piece new new_starts taken row sound is e put placed up = record {
  within = omega (arith, sound.within, ap length placed, length-append starts (length bytes ∷ []));
  each =
      subst (λ (xs : List ℕ). All (HasRecordAt order new) (drop taken xs)) (sym placed)
      (subst (λ (xs : List ℕ). All (HasRecordAt order xs) (drop taken (starts ++ length bytes ∷ []))) (sym (put ∙ ap (λ (xs : List ℕ). bytes ++ xs) e))
      (subst (All (HasRecordAt order (bytes ++ stored order row))) (sym (drop_put starts (length bytes) taken sound.within))
      (each-put order bytes (drop taken starts) row is sound.each)));
  ascending = subst (IsAscending order) (sym (records_append order bytes starts piece new new_starts taken row sound is e put placed)) up;
}

-- one record of a list
pub one_record : (rows : List Record) (at : ℕ) (row : Record) → slice_get rows at ≡ Some row → slice_range rows at (at + 1) ≡ row ∷ []
one_record [] at row is = cc
one_record (first ∷ rows) zero row is = let same : first ≡ row = cc in ap (λ (r : Record). r ∷ []) same
one_record (first ∷ rows) (suc at) row is =
    let one : suc at + 1 - suc at ≡ at + 1 - at = omega arith in
    ap (λ (n : ℕ). take n (drop at rows)) one ∙ one_record rows at row is

-- the same with the start as it was read
start_is : (order : List SortPart) (bytes starts : List ℕ) (taken at start : ℕ) → at < length (records_at order bytes (drop taken starts))
    → start ≡ get_or starts (taken + at) start → start ≡ get_or starts (taken + at) 0
start_is order bytes starts taken at start inside read =
    get_or_read starts (taken + at) start
    (omega (arith, length-map (drop taken starts) (record_at order bytes), length-drop taken starts)) read 0

pub order_at_start : (order : List SortPart) (bytes starts : List ℕ) (taken at start : ℕ) (result : List ℕ) (view : RunView)
    → IsSoundRun order bytes starts taken → run_view order bytes starts taken ≡ view → at < length view.records
    → start ≡ get_or starts (taken + at) start → result ≡ counted_at bytes start → slice_get (order_list view) at ≡ Some result
order_at_start order bytes starts taken at start result view sound seen inside read is =
    let among : at < length (records_at order bytes (drop taken starts)) = subst (λ (v : RunView). at < length v.records) (sym seen) inside in
    subst (λ (v : RunView). slice_get (order_list v) at ≡ Some result) seen
    (order_at_place order bytes starts taken at result sound among
    (is ∙ ap (counted_at bytes) (start_is order bytes starts taken at start among read)))

pub record_at_start : (order : List SortPart) (bytes starts : List ℕ) (taken at start : ℕ) (view : RunView)
    → run_view order bytes starts taken ≡ view → at < length view.records → start ≡ get_or starts (taken + at) start
    → slice_get view.records at ≡ Some (record_at order bytes start)
record_at_start order bytes starts taken at start view seen inside read =
    let among : at < length (records_at order bytes (drop taken starts)) = subst (λ (v : RunView). at < length v.records) (sym seen) inside in
    subst (λ (v : RunView). slice_get v.records at ≡ Some (record_at order bytes start)) seen
    (record_at_place order bytes starts taken at among
    ∙ ap (λ (s : ℕ). Some (record_at order bytes s)) (sym (start_is order bytes starts taken at start among read)))

pub has_at_start : (order : List SortPart) (bytes starts : List ℕ) (taken at start : ℕ) (view : RunView)
    → IsSoundRun order bytes starts taken → run_view order bytes starts taken ≡ view → at < length view.records
    → start ≡ get_or starts (taken + at) start → HasRecordAt order bytes start
has_at_start order bytes starts taken at start view sound seen inside read =
    let among : at < length (records_at order bytes (drop taken starts)) = subst (λ (v : RunView). at < length v.records) (sym seen) inside in
    subst (HasRecordAt order bytes) (sym (start_is order bytes starts taken at start among read)) (has_at_place order bytes starts taken at sound among)

pub view_is_run : (order : List SortPart) (bytes starts : List ℕ) (taken : ℕ) (view : RunView) → IsSoundRun order bytes starts taken
    → run_view order bytes starts taken ≡ view → IsRun view
view_is_run order bytes starts taken view sound seen = subst IsRun seen (sound_is_run order bytes starts taken sound)

-- where the first record was read
pub view_next : (order : List SortPart) (bytes starts : List ℕ) (taken : ℕ) (view : RunView) (row : Record) → run_view order bytes starts taken ≡ view
    → taken < length starts → slice_get view.records 0 ≡ Some row
    → view ≡ record { order = order; records = row ∷ records_at order bytes (drop (taken + 1) starts) }
view_next order bytes starts taken view row seen inside first =
    let there : Some (record_at order bytes (get_or starts taken 0)) ≡ Some row =
    ap (λ (rows : List Record). slice_get rows 0) (sym (records_next order bytes starts taken inside))
    ∙ ap (λ (v : RunView). slice_get v.records 0) seen
    ∙ first in
    let same : record_at order bytes (get_or starts taken 0) ≡ row = cc in
    sym seen
    ∙ ap (λ (rows : List Record). record { order = order; records = rows })
    (records_next order bytes starts taken inside ∙ ap (λ (r : Record). r ∷ records_at order bytes (drop (taken + 1) starts)) same)

-- ---- the record at a place of another run is put behind the others

-- what is known of two runs, where a record of the other is put behind this one's
pub record Puts (order : List SortPart) (bytes starts : List ℕ) (taken : ℕ) (other_order : List SortPart) (other_bytes other_starts : List ℕ)
    (other_taken at start : ℕ) (piece : List ℕ) (view other : RunView) : Type 0 where
  pub sound : IsSoundRun order bytes starts taken
  pub seen : run_view order bytes starts taken ≡ view
  pub other_sound : IsSoundRun other_order other_bytes other_starts other_taken
  pub other_seen : run_view other_order other_bytes other_starts other_taken ≡ other
  pub same_order : other.order ≡ view.order
  pub within : at < length other.records
  pub start_read : start ≡ get_or other_starts (other_taken + at) start
  pub piece_is : piece ≡ stored_at other_bytes start
  pub ascending : IsAscending view.order (with_record_of other at view.records)

module _ {order : List SortPart} {bytes starts : List ℕ} {taken : ℕ} {other_order : List SortPart} {other_bytes other_starts : List ℕ}
    {other_taken at start : ℕ} {piece : List ℕ} {view other : RunView}
    (puts : Puts order bytes starts taken other_order other_bytes other_starts other_taken at start piece view other) where
  abbrev put_row : Record
  put_row = record_at other_order other_bytes start

  put_has : HasRecordAt other_order other_bytes start
  put_has =
      has_at_start other_order other_bytes other_starts other_taken at start other puts.other_sound puts.other_seen puts.within puts.start_read

  put_order : other_order ≡ order
  put_order = ap (λ (v : RunView). v.order) puts.other_seen ∙ puts.same_order ∙ sym (ap (λ (v : RunView). v.order) puts.seen)

  put_storable : IsStorable order put_row
  put_storable = subst (λ (o : List SortPart). IsStorable o put_row) put_order put_has.storable

  put_piece : piece ≡ stored order put_row
  put_piece =
      puts.piece_is
      ∙ stored_at-record other_order other_bytes start put_row put_has
      ∙ ap (λ (o : List SortPart). stored o put_row) put_order

  put_rows : with_record_of other at view.records ≡ records_at order bytes (drop taken starts) ++ put_row ∷ []
  put_rows = λ i.
      sym (ap (λ (v : RunView). v.records) puts.seen) i
      ++ one_record other.records at put_row
      (record_at_start other_order other_bytes other_starts other_taken at start other puts.other_seen puts.within puts.start_read) i

  put_ascending : IsAscending order (records_at order bytes (drop taken starts) ++ put_row ∷ [])
  put_ascending =
      subst (λ (rows : List Record). IsAscending order rows) put_rows
      (subst (λ (o : List SortPart). IsAscending o (with_record_of other at view.records)) (sym (ap (λ (v : RunView). v.order) puts.seen)) puts.ascending)

  pub put_sound : (new new_starts : List ℕ) → new ≡ bytes ++ piece → new_starts ≡ starts ++ length bytes ∷ [] → IsSoundRun order new new_starts taken
  put_sound new new_starts put placed =
      sound_append order bytes starts piece new new_starts taken put_row puts.sound put_storable put_piece put placed put_ascending

  pub put_view : (new new_starts : List ℕ) → new ≡ bytes ++ piece → new_starts ≡ starts ++ length bytes ∷ []
      → run_view order new new_starts taken ≡ record { order = view.order; records = with_record_of other at view.records }
  put_view new new_starts put placed =
      ap (λ (rows : List Record). record { order = order; records = rows })
      (records_append order bytes starts piece new new_starts taken put_row puts.sound put_storable put_piece put placed ∙ sym put_rows)
      ∙ ap (λ (v : RunView). record { order = v.order; records = with_record_of other at view.records }) puts.seen
