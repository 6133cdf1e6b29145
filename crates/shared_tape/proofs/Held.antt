-- Records that are put and laid: they stay where they stand, and one more stands behind them.
use Rattle.std.proofs.Common.{◌≡◌, ℕ, ◌+◌, ◌<◌, ◌≤◌, List, [], ◌∷◌, ◌++◌, length, take, refl, sym, ap, subst, ◌∙◌, arith, get_or, length-append}
use Rattle.std.specs.Prelude.{All}
use Rattle.std.proofs.lemmas.List.{map-append, length-map}
use Rattle.std.proofs.lemmas.Grind.{take_at_read}
use Rattle.std.proofs.lemmas.List.Elements.{All-head, All-tail, All-cons, All-push, All-weaker}
use Rattle.std.proofs.lemmas.List.Sums.{sum_by_push, sum_by_more_le}
use Rattle.opclass.specs.declared.spec.SortPart.{SortPart}
use Rattle.shared_tape.specs.declared.stored.Record.{Record}
use Rattle.shared_tape.specs.declared.place.Place.{Place}
use Rattle.shared_tape.specs.Stored.{stored, IsStorable}
use Rattle.shared_tape.specs.Reading.{counted_at, record_at}
use Rattle.shared_tape.specs.Places.{HasRecordAt, HasItsHead, head_of, place_in, records_at, space_of, starts_of, stored_at, ArePlaces}
use Rattle.shared_tape.specs.Pass.{AreLaid}
use Rattle.shared_tape.proofs.Standing.{order_at-record, record_at-record, stored_at-record, has_record, record-more, record-new}
use Rattle.shared_tape.proofs.PlaceOrder.{no_place, place_has, record_of_place}

pub has-more : (order : List SortPart) (bytes more : List ℕ) (place : ℕ) → HasRecordAt order bytes place → HasRecordAt order (bytes ++ more) place
has-more order bytes more place is =
    has_record order (bytes ++ more) place (record_at order bytes place) (record-more order bytes more place (record_at order bytes place) is)

same-more : (order : List SortPart) (bytes more : List ℕ) (place : ℕ) → HasRecordAt order bytes place
    → record_at order (bytes ++ more) place ≡ record_at order bytes place
same-more order bytes more place is =
    record_at-record order (bytes ++ more) place (record_at order bytes place) (record-more order bytes more place (record_at order bytes place) is)

order-more : (order : List SortPart) (bytes more : List ℕ) (place : ℕ) → HasRecordAt order bytes place
    → counted_at (bytes ++ more) place ≡ counted_at bytes place
order-more order bytes more place is =
    order_at-record order (bytes ++ more) place (record_at order bytes place) (record-more order bytes more place (record_at order bytes place) is)
    ∙ sym (order_at-record order bytes place (record_at order bytes place) is)

pub records-more : (order : List SortPart) (bytes more places : List ℕ) → All (HasRecordAt order bytes) places
    → records_at order (bytes ++ more) places ≡ records_at order bytes places
records-more order bytes more [] each = refl
records-more order bytes more (place ∷ places) each = λ i.
    same-more order bytes more place (All-head (HasRecordAt order bytes) place places each) i
    ∷ records-more order bytes more places (All-tail (HasRecordAt order bytes) place places each) i

pub each-more : (order : List SortPart) (bytes more places : List ℕ) → All (HasRecordAt order bytes) places → All (HasRecordAt order (bytes ++ more)) places
each-more order bytes more places each = All-weaker (HasRecordAt order bytes) (HasRecordAt order (bytes ++ more)) (has-more order bytes more) places each

new-record : (order : List SortPart) (bytes : List ℕ) (row : Record) → IsStorable order row
    → record_at order (bytes ++ stored order row) (length bytes) ≡ row
new-record order bytes row is = record_at-record order (bytes ++ stored order row) (length bytes) row (record-new order bytes row is)

new-has : (order : List SortPart) (bytes : List ℕ) (row : Record) → IsStorable order row → HasRecordAt order (bytes ++ stored order row) (length bytes)
new-has order bytes row is = has_record order (bytes ++ stored order row) (length bytes) row (record-new order bytes row is)

-- the records at places, and one more at the end of the bytes
pub records-put : (order : List SortPart) (bytes places : List ℕ) (row : Record) → IsStorable order row → All (HasRecordAt order bytes) places
    → records_at order (bytes ++ stored order row) (places ++ length bytes ∷ []) ≡ records_at order bytes places ++ row ∷ []
records-put order bytes places row is each =
    map-append (record_at order (bytes ++ stored order row)) places (length bytes ∷ [])
    ∙ (λ i. records-more order bytes (stored order row) places each i ++ new-record order bytes row is i ∷ [])

pub each-put : (order : List SortPart) (bytes places : List ℕ) (row : Record) → IsStorable order row → All (HasRecordAt order bytes) places
    → All (HasRecordAt order (bytes ++ stored order row)) (places ++ length bytes ∷ [])
each-put order bytes places row is each =
    All-push (HasRecordAt order (bytes ++ stored order row)) places (length bytes) (each-more order bytes (stored order row) places each)
    (new-has order bytes row is)

-- a record was laid behind others
pub laid-put : (order : List SortPart) (bytes starts piece : List ℕ) (rows : List Record) (row : Record) → IsStorable order row → piece ≡ stored order row
    → AreLaid order bytes starts rows → AreLaid order (bytes ++ piece) (starts ++ length bytes ∷ []) (rows ++ row ∷ [])
laid-put order bytes starts piece rows row is e laid =
    subst (λ (xs : List ℕ). AreLaid order (bytes ++ xs) (starts ++ length bytes ∷ []) (rows ++ row ∷ [])) (sym e)
    (record {
      each = each-put order bytes starts row is laid.each;
      are = records-put order bytes starts row is laid.each ∙ ap (λ (before : List Record). before ++ row ∷ []) laid.are;
      size = omega (arith, length-append bytes (stored order row), laid.size, sum_by_push (λ (r : Record). length (stored order r)) rows row);
    })

pub laid-none : (order : List SortPart) → AreLaid order [] [] []
laid-none order = record { each = λ k d inside. absurd (omega arith); are = refl; size = refl }

heads-more : (order : List SortPart) (bytes more : List ℕ) (places : List Place) → All (HasRecordAt order bytes) (starts_of places)
    → All (HasItsHead bytes) places → All (HasItsHead (bytes ++ more)) places
heads-more order bytes more [] each heads = λ k d inside. absurd (omega arith)
heads-more order bytes more (place ∷ places) each heads =
    All-cons (HasItsHead (bytes ++ more)) place places
    (All-head (HasItsHead bytes) place places heads
    ∙ ap head_of (sym (order-more order bytes more place.start (All-head (HasRecordAt order bytes) place.start (starts_of places) each))))
    (heads-more order bytes more places (All-tail (HasRecordAt order bytes) place.start (starts_of places) each) (All-tail (HasItsHead bytes) place places heads))

starts-put : (places : List Place) (place : Place) → starts_of (places ++ place ∷ []) ≡ starts_of places ++ place.start ∷ []
starts-put places place = map-append (λ (p : Place). p.start) places (place ∷ [])

-- a record was put behind others, with its place
pub records-added : (order : List SortPart) (bytes : List ℕ) (places : List Place) (row : Record) → IsStorable order row → ArePlaces order bytes places
    → records_at order (bytes ++ stored order row) (starts_of (places ++ place_in (bytes ++ stored order row) (length bytes) ∷ []))
    ≡ records_at order bytes (starts_of places) ++ row ∷ []
records-added order bytes places row is are =
    ap (records_at order (bytes ++ stored order row)) (starts-put places (place_in (bytes ++ stored order row) (length bytes)))
    ∙ records-put order bytes (starts_of places) row is are.each

pub places-added : (order : List SortPart) (bytes : List ℕ) (places : List Place) (row : Record) → IsStorable order row → ArePlaces order bytes places
    → ArePlaces order (bytes ++ stored order row) (places ++ place_in (bytes ++ stored order row) (length bytes) ∷ [])
places-added order bytes places row is are = record {
  each =
      subst (All (HasRecordAt order (bytes ++ stored order row))) (sym (starts-put places (place_in (bytes ++ stored order row) (length bytes))))
      (each-put order bytes (starts_of places) row is are.each);
  heads =
      All-push (HasItsHead (bytes ++ stored order row)) places (place_in (bytes ++ stored order row) (length bytes))
      (heads-more order bytes (stored order row) places are.each are.heads) refl;
  packed =
      omega (
        arith,
        length-append bytes (stored order row),
        are.packed,
        ap (space_of order) (records-added order bytes places row is are),
        sum_by_push (λ (r : Record). length (stored order r)) (records_at order bytes (starts_of places)) row,
      );
}

-- the same with names for what is new
pub put_places : (order : List SortPart) (bytes new : List ℕ) (places all : List Place) (row : Record) → IsStorable order row → new ≡ bytes ++ stored order row
    → all ≡ places ++ place_in new (length bytes) ∷ [] → ArePlaces order bytes places → ArePlaces order new all
put_places order bytes new places all row is put placed are =
    subst (ArePlaces order new) (sym placed)
    (subst (λ (xs : List ℕ). ArePlaces order xs (places ++ place_in xs (length bytes) ∷ [])) (sym put) (places-added order bytes places row is are))

pub put_records : (order : List SortPart) (bytes new : List ℕ) (places all : List Place) (row : Record) → IsStorable order row → new ≡ bytes ++ stored order row
    → all ≡ places ++ place_in new (length bytes) ∷ [] → ArePlaces order bytes places
    → records_at order new (starts_of all) ≡ records_at order bytes (starts_of places) ++ row ∷ []
put_records order bytes new places all row is put placed are =
    ap (λ (ps : List Place). records_at order new (starts_of ps)) placed
    ∙ ap (λ (xs : List ℕ). records_at order xs (starts_of (places ++ place_in xs (length bytes) ∷ []))) put
    ∙ records-added order bytes places row is are

-- ---- laying the records at places, one after the other

-- the bytes of the record at a place have room where there is room for all
pub lay_fits : (order : List SortPart) (bytes piece : List ℕ) (places : List Place) (i : ℕ) → All (HasRecordAt order bytes) (starts_of places)
    → i < length places → piece ≡ stored_at bytes (get_or places i no_place).start
    → space_of order (take i (records_at order bytes (starts_of places))) + length piece ≤ space_of order (records_at order bytes (starts_of places))
lay_fits order bytes piece places i each inside is =
    let place = get_or places i no_place in
    let row = record_at order bytes place.start in
    let rows = records_at order bytes (starts_of places) in
    let size : length piece ≡ length (stored order row) =
    ap length (is ∙ stored_at-record order bytes place.start row (place_has order bytes places i each inside)) in
    let more =
    sum_by_more_le (λ (r : Record). length (stored order r)) rows i row
    (omega (arith, length-map (starts_of places) (record_at order bytes), length-map places (λ (p : Place). p.start))) in
    omega (arith, size, more, ap (λ (r : Record). length (stored order r)) (record_of_place order bytes places i row inside))

pub lay_more : (order : List SortPart) (bytes piece : List ℕ) (places : List Place) (i : ℕ) (out out_starts new new_starts : List ℕ)
    → All (HasRecordAt order bytes) (starts_of places) → i < length places → piece ≡ stored_at bytes (get_or places i no_place).start
    → new ≡ out ++ piece → new_starts ≡ out_starts ++ length out ∷ []
    → AreLaid order out out_starts (take i (records_at order bytes (starts_of places)))
    → AreLaid order new new_starts (take (i + 1) (records_at order bytes (starts_of places)))
lay_more order bytes piece places i out out_starts new new_starts each inside is put placed laid =
    let place = get_or places i no_place in
    let row = record_at order bytes place.start in
    let rows = records_at order bytes (starts_of places) in
    let has = place_has order bytes places i each inside in
    let among : i < length rows = omega (arith, length-map (starts_of places) (record_at order bytes), length-map places (λ (p : Place). p.start)) in
    let more : take (i + 1) rows ≡ take i rows ++ row ∷ [] =
    (take_at_read rows i row among).1 ∙ ap (λ (r : Record). take i rows ++ r ∷ []) (record_of_place order bytes places i row inside) in
    subst (λ (xs : List Record). AreLaid order new new_starts xs) (sym more)
    (subst (λ (xs : List ℕ). AreLaid order new xs (take i rows ++ row ∷ [])) (sym placed)
    (subst (λ (xs : List ℕ). AreLaid order xs (out_starts ++ length out ∷ []) (take i rows ++ row ∷ [])) (sym put)
    (laid-put order out out_starts piece (take i rows) row has.storable (is ∙ stored_at-record order bytes place.start row has) laid)))
