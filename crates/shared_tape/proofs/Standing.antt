-- Bytes that stand at a place, and the record that they are.
use Rattle.std.proofs.Common.{◌≡◌, ℕ, ◌+◌, ◌-◌, ◌^◌, ◌<◌, ◌≤◌, List, [], ◌++◌, length, take, drop, refl, sym, ap, subst, ◌∙◌, arith, append_assoc, append-nil, length-append, length-drop}
use Rattle.std.proofs.lemmas.List.{take_at, drop_at, drop-drop, drop-append-le}
use Rattle.byteorder.specs.Endian.{little_number}
use Rattle.byteorder.specs.Numbers.{length-bytes_low_first, little_number-reads_back}
use Rattle.pg_bytes.specs.Numbers.{number_at, number_bytes}
use Rattle.opclass.specs.declared.spec.SortPart.{SortPart}
use Rattle.shared_tape.specs.declared.stored.Record.{Record}
use Rattle.shared_tape.specs.Stored.{counted, stored, order_bytes, extra_bytes, IsStorable}
use Rattle.shared_tape.specs.Reading.{counted_at, record_of, record_at}
use Rattle.shared_tape.specs.Places.{StandAt, RecordStandsAt, HasRecordAt, HasTwoAt, stored_at}
use Rattle.shared_tape.proofs.ReadBack.{record_of-bytes}

-- ---- any bytes

pub stand-front : (a b bytes : List ℕ) (place : ℕ) → StandAt (a ++ b) bytes place → StandAt a bytes place
stand-front a b bytes place stand = (b ++ stand.0, stand.1 ∙ append_assoc a b stand.0)

pub stand-behind : (a b bytes : List ℕ) (place : ℕ) → StandAt (a ++ b) bytes place → StandAt b bytes (place + length a)
stand-behind a b bytes place stand = (
  stand.0,
  sym (drop-drop (length a) place bytes)
      ∙ ap (drop (length a)) (stand.1 ∙ append_assoc a b stand.0)
      ∙ drop_at a (b ++ stand.0) (length a) refl,
)

-- what stands at a place ends within the bytes
pub stand-within : (piece bytes : List ℕ) (place : ℕ) → StandAt piece bytes place → 1 ≤ length piece → place + length piece ≤ length bytes
stand-within piece bytes place stand some =
    omega (arith, length-drop place bytes, ap length stand.1, length-append piece stand.0)

pub stand-more : (piece bytes more : List ℕ) (place : ℕ) → 1 ≤ length piece → StandAt piece bytes place → StandAt piece (bytes ++ more) place
stand-more piece bytes more place some stand =
    let inside = stand-within piece bytes place stand some in (
      stand.0 ++ more,
      drop-append-le place bytes more (omega arith)
          ∙ ap (λ (xs : List ℕ). xs ++ more) stand.1
          ∙ append_assoc piece stand.0 more,
    )

pub stand-new : (bytes piece : List ℕ) → StandAt piece (bytes ++ piece) (length bytes)
stand-new bytes piece = ([], drop_at bytes piece (length bytes) refl ∙ sym (append-nil piece))

-- ---- bytes behind their length

pub length-counted : (text : List ℕ) → length (counted text) ≡ 4 + length text
unfolding number_bytes
length-counted text = length-append (number_bytes 4 (length text)) text ∙ ap (λ (n : ℕ). n + length text) (length-bytes_low_first 0 4 (length text))

number_at-stand : (n : ℕ) (bytes : List ℕ) (place : ℕ) → n < 256 ^ 4 → StandAt (number_bytes 4 n) bytes place → number_at 4 bytes place ≡ n
unfolding number_at number_bytes
number_at-stand n bytes place fits stand = ap (little_number 4) stand.1 ∙ little_number-reads_back 4 n stand.0 fits

length-number : (n : ℕ) → length (number_bytes 4 n) ≡ 4
unfolding number_bytes
length-number n = length-bytes_low_first 0 4 n

pub counted_at-stand : (text bytes : List ℕ) (place : ℕ) → length text < 2 ^ 32 → StandAt (counted text) bytes place → counted_at bytes place ≡ text
unfolding counted_at
counted_at-stand text bytes place fits stand =
    let number : number_at 4 bytes place ≡ length text =
    number_at-stand (length text) bytes place fits (stand-front (number_bytes 4 (length text)) text bytes place stand) in
    let behind = stand-behind (number_bytes 4 (length text)) text bytes place stand in
    let moved : drop (place + 4) bytes ≡ text ++ behind.0 =
    ap (λ (n : ℕ). drop (place + n) bytes) (sym (length-number (length text))) ∙ behind.1 in
    (λ i. take (number i) (moved i)) ∙ take_at text behind.0 (length text) refl

-- ---- records

pub has_two : (order : List SortPart) (bytes : List ℕ) (place : ℕ) (row : Record) → RecordStandsAt order bytes place row → HasTwoAt bytes place
unfolding stored
has_two order bytes place row is = record {
  first = order_bytes order row;
  second = extra_bytes row;
  first_fits = is.storable.order_fits;
  second_fits = is.storable.extra_fits;
  stand = is.stands;
}

pub two-first : (bytes : List ℕ) (place : ℕ) (two : HasTwoAt bytes place) → counted_at bytes place ≡ two.first
two-first bytes place two =
    counted_at-stand two.first bytes place two.first_fits (stand-front (counted two.first) (counted two.second) bytes place two.stand)

pub two-second : (bytes : List ℕ) (place : ℕ) (two : HasTwoAt bytes place) → counted_at bytes (place + length (counted two.first)) ≡ two.second
two-second bytes place two =
    counted_at-stand two.second bytes (place + length (counted two.first)) two.second_fits
    (stand-behind (counted two.first) (counted two.second) bytes place two.stand)

pub stored_at-two : (bytes : List ℕ) (place : ℕ) (two : HasTwoAt bytes place) → stored_at bytes place ≡ counted two.first ++ counted two.second
stored_at-two bytes place two =
    ap (λ (first : List ℕ). counted first ++ counted (counted_at bytes (place + length (counted first)))) (two-first bytes place two)
    ∙ ap (λ (second : List ℕ). counted two.first ++ counted second) (two-second bytes place two)

-- where the first ends, as it is counted
two-behind : (bytes : List ℕ) (place : ℕ) (two : HasTwoAt bytes place) → place + 4 + length (counted_at bytes place) ≡ place + length (counted two.first)
two-behind bytes place two =
    ap (λ (first : List ℕ). place + 4 + length first) (two-first bytes place two) ∙ omega (arith, length-counted two.first)

pub first_ends : (bytes first : List ℕ) (place : ℕ) → HasTwoAt bytes place → first ≡ counted_at bytes place → place + 4 + length first + 4 ≤ length bytes
first_ends bytes first place two e =
    omega (
      arith,
      two-behind bytes place two,
      ap length e,
      length-counted two.first,
      length-counted two.second,
      length-append (counted two.first) (counted two.second),
      stand-within (counted two.first ++ counted two.second) bytes place two.stand
          (omega (arith, length-append (counted two.first) (counted two.second), length-counted two.first)),
    )

-- where both end
pub both_end : (bytes first second : List ℕ) (place : ℕ) → HasTwoAt bytes place → first ≡ counted_at bytes place
    → second ≡ counted_at bytes (place + 4 + length first) → place + 4 + length first + 4 + length second ≤ length bytes
both_end bytes first second place two e f =
    let same : second ≡ two.second =
    f
    ∙ ap (λ (xs : List ℕ). counted_at bytes (place + 4 + length xs)) e
    ∙ ap (counted_at bytes) (two-behind bytes place two)
    ∙ two-second bytes place two in
    omega (
      arith,
      two-behind bytes place two,
      ap length e,
      ap length same,
      length-counted two.first,
      length-counted two.second,
      length-append (counted two.first) (counted two.second),
      stand-within (counted two.first ++ counted two.second) bytes place two.stand
          (omega (arith, length-append (counted two.first) (counted two.second), length-counted two.first)),
    )

pub both_are : (bytes first second : List ℕ) (place : ℕ) → HasTwoAt bytes place → first ≡ counted_at bytes place
    → second ≡ counted_at bytes (place + 4 + length first)
    → take (place + 4 + length first + 4 + length second - place) (drop place bytes) ≡ stored_at bytes place
both_are bytes first second place two e f =
    let one : first ≡ two.first = e ∙ two-first bytes place two in
    let same : second ≡ two.second =
    f
    ∙ ap (λ (xs : List ℕ). counted_at bytes (place + 4 + length xs)) e
    ∙ ap (counted_at bytes) (two-behind bytes place two)
    ∙ two-second bytes place two in
    let size : length (counted two.first ++ counted two.second) ≡ place + 4 + length first + 4 + length second - place =
    omega
    (arith, length-append (counted two.first) (counted two.second), length-counted two.first, length-counted two.second, ap length one, ap length same) in
    ap (take (place + 4 + length first + 4 + length second - place)) two.stand.1
    ∙ take_at (counted two.first ++ counted two.second) two.stand.0 (place + 4 + length first + 4 + length second - place) size
    ∙ sym (stored_at-two bytes place two)

-- a record's bytes
pub stored_at-record : (order : List SortPart) (bytes : List ℕ) (place : ℕ) (row : Record) → RecordStandsAt order bytes place row
    → stored_at bytes place ≡ stored order row
unfolding stored has_two
stored_at-record order bytes place row is = stored_at-two bytes place (has_two order bytes place row is)

-- its order bytes
pub order_at-record : (order : List SortPart) (bytes : List ℕ) (place : ℕ) (row : Record) → RecordStandsAt order bytes place row
    → counted_at bytes place ≡ order_bytes order row
unfolding stored has_two
order_at-record order bytes place row is = two-first bytes place (has_two order bytes place row is)

-- and its extra bytes
pub extra_at-record : (order : List SortPart) (bytes : List ℕ) (place : ℕ) (row : Record) → RecordStandsAt order bytes place row
    → counted_at bytes (place + 4 + length (counted_at bytes place)) ≡ extra_bytes row
unfolding stored has_two
extra_at-record order bytes place row is =
    let two = has_two order bytes place row is in
    ap (counted_at bytes) (two-behind bytes place two) ∙ two-second bytes place two

-- the record that stands at a place is the one that is read there
pub record_at-record : (order : List SortPart) (bytes : List ℕ) (place : ℕ) (row : Record) → RecordStandsAt order bytes place row
    → record_at order bytes place ≡ row
unfolding record_at
record_at-record order bytes place row is =
    (λ i. record_of order (order_at-record order bytes place row is i) (extra_at-record order bytes place row is i))
    ∙ record_of-bytes order row is.storable

pub has_record : (order : List SortPart) (bytes : List ℕ) (place : ℕ) (row : Record) → RecordStandsAt order bytes place row → HasRecordAt order bytes place
has_record order bytes place row is = subst (RecordStandsAt order bytes place) (sym (record_at-record order bytes place row is)) is

pub some_stored : (order : List SortPart) (row : Record) → 8 ≤ length (stored order row)
unfolding stored
some_stored order row =
    omega (arith, length-append (counted (order_bytes order row)) (counted (extra_bytes row)), length-counted (order_bytes order row), length-counted (extra_bytes row))

-- a record stands where it was stored, whatever stands before and behind it
pub stored_stands : (order : List SortPart) (row : Record) (front behind : List ℕ) → IsStorable order row
    → RecordStandsAt order (front ++ (stored order row ++ behind)) (length front) row
stored_stands order row front behind is = record {
  storable = is;
  stands = (behind, drop_at front (stored order row ++ behind) (length front) refl);
}

pub stored_read_back : (order : List SortPart) (row : Record) (front behind : List ℕ) → IsStorable order row
    → record_at order (front ++ (stored order row ++ behind)) (length front) ≡ row
stored_read_back order row front behind is =
    record_at-record order (front ++ (stored order row ++ behind)) (length front) row (stored_stands order row front behind is)

-- a record stays where it stands while bytes are put behind, and is the same there
pub record-more : (order : List SortPart) (bytes more : List ℕ) (place : ℕ) (row : Record) → RecordStandsAt order bytes place row
    → RecordStandsAt order (bytes ++ more) place row
record-more order bytes more place row is = record {
  storable = is.storable;
  stands = stand-more (stored order row) bytes more place (omega (arith, some_stored order row)) is.stands;
}

pub record-new : (order : List SortPart) (bytes : List ℕ) (row : Record) → IsStorable order row
    → RecordStandsAt order (bytes ++ stored order row) (length bytes) row
record-new order bytes row is = record { storable = is; stands = stand-new bytes (stored order row) }
