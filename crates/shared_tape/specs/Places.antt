-- The records that stand in a run's bytes, and the places at which they stand.
use Rattle.std.specs.Prelude.{◌≡◌, ℕ, ◌+◌, ◌<◌, ◌≤◌, ◌^◌, List, ◌++◌, length, map, drop, All, sum_by}
use Rattle.std.specs.declared.cmp.Ordering.{Ordering}
use Rattle.std.specs.Ordering.{ordering_then, nat_cmp}
use Rattle.byteorder.specs.Endian.{big_number}
use Rattle.opclass.specs.declared.spec.SortPart.{SortPart}
use Rattle.opclass.specs.Order.{bytes_cmp}
use Rattle.shared_tape.specs.declared.stored.Record.{Record}
use Rattle.shared_tape.specs.declared.place.Place.{Place}
use Rattle.shared_tape.specs.Stored.{counted, stored, IsStorable}
use Rattle.shared_tape.specs.Reading.{counted_at, record_at}
use Rattle.shared_tape.specs.Runs.{IsAscending}

-- these bytes stand at a place
abbrev pub StandAt : List ℕ → List ℕ → ℕ → Type 0
StandAt piece bytes place = (behind : List ℕ) × (drop place bytes ≡ piece ++ behind)

-- a record stands at a place
pub record RecordStandsAt (order : List SortPart) (bytes : List ℕ) (place : ℕ) (row : Record) : Type 0 where
  pub storable : IsStorable order row
  pub stands : StandAt (stored order row) bytes place

-- some record stands at a place, which is then the one that is read there
abbrev pub HasRecordAt : List SortPart → List ℕ → ℕ → Type 0
HasRecordAt order bytes place = RecordStandsAt order bytes place (record_at order bytes place)

-- two lists of bytes stand at a place, each behind its length
pub record HasTwoAt (bytes : List ℕ) (place : ℕ) : Type 0 where
  pub first : List ℕ
  pub second : List ℕ
  pub first_fits : length first < 2 ^ 32
  pub second_fits : length second < 2 ^ 32
  pub stand : StandAt (counted first ++ counted second) bytes place

-- the bytes of the record that stands at a place
abbrev pub stored_at : List ℕ → ℕ → List ℕ
stored_at bytes place =
    let first = counted (counted_at bytes place) in
    first ++ counted (counted_at bytes (place + length first))

-- the records at several places
abbrev pub records_at : List SortPart → List ℕ → List ℕ → List Record
records_at order bytes places = map (record_at order bytes) places

-- the bytes that records take together
abbrev pub space_of : List SortPart → List Record → ℕ
space_of order rows = sum_by (λ row. length (stored order row)) rows

-- a run's records stand in its bytes, and those that weren't taken ascend
pub record IsSoundRun (order : List SortPart) (bytes starts : List ℕ) (taken : ℕ) : Type 0 where
  pub within : taken ≤ length starts
  pub each : All (HasRecordAt order bytes) (drop taken starts)
  pub ascending : IsAscending order (records_at order bytes (drop taken starts))

-- The first 16 bytes as one number, where a byte past the end counts as zero: an abbreviated key
-- (abbreviated keys of tuplesort.c, there of 8 bytes).
unfoldable pub head_of : List ℕ → ℕ
head_of bytes = big_number 16 bytes

-- where places start
abbrev pub starts_of : List Place → List ℕ
starts_of places = map (λ place. place.start) places

-- the place of the record that starts there: it keeps the head of the order bytes
abbrev pub place_in : List ℕ → ℕ → Place
place_in bytes start = record { head = head_of (counted_at bytes start); start = start }

-- a place keeps the head of the order bytes that stand there
abbrev pub HasItsHead : List ℕ → Place → Type 0
HasItsHead bytes place = place.head ≡ head_of (counted_at bytes place.start)

-- places by their heads, and where these are equal by the bytes that stand there
abbrev pub place_cmp : List ℕ → Place → Place → Ordering
place_cmp bytes a b =
    ordering_then (nat_cmp a.head b.head) (bytes_cmp (counted_at bytes a.start) (counted_at bytes b.start))

-- records stand in bytes, and these are their places
pub record ArePlaces (order : List SortPart) (bytes : List ℕ) (places : List Place) : Type 0 where
  pub each : All (HasRecordAt order bytes) (starts_of places)
  pub heads : All (HasItsHead bytes) places
  pub packed : space_of order (records_at order bytes (starts_of places)) ≤ length bytes
