-- The most bytes that a tuple takes.
use Rattle.std.proofs.Common.{◌≡◌, ◌+◌, ◌/◌, ◌<◌, ◌≤◌, ◌^◌, Bool, true, false, List, length, refl, arith}
use Rattle.std.specs.Prelude.{All}
use Rattle.std.specs.List.{list_any, sum_by}
use Rattle.std.proofs.lemmas.List.Sums.{sum_by-le}
use Rattle.pg_bytes.proofs.Writes.{length-number_bytes}
use Rattle.opclass.specs.declared.types.ColType.{ColType}
use Rattle.tuple_data.specs.Laws.{room_of}
use Rattle.tuple_data.proofs.Room.{room-data}
use Rattle.brin_summary.specs.Answer.{tuple_size}
use Rattle.brin_summary.specs.Summary.{ColumnSummary, RangeSummary}
use Rattle.brin_summary.specs.Tuple.{bitmap_of, bits_of, bound_kinds, bounds_of, null_bitmap, null_flags, range_data}
use Rattle.brin_summary.proofs.Flags.{length-bounds_of, length-null_flags}
use Rattle.brin_summary.proofs.Tuples.{tuple_size-is}

bitmap-room : (columns : List ColumnSummary) → length (null_bitmap columns) ≤ 1 + length columns
unfolding bitmap_of
bitmap-room columns = go (list_any (λ flag. flag) (null_flags columns)) refl
  where
    go : (t : Bool) → list_any (λ flag. flag) (null_flags columns) ≡ t → length (null_bitmap columns) ≤ 1 + length columns
    go true is =
        let flags = length-null_flags columns in
        let size = length-number_bytes ((length (null_flags columns) + 7) / 8) (bits_of (null_flags columns)) in
        rw is (omega arith)
    go false is = rw is (omega arith)

data-room : (kinds : List ColType) (range : RangeSummary) → length (range_data kinds range) ≤ sum_by room_of (bounds_of range.columns)
unfolding range_data
data-room kinds range = room-data 0 (bound_kinds kinds) (bounds_of range.columns)

pub tuple_room : (kinds : List ColType) (range : RangeSummary) → tuple_size kinds range ≤ 20 + length range.columns + sum_by room_of (bounds_of range.columns)
tuple_room kinds range =
    let is = tuple_size-is kinds range in
    let bitmap = bitmap-room range.columns in
    let data_ = data-room kinds range in
    omega arith

-- few values of a few bytes have a tuple within every limit
pub few_bounds : (kinds : List ColType) (range : RangeSummary) → length range.columns ≤ 32 → All (λ value. room_of value ≤ 10011) (bounds_of range.columns)
    → tuple_size kinds range < 2 ^ 63
few_bounds kinds range few small =
    let room = tuple_room kinds range in
    let sum = sum_by-le room_of 10011 (bounds_of range.columns) small in
    let count = length-bounds_of range.columns in
    omega arith
