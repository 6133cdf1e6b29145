-- The sizes of tuples and of their parts.
use Rattle.std.proofs.Common.{◌≡◌, ℕ, ◌+◌, ◌-◌, ◌*◌, ◌^◌, ◌<◌, ◌≤◌, Bool, true, false, if◌then◌else◌, Option, Some, None, List, [], ◌∷◌, ◌++◌, length, drop, refl, ap, arith, length-append, append-nil}
use Rattle.std.proofs.lemmas.List.{drop_at}
use Rattle.std.proofs.lemmas.List.Concat.{flat_map-cons}
use Rattle.std.specs.Prelude.{All}
use Rattle.std.specs.List.{flat_map}
use Rattle.pg_bytes.specs.Numbers.{number_bytes}
use Rattle.pg_bytes.specs.Places.{zeros}
use Rattle.pg_bytes.specs.Pointers.{row_pointer_bytes}
use Rattle.pg_bytes.specs.declared.row_ptr.RowPtr.{RowPtr}
use Rattle.pg_bytes.proofs.Writes.{length-number_bytes, length-zeros}
use Rattle.opclass.specs.declared.types.ColType.{ColType}
use Rattle.opclass.specs.declared.value.KeyVal.{KeyVal}
use Rattle.tuple_data.specs.Data.{data_of}
use Rattle.tuple_data.specs.Nulls.{has_null, null_bits}
use Rattle.tuple_data.specs.Laws.{room_of}
use Rattle.tuple_data.proofs.Room.{few_data}
use Rattle.btree_item.specs.Tuple.{bitmap_of, bitmap_size, data_end, index_tuple, info_of, no_row_mark, size_of}
use Rattle.btree_item.specs.Leaf.{pointers_end, posting_front, posting_image, posting_size}
use Rattle.btree_item.specs.Pivot.{image_of_attributes, minus_infinity, pivot_image, pivot_offset, pivot_tail, tail_size}

-- the size has room for the data
pub data_end-within : (kinds : List ColType) (values : List KeyVal) → data_end kinds values ≤ size_of kinds values
unfolding size_of
data_end-within kinds values = omega arith

-- and fewer than eight bytes more
pub data_end-near : (kinds : List ColType) (values : List KeyVal) → size_of kinds values < data_end kinds values + 8
unfolding size_of
data_end-near kinds values = omega arith

pub data-below : (kinds : List ColType) (values : List KeyVal) → size_of kinds values ≤ 2704 → length (data_of kinds values) < 2 ^ 30
data-below kinds values small = let within = data_end-within kinds values in omega arith

pub length-row_pointer : (ptr : RowPtr) → length (row_pointer_bytes ptr) ≡ 6
unfolding row_pointer_bytes
length-row_pointer ptr = simp (length-append, length-number_bytes) refl

length-choice : (b : Bool) (bits : ℕ) → length (if b then number_bytes 4 bits ++ zeros 4 else []) ≡ (if b then 8 else 0)
length-choice true bits = simp (length-append, length-number_bytes, length-zeros) refl
length-choice false bits = refl

pub length-bitmap : (values : List KeyVal) → length (bitmap_of values) ≡ bitmap_size values
length-bitmap values = length-choice (has_null values) (null_bits values)

pub length-index_tuple : (front : RowPtr) (info : ℕ) (kinds : List ColType) (values : List KeyVal) → length (index_tuple front info kinds values) ≡ size_of kinds values
unfolding index_tuple
length-index_tuple front info kinds values =
    let within = data_end-within kinds values in
    let last : List ℕ = zeros (size_of kinds values - data_end kinds values) in
    let zero_count = length-zeros (size_of kinds values - data_end kinds values) in
    let a = length-append (data_of kinds values) last in
    let bits = length-bitmap values in
    let b = length-append (bitmap_of values) (data_of kinds values ++ last) in
    let two = length-number_bytes 2 info in
    let c = length-append (number_bytes 2 info) (bitmap_of values ++ (data_of kinds values ++ last)) in
    let six = length-row_pointer front in
    let d = length-append (row_pointer_bytes front) (number_bytes 2 info ++ (bitmap_of values ++ (data_of kinds values ++ last))) in
    omega arith

pub length-pointers : (ptrs : List RowPtr) → length (flat_map row_pointer_bytes ptrs) ≡ 6 * length ptrs
length-pointers [] = refl
length-pointers (ptr ∷ ptrs) =
    let e = ap length (flat_map-cons row_pointer_bytes ptr ptrs) in
    let both = length-append (row_pointer_bytes ptr) (flat_map row_pointer_bytes ptrs) in
    let one = length-row_pointer ptr in
    let more = length-pointers ptrs in
    omega arith

pub length-posting : (kinds : List ColType) (keys : List KeyVal) (ptrs : List RowPtr) → length (posting_image kinds keys ptrs) ≡ posting_size kinds keys (length ptrs)
unfolding posting_image
length-posting kinds keys ptrs =
    let count : ℕ = length ptrs in
    let info : ℕ = info_of (posting_size kinds keys count + no_row_mark) kinds keys in
    let tuple = length-index_tuple (posting_front kinds keys ptrs) info kinds keys in
    let pointers = length-pointers ptrs in
    let last : List ℕ = zeros (posting_size kinds keys count - pointers_end kinds keys count) in
    let zero_count = length-zeros (posting_size kinds keys count - pointers_end kinds keys count) in
    let a = length-append (flat_map row_pointer_bytes ptrs) last in
    let b = length-append (index_tuple (posting_front kinds keys ptrs) info kinds keys) (flat_map row_pointer_bytes ptrs ++ last) in
    omega arith

length-tail : (last : Option RowPtr) → length (pivot_tail last) ≡ tail_size last
length-tail None = refl
length-tail (Some last) = simp (length-append, length-zeros, length-row_pointer) refl

pub length-attributes : (kinds : List ColType) (keys : List KeyVal) (kept : ℕ) (last : Option RowPtr) (child : ℕ)
    → length (image_of_attributes kinds keys kept last child) ≡ size_of kinds keys + tail_size last
unfolding image_of_attributes
length-attributes kinds keys kept last child =
    let front : RowPtr = record { block = child; offset = pivot_offset kept last } in
    let info : ℕ = info_of (size_of kinds keys + tail_size last + no_row_mark) kinds keys in
    let tuple = length-index_tuple front info kinds keys in
    let tail = length-tail last in
    let both = length-append (index_tuple front info kinds keys) (pivot_tail last) in
    omega arith

-- behind the row pointer two tuples of the same values are the same
pub drop-index_tuple : (front : RowPtr) (info : ℕ) (kinds : List ColType) (values : List KeyVal)
    → drop 6 (index_tuple front info kinds values)
    ≡ number_bytes 2 info ++ (bitmap_of values ++ (data_of kinds values ++ zeros (size_of kinds values - data_end kinds values)))
unfolding index_tuple
drop-index_tuple front info kinds values =
    let rest : List ℕ = number_bytes 2 info ++ (bitmap_of values ++ (data_of kinds values ++ zeros (size_of kinds values - data_end kinds values))) in
    drop_at (row_pointer_bytes front) rest 6 (length-row_pointer front)

pub minus_infinity-image : (kinds : List ColType) (keys : List KeyVal) (child : ℕ) → pivot_image kinds keys 0 None child ≡ minus_infinity child
unfolding image_of_attributes index_tuple size_of zeros
minus_infinity-image kinds keys child = simp (append-nil)

bitmap-most : (b : Bool) → (if b then 8 else 0) ≤ 8
bitmap-most true = omega arith
bitmap-most false = omega arith

-- few values of a few bytes have a tuple within every limit
pub few_size : (kinds : List ColType) (values : List KeyVal) → length values ≤ 40 → All (λ value. room_of value ≤ 10011) values
    → size_of kinds values < 2 ^ 21
unfolding size_of
few_size kinds values few small =
    let data_size = few_data kinds values few small in
    let bitmap : bitmap_size values ≤ 8 = bitmap-most (has_null values) in
    omega arith
