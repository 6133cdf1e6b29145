-- What stands in the tuples of a B-tree: fronts, sizes and row pointers.
use Rattle.std.proofs.Common.{◌≡◌, ℕ, ◌+◌, ◌-◌, ◌%◌, ◌^◌, ◌<◌, ◌≤◌, Bool, true, false, List, [], ◌++◌, length, drop, sym, ap, ◌∙◌, arith, length-append, length-take, Some, None}
use Rattle.std.specs.Prelude.{Option, if◌then◌else◌}
use Rattle.std.specs.List.{flat_map}
use Rattle.std.proofs.lemmas.List.{append_assoc, append-nil, drop_at}
use Rattle.std.proofs.lemmas.Slice.Zip.{AllZip-long}
use Rattle.pg_bytes.specs.Numbers.{number_at}
use Rattle.pg_bytes.specs.Places.{zeros}
use Rattle.pg_bytes.specs.Pointers.{row_pointer_at, row_pointer_bytes}
use Rattle.pg_bytes.specs.declared.row_ptr.RowPtr.{RowPtr}
use Rattle.opclass.specs.declared.types.ColType.{ColType}
use Rattle.opclass.specs.declared.value.KeyVal.{KeyVal}
use Rattle.opclass.specs.Values.{IsValueOf}
use Rattle.tuple_data.specs.Nulls.{has_null, has_variable}
use Rattle.btree_item.specs.Tuple.{index_tuple, info_of, no_row_mark, size_of}
use Rattle.btree_item.specs.TupleReading.{BeginsWithTuple}
use Rattle.btree_item.specs.Leaf.{pointers_end, posting_front, posting_image, posting_size}
use Rattle.btree_item.specs.Pivot.{image_of_attributes, pivot_offset, pivot_tail, tail_size}
use Rattle.btree_item.specs.Item.{IsTupleOf, kept_kinds}
use Rattle.btree_item.specs.Pass.{BeginsWithPointers}
use Rattle.btree_item.specs.declared.item.Item.TheVariants as item
use Rattle.btree_item.proofs.Sizes.{data_end-within, length-attributes, length-index_tuple, length-posting, length-row_pointer}
use Rattle.btree_item.proofs.TupleFronts.{front-read, info-read, pointer-read}

-- ---- each tuple begins as an index tuple

pub plain-begins : (kinds : List ColType) (bytes : List ℕ) (keys : List KeyVal) (ptr : RowPtr) → IsTupleOf kinds bytes (item.Plain keys ptr)
    → BeginsWithTuple kinds bytes ptr (size_of kinds keys) keys
plain-begins kinds bytes keys ptr t = record {
  typed = t.is_item.typed;
  small = let small = t.is_item.small in omega arith;
  rest = [];
  bytes_are = t.bytes_are ∙ sym (append-nil (index_tuple ptr (info_of (size_of kinds keys) kinds keys) kinds keys));
}

-- behind the keys of a posting tuple
abbrev behind_keys : List ColType → List KeyVal → List RowPtr → List ℕ
behind_keys kinds keys ptrs =
    flat_map row_pointer_bytes ptrs ++ zeros (posting_size kinds keys (length ptrs) - pointers_end kinds keys (length ptrs))

pub posting-begins : (kinds : List ColType) (bytes : List ℕ) (keys : List KeyVal) (ptrs : List RowPtr) → IsTupleOf kinds bytes (item.Posting keys ptrs)
    → BeginsWithTuple kinds bytes (posting_front kinds keys ptrs) (posting_size kinds keys (length ptrs) + no_row_mark) keys
unfolding posting_image
posting-begins kinds bytes keys ptrs t = record {
  typed = t.is_item.typed;
  small = let small = t.is_item.shared.small in omega arith;
  rest = behind_keys kinds keys ptrs;
  bytes_are = t.bytes_are;
}

abbrev pub front_of : List KeyVal → Option RowPtr → ℕ → RowPtr
front_of keys last child = record { block = child; offset = pivot_offset (length keys) last }

tail-most : (last : Option RowPtr) → tail_size last ≤ 8
tail-most None = omega arith
tail-most (Some last) = omega arith

pub pivot-begins : (kinds : List ColType) (bytes : List ℕ) (keys : List KeyVal) (last : Option RowPtr) (child : ℕ)
    → IsTupleOf kinds bytes (item.Pivot keys last child)
    → BeginsWithTuple (kept_kinds kinds keys) bytes (front_of keys last child) (size_of (kept_kinds kinds keys) keys + tail_size last + no_row_mark) keys
unfolding image_of_attributes
pivot-begins kinds bytes keys last child t = record {
  typed = t.is_item.typed;
  small = let small = t.is_item.small in let tail = tail-most last in omega arith;
  rest = pivot_tail last;
  bytes_are = t.bytes_are;
}

-- ---- the bits of t_info below the marks of the values

low-bits : (a b : Bool) (size : ℕ) → size < 2 ^ 14 → (size + ((if a then 0x4000 else 0) + (if b then 0x8000 else 0))) % 0x4000 ≡ size
low-bits true true size small = omega arith
low-bits true false size small = omega arith
low-bits false true size small = omega arith
low-bits false false size small = omega arith

pub info-low : (kinds : List ColType) (bytes : List ℕ) (front : RowPtr) (size : ℕ) (values : List KeyVal)
    → BeginsWithTuple kinds bytes front size values → number_at 2 bytes 6 % 0x4000 ≡ size
info-low kinds bytes front size values b =
    ap (λ (n : ℕ). n % 0x4000) (info-read kinds values front size bytes b.rest b.small b.bytes_are)
    ∙ low-bits (has_variable kinds values) (has_null values) size b.small

-- ---- what stands in the place of the row pointer

pub front-is : (kinds : List ColType) (bytes : List ℕ) (front : RowPtr) (size : ℕ) (values : List KeyVal)
    → BeginsWithTuple kinds bytes front size values → front.block < 2 ^ 32 → front.offset < 2 ^ 16 → row_pointer_at bytes 0 ≡ front
front-is kinds bytes front size values b block offset =
    front-read kinds values front (info_of size kinds values) bytes b.rest b.bytes_are block offset

pub plain-front : (kinds : List ColType) (bytes : List ℕ) (keys : List KeyVal) (ptr : RowPtr) → IsTupleOf kinds bytes (item.Plain keys ptr)
    → row_pointer_at bytes 0 ≡ ptr
plain-front kinds bytes keys ptr t =
    front-is kinds bytes ptr (size_of kinds keys) keys (plain-begins kinds bytes keys ptr t) t.is_item.ptr_is.0 t.is_item.ptr_is.1

pub posting-front : (kinds : List ColType) (bytes : List ℕ) (keys : List KeyVal) (ptrs : List RowPtr) → IsTupleOf kinds bytes (item.Posting keys ptrs)
    → row_pointer_at bytes 0 ≡ posting_front kinds keys ptrs
posting-front kinds bytes keys ptrs t =
    let small = t.is_item.shared.small in
    front-is kinds bytes (posting_front kinds keys ptrs) _ keys (posting-begins kinds bytes keys ptrs t) (omega arith) (omega arith)

-- a pivot keeps as many attributes as it has types for
pub kept-few : (kinds : List ColType) (bytes : List ℕ) (keys : List KeyVal) (last : Option RowPtr) (child : ℕ)
    → IsTupleOf kinds bytes (item.Pivot keys last child) → length keys ≤ length kinds
kept-few kinds bytes keys last child t =
    let long = AllZip-long IsValueOf (kept_kinds kinds keys) keys t.is_item.typed in
    let cut = length-take (length keys) kinds in
    omega arith

offset-most : (kept : ℕ) (last : Option RowPtr) → pivot_offset kept last ≤ kept + 0x1000
offset-most kept None = omega arith
offset-most kept (Some last) = omega arith

pub pivot-front : (kinds : List ColType) (bytes : List ℕ) (keys : List KeyVal) (last : Option RowPtr) (child : ℕ) → length kinds ≤ 32
    → IsTupleOf kinds bytes (item.Pivot keys last child) → row_pointer_at bytes 0 ≡ front_of keys last child
pivot-front kinds bytes keys last child few t =
    let kept = kept-few kinds bytes keys last child t in
    let offset = offset-most (length keys) last in
    front-is (kept_kinds kinds keys) bytes (front_of keys last child) _ keys (pivot-begins kinds bytes keys last child t) t.is_item.child_is (omega arith)

-- ---- row pointers behind the keys

pub pointers-begin : (kinds : List ColType) (bytes : List ℕ) (keys : List KeyVal) (ptrs : List RowPtr) → IsTupleOf kinds bytes (item.Posting keys ptrs)
    → BeginsWithPointers (drop (size_of kinds keys) bytes) ptrs
unfolding posting_image
pointers-begin kinds bytes keys ptrs t =
    let info : ℕ = info_of (posting_size kinds keys (length ptrs) + no_row_mark) kinds keys in
    record {
      fit = t.is_item.ptrs_are;
      rest = zeros (posting_size kinds keys (length ptrs) - pointers_end kinds keys (length ptrs));
      bytes_are = ap (drop (size_of kinds keys)) t.bytes_are
          ∙ drop_at (index_tuple (posting_front kinds keys ptrs) info kinds keys) (behind_keys kinds keys ptrs) (size_of kinds keys)
          (length-index_tuple (posting_front kinds keys ptrs) info kinds keys);
    }

-- ---- sizes

pub record HasSize (bytes : List ℕ) : Type 0 where
  pub least : 8 ≤ length bytes
  pub most : length bytes ≤ 2712

pub plain-sized : (kinds : List ColType) (bytes : List ℕ) (keys : List KeyVal) (ptr : RowPtr) → IsTupleOf kinds bytes (item.Plain keys ptr)
    → HasSize bytes
plain-sized kinds bytes keys ptr t =
    let long = ap length t.bytes_are ∙ length-index_tuple ptr (info_of (size_of kinds keys) kinds keys) kinds keys in
    let end = data_end-within kinds keys in
    let small = t.is_item.small in
    record { least = omega arith; most = omega arith }

pub posting-sized : (kinds : List ColType) (bytes : List ℕ) (keys : List KeyVal) (ptrs : List RowPtr) → IsTupleOf kinds bytes (item.Posting keys ptrs)
    → HasSize bytes
posting-sized kinds bytes keys ptrs t =
    let long = ap length t.bytes_are ∙ length-posting kinds keys ptrs in
    let end = data_end-within kinds keys in
    let small = t.is_item.shared.small in
    record { least = omega arith; most = omega arith }

pub pivot-sized : (kinds : List ColType) (bytes : List ℕ) (keys : List KeyVal) (last : Option RowPtr) (child : ℕ)
    → IsTupleOf kinds bytes (item.Pivot keys last child) → HasSize bytes
pivot-sized kinds bytes keys last child t =
    let long = ap length t.bytes_are ∙ length-attributes (kept_kinds kinds keys) keys (length keys) last child in
    let end = data_end-within (kept_kinds kinds keys) keys in
    let small = t.is_item.small in
    let tail = tail-most last in
    record { least = omega arith; most = omega arith }

-- ---- the row pointer at the end of a pivot

pub last-read : (kinds : List ColType) (bytes : List ℕ) (keys : List KeyVal) (last : RowPtr) (child : ℕ)
    → IsTupleOf kinds bytes (item.Pivot keys (Some last) child) → row_pointer_at (drop (length bytes - 6) bytes) 0 ≡ last
unfolding image_of_attributes
last-read kinds bytes keys last child t =
    let info : ℕ = info_of (size_of (kept_kinds kinds keys) keys + 8 + no_row_mark) (kept_kinds kinds keys) keys in
    let tuple : List ℕ = index_tuple (front_of keys (Some last) child) info (kept_kinds kinds keys) keys in
    let whole : bytes ≡ (tuple ++ zeros 2) ++ row_pointer_bytes last = t.bytes_are ∙ sym (append_assoc tuple (zeros 2) (row_pointer_bytes last)) in
    let long = ap length whole ∙ length-append (tuple ++ zeros 2) (row_pointer_bytes last) in
    let six = length-row_pointer last in
    let front : length (tuple ++ zeros 2) ≡ length bytes - 6 = omega arith in
    ap (λ (l : List ℕ). row_pointer_at l 0)
    (ap (drop (length bytes - 6)) whole ∙ drop_at (tuple ++ zeros 2) (row_pointer_bytes last) (length bytes - 6) front ∙ sym (append-nil (row_pointer_bytes last)))
    ∙ pointer-read last [] t.is_item.last_is.1.0 t.is_item.last_is.1.1
