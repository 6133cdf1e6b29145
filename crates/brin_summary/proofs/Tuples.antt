-- The tuple of a range and its size.
use Rattle.std.proofs.Common.{◌≡◌, ℕ, ◌+◌, ◌-◌, ◌<◌, ◌≤◌, ◌^◌, List, [], ◌∷◌, ◌++◌, length, refl, sym, ap, ◌∙◌, arith, length-append}
use Rattle.std.proofs.lemmas.List.{append_assoc}
use Rattle.pg_bytes.specs.Numbers.{number_bytes, rounded_up}
use Rattle.pg_bytes.specs.PageLayout.{aligned}
use Rattle.pg_bytes.specs.Places.{zeros}
use Rattle.pg_bytes.proofs.ItemPage.{length-aligned}
use Rattle.pg_bytes.proofs.Writes.{length-number_bytes}
use Rattle.opclass.specs.declared.types.ColType.{ColType}
use Rattle.opclass.specs.declared.value.KeyVal.{KeyVal}
use Rattle.tuple_data.specs.Data.{data_of}
use Rattle.brin_summary.specs.Answer.{tuple_size}
use Rattle.brin_summary.specs.Pass.{half_of}
use Rattle.brin_summary.specs.Summary.{RangeSummary}
use Rattle.brin_summary.specs.Tuple.{bound_kinds, bounds_of, data_place, header_bytes, info_byte, null_bitmap, range_data, range_tuple, tuple_header}

pub half_of-twice : (kinds : List ColType) → half_of (bound_kinds kinds) ≡ kinds
half_of-twice [] = refl
half_of-twice (kind ∷ kinds) = ap (λ l. kind ∷ l) (half_of-twice kinds)

pub length-tuple_header : (first : ℕ) (range : RangeSummary) → length (tuple_header first range) ≡ 5 + length (null_bitmap range.columns)
unfolding header_bytes
length-tuple_header first range =
    let both = length-append (number_bytes 4 first) (info_byte range ∷ null_bitmap range.columns) in
    let four = length-number_bytes 4 first in
    omega arith

pub length-range_tuple : (kinds : List ColType) (first : ℕ) (range : RangeSummary)
    → length (range_tuple kinds first range) ≡ data_place range.columns + rounded_up 8 (length (range_data kinds range))
unfolding range_tuple
length-range_tuple kinds first range =
    let both = length-append (aligned (tuple_header first range)) (aligned (range_data kinds range)) in
    let head = length-aligned (tuple_header first range) in
    let size = length-tuple_header first range in
    let rest = length-aligned (range_data kinds range) in
    let place : rounded_up 8 (length (tuple_header first range)) ≡ data_place range.columns = ap (rounded_up 8) size in
    omega arith

pub tuple_size-is : (kinds : List ColType) (range : RangeSummary)
    → tuple_size kinds range ≡ data_place range.columns + rounded_up 8 (length (range_data kinds range))
unfolding tuple_size
tuple_size-is kinds range = length-range_tuple kinds 0 range

-- wherever the range begins, its tuple has one size
pub tuple_size-anywhere : (kinds : List ColType) (first : ℕ) (range : RangeSummary) → length (range_tuple kinds first range) ≡ tuple_size kinds range
tuple_size-anywhere kinds first range = length-range_tuple kinds first range ∙ sym (tuple_size-is kinds range)

-- the data of a tuple, as they are put
pub range_data-is : (kinds twice : List ColType) (range : RangeSummary) → twice ≡ bound_kinds kinds
    → range_data kinds range ≡ data_of twice (bounds_of range.columns)
unfolding range_data
range_data-is kinds twice range is = ap (λ l. data_of l (bounds_of range.columns)) (sym is)

-- data are no longer than the tuple
pub data-within : (kinds : List ColType) (range : RangeSummary) → length (range_data kinds range) ≤ tuple_size kinds range
data-within kinds range = let is = tuple_size-is kinds range in omega arith

-- zeros up to the next multiple behind bytes that end at one
pub aligned-behind : (front bytes : List ℕ) → rounded_up 8 (length front) ≡ length front → aligned (front ++ bytes) ≡ front ++ aligned bytes
unfolding aligned
aligned-behind front bytes whole =
    let both = length-append front bytes in
    let same : rounded_up 8 (length (front ++ bytes)) - length (front ++ bytes) ≡ rounded_up 8 (length bytes) - length bytes = omega arith in
    ap (λ (n : ℕ). (front ++ bytes) ++ zeros n) same ∙ append_assoc front bytes (zeros (rounded_up 8 (length bytes) - length bytes))

pub aligned-whole : (bytes : List ℕ) → rounded_up 8 (length (aligned bytes)) ≡ length (aligned bytes)
aligned-whole bytes = let size = length-aligned bytes in omega arith

-- the data as they are put, by the types and the bounds that are kept
pub put-data-is : (twice kinds : List ColType) (range : RangeSummary) (put_kinds : List ColType) (put_bounds : List KeyVal)
    → twice ≡ bound_kinds (half_of twice) → half_of twice ≡ kinds → put_kinds ≡ twice → put_bounds ≡ bounds_of range.columns
    → data_of put_kinds put_bounds ≡ range_data kinds range
put-data-is twice kinds range put_kinds put_bounds even half are_kinds are_bounds =
    rw (are_kinds, are_bounds) (sym (range_data-is kinds twice range (even ∙ ap bound_kinds half)))

pub header-within : (kinds : List ColType) (first : ℕ) (range : RangeSummary) → length (tuple_header first range) ≤ tuple_size kinds range
header-within kinds first range =
    let is = tuple_size-is kinds range in
    let size = length-tuple_header first range in
    omega arith

-- the bytes of a buffer as a tuple is put into it, piece by piece
module _ (kinds : List ColType) (first : ℕ) (range : RangeSummary) (none head whole_head : List ℕ)
    (cleared : none ≡ []) (put_head : head ≡ none ++ tuple_header first range) where
  pub put-header-is : head ≡ tuple_header first range
  put-header-is = put_head ∙ ap (λ l. l ++ tuple_header first range) cleared

  pub put-few : tuple_size kinds range ≤ 8152 → length head < 2 ^ 32
  put-few small =
      let is = ap length put-header-is in
      let within = header-within kinds first range in
      omega arith

  pub put-data-few : tuple_size kinds range ≤ 8152 → (with_data put : List ℕ) → whole_head ≡ aligned head → with_data ≡ whole_head ++ put
      → put ≡ range_data kinds range → length with_data < 2 ^ 32
  put-data-few small with_data put is_whole is_with is_put =
      let a = ap length is_with in
      let b = length-append whole_head put in
      let e = ap length is_whole in
      let f = length-aligned head in
      let g = ap length put-header-is in
      let h = header-within kinds first range in
      let i = ap length is_put in
      let j = data-within kinds range in
      omega arith

  pub put-tuple-is : (with_data put all : List ℕ) → whole_head ≡ aligned head → with_data ≡ whole_head ++ put
      → put ≡ range_data kinds range → all ≡ aligned with_data → all ≡ range_tuple kinds first range
  unfolding range_tuple
  put-tuple-is with_data put all is_whole is_with is_put is_all =
      is_all ∙ ap aligned (is_with ∙ ap (λ l. whole_head ++ l) is_put ∙ ap (λ l. l ++ range_data kinds range) (is_whole ∙ ap aligned put-header-is))
      ∙ aligned-behind (aligned (tuple_header first range)) (range_data kinds range) (aligned-whole (tuple_header first range))
