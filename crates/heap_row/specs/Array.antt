-- Arrays (ArrayType of array.h, deconstruct_array of arrayfuncs.c). Places are counted from the value's first byte as if
-- its header had four bytes: a short header changes nothing but where the array begins. The content is what stands
-- behind the header.
use Rattle.std.specs.Prelude.{ℕ, zero, suc, ◌+◌, ◌-◌, ◌*◌, ◌/◌, ◌^◌, ◌==◌, Bool, true, false, not, nat_lt, nat_le, if◌then◌else◌, List, [], ◌∷◌, length, drop, map, Option, Some, None, option_and_then, option_map, Result, Ok, Err}
use Rattle.std.specs.List.{range_with_len}
use Rattle.pg_bytes.specs.Numbers.{number_at, rounded_up}
use Rattle.opclass.specs.declared.types.ColType.{ColType}
use Rattle.opclass.specs.declared.value.Elem.{Elem}
use Rattle.opclass.specs.declared.value.Elem.TheVariants.{Null}
use Rattle.opclass.specs.Types.{facts_of}
use Rattle.heap_row.specs.declared.array.Shape.{Shape}
use Rattle.heap_row.specs.declared.fault.RowCause.{RowCause}
use Rattle.heap_row.specs.declared.varlena.Storage.{Storage}
use Rattle.heap_row.specs.declared.varlena.Storage.TheVariants.{Plain}
use Rattle.heap_row.specs.declared.varlena.Stored.{Stored}
use Rattle.heap_row.specs.NullBitmap.{is_absent}
use Rattle.heap_row.specs.Scalar.{scalar_of}
use Rattle.heap_row.specs.Varlena.{long_header, stored_at, content_of}

-- ArrayType: the places of ndim, dataoffset and elemtype, and of the dimensions behind them
abbrev pub ndim_place : ℕ
ndim_place = 4

abbrev pub dataoffset_place : ℕ
dataoffset_place = 8

abbrev pub elemtype_place : ℕ
elemtype_place = 12

abbrev pub dims_place : ℕ
dims_place = 16

-- MAXDIM
abbrev pub most_dimensions : ℕ
most_dimensions = 6

-- MaxArraySize: an array has no more elements
abbrev pub most_elements : ℕ
most_elements = 134217727

-- the bytes from a place on
abbrev pub from_place : List ℕ → ℕ → List ℕ
from_place content place = drop (place - long_header) content

-- the number of four bytes at a place
abbrev pub word_at : List ℕ → ℕ → ℕ
word_at content place = number_at 4 content (place - long_header)

-- a number of four bytes that is negative where it is read with a sign
abbrev pub is_negative : ℕ → Bool
is_negative word = nat_le (2 ^ 31) word

-- the whole value's bytes, those of its header counted as four
abbrev pub size_of : List ℕ → ℕ
size_of content = long_header + length content

-- ARR_DIMS, counted from 0
abbrev pub dimension : List ℕ → ℕ → ℕ
dimension content n = word_at content (dims_place + 4 * n)

-- a product and one dimension more, where that isn't negative
abbrev pub times : ℕ → ℕ → Option ℕ
times dim product = if is_negative dim then None else Some (product * dim)

-- ArrayGetNItems: the product of so many dimensions, none of them negative
abbrev pub product_of : List ℕ → ℕ → Option ℕ
product_of content zero = Some 1
product_of content (suc n) = option_and_then (times (dimension content n)) (product_of content n)

-- An array with nulls: its bitmap stands behind the dimensions and their lower bounds, and its elements begin at
-- dataoffset, which isn't before the bitmap's end.
abbrev pub shape_with_nulls : List ℕ → ℕ → ℕ → Option Shape
shape_with_nulls content bitmap count =
    if is_negative (word_at content dataoffset_place) then None else
    if nat_lt (word_at content dataoffset_place) (bitmap + (count + 7) / 8) then None else
    if nat_lt (size_of content) (bitmap + (count + 7) / 8) then None else
    Some (record { count = count; bitmap = Some bitmap; first = word_at content dataoffset_place })

-- The array of so many elements whose dimensions and lower bounds end at a place: dataoffset is 0 without nulls, and
-- then its elements begin there (ARR_OVERHEAD_NONULLS).
abbrev pub shape_behind : List ℕ → ℕ → ℕ → Option Shape
shape_behind content end count =
    if nat_lt most_elements count then None else
    if word_at content dataoffset_place == 0
    then Some (record { count = count; bitmap = None; first = rounded_up 8 end })
    else shape_with_nulls content end count

-- an array of so many dimensions, which with their lower bounds lie inside
abbrev pub shape_with_dims : List ℕ → ℕ → Option Shape
shape_with_dims content ndim =
    if nat_lt (size_of content) (dims_place + 8 * ndim) then None else
    option_and_then (shape_behind content (dims_place + 8 * ndim)) (product_of content ndim)

-- an array without elements, of which no more is asked
abbrev pub empty_shape : Shape
empty_shape = record { count = 0; bitmap = None; first = dims_place }

-- What an array of this type of elements is by its fields, where they are such an array's. A negative ndim is above
-- the most dimensions where it is read without a sign.
abbrev pub shape_of : ColType → List ℕ → Option Shape
shape_of element content =
    if nat_lt (size_of content) dims_place then None else
    if nat_lt most_dimensions (word_at content ndim_place) then None else
    if not (word_at content elemtype_place == (facts_of element).oid) then None else
    if word_at content ndim_place == 0 then Some empty_shape else
    shape_with_dims content (word_at content ndim_place)

-- which elements are null, in their order
abbrev pub nulls_of : List ℕ → Shape → List Bool
nulls_of content shape =
    map (is_absent (option_map (from_place content) shape.bitmap)) (range_with_len 0 shape.count)

-- a value that is stored as it is, and neither compressed nor elsewhere
abbrev pub plain_of : Storage → Stored → Option Stored
plain_of Plain stored = Some stored
plain_of other stored = None

abbrev pub plain_at : Result Stored RowCause → Option Stored
plain_at (Ok stored) = plain_of stored.storage stored
plain_at (Err cause) = None

-- the element that begins at a place, and where it ends
abbrev pub element_at : ColType → List ℕ → ℕ → Option (Elem × ℕ)
element_at element content start =
    option_and_then
    (λ stored. option_map (λ value. (value, start + stored.total)) (scalar_of (facts_of element).form (content_of stored (from_place content start))))
    (plain_at (stored_at (facts_of element).width (from_place content start)))

-- the element behind a place, and where it ends: a null takes no bytes, and each other one begins at the next multiple
-- of its alignment
abbrev pub element_behind : ColType → List ℕ → ℕ → Bool → Option (Elem × ℕ)
element_behind element content place true = Some (Null, place)
element_behind element content place false =
    element_at element content (rounded_up (facts_of element).alignment place)

-- the elements behind a place, one behind the other, by which of them are null
abbrev pub elements_behind : ColType → List ℕ → ℕ → List Bool → Option (List Elem)
elements_behind element content place [] = Some []
elements_behind element content place (null ∷ nulls) =
    option_and_then
    (λ here. option_map (λ others. here.0 ∷ others) (elements_behind element content here.1 nulls))
    (element_behind element content place null)

-- the elements of the array that a content is, where it is one of this type of elements
abbrev pub array_of : ColType → List ℕ → Option (List Elem)
array_of element content =
    option_and_then
    (λ shape. elements_behind element content shape.first (nulls_of content shape))
    (shape_of element content)
