-- How long a record's bytes are at most.
use Rattle.std.proofs.Common.{ℕ, zero, suc, ◌+◌, ◌*◌, ◌≤◌, List, [], ◌∷◌, ◌++◌, length, arith, length-append}
use Rattle.std.specs.Prelude.{sum_by}
use Rattle.std.specs.Int.{bytes_high_first}
use Rattle.std.specs.List.{flat_map}
use Rattle.std.proofs.lemmas.List.Sums.{sum_by-cons}
use Rattle.byteorder.specs.Numbers.{length-bytes_high_first}
use Rattle.opclass.specs.declared.spec.SortPart.{SortPart}
use Rattle.opclass.specs.declared.value.KeyVal.{KeyVal}
use Rattle.opclass.specs.declared.value.KeyVal.TheVariants.{Nil, Num, Raw, Items}
use Rattle.opclass.specs.Order.{unsaid}
use Rattle.opclass.specs.Norm.{lifted, escaped, piece, norm_of}
use Rattle.opclass.proofs.Fronts.{length-directed_bytes}
use Rattle.shared_tape.specs.declared.stored.Record.{Record}
use Rattle.shared_tape.specs.Stored.{order_bytes, extra_bytes}
use Rattle.shared_tape.specs.Laws.{value_room}

length-escaped : (xs : List ℕ) → length (escaped xs) ≤ 2 * length xs + 2
length-escaped [] = omega arith
length-escaped (zero ∷ xs) = omega (arith, length-escaped xs)
length-escaped (suc x ∷ xs) = omega (arith, length-escaped xs)

length-piece : (part : SortPart) (value : KeyVal) → length (piece part value) ≤ value_room value
length-piece part Nil = omega arith
length-piece part (Num z) = omega (arith, length-directed_bytes part (bytes_high_first 8 (lifted z)), length-bytes_high_first 8 (lifted z))
length-piece part (Raw xs) = omega (arith, length-directed_bytes part (escaped xs), length-escaped xs)
length-piece part (Items elements) = omega arith

length-norm_of : (parts : List SortPart) (values : List KeyVal) → length (norm_of parts values) ≤ sum_by value_room values
length-norm_of [] values = omega arith
length-norm_of (part ∷ parts) [] = omega arith
length-norm_of (part ∷ parts) (value ∷ values) =
    omega (
      arith,
      length-append (piece part value) (norm_of parts values),
      length-piece part value,
      length-norm_of parts values,
      sum_by-cons value_room value values,
    )

length-pieces : (values : List KeyVal) → length (flat_map (piece unsaid) values) ≤ sum_by value_room values
length-pieces [] = omega arith
length-pieces (value ∷ values) =
    omega (
      arith,
      length-append (piece unsaid value) (flat_map (piece unsaid) values),
      length-piece unsaid value,
      length-pieces values,
      sum_by-cons value_room value values,
    )

pub stored_short : (order : List SortPart) (row : Record)
    → (length (order_bytes order row) ≤ sum_by value_room row.keys + 6) × (length (extra_bytes row) ≤ sum_by value_room row.extra)
unfolding order_bytes extra_bytes
stored_short order row = (
  omega (
    arith,
    length-norm_of order row.keys,
    length-append (bytes_high_first 4 row.ptr.block) (bytes_high_first 2 row.ptr.offset),
    length-append (norm_of order row.keys) (bytes_high_first 4 row.ptr.block ++ bytes_high_first 2 row.ptr.offset),
    length-bytes_high_first 4 row.ptr.block,
    length-bytes_high_first 2 row.ptr.offset,
  ),
  length-pieces row.extra,
)
