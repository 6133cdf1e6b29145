-- The most bytes that values take.
use Rattle.std.proofs.Common.{ℕ, ◌+◌, ◌^◌, ◌<◌, ◌≤◌, List, [], ◌∷◌, length, refl, inl, inr, arith, length-append}
use Rattle.std.specs.Prelude.{sum_by, All}
use Rattle.std.proofs.lemmas.List.Sums.{sum_by-cons, sum_by-le}
use Rattle.pg_bytes.specs.Numbers.{rounded_up}
use Rattle.opclass.specs.declared.types.ColType.{ColType}
use Rattle.opclass.specs.declared.types.Width.{Width}
use Rattle.opclass.specs.declared.types.Width.TheVariants.{Fixed, Variable}
use Rattle.opclass.specs.declared.value.KeyVal.{KeyVal}
use Rattle.opclass.specs.declared.value.KeyVal.TheVariants.{Nil, Num, Raw, Items}
use Rattle.opclass.specs.Types.{facts_of}
use Rattle.tuple_data.specs.Datum.{IsAlignment, datum_of, piece_at, stored_at}
use Rattle.tuple_data.specs.Data.{data_from, data_of}
use Rattle.tuple_data.specs.Laws.{room_of}
use Rattle.tuple_data.proofs.Facts.{alignment_is_known}
use Rattle.tuple_data.proofs.Pieces.{TakesNumber, TakesVariable, end-padded, length-number, length-variable}

-- rounding up adds at most seven
rounded_up-below : (alignment place : ℕ) → IsAlignment alignment → rounded_up alignment place ≤ place + 7
rounded_up-below alignment place known =
    elim known [
      | inl one ↦ (rw one (omega arith))
      | inr more ↦ elim more [
        | inl two ↦ (rw two (omega arith))
        | inr rest ↦ elim rest [ inl four ↦ (rw four (omega arith)) | inr eight ↦ (rw eight (omega arith)) ]
      ]
    ]

room-number : (place alignment width size : ℕ) → IsAlignment alignment → TakesNumber place alignment width size → size ≤ 15
room-number place alignment width size known takes =
    let up = rounded_up-below alignment place known in
    grind (arith, takes.narrow, takes.wide)

room-variable : (place count size : ℕ) → TakesVariable place count size → size ≤ 11 + count
room-variable place count size takes =
    let up = rounded_up-below 4 place (inr (inr (inl refl))) in
    grind (arith, takes.short, takes.long)

room-stored : (place alignment : ℕ) (width : Width) (value : KeyVal) → IsAlignment alignment
    → length (stored_at place (datum_of width alignment value)) ≤ room_of value
room-stored place alignment (Fixed width) Nil known = omega arith
room-stored place alignment (Fixed width) (Num number) known =
    room-number place alignment width _ known (length-number place width alignment number known)
room-stored place alignment (Fixed width) (Raw bytes) known =
    let up = rounded_up-below alignment place known in
    let end = end-padded alignment place bytes known in
    omega arith
room-stored place alignment (Fixed width) (Items elements) known = omega arith
room-stored place alignment Variable Nil known = omega arith
room-stored place alignment Variable (Num number) known = omega arith
room-stored place alignment Variable (Raw bytes) known = room-variable place (length bytes) _ (length-variable place bytes)
room-stored place alignment Variable (Items elements) known = omega arith

pub room-data : (place : ℕ) (kinds : List ColType) (values : List KeyVal) → length (data_from place kinds values) ≤ sum_by room_of values
room-data place [] values = omega arith
room-data place (kind ∷ kinds) [] = omega arith
room-data place (kind ∷ kinds) (value ∷ values) =
    let piece : List ℕ = piece_at place kind value in
    let here = room-stored place (facts_of kind).alignment (facts_of kind).width value (alignment_is_known kind) in
    let more = room-data (place + length piece) kinds values in
    let both = length-append piece (data_from (place + length piece) kinds values) in
    let sum = sum_by-cons room_of value values in
    omega arith

-- few values of a few bytes have data within every limit
pub few_data : (kinds : List ColType) (values : List KeyVal) → length values ≤ 40 → All (λ value. room_of value ≤ 10011) values
    → length (data_of kinds values) < 2 ^ 20
few_data kinds values few small =
    let room = room-data 0 kinds values in
    let sum = sum_by-le room_of 10011 values small in
    omega arith
