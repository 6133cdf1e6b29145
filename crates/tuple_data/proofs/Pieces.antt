-- What a value takes from a place on.
use Rattle.std.proofs.Common.{◌≡◌, ℕ, zero, suc, ◌+◌, ◌-◌, ◌*◌, ◌^◌, ◌<◌, ◌≤◌, ℤ, nat_le, true, false, if◌then◌else◌, Some, None, List, [], ◌∷◌, ◌++◌, length, take, refl, sym, ap, subst, ◌∙◌, inl, inr, arith, length-append}
use Rattle.std.proofs.Math.Seq.{take-append-add}
use Rattle.std.proofs.lemmas.List.{append_assoc}
use Rattle.std.specs.Int.{w64, cast_unsigned, byte_at, bytes_low_first}
use Rattle.std.proofs.lemmas.Bool.Decides.{nat_tests}
use Rattle.pg_bytes.specs.Numbers.{number_bytes, rounded_up}
use Rattle.pg_bytes.specs.Places.{zeros}
use Rattle.pg_bytes.proofs.Writes.{length-number_bytes, length-zeros}
use Rattle.opclass.specs.declared.types.ColType.{ColType}
use Rattle.opclass.specs.declared.types.TypeFacts.{TypeFacts}
use Rattle.opclass.specs.declared.types.Width.{Width}
use Rattle.opclass.specs.declared.types.Width.TheVariants.{Fixed, Variable}
use Rattle.opclass.specs.declared.value.KeyVal.{KeyVal}
use Rattle.opclass.specs.declared.value.KeyVal.TheVariants.{Num, Raw}
use Rattle.opclass.specs.Types.{facts_of}
use Rattle.tuple_data.proofs.Facts.{alignment_is_known}
use Rattle.tuple_data.specs.Datum.{IsAlignment, datum_of, long_header, number_datum, padding, piece_at, short_header, stored_at, variable_datum}

-- rounding up never goes below
rounded_up-above : (alignment place : ℕ) → IsAlignment alignment → place ≤ rounded_up alignment place
rounded_up-above alignment place known =
    elim known [
      | inl one ↦ (rw one (omega arith))
      | inr more ↦ elim more [
        | inl two ↦ (rw two (omega arith))
        | inr rest ↦ elim rest [ inl four ↦ (rw four (omega arith)) | inr eight ↦ (rw eight (omega arith)) ]
      ]
    ]

-- where bytes end that stand at the next multiple
pub end-padded : (alignment place : ℕ) (bytes : List ℕ) → IsAlignment alignment
    → place + length (padding alignment place ++ bytes) ≡ rounded_up alignment place + length bytes
end-padded alignment place bytes known =
    let above = rounded_up-above alignment place known in
    let zero_count = length-zeros (rounded_up alignment place - place) in
    let both = length-append (zeros (rounded_up alignment place - place)) bytes in
    omega arith

-- a value of a fixed width
pub piece_at-number : (place : ℕ) (kind : ColType) (value : KeyVal) (number : ℤ) (width : ℕ) → (facts_of kind).width ≡ Fixed width → value ≡ Num number
    → piece_at place kind value ≡ stored_at place (number_datum width (facts_of kind).alignment number)
piece_at-number place kind value number width fixed is_number =
    ap (λ v. stored_at place (datum_of (facts_of kind).width (facts_of kind).alignment v)) is_number
    ∙ ap (λ w. stored_at place (datum_of w (facts_of kind).alignment (Num number))) fixed

pub piece_at-fixed : (place : ℕ) (kind : ColType) (value : KeyVal) (bytes : List ℕ) (width : ℕ) → (facts_of kind).width ≡ Fixed width → value ≡ Raw bytes
    → piece_at place kind value ≡ padding (facts_of kind).alignment place ++ bytes
piece_at-fixed place kind value bytes width fixed is_raw =
    ap (λ v. stored_at place (datum_of (facts_of kind).width (facts_of kind).alignment v)) is_raw
    ∙ ap (λ w. stored_at place (datum_of w (facts_of kind).alignment (Raw bytes))) fixed

-- a value of a variable width
pub piece_at-variable : (place : ℕ) (kind : ColType) (value : KeyVal) (bytes : List ℕ) → (facts_of kind).width ≡ Variable → value ≡ Raw bytes
    → piece_at place kind value ≡ stored_at place (Some (variable_datum bytes))
piece_at-variable place kind value bytes variable is_raw =
    ap (λ v. stored_at place (datum_of (facts_of kind).width (facts_of kind).alignment v)) is_raw
    ∙ ap (λ w. stored_at place (datum_of w (facts_of kind).alignment (Raw bytes))) variable

no_padding : (place : ℕ) → padding 1 place ≡ []
unfolding zeros
no_padding place = let none : rounded_up 1 place - place ≡ 0 = omega arith in ap zeros none

nat_le-true : (m n : ℕ) → m ≤ n → nat_le m n ≡ true
nat_le-true m n h = grind (arith, nat_tests)

nat_le-false : (m n : ℕ) → n < m → nat_le m n ≡ false
nat_le-false m n h = grind (arith, nat_tests)

pub stored_at-short : (place : ℕ) (bytes : List ℕ) → length bytes ≤ 126
    → stored_at place (Some (variable_datum bytes)) ≡ short_header (length bytes) ∷ bytes
stored_at-short place bytes short =
    ap
    (λ b. stored_at place
    (Some (if b then record { alignment = 1; bytes = short_header (length bytes) ∷ bytes } else record { alignment = 4; bytes = long_header (length bytes) ++ bytes })))
    (nat_le-true (length bytes) 126 short)
    ∙ ap (λ front. front ++ (short_header (length bytes) ∷ bytes)) (no_padding place)

pub stored_at-long : (place : ℕ) (bytes : List ℕ) → 126 < length bytes
    → stored_at place (Some (variable_datum bytes)) ≡ padding 4 place ++ (long_header (length bytes) ++ bytes)
stored_at-long place bytes long =
    ap
    (λ b. stored_at place
    (Some (if b then record { alignment = 1; bytes = short_header (length bytes) ∷ bytes } else record { alignment = 4; bytes = long_header (length bytes) ++ bytes })))
    (nat_le-false (length bytes) 126 long)

pub length-long : (place : ℕ) (bytes : List ℕ)
    → place + length (padding 4 place ++ (long_header (length bytes) ++ bytes)) ≡ rounded_up 4 place + (4 + length bytes)
length-long place bytes =
    let header = length-number_bytes 4 (4 * (4 + length bytes)) in
    let both = length-append (long_header (length bytes)) bytes in
    let end = end-padded 4 place (long_header (length bytes) ++ bytes) (inr (inr (inl refl))) in
    omega arith

-- the low bytes of a number
pub take-bytes_low_first : (i k n x : ℕ) → k ≤ n → take k (bytes_low_first i n x) ≡ bytes_low_first i k x
take-bytes_low_first i zero n x h = refl
take-bytes_low_first i (suc k) zero x h = absurd (omega arith)
take-bytes_low_first i (suc k) (suc n) x h = ap (λ bytes. byte_at i x ∷ bytes) (take-bytes_low_first (suc i) k n x (omega arith))

pub number_bytes-front : (width x : ℕ) → width ≤ 8 → take width (number_bytes 8 x) ≡ number_bytes width x
unfolding number_bytes
number_bytes-front width x h = take-bytes_low_first 0 width 8 x h

-- bytes of which those behind the first were cut off
pub cut-behind : (old pad bytes : List ℕ) (count width : ℕ) → length bytes ≡ count → width ≤ count
    → take (length (old ++ (pad ++ bytes)) - (count - width)) (old ++ (pad ++ bytes)) ≡ old ++ (pad ++ take width bytes)
cut-behind old pad bytes count width counted within =
    let grouped : old ++ (pad ++ bytes) ≡ (old ++ pad) ++ bytes = sym (append_assoc old pad bytes) in
    let all = length-append (old ++ pad) bytes in
    let at : length ((old ++ pad) ++ bytes) - (count - width) ≡ length (old ++ pad) + width = omega arith in
    ap (λ whole. take (length whole - (count - width)) whole) grouped
    ∙ ap (λ n. take n ((old ++ pad) ++ bytes)) at
    ∙ take-append-add (old ++ pad) bytes width
    ∙ append_assoc old pad (take width bytes)

-- ---- what a call knows of a value, and what follows of its piece

the_width : (kind : ColType) (facts : TypeFacts) (width : Width) → facts ≡ facts_of kind → facts.width ≡ width → (facts_of kind).width ≡ width
the_width kind facts width told has = ap (λ f. f.width) (sym told) ∙ has

-- a number of at most eight bytes, and what would be a wider one
pub stored_at-narrow : (place width alignment : ℕ) (number : ℤ) → width ≤ 8
    → stored_at place (number_datum width alignment number) ≡ padding alignment place ++ number_bytes width (cast_unsigned w64 number)
stored_at-narrow place width alignment number narrow =
    ap
    (λ b. stored_at place (if b then Some (record { alignment = alignment; bytes = number_bytes width (cast_unsigned w64 number) }) else None))
    (nat_le-true width 8 narrow)

pub stored_at-wide : (place width alignment : ℕ) (number : ℤ) → 8 < width → stored_at place (number_datum width alignment number) ≡ []
stored_at-wide place width alignment number wide =
    ap
    (λ b. stored_at place (if b then Some (record { alignment = alignment; bytes = number_bytes width (cast_unsigned w64 number) }) else None))
    (nat_le-false width 8 wide)

-- how many bytes a number takes
pub record TakesNumber (place alignment width size : ℕ) : Type 0 where
  pub narrow : width ≤ 8 → place + size ≡ rounded_up alignment place + width
  pub wide : 8 < width → place + size ≡ place

pub length-number : (place width alignment : ℕ) (number : ℤ) → IsAlignment alignment
    → TakesNumber place alignment width (length (stored_at place (number_datum width alignment number)))
length-number place width alignment number known = record {
  narrow =
      λ narrow.
      let e = ap length (stored_at-narrow place width alignment number narrow) in
      let end = end-padded alignment place (number_bytes width (cast_unsigned w64 number)) known in
      let size = length-number_bytes width (cast_unsigned w64 number) in
      omega arith;
  wide = λ wide. let e = ap length (stored_at-wide place width alignment number wide) in omega arith;
}

pub number-takes : (place : ℕ) (kind : ColType) (value : KeyVal) (number : ℤ) (width : ℕ) (facts : TypeFacts) → facts ≡ facts_of kind → value ≡ Num number
    → facts.width ≡ Fixed width → TakesNumber place facts.alignment width (length (piece_at place kind value))
number-takes place kind value number width facts told is_number fixed =
    let piece = piece_at-number place kind value number width (the_width kind facts (Fixed width) told fixed) is_number in
    subst (λ f. TakesNumber place f.alignment width (length (piece_at place kind value))) (sym told)
    (subst (λ b. TakesNumber place (facts_of kind).alignment width (length b)) (sym piece)
    (length-number place width (facts_of kind).alignment number (alignment_is_known kind)))

pub end-number : (place alignment width size end : ℕ) → TakesNumber place alignment width size → (width ≤ 8 → end ≡ rounded_up alignment place + width)
    → (8 < width → end ≡ place) → end ≡ place + size
end-number place alignment width size end takes narrow wide = grind (arith, takes.narrow, takes.wide, narrow, wide)

pub end-fixed : (place : ℕ) (kind : ColType) (value : KeyVal) (bytes : List ℕ) (width next count : ℕ) (facts : TypeFacts) → facts ≡ facts_of kind
    → value ≡ Raw bytes → facts.width ≡ Fixed width → next ≡ rounded_up facts.alignment place → count ≡ length bytes
    → next + count ≡ place + length (piece_at place kind value)
end-fixed place kind value bytes width next count facts told is_raw fixed up counted =
    let piece = ap length (piece_at-fixed place kind value bytes width (the_width kind facts (Fixed width) told fixed) is_raw) in
    let end = end-padded (facts_of kind).alignment place bytes (alignment_is_known kind) in
    let up' : next ≡ rounded_up (facts_of kind).alignment place = up ∙ ap (λ f. rounded_up f.alignment place) told in
    omega arith

-- how many bytes a value of a variable width takes
pub record TakesVariable (place count size : ℕ) : Type 0 where
  pub short : count ≤ 126 → place + size ≡ place + (1 + count)
  pub long : 126 < count → place + size ≡ rounded_up 4 place + (4 + count)

pub length-variable : (place : ℕ) (bytes : List ℕ) → TakesVariable place (length bytes) (length (stored_at place (Some (variable_datum bytes))))
length-variable place bytes = record {
  short = λ short. let e = ap length (stored_at-short place bytes short) in omega arith;
  long = λ long. let e = ap length (stored_at-long place bytes long) in let whole = length-long place bytes in omega arith;
}

pub piece-takes : (place : ℕ) (kind : ColType) (value : KeyVal) (bytes : List ℕ) (facts : TypeFacts) → facts ≡ facts_of kind → value ≡ Raw bytes
    → facts.width ≡ Variable → TakesVariable place (length bytes) (length (piece_at place kind value))
piece-takes place kind value bytes facts told is_raw variable =
    let piece = piece_at-variable place kind value bytes (the_width kind facts Variable told variable) is_raw in
    subst (λ b. TakesVariable place (length bytes) (length b)) (sym piece) (length-variable place bytes)

pub end-variable : (place count size end : ℕ) → TakesVariable place count size → (count ≤ 126 → end ≡ place + (1 + count))
    → (126 < count → end ≡ rounded_up 4 place + (4 + count)) → end ≡ place + size
end-variable place count size end takes short long = grind (arith, takes.short, takes.long, short, long)

pub variable-below : (place count size : ℕ) → TakesVariable place count size → size < 2 ^ 30 → count < 1073741820
variable-below place count size takes fits =
    let above = rounded_up-above 4 place (inr (inr (inl refl))) in
    grind (arith, takes.short, takes.long)

-- the piece of a number, by what its type says
pub number-piece : (place : ℕ) (kind : ColType) (value : KeyVal) (number : ℤ) (width : ℕ) (facts : TypeFacts) → facts ≡ facts_of kind → value ≡ Num number
    → facts.width ≡ Fixed width → stored_at place (number_datum width facts.alignment number) ≡ piece_at place kind value
number-piece place kind value number width facts told is_number fixed =
    ap (λ f. stored_at place (number_datum width f.alignment number)) told
    ∙ sym (piece_at-number place kind value number width (the_width kind facts (Fixed width) told fixed) is_number)

-- the low bytes of a number, as many as its type has
pub number-low : (place width count alignment : ℕ) (number : ℤ) (bytes : List ℕ) → width ≤ 8 → bytes ≡ number_bytes 8 (cast_unsigned w64 number)
    → count ≡ width → padding alignment place ++ take count bytes ≡ stored_at place (number_datum width alignment number)
number-low place width count alignment number bytes narrow low same =
    ap (λ n. padding alignment place ++ take n bytes) same
    ∙ ap (λ b. padding alignment place ++ take width b) low
    ∙ ap (λ b. padding alignment place ++ b) (number_bytes-front width (cast_unsigned w64 number) narrow)
    ∙ sym (stored_at-narrow place width alignment number narrow)
