-- The values that bytes are, where they are no array, are of the type whose form and width they are read by.
use Rattle.std.proofs.Common.{◌≡◌, ℕ, ◌*◌, ◌^◌, ◌<◌, ◌≤◌, pos, ◌==◌, if◌then◌else◌, List, length, slice_index, Some, None, refl, subst, inl, inr, arith}
use Rattle.std.specs.Prelude.{All, ⊤}
use Rattle.std.proofs.lemmas.Int.{ints}
use Rattle.byteorder.specs.Endian.{little_number, twos_complement}
use Rattle.opclass.specs.declared.types.ColType.{ColType}
use Rattle.opclass.specs.declared.types.Form.{Form}
use Rattle.opclass.specs.declared.types.Form.TheVariants.{Truth, Signed, Unsigned, Bytes, Array}
use Rattle.opclass.specs.declared.types.Width.{Width}
use Rattle.opclass.specs.declared.types.Width.TheVariants.{Fixed, Variable}
use Rattle.opclass.specs.declared.value.Elem.{Elem}
use Rattle.opclass.specs.declared.value.Elem.TheVariants.{Null, Num, Raw}
use Rattle.opclass.specs.Types.{facts_of}
use Rattle.opclass.specs.Values.{IsNumberOf, IsBytesOf, IsAsWide, IsElementOf}
use Rattle.heap_row.specs.Scalar.{scalar_of, truth_of}
use Rattle.heap_row.specs.Typed.{ElementHasAtMost}
use Rattle.heap_row.proofs.Facts.{IsFit}
use Rattle.heap_row.proofs.Ranges.{little_fits, signed_fits}
use Rattle.heap_row.proofs.Readings.{chosen}

-- a value of this form and width
abbrev pub IsScalarOf : Form → Width → Elem → Type 0
IsScalarOf form width Null = ⊤
IsScalarOf form width (Num number) = IsNumberOf form width number
IsScalarOf form width (Raw bytes) = IsBytesOf form width bytes

truth_typed : (byte : ℕ) (width : Width) (value : Elem) → truth_of byte ≡ Some value → IsScalarOf Truth width value
truth_typed byte width value read =
    elim (chosen (byte == 0) (Some (Num (pos 0))) (if byte == 1 then Some (Num (pos 1)) else None) (Some value) read) [
      | inl (test, is) ↦ let same : Num (pos 0) ≡ value = cc in subst (λ (v : Elem). IsScalarOf Truth width v) same (inl refl)
      | inr (test, is) ↦ elim (chosen (byte == 1) (Some (Num (pos 1))) None (Some value) is) [
        | inl (one, is_one) ↦ let same : Num (pos 1) ≡ value = cc in subst (λ (v : Elem). IsScalarOf Truth width v) same (inr refl)
        | inr (other, is_other) ↦ cc
      ]
    ]

pub scalar_typed : (form : Form) (width : Width) (content : List ℕ) (value : Elem) → IsFit form width → IsAsWide width content
    → All (λ byte. byte < 256) content → scalar_of form content ≡ Some value → IsScalarOf form width value
scalar_typed Truth width content value fit wide are_bytes read = truth_typed (slice_index content 0) width value read
scalar_typed Signed (Fixed width) content value fit wide are_bytes read =
    let number = twos_complement (length content) (little_number (length content) content) in
    let same : Num number ≡ value = cc in
    let low : 1 ≤ length content = omega arith in
    let high : length content ≤ 8 = omega arith in
    let range : IsNumberOf Signed (Fixed (length content)) number = signed_fits (length content) content low high are_bytes in
    subst (λ (v : Elem). IsScalarOf Signed (Fixed width) v) same (subst (λ (n : ℕ). IsNumberOf Signed (Fixed n) number) wide range)
scalar_typed Signed Variable content value fit wide are_bytes read = absurd fit
scalar_typed Unsigned (Fixed width) content value fit wide are_bytes read =
    let number = little_number (length content) content in
    let same : Num (pos number) ≡ value = cc in
    let below : number < 2 ^ (8 * length content) = little_fits (length content) content are_bytes in
    let range : IsNumberOf Unsigned (Fixed (length content)) (pos number) = (omega (arith, ints), omega (arith, ints)) in
    subst (λ (v : Elem). IsScalarOf Unsigned (Fixed width) v) same (subst (λ (n : ℕ). IsNumberOf Unsigned (Fixed n) (pos number)) wide range)
scalar_typed Unsigned Variable content value fit wide are_bytes read = absurd fit
scalar_typed Bytes width content value fit wide are_bytes read =
    let same : Raw content ≡ value = cc in
    subst (λ (v : Elem). IsScalarOf Bytes width v) same (are_bytes, wide)
scalar_typed (Array element) width content value fit wide are_bytes read = cc

truth_short : (byte most : ℕ) (value : Elem) → truth_of byte ≡ Some value → ElementHasAtMost most value
truth_short byte most Null read = tt
truth_short byte most (Num number) read = tt
truth_short byte most (Raw bytes) read =
    elim (chosen (byte == 0) (Some (Num (pos 0))) (if byte == 1 then Some (Num (pos 1)) else None) (Some (Raw bytes)) read) [
      | inl (test, is) ↦ cc
      | inr (test, is) ↦ elim (chosen (byte == 1) (Some (Num (pos 1))) None (Some (Raw bytes)) is) [
        | inl (one, is_one) ↦ cc
        | inr (other, is_other) ↦ cc
      ]
    ]

pub scalar_short : (form : Form) (content : List ℕ) (most : ℕ) (value : Elem) → length content ≤ most
    → scalar_of form content ≡ Some value → ElementHasAtMost most value
scalar_short Truth content most value short read = truth_short (slice_index content 0) most value read
scalar_short Signed content most value short read =
    let same : Num (twos_complement (length content) (little_number (length content) content)) ≡ value = cc in
    subst (λ (v : Elem). ElementHasAtMost most v) same tt
scalar_short Unsigned content most value short read =
    let same : Num (pos (little_number (length content) content)) ≡ value = cc in
    subst (λ (v : Elem). ElementHasAtMost most v) same tt
scalar_short Bytes content most value short read =
    let same : Raw content ≡ value = cc in
    subst (λ (v : Elem). ElementHasAtMost most v) same short
scalar_short (Array element) content most value short read = cc

-- an element of an array of a type, by the type's form and width
pub element_of : (kind : ColType) (value : Elem) → IsScalarOf (facts_of kind).form (facts_of kind).width value → IsElementOf kind value
element_of kind Null is = tt
element_of kind (Num number) is = is
element_of kind (Raw bytes) is = is
