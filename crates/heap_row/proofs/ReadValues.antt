-- What is read of several columns: values of their types, one of each. Crates above cite `as_many`, `one_read` and
-- `is_key_value`.
use Rattle.std.proofs.Common.{◌≡◌, ◌≢◌, ℕ, zero, suc, ◌-◌, ◌*◌, ◌^◌, ◌<◌, ◌≤◌, ℤ, pos, negsuc, neg_ℤ, ◌≤ℤ◌, ◌<ℤ◌, List, [], ◌∷◌, length, slice_get, Some, Ok, refl, subst, inl, inr, arith, FitsSigned, w64}
use Rattle.std.specs.Prelude.{All}
use Rattle.std.proofs.lemmas.Int.{ints}
use Rattle.std.proofs.lemmas.List.Elements.{All-head, All-tail}
use Rattle.std.proofs.lemmas.Option.{slice_get_cases}
use Rattle.byteorder.proofs.Bytes.{sign_bit}
use Rattle.opclass.specs.declared.table.Column.{Column}
use Rattle.opclass.specs.declared.types.ColType.{ColType}
use Rattle.opclass.specs.declared.types.Form.{Form}
use Rattle.opclass.specs.declared.types.Form.TheVariants.{Truth, Signed, Unsigned, Bytes, Array}
use Rattle.opclass.specs.declared.types.Width.{Width}
use Rattle.opclass.specs.declared.types.Width.TheVariants.{Fixed, Variable}
use Rattle.opclass.specs.declared.value.Elem.{Elem}
use Rattle.opclass.specs.declared.value.KeyVal.{KeyVal}
use Rattle.opclass.specs.declared.value.KeyVal.TheVariants.{Nil, Num, Raw, Items}
use Rattle.opclass.specs.Norm.{IsKeyValue}
use Rattle.opclass.specs.Types.{facts_of}
use Rattle.opclass.specs.Values.{IsArrayOf, IsBytesOf, IsNumberOf, IsValueOf}
use Rattle.heap_row.specs.Attribute.{AreColumnsOf, value_of, values_of}
use Rattle.heap_row.specs.Tuple.{HeapTuple}
use Rattle.heap_row.specs.Typed.{AreReadOf, IsReadOf}
use Rattle.heap_row.proofs.ColumnValues.{value_read}
use Rattle.heap_row.proofs.Facts.{IsFit, widths_fit}
use Rattle.heap_row.proofs.Readings.{bind_ok}

-- ---- what is read of a tuple's data

column_there : (columns : List Column) (before : ℕ) → before < length columns → (column : Column) × (slice_get columns before ≡ Some column)
column_there columns before inside =
    elim ((slice_get_cases columns before).1) [
      | inl there ↦ (there.0, there.2)
      | inr past ↦ absurd (omega arith)
    ]

each_read : (tuple : HeapTuple) (columns : List Column) (most : ℕ) (numbers : List ℕ) (values : List KeyVal)
    → All (λ byte. byte < 256) tuple.body → length tuple.body ≤ most
    → All (λ number. 1 ≤ number) numbers → All (λ number. number ≤ length columns) numbers
    → values_of tuple columns numbers ≡ Ok values → AreReadOf columns most numbers values
each_read tuple columns most [] values are_bytes short first last read =
    let same : [] ≡ values = cc in
    subst (λ (v : List KeyVal). AreReadOf columns most [] v) same tt
each_read tuple columns most (number ∷ numbers) values are_bytes short first last read =
    let (value, is_value, then_others) = bind_ok (value_of tuple columns (number - 1)) _ values read in
    let (others, are_others, is) = bind_ok (values_of tuple columns numbers) _ values then_others in
    let low : 1 ≤ number = All-head (λ n. 1 ≤ n) number numbers first in
    let high : number ≤ length columns = All-head (λ n. n ≤ length columns) number numbers last in
    let (column, found) = column_there columns (number - 1) (omega arith) in
    let one = value_read tuple columns (number - 1) most column value are_bytes short found is_value in
    let more = each_read tuple columns most numbers others are_bytes short
    (All-tail (λ n. 1 ≤ n) number numbers first) (All-tail (λ n. n ≤ length columns) number numbers last) are_others in
    let same : value ∷ others ≡ values = cc in
    subst (λ (v : List KeyVal). AreReadOf columns most (number ∷ numbers) v) same
    (record { column = column; found = found; typed = one.typed; short = one.short }, more)

-- the values of needed columns
pub are_read : (tuple : HeapTuple) (columns : List Column) (most : ℕ) (numbers : List ℕ) (values : List KeyVal)
    → All (λ byte. byte < 256) tuple.body → length tuple.body ≤ most → AreColumnsOf columns numbers
    → values_of tuple columns numbers ≡ Ok values → AreReadOf columns most numbers values
are_read tuple columns most numbers values are_bytes short are read =
    each_read tuple columns most numbers values are_bytes short are.first are.last read

-- ---- what follows of it

-- there is one value for each column
pub as_many : (columns : List Column) (most : ℕ) (numbers : List ℕ) (values : List KeyVal) → AreReadOf columns most numbers values
    → length values ≡ length numbers
as_many columns most [] [] are = refl
as_many columns most [] (value ∷ values) are = absurd are
as_many columns most (number ∷ numbers) [] are = absurd are
as_many columns most (number ∷ numbers) (value ∷ values) are = let more = as_many columns most numbers values are.1 in omega arith

-- the value at a place among them is of the column at that place
pub one_read : (columns : List Column) (most : ℕ) (numbers : List ℕ) (values : List KeyVal) (place number : ℕ) (value : KeyVal)
    → AreReadOf columns most numbers values → slice_get numbers place ≡ Some number → slice_get values place ≡ Some value
    → IsReadOf columns most number value
one_read columns most [] values place number value are at is = cc
one_read columns most (first ∷ numbers) [] place number value are at is = absurd are
one_read columns most (first ∷ numbers) (head ∷ values) zero number value are at is =
    let same_number : first ≡ number = cc in
    let same : head ≡ value = cc in
    subst (λ (n : ℕ). IsReadOf columns most n value) same_number (subst (λ (v : KeyVal). IsReadOf columns most first v) same are.0)
one_read columns most (first ∷ numbers) (head ∷ values) (suc place) number value are at is =
    one_read columns most numbers values place number value are.1 at is

in_word : (half : ℕ) (number : ℤ) → half ≤ 2 ^ 63 → neg_ℤ (pos half) ≤ℤ number → number <ℤ pos half → FitsSigned w64 number
in_word half (pos n) bound low high = record { sfits = omega (arith, ints) }
in_word half (negsuc n) bound low high = record { sfits = omega (arith, ints) }

number_in_word : (form : Form) (width : Width) (number : ℤ) → IsFit form width → IsNumberOf form width number → FitsSigned w64 number
number_in_word Truth width number fit (inl is_zero) = in_word 2 number (omega arith) (omega (arith, ints)) (omega (arith, ints))
number_in_word Truth width number fit (inr is_one) = in_word 2 number (omega arith) (omega (arith, ints)) (omega (arith, ints))
number_in_word Signed (Fixed width) number fit is =
    let low : 1 ≤ width = omega arith in
    let high : width ≤ 8 = omega arith in
    in_word (2 ^ (8 * width - 1)) number (sign_bit width low high).1 is.0 is.1
number_in_word Signed Variable number fit is = absurd fit
number_in_word Unsigned (Fixed width) number fit is =
    let most : number <ℤ pos (2 ^ (8 * 4)) = subst (λ (n : ℕ). number <ℤ pos (2 ^ (8 * n))) fit.1 is.1 in
    in_word (2 ^ 32) number (omega arith) (omega (arith, ints, is.0)) (omega (arith, ints, most))
number_in_word Unsigned Variable number fit is = absurd fit
number_in_word Bytes width number fit is = absurd is
number_in_word (Array element) width number fit is = absurd is

bytes_alone : (form : Form) (width : Width) (bytes : List ℕ) → IsBytesOf form width bytes → All (λ byte. byte < 256) bytes
bytes_alone Truth width bytes is = absurd is
bytes_alone Signed width bytes is = absurd is
bytes_alone Unsigned width bytes is = absurd is
bytes_alone Bytes width bytes is = is.0
bytes_alone (Array element) width bytes is = absurd is

only_arrays : (form : Form) (elements : List Elem) → IsArrayOf form elements → (element : ColType) × (form ≡ Array element)
only_arrays Truth elements is = absurd is
only_arrays Signed elements is = absurd is
only_arrays Unsigned elements is = absurd is
only_arrays Bytes elements is = absurd is
only_arrays (Array element) elements is = (element, refl)

typed_key : (kind : ColType) (value : KeyVal) → ((element : ColType) → (facts_of kind).form ≢ Array element) → IsValueOf kind value → IsKeyValue value
typed_key kind Nil no_array is = tt
typed_key kind (Num number) no_array is = number_in_word (facts_of kind).form (facts_of kind).width number (widths_fit kind) is
typed_key kind (Raw bytes) no_array is = bytes_alone (facts_of kind).form (facts_of kind).width bytes is
typed_key kind (Items elements) no_array is = let (element, same) = only_arrays (facts_of kind).form elements is in absurd (no_array element same)

-- what is read of a column that is no array has a normalised key
pub is_key_value : (columns : List Column) (most number : ℕ) (column : Column) (value : KeyVal) → slice_get columns (number - 1) ≡ Some column
    → ((element : ColType) → (facts_of column.kind).form ≢ Array element) → IsReadOf columns most number value → IsKeyValue value
is_key_value columns most number column value found no_array read =
    let found' : slice_get columns (number - 1) ≡ Some read.column = read.found in
    let same : read.column ≡ column = cc in
    typed_key column.kind value no_array (subst (λ (c : Column). IsValueOf c.kind value) same read.typed)
