-- One value at most of a type is stored in the same bytes.
use Rattle.std.proofs.Common.{◌≡◌, ℕ, zero, suc, ◌+◌, ◌*◌, ◌%◌, ◌^◌, ◌<◌, ◌≤◌, ℤ, false, Some, List, ◌∷◌, ◌++◌, length, drop, slice_index, refl, sym, ap, subst, ◌∙◌, inl, inr, arith, length-append}
use Rattle.std.specs.Prelude.{⊤}
use Rattle.std.proofs.lemmas.Bool.{cases_lt}
use Rattle.std.proofs.lemmas.List.{append_assoc, append_cancel_left}
use Rattle.std.specs.Int.{w64, cast_unsigned}
use Rattle.pg_bytes.specs.Numbers.{number_bytes}
use Rattle.pg_bytes.specs.Places.{zeros}
use Rattle.pg_bytes.proofs.Writes.{length-number_bytes}
use Rattle.opclass.specs.declared.types.ColType.{ColType}
use Rattle.opclass.specs.declared.types.Form.{Form}
use Rattle.opclass.specs.declared.types.Form.TheVariants.{Truth, Signed, Unsigned, Bytes, Array}
use Rattle.opclass.specs.declared.types.Width.{Width}
use Rattle.opclass.specs.declared.types.Width.TheVariants.{Fixed, Variable}
use Rattle.opclass.specs.declared.value.Elem.{Elem}
use Rattle.opclass.specs.declared.value.KeyVal.{KeyVal}
use Rattle.opclass.specs.declared.value.KeyVal.TheVariants.{Nil, Num, Raw, Items}
use Rattle.opclass.specs.Types.{facts_of}
use Rattle.opclass.specs.Values.{IsArrayOf, IsBytesOf, IsNumberOf, IsValueOf}
use Rattle.tuple_data.specs.Datum.{datum_of, long_header, number_datum, padding, short_header, stored_at, variable_datum}
use Rattle.tuple_data.specs.Nulls.{is_null}
use Rattle.tuple_data.specs.Reading.{IsFit}
use Rattle.tuple_data.proofs.OneNumber.{front_once, low_once, number_once}
use Rattle.tuple_data.proofs.Pieces.{length-variable, stored_at-long, stored_at-narrow, stored_at-short, variable-below}

-- what stands behind the same zeros
pub behind_padding : (pad x y b c : List ℕ) → (pad ++ x) ++ b ≡ (pad ++ y) ++ c → x ++ b ≡ y ++ c
behind_padding pad x y b c e =
    append_cancel_left pad (x ++ b) (y ++ c) (sym (append_assoc pad x b) ∙ e ∙ append_assoc pad y c)

-- a value under a long header begins with an even byte, whether zeros stand before it or not
even_from : (pad count : ℕ) (bytes rest : List ℕ) → slice_index ((zeros pad ++ (long_header count ++ bytes)) ++ rest) 0 % 2 ≡ 0
unfolding zeros number_bytes
even_from zero count bytes rest = omega arith
even_from (suc pad) count bytes rest = refl

pub long_is_even : (place : ℕ) (bytes rest : List ℕ) → 126 < length bytes
    → slice_index (stored_at place (Some (variable_datum bytes)) ++ rest) 0 % 2 ≡ 0
long_is_even place bytes rest long =
    ap (λ (b : List ℕ). slice_index (b ++ rest) 0 % 2) (stored_at-long place bytes long)
    ∙ even_from _ (length bytes) bytes rest

pub short_is_odd : (place : ℕ) (bytes rest : List ℕ) → length bytes ≤ 126
    → slice_index (stored_at place (Some (variable_datum bytes)) ++ rest) 0 ≡ short_header (length bytes)
short_is_odd place bytes rest short = ap (λ (b : List ℕ). slice_index (b ++ rest) 0) (stored_at-short place bytes short)

-- bytes under a short header, and under a long one
short_once : (x y b c : List ℕ) → (short_header (length x) ∷ x) ++ b ≡ (short_header (length y) ∷ y) ++ c → x ≡ y
short_once x y b c e =
    let header : short_header (length x) ≡ short_header (length y) = ap (λ (bytes : List ℕ). slice_index bytes 0) e in
    let same : length x ≡ length y = omega arith in
    front_once x y b c same (ap (drop 1) e)

long_once : (x y b c : List ℕ) → length x < 1073741820 → length y < 1073741820
    → (long_header (length x) ++ x) ++ b ≡ (long_header (length y) ++ y) ++ c → x ≡ y
long_once x y b c fits fits' e =
    let here : List ℕ = long_header (length x) in
    let there : List ℕ = long_header (length y) in
    let four = length-number_bytes 4 (4 * (4 + length x)) in
    let four' = length-number_bytes 4 (4 * (4 + length y)) in
    let whole : here ++ (x ++ b) ≡ there ++ (y ++ c) = sym (append_assoc here x b) ∙ e ∙ append_assoc there y c in
    let headers : here ≡ there = front_once here there (x ++ b) (y ++ c) (four ∙ sym four') whole in
    let low = low_once 4 (4 * (4 + length x)) (4 * (4 + length y)) headers in
    let same : length x ≡ length y = omega arith in
    front_once x y b c same (append_cancel_left here (x ++ b) (y ++ c) (whole ∙ ap (λ (h : List ℕ). h ++ (y ++ c)) (sym headers)))

pub fits_header : (place : ℕ) (bytes rest : List ℕ) → length (stored_at place (Some (variable_datum bytes)) ++ rest) < 2 ^ 30
    → length bytes < 1073741820
fits_header place bytes rest fits =
    let both = length-append (stored_at place (Some (variable_datum bytes))) rest in
    variable-below place (length bytes) _ (length-variable place bytes) (omega arith)

variable_once : (place : ℕ) (x y b c : List ℕ) → length (stored_at place (Some (variable_datum x)) ++ b) < 2 ^ 30
    → stored_at place (Some (variable_datum x)) ++ b ≡ stored_at place (Some (variable_datum y)) ++ c → x ≡ y
variable_once place x y b c fits e =
    let first = ap (λ (bytes : List ℕ). slice_index bytes 0) e in
    elim (cases_lt 126 (length x)) [
      | inl long ↦ elim (cases_lt 126 (length y)) [
        | inl long' ↦
            let fits' : length (stored_at place (Some (variable_datum y)) ++ c) < 2 ^ 30 = subst (λ (all : List ℕ). length all < 2 ^ 30) e fits in
            long_once x y b c (fits_header place x b fits) (fits_header place y c fits')
            (behind_padding (padding 4 place) _ _ b c
            (ap (λ (s : List ℕ). s ++ b) (sym (stored_at-long place x long)) ∙ e ∙ ap (λ (s : List ℕ). s ++ c) (stored_at-long place y long')))
        | inr short' ↦
            let even = long_is_even place x b long in
            let odd = short_is_odd place y c short' in
            absurd (omega arith)
      ]
      | inr short ↦ elim (cases_lt 126 (length y)) [
        | inl long' ↦
            let odd = short_is_odd place x b short in
            let even = long_is_even place y c long' in
            absurd (omega arith)
        | inr short' ↦
            short_once x y b c
            (ap (λ (s : List ℕ). s ++ b) (sym (stored_at-short place x short)) ∙ e ∙ ap (λ (s : List ℕ). s ++ c) (stored_at-short place y short'))
      ]
    ]

-- a number of a width of at most eight bytes
pub fit_narrow : (form : Form) (width : ℕ) (n : ℤ) → IsFit form (Fixed width) → IsNumberOf form (Fixed width) n → width ≤ 8
fit_narrow Truth width n fit is = omega (arith, fit)
fit_narrow Signed width n fit is = elim fit [ inl two ↦ omega arith | inr more ↦ elim more [ inl four ↦ omega arith | inr eight ↦ omega arith ] ]
fit_narrow Unsigned width n fit is = omega (arith, fit)
fit_narrow Bytes width n fit is = absurd is
fit_narrow (Array element) width n fit is = absurd is

num_once : (form : Form) (width alignment place : ℕ) (n m : ℤ) (b c : List ℕ) → IsFit form (Fixed width) → IsNumberOf form (Fixed width) n
    → IsNumberOf form (Fixed width) m
    → stored_at place (number_datum width alignment n) ++ b ≡ stored_at place (number_datum width alignment m) ++ c → n ≡ m
num_once form width alignment place n m b c fit is has e =
    let narrow = fit_narrow form width n fit is in
    let here : List ℕ = number_bytes width (cast_unsigned w64 n) in
    let there : List ℕ = number_bytes width (cast_unsigned w64 m) in
    let long = length-number_bytes width (cast_unsigned w64 n) in
    let long' = length-number_bytes width (cast_unsigned w64 m) in
    number_once form width n m fit is has
    (front_once here there b c (long ∙ sym long')
    (behind_padding (padding alignment place) here there b c
    (ap (λ (s : List ℕ). s ++ b) (sym (stored_at-narrow place width alignment n narrow))
    ∙ e
    ∙ ap (λ (s : List ℕ). s ++ c) (stored_at-narrow place width alignment m narrow))))

-- a value of this form and width
abbrev pub IsOf : Form → Width → KeyVal → Type 0
IsOf form width Nil = ⊤
IsOf form width (Num number) = IsNumberOf form width number
IsOf form width (Raw bytes) = IsBytesOf form width bytes
IsOf form width (Items elements) = IsArrayOf form elements

pub typed_of : (kind : ColType) (value : KeyVal) → IsValueOf kind value → IsOf (facts_of kind).form (facts_of kind).width value
typed_of kind Nil typed = tt
typed_of kind (Num number) typed = typed
typed_of kind (Raw bytes) typed = typed
typed_of kind (Items elements) typed = typed

pub not_both : (form : Form) (width : Width) (number : ℤ) (bytes : List ℕ) → IsNumberOf form width number → IsBytesOf form width bytes → ⊥
not_both Truth width number bytes is has = has
not_both Signed width number bytes is has = has
not_both Unsigned width number bytes is has = has
not_both Bytes width number bytes is has = is
not_both (Array element) width number bytes is has = has

pub no_items : (form : Form) (width : Width) (elements : List Elem) → IsFit form width → IsArrayOf form elements → ⊥
no_items Truth width elements fit is = is
no_items Signed width elements fit is = is
no_items Unsigned width elements fit is = is
no_items Bytes width elements fit is = is
no_items (Array element) (Fixed width) elements fit is = fit
no_items (Array element) Variable elements fit is = fit

pub no_number : (form : Form) (number : ℤ) → IsFit form Variable → IsNumberOf form Variable number → ⊥
no_number Truth number fit is = fit
no_number Signed number fit is = fit
no_number Unsigned number fit is = fit
no_number Bytes number fit is = is
no_number (Array element) number fit is = fit

-- the bytes of a fixed width are as many
pub as_wide : (form : Form) (width : ℕ) (bytes : List ℕ) → IsBytesOf form (Fixed width) bytes → length bytes ≡ width
as_wide Truth width bytes is = absurd is
as_wide Signed width bytes is = absurd is
as_wide Unsigned width bytes is = absurd is
as_wide Bytes width bytes is = is.1
as_wide (Array element) width bytes is = absurd is

pub stored_once : (form : Form) (width : Width) (alignment place : ℕ) (v w : KeyVal) (b c : List ℕ) → IsFit form width
    → IsOf form width v → IsOf form width w → is_null v ≡ false → is_null w ≡ false
    → length (stored_at place (datum_of width alignment v) ++ b) < 2 ^ 30
    → stored_at place (datum_of width alignment v) ++ b ≡ stored_at place (datum_of width alignment w) ++ c → v ≡ w
stored_once form width alignment place Nil w b c fit is has some some' fits e = cc
stored_once form width alignment place (Items v) w b c fit is has some some' fits e = absurd (no_items form width v fit is)
stored_once form width alignment place (Num v) Nil b c fit is has some some' fits e = cc
stored_once form width alignment place (Num v) (Raw w) b c fit is has some some' fits e = absurd (not_both form width v w is has)
stored_once form width alignment place (Num v) (Items w) b c fit is has some some' fits e = absurd (no_items form width w fit has)
stored_once form (Fixed width) alignment place (Num v) (Num w) b c fit is has some some' fits e =
    ap Num (num_once form width alignment place v w b c fit is has e)
stored_once form Variable alignment place (Num v) (Num w) b c fit is has some some' fits e = absurd (no_number form v fit is)
stored_once form width alignment place (Raw v) Nil b c fit is has some some' fits e = cc
stored_once form width alignment place (Raw v) (Num w) b c fit is has some some' fits e = absurd (not_both form width w v has is)
stored_once form width alignment place (Raw v) (Items w) b c fit is has some some' fits e = absurd (no_items form width w fit has)
stored_once form (Fixed width) alignment place (Raw v) (Raw w) b c fit is has some some' fits e =
    ap Raw (front_once v w b c (as_wide form width v is ∙ sym (as_wide form width w has)) (behind_padding (padding alignment place) v w b c e))
stored_once form Variable alignment place (Raw v) (Raw w) b c fit is has some some' fits e = ap Raw (variable_once place v w b c fits e)
