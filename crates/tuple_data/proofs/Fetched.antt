-- The value that is fetched is the one that stands there.
use Rattle.std.proofs.Common.{◌≡◌, ℕ, ◌+◌, ◌-◌, ◌*◌, ◌/◌, ◌%◌, ◌^◌, ◌<◌, ◌≤◌, ℤ, pos, negsuc, nat_eq, Bool, true, false, if◌then◌else◌, Some, List, [], ◌∷◌, ◌++◌, length, take, drop, slice_index, refl, sym, ap, subst, ◌∙◌, inl, inr, arith}
use Rattle.std.specs.Prelude.{All}
use Rattle.std.proofs.Math.Seq.{take-append_seam}
use Rattle.std.proofs.lemmas.Bool.{cases_lt}
use Rattle.std.proofs.lemmas.Int.{ints}
use Rattle.std.proofs.lemmas.List.{append_assoc}
use Rattle.std.specs.Int.{w64, cast_unsigned}
use Rattle.byteorder.specs.Endian.{little_number, twos_complement}
use Rattle.byteorder.specs.Numbers.{little_number-reads_back}
use Rattle.pg_bytes.specs.Numbers.{number_bytes}
use Rattle.pg_bytes.proofs.Writes.{length-number_bytes}
use Rattle.opclass.specs.declared.types.ColType.{ColType}
use Rattle.opclass.specs.declared.types.Form.{Form}
use Rattle.opclass.specs.declared.types.Form.TheVariants.{Truth, Signed, Unsigned, Bytes, Array}
use Rattle.opclass.specs.declared.types.Width.{Width}
use Rattle.opclass.specs.declared.types.Width.TheVariants.{Fixed, Variable}
use Rattle.opclass.specs.declared.value.KeyVal.{KeyVal}
use Rattle.opclass.specs.declared.value.KeyVal.TheVariants.{Nil, Num, Raw, Items}
use Rattle.opclass.specs.Types.{facts_of}
use Rattle.opclass.specs.Values.{IsNumberOf}
use Rattle.tuple_data.specs.Datum.{long_header, padding, short_header, stored_at, variable_datum}
use Rattle.tuple_data.specs.Fetch.{content_of, own_at, under_long, under_short}
use Rattle.tuple_data.specs.Reading.{BeginsWithValue, IsContent, IsFit, IsStored}
use Rattle.tuple_data.proofs.OneNumber.{number_back, number_once, widths_fit}
use Rattle.tuple_data.proofs.OneValue.{fits_header, long_is_even, short_is_odd}
use Rattle.tuple_data.proofs.Pieces.{stored_at-long, stored_at-short}
use Rattle.tuple_data.proofs.ReadNumber.{are_number_bytes, signed_read}
use Rattle.tuple_data.proofs.ReadContent.{long_whole}
use Rattle.tuple_data.proofs.ReadPiece.{Stands, fixed_is_there, stands_of}

-- a number without a sign
unsigned_is : (number : ℤ) → IsNumberOf Unsigned (Fixed 4) number → ◌≡◌ {A = ℤ} (pos (cast_unsigned w64 number % 256 ^ 4)) number
unsigned_is (pos n) is = let low : n < 2 ^ 32 = omega (arith, ints, is) in ap pos (omega arith)
unsigned_is (negsuc n) is = absurd (omega (arith, ints, is))

truth_is : (number : ℤ) → IsNumberOf Truth (Fixed 1) number → ◌≡◌ {A = ℤ} (pos (cast_unsigned w64 number % 256 ^ 1)) number
truth_is number is = elim is [
  | inl zero_is ↦ subst (λ (n : ℤ). ◌≡◌ {A = ℤ} (pos (cast_unsigned w64 n % 256 ^ 1)) n) (sym zero_is) refl
  | inr one_is ↦ subst (λ (n : ℤ). ◌≡◌ {A = ℤ} (pos (cast_unsigned w64 n % 256 ^ 1)) n) (sym one_is) refl
]

-- what the bytes of a number are, low byte first
low_of : (own : List ℕ) (number : ℤ) → own ≡ number_bytes (length own) (cast_unsigned w64 number)
    → little_number (length own) own ≡ cast_unsigned w64 number % 256 ^ length own
low_of own number is = ap (little_number (length own)) is ∙ number_back (length own) (cast_unsigned w64 number)

signed_is : (own : List ℕ) (number : ℤ) → IsFit Signed (Fixed (length own)) → IsNumberOf Signed (Fixed (length own)) number
    → own ≡ number_bytes (length own) (cast_unsigned w64 number)
    → twos_complement (length own) (little_number (length own) own) ≡ number
signed_is own number fit typed is =
    let read = signed_read own (twos_complement (length own) (little_number (length own) own))
    (subst (λ (b : List ℕ). All (λ byte. byte < 256) b) (sym is) (are_number_bytes (length own) (cast_unsigned w64 number))) fit refl in
    number_once Signed (length own) (twos_complement (length own) (little_number (length own) own)) number fit read.0 typed (sym read.1 ∙ is)

pub content_fetched : (form : Form) (own : List ℕ) (value : KeyVal) → IsFit form (Fixed (length own)) → IsContent form own value
    → content_of form own ≡ value
content_fetched form own Nil fit is = absurd is
content_fetched form own (Items elements) fit is = absurd is
content_fetched Truth own (Raw raw) fit is = absurd is.0
content_fetched Signed own (Raw raw) fit is = absurd is.0
content_fetched Unsigned own (Raw raw) fit is = absurd is.0
content_fetched Bytes own (Raw raw) fit is = ap Raw is.1
content_fetched (Array element) own (Raw raw) fit is = absurd is.0
content_fetched Truth own (Num number) fit is =
    ap Num
    (ap pos (low_of own number is.1 ∙ ap (λ (w : ℕ). cast_unsigned w64 number % 256 ^ w) fit)
    ∙ truth_is number (subst (λ (w : ℕ). IsNumberOf Truth (Fixed w) number) fit is.0))
content_fetched Signed own (Num number) fit is = ap Num (signed_is own number fit is.0 is.1)
content_fetched Unsigned own (Num number) fit is =
    ap Num
    (ap pos (low_of own number is.1 ∙ ap (λ (w : ℕ). cast_unsigned w64 number % 256 ^ w) fit)
    ∙ unsigned_is number (subst (λ (w : ℕ). IsNumberOf Unsigned (Fixed w) number) fit is.0))
content_fetched Bytes own (Num number) fit is = absurd is.0
content_fetched (Array element) own (Num number) fit is = absurd is.0

-- what stands behind others, as many as they are
pub drop_front : (front rest : List ℕ) → drop (length front) (front ++ rest) ≡ rest
drop_front [] rest = refl
drop_front (first ∷ front) rest = drop_front front rest

-- of a fixed width
own_fixed : (width alignment place : ℕ) (bytes own behind : List ℕ) → length own ≡ width → bytes ≡ (padding alignment place ++ own) ++ behind
    → own_at place (Fixed width) alignment bytes ≡ own
own_fixed width alignment place bytes own behind long whole =
    ap (λ (b : List ℕ). take width (drop (length (padding alignment place)) b)) (whole ∙ append_assoc (padding alignment place) own behind)
    ∙ ap (take width) (drop_front (padding alignment place) (own ++ behind))
    ∙ ap (λ (n : ℕ). take n (own ++ behind)) (sym long)
    ∙ take-append_seam own behind

-- of a variable width, by the header
short_is : (place : ℕ) (bytes own behind : List ℕ) → length own ≤ 126 → bytes ≡ stored_at place (Some (variable_datum own)) ++ behind
    → under_short bytes ≡ own
short_is place bytes own behind short whole =
    let there : bytes ≡ (short_header (length own) ∷ own) ++ behind = whole ∙ ap (λ (s : List ℕ). s ++ behind) (stored_at-short place own short) in
    let count : short_header (length own) / 2 - 1 ≡ length own = omega arith in
    ap under_short there ∙ ap (λ (n : ℕ). take n (own ++ behind)) count ∙ take-append_seam own behind

number_in_front : (width x : ℕ) (rest : List ℕ) → x < 256 ^ width → little_number width (number_bytes width x ++ rest) ≡ x
unfolding number_bytes
number_in_front width x rest fits = little_number-reads_back width x rest fits

under_header : (own behind : List ℕ) → length own < 1073741820 → under_long (long_header (length own) ++ (own ++ behind)) ≡ own
under_header own behind fits =
    let header : List ℕ = long_header (length own) in
    let four : length header ≡ 4 = length-number_bytes 4 (4 * (4 + length own)) in
    let word : little_number 4 (header ++ (own ++ behind)) / 4 - 4 ≡ length own =
    let same = number_in_front 4 (4 * (4 + length own)) (own ++ behind) (omega arith) in
    omega (arith, same) in
    ap (λ (n : ℕ). take n (drop 4 (header ++ (own ++ behind)))) word
    ∙ ap (λ (n : ℕ). take (length own) (drop n (header ++ (own ++ behind)))) (sym four)
    ∙ ap (take (length own)) (drop_front header (own ++ behind))
    ∙ take-append_seam own behind

long_is : (place : ℕ) (bytes own behind : List ℕ) → 126 < length own → length own < 1073741820
    → bytes ≡ stored_at place (Some (variable_datum own)) ++ behind → under_long (drop (length (padding 4 place)) bytes) ≡ own
long_is place bytes own behind long fits whole =
    let header : List ℕ = long_header (length own) in
    let there : bytes ≡ padding 4 place ++ (header ++ (own ++ behind)) =
    whole
    ∙ ap (λ (s : List ℕ). s ++ behind) (stored_at-long place own long)
    ∙ long_whole (padding 4 place) header own behind
    ∙ append_assoc (padding 4 place) header (own ++ behind) in
    ap (λ (b : List ℕ). under_long (drop (length (padding 4 place)) b)) there
    ∙ ap under_long (drop_front (padding 4 place) (header ++ (own ++ behind)))
    ∙ under_header own behind fits

own_variable : (place alignment : ℕ) (bytes own behind : List ℕ) → length bytes < 2 ^ 30
    → bytes ≡ stored_at place (Some (variable_datum own)) ++ behind → own_at place Variable alignment bytes ≡ own
own_variable place alignment bytes own behind size whole =
    let first = ap (λ (b : List ℕ). slice_index b 0) whole in
    elim (cases_lt 126 (length own)) [
      | inl long ↦
          let even = long_is_even place own behind long in
          let bit : slice_index bytes 0 % 2 ≡ 0 = ap (λ (n : ℕ). n % 2) first ∙ even in
          let test : nat_eq (slice_index bytes 0 % 2) 1 ≡ false = ap (λ (n : ℕ). nat_eq n 1) bit in
          ap (λ (b : Bool). if b then under_short bytes else under_long (drop (length (padding 4 place)) bytes)) test
          ∙ long_is place bytes own behind long (fits_header place own behind (subst (λ (b : List ℕ). length b < 2 ^ 30) whole size)) whole
      | inr short ↦
          let odd = short_is_odd place own behind short in
          let bit : slice_index bytes 0 % 2 ≡ 1 = ap (λ (n : ℕ). n % 2) (first ∙ odd) ∙ (omega arith) in
          let test : nat_eq (slice_index bytes 0 % 2) 1 ≡ true = ap (λ (n : ℕ). nat_eq n 1) bit in
          ap (λ (b : Bool). if b then under_short bytes else under_long (drop (length (padding 4 place)) bytes)) test
          ∙ short_is place bytes own behind short whole
    ]

-- a value of this form and width
variable_value : (form : Form) (alignment place : ℕ) (bytes : List ℕ) (value : KeyVal) (behind : List ℕ) → IsFit form Variable
    → Stands form Variable alignment place bytes value behind → (form ≡ Bytes) × ((own : List ℕ) × (value ≡ Raw own))
variable_value Bytes alignment place bytes (Raw own) behind fit is = (refl, (own, refl))
variable_value Bytes alignment place bytes Nil behind fit is = let no : true ≡ false = is.there in cc
variable_value Bytes alignment place bytes (Num number) behind fit is = absurd is.typed
variable_value Bytes alignment place bytes (Items elements) behind fit is = absurd is.typed
variable_value Truth alignment place bytes value behind fit is = absurd fit
variable_value Signed alignment place bytes value behind fit is = absurd fit
variable_value Unsigned alignment place bytes value behind fit is = absurd fit
variable_value (Array element) alignment place bytes value behind fit is = absurd fit

stands_fetched : (form : Form) (width : Width) (alignment place : ℕ) (bytes : List ℕ) (value : KeyVal) (behind : List ℕ) → IsFit form width
    → length bytes < 2 ^ 30 → Stands form width alignment place bytes value behind → content_of form (own_at place width alignment bytes) ≡ value
stands_fetched form (Fixed width) alignment place bytes value behind fit size is =
    let there = fixed_is_there form width alignment place bytes value behind fit is in
    ap (content_of form) (own_fixed width alignment place bytes there.own behind there.long there.whole)
    ∙ content_fetched form there.own value (subst (λ (w : ℕ). IsFit form (Fixed w)) (sym there.long) fit) there.is
stands_fetched form Variable alignment place bytes value behind fit size is =
    let found = variable_value form alignment place bytes value behind fit is in
    let whole : bytes ≡ stored_at place (Some (variable_datum found.1.0)) ++ behind =
    (subst (λ (v : KeyVal). Stands form Variable alignment place bytes v behind) found.1.1 is).whole in
    ap (content_of form) (own_variable place alignment bytes found.1.0 behind size whole)
    ∙ ap (λ (f : Form). content_of f found.1.0) found.0
    ∙ sym found.1.1

pub value_fetched : (kind : ColType) (place : ℕ) (bytes : List ℕ) (value : KeyVal) (behind : List ℕ) → IsStored (facts_of kind).form
    → length bytes < 2 ^ 30 → BeginsWithValue place kind bytes value behind
    → content_of (facts_of kind).form (own_at place (facts_of kind).width (facts_of kind).alignment bytes) ≡ value
value_fetched kind place bytes value behind stored size is =
    stands_fetched (facts_of kind).form (facts_of kind).width (facts_of kind).alignment place bytes value behind (widths_fit kind stored) size
    (stands_of kind place bytes value behind is)
