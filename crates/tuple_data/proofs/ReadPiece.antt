-- The value that stands from a place on.
use Rattle.std.proofs.Common.{◌≡◌, ℕ, ◌<◌, true, false, Some, List, ◌++◌, length, refl, sym, ap, subst, ◌∙◌}
use Rattle.std.specs.Prelude.{All}
use Rattle.std.specs.Int.{w64, cast_unsigned}
use Rattle.pg_bytes.specs.Numbers.{number_bytes}
use Rattle.pg_bytes.proofs.Writes.{length-number_bytes}
use Rattle.opclass.specs.declared.types.ColType.{ColType}
use Rattle.opclass.specs.declared.types.Form.{Form}
use Rattle.opclass.specs.declared.types.Form.TheVariants.{Truth, Signed, Unsigned, Bytes, Array}
use Rattle.opclass.specs.declared.types.TypeFacts.{TypeFacts}
use Rattle.opclass.specs.declared.types.Width.{Width}
use Rattle.opclass.specs.declared.types.Width.TheVariants.{Fixed, Variable}
use Rattle.opclass.specs.declared.value.KeyVal.{KeyVal}
use Rattle.opclass.specs.declared.value.KeyVal.TheVariants.{Nil, Num, Raw, Items}
use Rattle.opclass.specs.declared.types.ColType.TheVariants as ty
use Rattle.opclass.specs.declared.types.Method.TheVariants.{BTree}
use Rattle.opclass.specs.Types.{facts_of, takes_key}
use Rattle.opclass.specs.Values.{IsBytesOf, IsNumberOf, IsValueOf}
use Rattle.tuple_data.specs.Datum.{datum_of, padding, stored_at, variable_datum}
use Rattle.tuple_data.specs.Nulls.{is_null}
use Rattle.tuple_data.specs.Reading.{BeginsWithValue, IsContent, IsFit, IsStored}
use Rattle.tuple_data.proofs.OneNumber.{front_once, widths_fit}
use Rattle.tuple_data.proofs.OneValue.{IsOf, as_wide, behind_padding, fit_narrow, no_items, no_number, typed_of}
use Rattle.tuple_data.proofs.Pieces.{stored_at-narrow}

-- a value of this form, width and alignment stands from a place on
pub record Stands (form : Form) (width : Width) (alignment place : ℕ) (bytes : List ℕ) (value : KeyVal) (behind : List ℕ) : Type 0 where
  pub typed : IsOf form width value
  pub there : is_null value ≡ false
  pub whole : bytes ≡ stored_at place (datum_of width alignment value) ++ behind

of_type : (kind : ColType) (value : KeyVal) → IsOf (facts_of kind).form (facts_of kind).width value → IsValueOf kind value
of_type kind Nil typed = tt
of_type kind (Num number) typed = typed
of_type kind (Raw bytes) typed = typed
of_type kind (Items elements) typed = typed

pub stands_of : (kind : ColType) (place : ℕ) (bytes : List ℕ) (value : KeyVal) (behind : List ℕ) → BeginsWithValue place kind bytes value behind
    → Stands (facts_of kind).form (facts_of kind).width (facts_of kind).alignment place bytes value behind
stands_of kind place bytes value behind is = record { typed = typed_of kind value is.typed; there = is.there; whole = is.data }

pub begins_of : (kind : ColType) (place : ℕ) (bytes : List ℕ) (value : KeyVal) (behind : List ℕ)
    → Stands (facts_of kind).form (facts_of kind).width (facts_of kind).alignment place bytes value behind → BeginsWithValue place kind bytes value behind
begins_of kind place bytes value behind is = record { typed = of_type kind value is.typed; there = is.there; «data» = is.whole }

-- of a variable width
pub variable_found : (form : Form) (alignment place : ℕ) (bytes own behind : List ℕ) → IsFit form Variable → All (λ byte. byte < 256) own
    → bytes ≡ stored_at place (Some (variable_datum own)) ++ behind → Stands form Variable alignment place bytes (Raw own) behind
variable_found Truth alignment place bytes own behind fit are whole = absurd fit
variable_found Signed alignment place bytes own behind fit are whole = absurd fit
variable_found Unsigned alignment place bytes own behind fit are whole = absurd fit
variable_found Bytes alignment place bytes own behind fit are whole = record { typed = (are, tt); there = refl; whole = whole }
variable_found (Array element) alignment place bytes own behind fit are whole = absurd fit

pub variable_is_there : (form : Form) (alignment place : ℕ) (bytes : List ℕ) (value : KeyVal) (behind : List ℕ) → IsFit form Variable
    → Stands form Variable alignment place bytes value behind
    → (own : List ℕ) × (bytes ≡ stored_at place (Some (variable_datum own)) ++ behind)
variable_is_there form alignment place bytes Nil behind fit is = let no = is.there in absurd (elim_null no)
  where
    elim_null : true ≡ false → ⊥
    elim_null e = cc
variable_is_there form alignment place bytes (Num number) behind fit is = absurd (no_number form number fit is.typed)
variable_is_there form alignment place bytes (Raw own) behind fit is = (own, is.whole)
variable_is_there form alignment place bytes (Items elements) behind fit is = absurd (no_items form Variable elements fit is.typed)

-- of a fixed width
pub fixed_found : (form : Form) (width alignment place : ℕ) (bytes own : List ℕ) (value : KeyVal) (behind : List ℕ) → IsFit form (Fixed width)
    → length own ≡ width → bytes ≡ (padding alignment place ++ own) ++ behind → IsContent form own value
    → Stands form (Fixed width) alignment place bytes value behind
fixed_found form width alignment place bytes own Nil behind fit long whole is = absurd is
fixed_found form width alignment place bytes own (Items elements) behind fit long whole is = absurd is
fixed_found form width alignment place bytes own (Raw raw) behind fit long whole is = record {
  typed = subst (λ (w : ℕ). IsBytesOf form (Fixed w) raw) long is.0;
  there = refl;
  whole = whole ∙ ap (λ (b : List ℕ). (padding alignment place ++ b) ++ behind) is.1;
}
fixed_found form width alignment place bytes own (Num number) behind fit long whole is =
    let typed : IsNumberOf form (Fixed width) number = subst (λ (w : ℕ). IsNumberOf form (Fixed w) number) long is.0 in
    record {
      typed = typed;
      there = refl;
      whole =
          whole
          ∙ ap (λ (b : List ℕ). (padding alignment place ++ b) ++ behind) (is.1 ∙ ap (λ (w : ℕ). number_bytes w (cast_unsigned w64 number)) long)
          ∙ ap (λ (s : List ℕ). s ++ behind) (sym (stored_at-narrow place width alignment number (fit_narrow form width number fit typed)));
    }

pub record StandsFixed (form : Form) (width alignment place : ℕ) (bytes : List ℕ) (value : KeyVal) (behind : List ℕ) : Type 0 where
  pub own : List ℕ
  pub long : length own ≡ width
  pub whole : bytes ≡ (padding alignment place ++ own) ++ behind
  pub is : IsContent form own value

pub fixed_is_there : (form : Form) (width alignment place : ℕ) (bytes : List ℕ) (value : KeyVal) (behind : List ℕ) → IsFit form (Fixed width)
    → Stands form (Fixed width) alignment place bytes value behind → StandsFixed form width alignment place bytes value behind
fixed_is_there form width alignment place bytes Nil behind fit is = let no : true ≡ false = is.there in cc
fixed_is_there form width alignment place bytes (Items elements) behind fit is = absurd (no_items form (Fixed width) elements fit is.typed)
fixed_is_there form width alignment place bytes (Raw raw) behind fit is =
    let long = as_wide form width raw is.typed in record {
      own = raw;
      long = long;
      whole = is.whole;
      is = (subst (λ (w : ℕ). IsBytesOf form (Fixed w) raw) (sym long) is.typed, refl);
    }
fixed_is_there form width alignment place bytes (Num number) behind fit is =
    let own : List ℕ = number_bytes width (cast_unsigned w64 number) in
    let long : length own ≡ width = length-number_bytes width (cast_unsigned w64 number) in
    record {
      own = own;
      long = long;
      whole = is.whole ∙ ap (λ (s : List ℕ). s ++ behind) (stored_at-narrow place width alignment number (fit_narrow form width number fit is.typed));
      is = (
        subst (λ (w : ℕ). IsNumberOf form (Fixed w) number) (sym long) is.typed,
        ap (λ (w : ℕ). number_bytes w (cast_unsigned w64 number)) (sym long),
      );
    }

-- the same content where the bytes are known
pub content_is : (form : Form) (width alignment place : ℕ) (bytes own rest : List ℕ) (value : KeyVal) (behind : List ℕ) → IsFit form (Fixed width)
    → length own ≡ width → bytes ≡ (padding alignment place ++ own) ++ rest → Stands form (Fixed width) alignment place bytes value behind
    → IsContent form own value
content_is form width alignment place bytes own rest value behind fit long whole is =
    let found = fixed_is_there form width alignment place bytes value behind fit is in
    let same : found.own ≡ own =
    front_once found.own own behind rest (found.long ∙ sym long)
    (behind_padding (padding alignment place) found.own own behind rest (sym found.whole ∙ whole)) in
    subst (λ (b : List ℕ). IsContent form b value) same found.is

-- the same by what the table of types has
pub known_fit : (kind : ColType) (facts : TypeFacts) (width : Width) → facts ≡ facts_of kind → facts.width ≡ width → IsStored (facts_of kind).form
    → IsFit facts.form width
known_fit kind facts width told is stored =
    subst (λ (w : Width). IsFit facts.form w) is (subst (λ (f : TypeFacts). IsFit f.form f.width) (sym told) (widths_fit kind stored))

pub known_stands : (kind : ColType) (facts : TypeFacts) (width : Width) (place : ℕ) (bytes : List ℕ) (value : KeyVal) (behind : List ℕ)
    → facts ≡ facts_of kind → facts.width ≡ width → BeginsWithValue place kind bytes value behind
    → Stands facts.form width facts.alignment place bytes value behind
known_stands kind facts width place bytes value behind told is begins =
    subst (λ (w : Width). Stands facts.form w facts.alignment place bytes value behind) is
    (subst (λ (f : TypeFacts). Stands f.form f.width f.alignment place bytes value behind) (sym told) (stands_of kind place bytes value behind begins))

-- a key of a B-tree index is no array
pub keys_are_stored : (kind : ColType) → takes_key BTree (facts_of kind).key_use ≡ true → IsStored (facts_of kind).form
keys_are_stored ty.Int4Array taken = cc
keys_are_stored ty.Int8Array taken = cc
keys_are_stored ty.TextArray taken = cc
keys_are_stored ty.Bool taken = tt
keys_are_stored ty.Int2 taken = tt
keys_are_stored ty.Int4 taken = tt
keys_are_stored ty.Int8 taken = tt
keys_are_stored ty.Oid taken = tt
keys_are_stored ty.Date taken = tt
keys_are_stored ty.Timestamp taken = tt
keys_are_stored ty.Timestamptz taken = tt
keys_are_stored ty.Time taken = tt
keys_are_stored ty.Uuid taken = tt
keys_are_stored ty.Text taken = tt
keys_are_stored ty.Varchar taken = tt
keys_are_stored ty.Bytea taken = tt
keys_are_stored ty.Float4 taken = tt
keys_are_stored ty.Float8 taken = tt
keys_are_stored ty.Numeric taken = tt
keys_are_stored ty.Bpchar taken = tt
keys_are_stored ty.Name taken = tt
keys_are_stored ty.Interval taken = tt
keys_are_stored ty.Json taken = tt
keys_are_stored ty.Jsonb taken = tt
