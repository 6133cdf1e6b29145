-- What is read of a column is a value of its type, and no longer than the tuple's data.
use Rattle.std.proofs.Common.{◌≡◌, ℕ, ◌<◌, ◌≤◌, List, length, drop, slice_get, Option, Some, None, option_map, Ok, subst, inl, inr, arith, length-drop}
use Rattle.std.specs.Prelude.{All, ok_or, ⊤}
use Rattle.std.proofs.lemmas.List.Elements.{All-drop}
use Rattle.opclass.specs.declared.table.Column.{Column}
use Rattle.opclass.specs.declared.types.ColType.{ColType}
use Rattle.opclass.specs.declared.types.Form.{Form}
use Rattle.opclass.specs.declared.types.Form.TheVariants.{Truth, Signed, Unsigned, Bytes, Array}
use Rattle.opclass.specs.declared.types.Width.{Width}
use Rattle.opclass.specs.declared.value.Elem.{Elem}
use Rattle.opclass.specs.declared.value.Elem.TheVariants as elem
use Rattle.opclass.specs.declared.value.KeyVal.{KeyVal}
use Rattle.opclass.specs.declared.value.KeyVal.TheVariants.{Nil, Num, Raw, Items}
use Rattle.opclass.specs.Types.{facts_of}
use Rattle.opclass.specs.Values.{IsNumberOf, IsBytesOf, IsArrayOf, IsAsWide, IsValueOf}
use Rattle.heap_row.specs.declared.attribute.Attribute.{Attribute}
use Rattle.heap_row.specs.declared.fault.RowCause.TheVariants.{BadTruth, BadArray}
use Rattle.heap_row.specs.declared.varlena.Storage.{Storage}
use Rattle.heap_row.specs.declared.varlena.Storage.TheVariants.{Plain, Compressed, External}
use Rattle.heap_row.specs.declared.varlena.Stored.{Stored}
use Rattle.heap_row.specs.Array.{array_of}
use Rattle.heap_row.specs.Attribute.{attribute_at, attribute_behind, attribute_of, end_of, start_at, value_at, value_of}
use Rattle.heap_row.specs.Datum.{datum_of, plain_datum, stored_datum, value_of_elem}
use Rattle.heap_row.specs.Fault.{◌>>=◌}
use Rattle.heap_row.specs.Scalar.{scalar_of}
use Rattle.heap_row.specs.Tuple.{HeapTuple, is_null}
use Rattle.heap_row.specs.Typed.{ElementHasAtMost, HasAtMost}
use Rattle.heap_row.specs.Varlena.{content_of, stored_at}
use Rattle.heap_row.proofs.ArrayElements.{array_read}
use Rattle.heap_row.proofs.Contents.{content_bytes, content_short, content_wide}
use Rattle.heap_row.proofs.Facts.{IsFit, widths_fit}
use Rattle.heap_row.proofs.Readings.{bind_ok, chosen, map_ok}
use Rattle.heap_row.proofs.Scalars.{IsScalarOf, scalar_short, scalar_typed}

-- a value of this form and width
abbrev pub IsFormed : Form → Width → KeyVal → Type 0
IsFormed form width Nil = ⊤
IsFormed form width (Num number) = IsNumberOf form width number
IsFormed form width (Raw bytes) = IsBytesOf form width bytes
IsFormed form width (Items elements) = IsArrayOf form elements

pub record IsPlainRead (form : Form) (width : Width) (most : ℕ) (value : KeyVal) : Type 0 where
  pub formed : IsFormed form width value
  pub short : HasAtMost most value

-- a value of a type, of at most so many bytes
pub record IsTypedRead (kind : ColType) (most : ℕ) (value : KeyVal) : Type 0 where
  pub typed : IsValueOf kind value
  pub short : HasAtMost most value

of_elem : (form : Form) (width : Width) (most : ℕ) (element : Elem) → IsScalarOf form width element → ElementHasAtMost most element
    → IsPlainRead form width most (value_of_elem element)
of_elem form width most elem.Null formed short = record { formed = tt; short = tt }
of_elem form width most (elem.Num number) formed short = record { formed = formed; short = tt }
of_elem form width most (elem.Raw bytes) formed short = record { formed = formed; short = short }

-- a content and the form and width that it is read by
pub record IsContentOf (form : Form) (width : Width) (most : ℕ) (content : List ℕ) : Type 0 where
  pub fit : IsFit form width
  pub wide : IsAsWide width content
  pub are_bytes : All (λ byte. byte < 256) content
  pub short : length content ≤ most

scalar_read : (form : Form) (width : Width) (most : ℕ) (content : List ℕ) (value : KeyVal) → IsContentOf form width most content
    → ok_or (option_map value_of_elem (scalar_of form content)) BadTruth ≡ Ok value → IsPlainRead form width most value
scalar_read form width most content value has read =
    let (element, is, same) = map_ok (scalar_of form content) value_of_elem BadTruth value read in
    subst (λ (v : KeyVal). IsPlainRead form width most v) same (of_elem form width most element
    (scalar_typed form width content element has.fit has.wide has.are_bytes is)
    (scalar_short form content most element has.short is))

plain_read : (form : Form) (width : Width) (most : ℕ) (content : List ℕ) (value : KeyVal) → IsContentOf form width most content
    → plain_datum form content ≡ Ok value → IsPlainRead form width most value
plain_read Truth width most content value has read = scalar_read Truth width most content value has read
plain_read Signed width most content value has read = scalar_read Signed width most content value has read
plain_read Unsigned width most content value has read = scalar_read Unsigned width most content value has read
plain_read Bytes width most content value has read = scalar_read Bytes width most content value has read
plain_read (Array element) width most content value has read =
    let (elements, are, same) = map_ok (array_of element content) (λ elements. Items elements) BadArray value read in
    let all = array_read element content most elements has.are_bytes has.short are in
    subst (λ (v : KeyVal). IsPlainRead (Array element) width most v) same (record { formed = all.0; short = all.1 })

typed_by_form : (kind : ColType) (most : ℕ) (value : KeyVal) → IsPlainRead (facts_of kind).form (facts_of kind).width most value → IsTypedRead kind most value
typed_by_form kind most Nil is = record { typed = tt; short = tt }
typed_by_form kind most (Num number) is = record { typed = is.formed; short = tt }
typed_by_form kind most (Raw bytes) is = record { typed = is.formed; short = is.short }
typed_by_form kind most (Items elements) is = record { typed = is.formed; short = is.short }

stored_read : (storage : Storage) (form : Form) (width : Width) (most : ℕ) (content : List ℕ) (value : KeyVal) → IsContentOf form width most content
    → stored_datum storage form content ≡ Ok value → IsPlainRead form width most value
stored_read Plain form width most content value has read = plain_read form width most content value has read
stored_read Compressed form width most content value has read = cc
stored_read External form width most content value has read = cc

-- the value of a type that begins where bytes do
datum_read : (kind : ColType) (stored : Stored) (most : ℕ) (bytes : List ℕ) (value : KeyVal) → All (λ byte. byte < 256) bytes → length bytes ≤ most
    → stored_at (facts_of kind).width bytes ≡ Ok stored → datum_of kind stored bytes ≡ Ok value → IsTypedRead kind most value
datum_read kind stored most bytes value are_bytes short is_stored read =
    let facts = facts_of kind in
    let content = content_of stored bytes in
    let has : IsContentOf facts.form facts.width most content = record {
      fit = widths_fit kind;
      wide = content_wide facts.width bytes stored is_stored;
      are_bytes = content_bytes bytes stored are_bytes;
      short = omega (arith, content_short bytes stored);
    } in
    typed_by_form kind most value (stored_read stored.storage facts.form facts.width most content value has read)

-- an attribute is stored as its column's type says
attribute_stored : (kind : ColType) (body : List ℕ) (place : ℕ) (attribute : Attribute) → attribute_at kind body place ≡ Ok attribute
    → stored_at (facts_of kind).width (drop attribute.start body) ≡ Ok attribute.stored
attribute_stored kind body place attribute read =
    let facts = facts_of kind in
    let (start, starts, then_stored) = bind_ok (start_at facts.width facts.alignment body place) _ attribute read in
    let (stored, is_stored, is) = bind_ok (stored_at facts.width (drop start body)) _ attribute then_stored in
    let same : record { start = start; stored = stored } ≡ attribute = cc in
    subst (λ (a : Attribute). stored_at facts.width (drop a.start body) ≡ Ok a.stored) same is_stored

behind_stored : (tuple : HeapTuple) (column : Column) (before place : ℕ) (attribute : Attribute)
    → attribute_behind tuple (Some column) before place ≡ Ok (Some attribute)
    → stored_at (facts_of column.kind).width (drop attribute.start tuple.body) ≡ Ok attribute.stored
unfolding attribute_behind
behind_stored tuple column before place attribute read =
    elim (chosen (is_null tuple before) (Ok None) (attribute_at column.kind tuple.body place >>= λ found. Ok (Some found)) (Ok (Some attribute)) read) [
      | inl (null, is) ↦ cc
      | inr (there, is) ↦
          let (found, reads, same) = bind_ok (attribute_at column.kind tuple.body place) (λ a. Ok (Some a)) (Some attribute) is in
          let one : found ≡ attribute = cc in
          subst (λ (a : Attribute). stored_at (facts_of column.kind).width (drop a.start tuple.body) ≡ Ok a.stored) one
          (attribute_stored column.kind tuple.body place found reads)
    ]

at_read : (tuple : HeapTuple) (column : Column) (before place most : ℕ) (attribute : Option Attribute) (value : KeyVal)
    → All (λ byte. byte < 256) tuple.body → length tuple.body ≤ most
    → attribute_behind tuple (Some column) before place ≡ Ok attribute → value_at tuple (Some column) attribute ≡ Ok value
    → IsTypedRead column.kind most value
unfolding value_at
at_read tuple column before place most None value are_bytes short stands read =
    let same : Nil ≡ value = cc in
    subst (λ (v : KeyVal). IsTypedRead column.kind most v) same (record { typed = tt; short = tt })
at_read tuple column before place most (Some attribute) value are_bytes short stands read =
    let is_stored = behind_stored tuple column before place attribute stands in
    let all = All-drop (λ byte. byte < 256) attribute.start tuple.body are_bytes in
    let within : length (drop attribute.start tuple.body) ≤ most = omega (arith, length-drop attribute.start tuple.body) in
    datum_read column.kind attribute.stored most (drop attribute.start tuple.body) value all within is_stored read

shown_read : (tuple : HeapTuple) (shown : Option Column) (column : Column) (before place most : ℕ) (attribute : Option Attribute) (value : KeyVal)
    → All (λ byte. byte < 256) tuple.body → length tuple.body ≤ most → shown ≡ Some column
    → attribute_behind tuple shown before place ≡ Ok attribute → value_at tuple shown attribute ≡ Ok value
    → IsTypedRead column.kind most value
shown_read tuple shown column before place most attribute value are_bytes short found stands read =
    at_read tuple column before place most attribute value are_bytes short (rw found at stands) (rw found at read)

-- the value of the column behind so many others
pub value_read : (tuple : HeapTuple) (columns : List Column) (before most : ℕ) (column : Column) (value : KeyVal)
    → All (λ byte. byte < 256) tuple.body → length tuple.body ≤ most → slice_get columns before ≡ Some column
    → value_of tuple columns before ≡ Ok value → IsTypedRead column.kind most value
value_read tuple columns before most column value are_bytes short found read =
    let shown = slice_get columns before in
    let (attribute, is_attribute, is) = bind_ok (attribute_of tuple columns before) (value_at tuple shown) value read in
    let (place, ends, stands) = bind_ok (end_of tuple columns before) (attribute_behind tuple shown before) attribute is_attribute in
    shown_read tuple shown column before place most attribute value are_bytes short found stands is
