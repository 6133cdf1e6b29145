-- The elements that are read of an array are of its type of elements, and lie in its content.
use Rattle.std.proofs.Common.{◌≡◌, ℕ, ◌-◌, ◌<◌, ◌≤◌, Bool, true, false, List, [], ◌∷◌, length, Some, Ok, Err, Result, ap, subst, arith, length-drop}
use Rattle.std.specs.Prelude.{All}
use Rattle.std.proofs.lemmas.List.Elements.{All-nil, All-cons, All-drop}
use Rattle.opclass.specs.declared.types.ColType.{ColType}
use Rattle.opclass.specs.declared.value.Elem.{Elem}
use Rattle.opclass.specs.declared.value.Elem.TheVariants.{Null}
use Rattle.opclass.specs.Types.{facts_of}
use Rattle.opclass.specs.Values.{IsElementOf}
use Rattle.heap_row.specs.declared.array.Shape.{Shape}
use Rattle.heap_row.specs.declared.fault.RowCause.{RowCause}
use Rattle.heap_row.specs.declared.varlena.Storage.{Storage}
use Rattle.heap_row.specs.declared.varlena.Storage.TheVariants.{Plain, Compressed, External}
use Rattle.heap_row.specs.declared.varlena.Stored.{Stored}
use Rattle.heap_row.specs.Array.{array_of, element_at, element_behind, elements_behind, from_place, nulls_of, plain_at, plain_of, shape_of}
use Rattle.heap_row.specs.Scalar.{scalar_of}
use Rattle.heap_row.specs.Typed.{ElementHasAtMost}
use Rattle.heap_row.specs.Varlena.{content_of, long_header, stored_at}
use Rattle.pg_bytes.specs.Numbers.{rounded_up}
use Rattle.heap_row.proofs.Contents.{content_bytes, content_short, content_wide}
use Rattle.heap_row.proofs.Facts.{widths_fit}
use Rattle.heap_row.proofs.Readings.{and_then_some, map_some}
use Rattle.heap_row.proofs.Scalars.{element_of, scalar_short, scalar_typed}

-- an element of an array of this type, of at most so many bytes
pub record IsElementRead (element : ColType) (most : ℕ) (value : Elem) : Type 0 where
  pub typed : IsElementOf element value
  pub short : ElementHasAtMost most value

plain_of_some : (storage : Storage) (stored found : Stored) → plain_of storage stored ≡ Some found → stored ≡ found
plain_of_some Plain stored found read = cc
plain_of_some Compressed stored found read = cc
plain_of_some External stored found read = cc

plain_at_some : (read : Result Stored RowCause) (found : Stored) → plain_at read ≡ Some found → read ≡ Ok found
plain_at_some (Ok stored) found is = let same = plain_of_some stored.storage stored found is in cc
plain_at_some (Err cause) found is = cc

element_at_read : (element : ColType) (content : List ℕ) (start most : ℕ) (value : Elem) (end : ℕ)
    → All (λ byte. byte < 256) content → length content ≤ most → element_at element content start ≡ Some (value, end)
    → IsElementRead element most value
element_at_read element content start most value end are_bytes short read =
    let facts = facts_of element in
    let bytes = from_place content start in
    let (stored, is_plain, then_value) = and_then_some (plain_at (stored_at facts.width bytes)) _ (value, end) read in
    let is_stored = plain_at_some (stored_at facts.width bytes) stored is_plain in
    let (found, is_scalar, is) = map_some (scalar_of facts.form (content_of stored bytes)) _ (value, end) then_value in
    let same : found ≡ value = ap (λ (here : Elem × ℕ). here.0) is in
    let all = content_bytes bytes stored (All-drop (λ byte. byte < 256) (start - long_header) content are_bytes) in
    let within : length (content_of stored bytes) ≤ most = omega (arith, content_short bytes stored, length-drop (start - long_header) content) in
    subst (λ (v : Elem). IsElementRead element most v) same (record {
      typed = element_of element found (scalar_typed facts.form facts.width (content_of stored bytes) found (widths_fit element) (content_wide facts.width bytes stored is_stored) all is_scalar);
      short = scalar_short facts.form (content_of stored bytes) most found within is_scalar;
    })

element_behind_read : (element : ColType) (content : List ℕ) (place most : ℕ) (null : Bool) (value : Elem) (end : ℕ)
    → All (λ byte. byte < 256) content → length content ≤ most → element_behind element content place null ≡ Some (value, end)
    → IsElementRead element most value
element_behind_read element content place most true value end are_bytes short read =
    let here : (Null, place) ≡ (value, end) = cc in
    let same : Null ≡ value = ap (λ (one : Elem × ℕ). one.0) here in
    subst (λ (v : Elem). IsElementRead element most v) same (record { typed = tt; short = tt })
element_behind_read element content place most false value end are_bytes short read =
    element_at_read element content (rounded_up (facts_of element).alignment place) most value end are_bytes short read

elements_read : (element : ColType) (content : List ℕ) (most place : ℕ) (nulls : List Bool) (values : List Elem)
    → All (λ byte. byte < 256) content → length content ≤ most → elements_behind element content place nulls ≡ Some values
    → All (IsElementOf element) values × All (ElementHasAtMost most) values
elements_read element content most place [] values are_bytes short read =
    let same : [] ≡ values = cc in
    subst (λ (v : List Elem). All (IsElementOf element) v × All (ElementHasAtMost most) v) same
    (All-nil (IsElementOf element), All-nil (ElementHasAtMost most))
elements_read element content most place (null ∷ nulls) values are_bytes short read =
    let (here, is_here, then_others) = and_then_some (element_behind element content place null) _ values read in
    let (others, are_others, is) = map_some (elements_behind element content here.1 nulls) _ values then_others in
    let one = element_behind_read element content place most null here.0 here.1 are_bytes short is_here in
    let more = elements_read element content most here.1 nulls others are_bytes short are_others in
    subst (λ (v : List Elem). All (IsElementOf element) v × All (ElementHasAtMost most) v) is (
      All-cons (IsElementOf element) here.0 others one.typed more.0,
      All-cons (ElementHasAtMost most) here.0 others one.short more.1,
    )

-- the elements of the array that a content is
pub array_read : (element : ColType) (content : List ℕ) (most : ℕ) (values : List Elem)
    → All (λ byte. byte < 256) content → length content ≤ most → array_of element content ≡ Some values
    → All (IsElementOf element) values × All (ElementHasAtMost most) values
array_read element content most values are_bytes short read =
    let (shape, is_shape, elements) = and_then_some (shape_of element content) (λ (s : Shape). elements_behind element content s.first (nulls_of content s)) values read in
    elements_read element content most shape.first (nulls_of content shape) values are_bytes short elements
