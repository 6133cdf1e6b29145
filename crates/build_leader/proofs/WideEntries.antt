-- Which rows of arrays have an entry that is too large.
use Rattle.std.proofs.Common.{◌≡◌, ◌↔◌, ℕ, ◌+◌, ◌<◌, ◌≤◌, Bool, IsTrue, false, List, [], ◌∷◌, length, Some, refl, ap, subst, inl, inr, arith, All}
use Rattle.std.specs.Prelude.{Any, slice_get}
use Rattle.std.proofs.lemmas.Bool.{cases_lt}
use Rattle.std.proofs.lemmas.List.Elements.{All-contains}
use Rattle.opclass.specs.declared.types.ColType.{ColType}
use Rattle.opclass.specs.declared.types.ColType.TheVariants as ty
use Rattle.opclass.specs.declared.value.Elem.{Elem}
use Rattle.opclass.specs.declared.value.Elem.TheVariants as elem
use Rattle.opclass.specs.declared.value.KeyVal.{KeyVal}
use Rattle.opclass.specs.declared.value.KeyVal.TheVariants.{Nil, Num, Raw, Items}
use Rattle.opclass.specs.Values.{IsElementOf, IsValueOf}
use Rattle.tuple_data.specs.Laws.{room_of}
use Rattle.heap_row.specs.Typed.{ElementHasAtMost}
use Rattle.gin_entry.specs.declared.entry.Entry.{Entry}
use Rattle.gin_entry.specs.Entries.{entry_of}
use Rattle.gin_entry.specs.EntrySize.{entry_size}
use Rattle.gin_entry.proofs.Room.{entry_room}
use Rattle.gin_file.specs.EntryTuple.{most_size}
use Rattle.build_leader.specs.Entries.{HasWideEntry}
use Rattle.build_leader.specs.WideEntry.{HasTexts}

false_never : IsTrue false → ⊥
false_never never = cc

-- ---- an element

-- an element of so many bytes has an entry of little more
element_room : (most : ℕ) (element : Elem) → 4 ≤ most → ElementHasAtMost most element
    → room_of (entry_of element).key ≤ most + 11
element_room most elem.Null some short = omega arith
element_room most (elem.Num number) some short = omega arith
element_room most (elem.Raw bytes) some short = omega (arith, short)

pub element_size : (kind : ColType) (most : ℕ) (element : Elem) → 4 ≤ most → ElementHasAtMost most element
    → entry_size kind (entry_of element) ≤ most + 36
element_size kind most element some short =
    omega (arith, element_room most element some short, entry_room kind (entry_of element))

-- an element that is no long text has no wide entry
pub not_wide : (kind : ColType) (element : Elem) → ElementHasAtMost 2676 element
    → IsTrue false ↔ (most_size < entry_size kind (entry_of element))
not_wide kind element short =
    let size = element_size kind 2676 element (omega arith) short in
    ((λ never. absurd (false_never never)), (λ wide. absurd (omega (arith, size, wide))))

-- the entry of an element is small where it isn't wide
pub small_element : (kind : ColType) (element : Elem) (wide : Bool) → wide ≡ false
    → IsTrue wide ↔ (most_size < entry_size kind (entry_of element)) → entry_size kind (entry_of element) ≤ most_size
small_element kind element wide none says =
    elim (cases_lt most_size (entry_size kind (entry_of element))) [
      | inl large ↦ let t = says.1 large in absurd (false_never (subst IsTrue none t))
      | inr small ↦ small
    ]

-- ---- an array

module _ (kind : ColType) where
  abbrev IsWide : Elem → Type 0
  IsWide element = most_size < entry_size kind (entry_of element)

  placeholder_small : (entry : Entry) → entry.key ≡ Nil → most_size < entry_size kind entry → ⊥
  placeholder_small entry none wide =
      let room : room_of entry.key ≡ 0 = ap room_of none in
      omega (arith, room, entry_room kind entry, wide)

  pub wide_array : (elements : List Elem) → Any IsWide elements ↔ HasWideEntry (kind ∷ []) (Items elements ∷ [])
  wide_array [] = (
    (λ some. absurd (omega (arith, some.2))),
    (λ wide. absurd (placeholder_small wide.0 (ap (λ (e : Entry). e.key) wide.1) wide.2)),
  )
  wide_array (element ∷ elements) = (
    (λ some. (entry_of some.1, (some.0, some.1, some.2, some.3, refl), some.4)),
    (λ wide. (
      wide.1.0,
      wide.1.1,
      wide.1.2,
      wide.1.3,
      subst (λ (e : Entry). most_size < entry_size kind e) wide.1.4 wide.2,
    )),
  )

  -- where each element is short no entry is wide
  none_wide : (elements : List Elem) → All (ElementHasAtMost 2676) elements
      → HasWideEntry (kind ∷ []) (Items elements ∷ []) → ⊥
  none_wide elements short wide =
      let some = (wide_array elements).1 wide in
      let at_most = All-contains (ElementHasAtMost 2676) elements some.1 short (some.0, some.2, some.3) in
      false_never ((not_wide kind some.1 at_most).1 some.4)

  -- and where each entry is small
  pub all_small : (elements : List Elem) → All (λ element. entry_size kind (entry_of element) ≤ most_size) elements
      → IsTrue false ↔ Any IsWide elements
  all_small elements small = (
    (λ never. absurd (false_never never)),
    (λ some.
        let its =
        All-contains (λ element. entry_size kind (entry_of element) ≤ most_size) elements some.1 small
        (some.0, some.2, some.3) in
        absurd (omega (arith, its, some.4))),
  )

int4_short : (element : Elem) → IsElementOf ty.Int4 element → ElementHasAtMost 2676 element
int4_short elem.Null is = tt
int4_short (elem.Num number) is = tt
int4_short (elem.Raw bytes) is = absurd is

int8_short : (element : Elem) → IsElementOf ty.Int8 element → ElementHasAtMost 2676 element
int8_short elem.Null is = tt
int8_short (elem.Num number) is = tt
int8_short (elem.Raw bytes) is = absurd is

-- arrays of numbers never have a wide entry
no_texts : (kind : ColType) (elements : List Elem) → IsValueOf kind (Items elements) → (HasTexts kind → ⊥)
    → HasWideEntry (kind ∷ []) (Items elements ∷ []) → ⊥
no_texts ty.Int4Array elements are none wide =
    none_wide ty.Int4Array elements (λ k d inside. int4_short _ (are k d inside)) wide
no_texts ty.Int8Array elements are none wide =
    none_wide ty.Int8Array elements (λ k d inside. int8_short _ (are k d inside)) wide
no_texts ty.TextArray elements are none wide = none refl
no_texts ty.Bool elements are none wide = are
no_texts ty.Int2 elements are none wide = are
no_texts ty.Int4 elements are none wide = are
no_texts ty.Int8 elements are none wide = are
no_texts ty.Oid elements are none wide = are
no_texts ty.Date elements are none wide = are
no_texts ty.Timestamp elements are none wide = are
no_texts ty.Timestamptz elements are none wide = are
no_texts ty.Time elements are none wide = are
no_texts ty.Uuid elements are none wide = are
no_texts ty.Text elements are none wide = are
no_texts ty.Varchar elements are none wide = are
no_texts ty.Bytea elements are none wide = are
no_texts ty.Float4 elements are none wide = are
no_texts ty.Float8 elements are none wide = are
no_texts ty.Numeric elements are none wide = are
no_texts ty.Bpchar elements are none wide = are
no_texts ty.Name elements are none wide = are
no_texts ty.Interval elements are none wide = are
no_texts ty.Json elements are none wide = are
no_texts ty.Jsonb elements are none wide = are

-- ---- a value

-- a value that is no array of texts has no wide entry
pub never_wide : (kind : ColType) (value : KeyVal) → IsValueOf kind value
    → ((elements : List Elem) → value ≡ Items elements → HasTexts kind → ⊥)
    → IsTrue false ↔ HasWideEntry (kind ∷ []) (value ∷ [])
never_wide kind value is none = ((λ never. absurd (false_never never)), (λ wide. absurd (by value is none wide)))
  where
    by : (v : KeyVal) → IsValueOf kind v → ((elements : List Elem) → v ≡ Items elements → HasTexts kind → ⊥)
        → HasWideEntry (kind ∷ []) (v ∷ []) → ⊥
    by Nil is none wide = placeholder_small kind wide.0 (ap (λ (e : Entry). e.key) wide.1) wide.2
    by (Num number) is none wide = wide.1
    by (Raw bytes) is none wide = wide.1
    by (Items elements) is none wide = no_texts kind elements is (none elements refl) wide

-- ---- a row

-- only a row of one value in one column has wide entries
pub one_alone : (kinds : List ColType) (values : List KeyVal) → HasWideEntry kinds values
    → (length kinds ≡ 1) × (length values ≡ 1)
one_alone (kind ∷ []) (value ∷ []) wide = (refl, refl)
one_alone [] values wide = absurd wide
one_alone (kind ∷ []) [] wide = absurd wide
one_alone (kind ∷ []) (value ∷ other ∷ values) wide = absurd wide
one_alone (kind ∷ other ∷ kinds) values wide = absurd wide

-- the one item of a list
pub only : {X : Type 0} (xs : List X) (x : X) → length xs ≡ 1 → slice_get xs 0 ≡ Some x → xs ≡ x ∷ []
only [] x one found = absurd (omega (arith, one))
only (y ∷ []) x one found = let same : y ≡ x = cc in ap (λ z. z ∷ []) same
only (y ∷ z ∷ xs) x one found = absurd (omega (arith, one))
