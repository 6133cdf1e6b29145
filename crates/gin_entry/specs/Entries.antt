-- Entries, under which a GIN index finds rows, and those of a value (ginExtractEntries of ginutil.c, ginarrayextract of
-- ginarrayproc.c, GinNullCategory of ginblock.h).
use Rattle.std.specs.Prelude.{◌≡◌, ℕ, ⊤, List, [], ◌∷◌, map, Any}
use denote.Ref.{Bor}
use Rattle.std.specs.BTreeSet.{insert_key}
use Rattle.opclass.specs.declared.value.Elem.{Elem}
use Rattle.opclass.specs.declared.value.Elem.TheVariants as elem
use Rattle.opclass.specs.declared.value.KeyVal.{KeyVal}
use Rattle.opclass.specs.declared.value.KeyVal.TheVariants.{Nil, Num, Raw, Items}
use Rattle.opclass.specs.Order.{elem_cmp}
use Rattle.gin_entry.specs.declared.entry.Category.{Category}
use Rattle.gin_entry.specs.declared.entry.Category.TheVariants.{Key, NullKey, EmptyItem, NullItem}
use Rattle.gin_entry.specs.declared.entry.Entry.{Entry}

-- the number of a category (GIN_CAT_NORM_KEY, GIN_CAT_NULL_KEY, GIN_CAT_EMPTY_ITEM, GIN_CAT_NULL_ITEM)
abbrev pub number_of_category : Category → ℕ
number_of_category Key = 0
number_of_category NullKey = 1
number_of_category EmptyItem = 2
number_of_category NullItem = 3

-- the entry of a key
abbrev pub key_entry : KeyVal → Entry
key_entry key = record { category = number_of_category Key; key = key }

-- an entry that has no key: what stands for a null, or for an array without elements
abbrev pub placeholder : Category → Entry
placeholder category = record { category = number_of_category category; key = Nil }

-- the entry of an element
abbrev pub entry_of : Elem → Entry
entry_of elem.Null = placeholder NullKey
entry_of (elem.Num number) = key_entry (Num number)
entry_of (elem.Raw bytes) = key_entry (Raw bytes)

-- An entry is one of a value: that of an element of an array, or the one that stands for an array without elements or
-- for a null. No other value has entries.
abbrev pub HasEntry : KeyVal → Entry → Type 0
HasEntry Nil entry = entry ≡ placeholder NullItem
HasEntry (Items []) entry = entry ≡ placeholder EmptyItem
HasEntry (Items (element ∷ elements)) entry = Any (λ each. entry ≡ entry_of each) (element ∷ elements)
HasEntry other entry = ⊥

-- the elements of an array, ascending and each once
abbrev pub distinct : List Elem → List Elem
distinct [] = []
distinct (element ∷ elements) = insert_key elem_cmp (distinct elements) element

-- elements that are borrowed
abbrev pub elements_of : List (Bor Elem) → List Elem
elements_of list = map (λ element. element.now) list

-- the entries of a value, ascending and each once
abbrev pub entries : KeyVal → List Entry
entries Nil = placeholder NullItem ∷ []
entries (Items []) = placeholder EmptyItem ∷ []
entries (Items (element ∷ elements)) = map entry_of (distinct (element ∷ elements))
entries other = []

-- a value that a column of arrays has
abbrev pub IsArrayOrNull : KeyVal → Type 0
IsArrayOrNull Nil = ⊤
IsArrayOrNull (Items elements) = ⊤
IsArrayOrNull other = ⊥
