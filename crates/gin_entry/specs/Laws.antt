-- What holds of entries and of their map, whatever the values are.
use Rattle.std.specs.Prelude.{◌≡◌, ◌≢◌, ◌↔◌, ◌+◌, ◌≤◌, List, [], Any, Contains}
use Rattle.std.specs.declared.cmp.Ordering.TheVariants.{Equal}
use Rattle.std.specs.Cmp.{IsTotalOrder}
use Rattle.std.specs.List.Sorted.{IsStrictlySortedBy}
use Rattle.opclass.specs.declared.value.Elem.{Elem}
use Rattle.opclass.specs.declared.value.KeyVal.{KeyVal}
use Rattle.opclass.specs.declared.value.KeyVal.TheVariants.{Items}
use Rattle.opclass.specs.declared.types.ColType.{ColType}
use Rattle.opclass.specs.Order.{key_cmp}
use Rattle.tuple_data.specs.Laws.{room_of}
use Rattle.gin_entry.specs.declared.entry.Entry.{Entry}
use Rattle.gin_entry.specs.Entries.{HasEntry, entries, entry_of}
use Rattle.gin_entry.specs.EntryOrder.{columns_of, entry_cmp, entry_order}
use Rattle.gin_entry.specs.EntrySize.{entry_size}
use Rattle.gin_entry.specs.EntryMap.{ArrayRow, Posting, IsGinMap}

-- entries have a total order
abbrev pub EntriesAreOrdered : Type 0
EntriesAreOrdered = IsTotalOrder entry_cmp

-- only equal entries compare equal
abbrev pub EntriesAreToldApart : Type 0
EntriesAreToldApart = (a b : Entry) → entry_cmp a b ≡ Equal → a ≡ b

-- entries compare as their columns do
abbrev pub ColumnsCompareAsEntries : Type 0
ColumnsCompareAsEntries = (a b : Entry) → key_cmp entry_order (columns_of a) (columns_of b) ≡ entry_cmp a b

-- a list of entries ascends, and has the entries of a value and no others
pub record AreEntries (value : KeyVal) (list : List Entry) : Type 0 where
  pub ascending : IsStrictlySortedBy entry_cmp list
  pub exactly : (entry : Entry) → Contains list entry ↔ HasEntry value entry

-- the entries of a value are such a list, and there is no other
abbrev pub EntriesAreExact : Type 0
EntriesAreExact = (value : KeyVal) → AreEntries value (entries value)

abbrev pub EntriesAreDetermined : Type 0
EntriesAreDetermined = (value : KeyVal) (list : List Entry) → AreEntries value list → list ≡ entries value

-- the entries of an array with elements are those of its elements: each element's is there, and nothing else
abbrev pub ElementsAreEntries : Type 0
ElementsAreEntries =
    (elements : List Elem) (entry : Entry) → elements ≢ []
    → Contains (entries (Items elements)) entry ↔ Any (λ element. entry ≡ entry_of element) elements

-- different elements have different entries
abbrev pub ElementsAreToldApart : Type 0
ElementsAreToldApart = (a b : Elem) → entry_of a ≡ entry_of b → a ≡ b

-- rows have at most one map
abbrev pub MapIsDetermined : Type 0
MapIsDetermined = (rows : List ArrayRow) (a b : List Posting) → IsGinMap rows a → IsGinMap rows b → a ≡ b

-- the tuple of an entry takes no more than the room of its key and 25 bytes
abbrev pub EntriesTakeTheirRoom : Type 0
EntriesTakeTheirRoom = (kind : ColType) (entry : Entry) → entry_size kind entry ≤ room_of entry.key + 25
