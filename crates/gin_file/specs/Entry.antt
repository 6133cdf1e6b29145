-- The entries that an index has (ginExtractEntries of ginutil.c).
use Rattle.std.specs.Prelude.{◌≡◌, ◌⊎◌}
use Rattle.opclass.specs.declared.types.ColType.{ColType}
use Rattle.opclass.specs.declared.types.Form.{Form}
use Rattle.opclass.specs.declared.types.Form.TheVariants.{Array}
use Rattle.opclass.specs.declared.value.Elem.{Elem}
use Rattle.opclass.specs.declared.value.KeyVal.{KeyVal}
use Rattle.opclass.specs.Types.{facts_of}
use Rattle.opclass.specs.Values.{IsValueOf}
use Rattle.gin_entry.specs.declared.entry.Category.TheVariants.{EmptyItem, NullItem}
use Rattle.gin_entry.specs.declared.entry.Entry.{Entry}
use Rattle.gin_entry.specs.Entries.{entry_of, placeholder}

-- an entry as values have them: of an element, of an array without elements, of a null
abbrev pub IsEntry : Entry → Type 0
IsEntry entry =
    ((element : Elem) × (entry ≡ entry_of element))
    ⊎ ((entry ≡ placeholder EmptyItem) ⊎ (entry ≡ placeholder NullItem))

-- a key of arrays' elements, or the null of an entry without a key
abbrev pub IsKeyOf : Form → KeyVal → Type 0
IsKeyOf (Array element) key = IsValueOf element key
IsKeyOf other key = ⊥

-- an entry of a column of arrays: its key is of the type of their elements
pub record IsEntryOf (kind : ColType) (entry : Entry) : Type 0 where
  pub entry_is : IsEntry entry
  pub key : IsKeyOf (facts_of kind).form entry.key
