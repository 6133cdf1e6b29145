-- What follows from the definitions alone.
use Rattle.std.specs.Prelude.{◌≡◌, ◌≢◌, ℕ, ◌+◌, ◌<◌, ◌≤◌, All, List, length, Some, Result, Ok, Err}
use Rattle.opclass.specs.declared.table.Column.{Column}
use Rattle.opclass.specs.declared.value.KeyVal.{KeyVal}
use Rattle.heap_page.specs.Tuple.{header_of, item_of}
use Rattle.heap_row.specs.declared.attribute.Attribute.{Attribute}
use Rattle.heap_row.specs.declared.fault.RowFault.{RowFault}
use Rattle.heap_row.specs.declared.fault.RowFault.TheVariants.{Memory}
use Rattle.heap_row.specs.Attribute.{AreColumnsOf, attribute_of, values_of}
use Rattle.heap_row.specs.Fault.{IsAnswerOf}
use Rattle.heap_row.specs.Tuple.{HeapTuple, tuple_of}
use Rattle.heap_row.specs.Typed.{AreReadOf}

-- a tuple's bytes, the columns of the table and the needed ones determine the answer, but for want of memory
abbrev pub ValuesAreDetermined : Type 0
ValuesAreDetermined =
    (page : List ℕ) (item : ℕ) (columns : List Column) (needed : List ℕ) (a b : Result (List KeyVal) RowFault)
    → IsAnswerOf (values_of (tuple_of page item) columns needed) a
    → IsAnswerOf (values_of (tuple_of page item) columns needed) b
    → a ≢ Err Memory → b ≢ Err Memory → a ≡ b

-- an attribute has the byte at this place of the tuple's data
abbrev pub HasByte : Attribute → ℕ → Type 0
HasByte attribute place = (attribute.start ≤ place) × (place < attribute.start + attribute.stored.total)

-- each attribute of an item lies inside it
abbrev pub AttributesAreInside : Type 0
AttributesAreInside =
    (page : List ℕ) (item : ℕ) (columns : List Column) (before : ℕ) (attribute : Attribute) (place : ℕ)
    → attribute_of (tuple_of page item) columns before ≡ Ok (Some attribute) → HasByte attribute place
    → (header_of page item).hoff + place < length (item_of page item)

-- no two attributes of a tuple have a byte in common
abbrev pub AttributesAreApart : Type 0
AttributesAreApart =
    (tuple : HeapTuple) (columns : List Column) (a b : ℕ) (first second : Attribute) (place : ℕ)
    → attribute_of tuple columns a ≡ Ok (Some first) → attribute_of tuple columns b ≡ Ok (Some second) → a ≢ b
    → HasByte first place → HasByte second place → ⊥

-- what is read of a tuple's data are values of their columns' types, none longer than the data
abbrev pub ValuesAreOfTheirTypes : Type 0
ValuesAreOfTheirTypes =
    (tuple : HeapTuple) (columns : List Column) (needed : List ℕ) (values : List KeyVal)
    → All (λ byte. byte < 256) tuple.body → AreColumnsOf columns needed → values_of tuple columns needed ≡ Ok values
    → AreReadOf columns (length tuple.body) needed values
