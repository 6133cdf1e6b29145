-- What follows from the definitions of a GIN index alone (ginarrayextract of ginarrayproc.c).
use Rattle.std.specs.Prelude.{◌≡◌, ◌↔◌, ℕ, List, [], map, Any, Contains}
use Rattle.pg_bytes.specs.declared.row_ptr.RowPtr.{RowPtr}
use Rattle.opclass.specs.declared.spec.IndexSpec.{IndexSpec}
use Rattle.opclass.specs.declared.table.Table.{Table}
use Rattle.opclass.specs.declared.value.Elem.{Elem}
use Rattle.opclass.specs.declared.value.KeyVal.{KeyVal}
use Rattle.opclass.specs.declared.value.KeyVal.TheVariants.{Nil, Items}
use Rattle.gin_entry.specs.declared.entry.Category.TheVariants.{EmptyItem, NullItem}
use Rattle.gin_entry.specs.declared.entry.Entry.{Entry}
use Rattle.gin_entry.specs.Entries.{entry_of, placeholder}
use Rattle.gin_entry.specs.EntryMap.{HasPosting, IsGinMap, Posting}
use Rattle.shared_tape.specs.declared.stored.Record.{Record}
use Rattle.build_leader.specs.Entries.{array_of, array_row}
use Rattle.build_leader.specs.HeapRows.{AreHeapRows, HasSoundBlocks}

-- a value is an array that has an element
abbrev pub HasElement : Elem → KeyVal → Type 0
HasElement element (Items elements) = Contains elements element
HasElement element other = ⊥

-- the rows of an index over a sound heap, and the map of them
pub record AreMapped (table : Table) (spec : IndexSpec) (heap : List ℕ) (rows : List Record) (postings : List Posting)
    : Type 0 where
  pub sound : HasSoundBlocks table spec heap
  pub of_heap : AreHeapRows table spec heap rows
  pub map_is : IsGinMap (map array_row rows) postings

-- an element leads to a row exactly where the row's array has it
abbrev pub ElementsLeadToTheirRows : Type 0
ElementsLeadToTheirRows =
    (table : Table) (spec : IndexSpec) (heap : List ℕ) (rows : List Record) (postings : List Posting) (row : Record)
    (element : Elem) → AreMapped table spec heap rows postings → Contains rows row
    → HasPosting postings (entry_of element) row.ptr ↔ HasElement element (array_of row)

-- what stands for a null leads to a row exactly where the row's value is null
abbrev pub NullsLeadToTheirRows : Type 0
NullsLeadToTheirRows =
    (table : Table) (spec : IndexSpec) (heap : List ℕ) (rows : List Record) (postings : List Posting) (row : Record)
    → AreMapped table spec heap rows postings → Contains rows row
    → HasPosting postings (placeholder NullItem) row.ptr ↔ (array_of row ≡ Nil)

-- and what stands for an array without elements where the row's array has none
abbrev pub EmptyArraysLeadToTheirRows : Type 0
EmptyArraysLeadToTheirRows =
    (table : Table) (spec : IndexSpec) (heap : List ℕ) (rows : List Record) (postings : List Posting) (row : Record)
    → AreMapped table spec heap rows postings → Contains rows row
    → HasPosting postings (placeholder EmptyItem) row.ptr ↔ (array_of row ≡ Items [])

-- no entry leads anywhere but to rows
abbrev pub PostingsPointToRows : Type 0
PostingsPointToRows =
    (table : Table) (spec : IndexSpec) (heap : List ℕ) (rows : List Record) (postings : List Posting) (entry : Entry)
    (ptr : RowPtr) → AreMapped table spec heap rows postings → HasPosting postings entry ptr
    → Any (λ row. row.ptr ≡ ptr) rows
