-- The entries of rows of arrays, under which a GIN index finds them (ginBuildCallback of gininsert.c, GinMaxItemSize of
-- ginblock.h).
use Rattle.std.specs.Prelude.{◌≡◌, ℕ, ◌<◌, List, [], ◌∷◌, map, slice_index_or}
use Rattle.std.specs.List.{flat_map}
use Rattle.opclass.specs.declared.types.ColType.{ColType}
use Rattle.opclass.specs.declared.value.KeyVal.{KeyVal}
use Rattle.opclass.specs.declared.value.KeyVal.TheVariants.{Nil}
use Rattle.gin_entry.specs.declared.entry.Entry.{Entry}
use Rattle.gin_entry.specs.Entries.{HasEntry}
use Rattle.gin_entry.specs.EntryMap.{ArrayRow, IsGinMap, Posting}
use Rattle.gin_entry.specs.EntrySize.{entry_size}
use Rattle.gin_file.specs.EntryTuple.{most_size}
use Rattle.gin_pack.specs.File.{HasPostings}
use Rattle.gin_file.specs.Reading.{IsReadAsPostings}
use Rattle.shared_tape.specs.declared.stored.Record.{Record}
use Rattle.spool.specs.Gathers.{entry_records}

-- the value of a row's one column
abbrev pub array_of : Record → KeyVal
array_of row = slice_index_or row.keys 0 Nil

-- a row as a GIN index sees it
abbrev pub array_row : Record → ArrayRow
array_row row = record { value = array_of row; ptr = row.ptr }

-- one record for each entry of a row, and those of several rows
abbrev pub row_entries : Record → List Record
row_entries row = entry_records (array_of row) row.ptr

abbrev pub rows_entries : List Record → List Record
rows_entries rows = flat_map row_entries rows

-- an entry of the value of a column is too large: its tuple, with its posting list in a tree, is larger than a third of
-- a page
abbrev pub HasWideEntry : List ColType → List KeyVal → Type 0
HasWideEntry (kind ∷ []) (value ∷ []) =
    (entry : Entry) × HasEntry value entry × (most_size < entry_size kind entry)
HasWideEntry kinds values = ⊥

-- A file is the GIN index of rows: it is read as the map from their entries to their pointers, and built as a GIN index
-- is.
pub record IsGinIndexOf (kinds : List ColType) (rows : List Record) (file : List ℕ) : Type 0 where
  pub kind : ColType
  pub one : kinds ≡ kind ∷ []
  pub postings : List Posting
  pub map_is : IsGinMap (map array_row rows) postings
  pub read : IsReadAsPostings kind file postings
  pub built : HasPostings kind file postings
