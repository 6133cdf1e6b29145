-- What the reading of a tuple keeps on its way.
use Rattle.std.specs.Prelude.{◌≡◌, ℕ, ◌^◌, ◌<◌, List, ◌++◌}
use Rattle.pg_bytes.specs.declared.row_ptr.RowPtr.{RowPtr}
use Rattle.opclass.specs.declared.types.ColType.{ColType}
use Rattle.gin_entry.specs.declared.entry.Entry.{Entry}
use Rattle.gin_entry.specs.Entries.{number_of_category}
use Rattle.gin_entry.specs.EntrySize.{key_data}
use Rattle.gin_entry.specs.declared.entry.Category.TheVariants.{Key}
use Rattle.posting_tree.specs.Segments.{AreAscending, HaveBlocks, IsPart, segment}
use Rattle.gin_file.specs.Entry.{IsEntryOf}
use Rattle.gin_file.specs.EntryTuple.{key_part}

-- bytes begin as a tuple of an entry does
pub record BeginsWithEntry (kind : ColType) (bytes : List ℕ) (entry : Entry) : Type 0 where
  pub entry_is : IsEntryOf kind entry
  pub front : RowPtr
  pub size : ℕ
  pub small : size < 2 ^ 13
  pub rest : List ℕ
  pub bytes_are : bytes ≡ key_part kind entry front size ++ rest

-- bytes begin with the data of an entry's key
pub record BeginsWithKey (kind : ColType) (bytes : List ℕ) (entry : Entry) : Type 0 where
  pub entry_is : IsEntryOf kind entry
  pub of_key : entry.category ≡ number_of_category Key
  pub rest : List ℕ
  pub bytes_are : bytes ≡ key_data kind entry ++ rest

-- bytes begin with the segment of pointers
pub record BeginsWithSegment (bytes : List ℕ) (pointers : List RowPtr) : Type 0 where
  pub ascending : AreAscending pointers
  pub blocks : HaveBlocks pointers
  pub part : IsPart pointers
  pub rest : List ℕ
  pub bytes_are : bytes ≡ segment pointers ++ rest
