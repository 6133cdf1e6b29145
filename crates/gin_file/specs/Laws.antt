-- What holds of tuples and of files, whatever their bytes are.
use Rattle.std.specs.Prelude.{◌≡◌, ℕ, Bool, List}
use Rattle.opclass.specs.declared.types.ColType.{ColType}
use Rattle.gin_entry.specs.EntryMap.{Posting}
use Rattle.gin_file.specs.Item.{IsTupleOf}
use Rattle.gin_file.specs.Reading.{IsReadAsPostings}
use Rattle.gin_file.specs.declared.entry_reading.EntryItem.{EntryItem}

-- bytes are the tuple of one item at most
abbrev pub TuplesAreOfOneItem : Type 0
TuplesAreOfOneItem =
    (kind : ColType) (leaf : Bool) (bytes : List ℕ) (one other : EntryItem)
    → IsTupleOf kind leaf bytes one → IsTupleOf kind leaf bytes other → one ≡ other

-- a file is read as one list of postings at most
abbrev pub FilesAreReadAsOneMap : Type 0
FilesAreReadAsOneMap =
    (kind : ColType) (file : List ℕ) (one other : List Posting)
    → IsReadAsPostings kind file one → IsReadAsPostings kind file other → one ≡ other
