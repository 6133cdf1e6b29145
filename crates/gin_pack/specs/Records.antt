-- The records that a GIN index is packed from.
use Rattle.std.specs.Prelude.{◌≡◌, ◌^◌, ◌<◌, ◌≤◌}
use Rattle.opclass.specs.declared.types.ColType.{ColType}
use Rattle.gin_entry.specs.declared.entry.Entry.{Entry}
use Rattle.gin_entry.specs.EntryOrder.{columns_of}
use Rattle.gin_entry.specs.EntrySize.{entry_size}
use Rattle.posting_tree.specs.Segments.{IsStorable}
use Rattle.shared_tape.specs.declared.stored.Record.{Record}
use Rattle.gin_file.specs.Entry.{IsEntryOf}
use Rattle.gin_file.specs.EntryTuple.{most_size}

-- a record of an entry of the column's type whose tuple isn't too large, and of a row whose pointer a posting list may have
pub record IsEntryRecord (kind : ColType) (row : Record) : Type 0 where
  pub entry : Entry
  pub keys : row.keys ≡ columns_of entry
  pub is_entry : IsEntryOf kind entry
  pub small : entry_size kind entry ≤ most_size
  pub pointer : IsStorable row.ptr
  pub block : row.ptr.block < 2 ^ 32
