-- The postings of sorted records: an entry's records stand together, and are its posting (GinBuffer of gininsert.c).
use Rattle.std.specs.Prelude.{◌≡◌, ◌≢◌, ◌≤◌, List, length, map, All}
use Rattle.std.specs.List.{AllByRecursion, flat_map}
use Rattle.std.specs.List.Sorted.{IsStrictlySortedBy}
use Rattle.pg_bytes.specs.declared.row_ptr.RowPtr.{RowPtr}
use Rattle.opclass.specs.declared.types.ColType.{ColType}
use Rattle.opclass.specs.declared.value.KeyVal.{KeyVal}
use Rattle.opclass.specs.Order.{pointer_cmp}
use Rattle.gin_entry.specs.EntryMap.{Posting}
use Rattle.gin_entry.specs.EntryOrder.{columns_of, entry_cmp}
use Rattle.gin_entry.specs.EntrySize.{entry_size}
use Rattle.posting_tree.specs.Segments.{AreAscending, HaveBlocks}
use Rattle.shared_tape.specs.declared.stored.Record.{Record}
use Rattle.run_merge.specs.Sorted.{row_of}
use Rattle.gin_file.specs.EntryTuple.{most_size}
use Rattle.gin_file.specs.Entry.{IsEntryOf}

-- an entry and its pointers that an index over a column of this type may have
pub record IsListed (kind : ColType) (posting : Posting) : Type 0 where
  pub is_entry : IsEntryOf kind posting.entry
  pub small : entry_size kind posting.entry ≤ most_size
  pub some : 1 ≤ length posting.pointers
  pub ascending : AreAscending posting.pointers
  pub blocks : HaveBlocks posting.pointers

-- such a posting, whose pointers are in their order
pub record IsTold (kind : ColType) (posting : Posting) : Type 0 where
  pub listed : IsListed kind posting
  pub sorted : IsStrictlySortedBy pointer_cmp posting.pointers

-- the pairs of an entry and its pointers, as records have them
abbrev pub pairs_of : Posting → List (List KeyVal × RowPtr)
pairs_of posting = map (λ pointer. (columns_of posting.entry, pointer)) posting.pointers

-- Postings have the pairs of records, in their order, and each entry once: entries ascend strictly.
pub record ArePostingsOf (kind : ColType) (records : List Record) (postings : List Posting) : Type 0 where
  pub pairs : map row_of records ≡ flat_map pairs_of postings
  pub ascending : IsStrictlySortedBy entry_cmp (map (λ posting. posting.entry) postings)
  pub each : AllByRecursion (IsTold kind) postings

-- no record of these has the keys of one of those, so that no entry stands on both sides
abbrev pub KeysPart : List Record → List Record → Type 0
KeysPart records others = All (λ row. All (λ other. row.keys ≢ other.keys) others) records
