-- The tuples of the entry tree as values (ginentrypage.c): what a tuple says, and which tuples there are.
use Rattle.std.specs.Prelude.{◌≡◌, ℕ, ◌^◌, ◌<◌, ◌≤◌, Bool, true, false, List}
use Rattle.pg_bytes.specs.declared.row_ptr.RowPtr.{RowPtr}
use Rattle.opclass.specs.declared.types.ColType.{ColType}
use Rattle.gin_entry.specs.declared.entry.Entry.{Entry}
use Rattle.gin_entry.specs.EntrySize.{entry_size}
use Rattle.posting_tree.specs.Segments.{AreAscending, HaveBlocks, IsPart}
use Rattle.gin_file.specs.Entry.{IsEntryOf}
use Rattle.gin_file.specs.EntryTuple.{inner_tuple, list_size, list_tuple, most_size, tree_tuple}
use Rattle.gin_file.specs.declared.entry_reading.EntryItem.{EntryItem}
use Rattle.gin_file.specs.declared.entry_reading.EntryItem.TheVariants as item

-- a posting list that a tuple may have: one segment, and the tuple isn't too large
pub record IsListIn (kind : ColType) (entry : Entry) (pointers : List RowPtr) : Type 0 where
  pub ascending : AreAscending pointers
  pub blocks : HaveBlocks pointers
  pub segment : IsPart pointers
  pub small : list_size kind entry pointers ≤ most_size

-- an entry that leads to a block: t_info has 13 bits for the tuple's size (INDEX_SIZE_MASK)
pub record LeadsToBlock (kind : ColType) (entry : Entry) (block : ℕ) : Type 0 where
  pub size : entry_size kind entry < 2 ^ 13
  pub block_is : block < 2 ^ 32

-- a tuple that pages of the entry tree have: on leaves an entry with its list or the root of its posting tree, above
-- them an entry with the page below
abbrev pub IsItemOf : ColType → Bool → EntryItem → Type 0
IsItemOf kind true (item.List entry pointers) = IsEntryOf kind entry × IsListIn kind entry pointers
IsItemOf kind true (item.Tree entry root) = IsEntryOf kind entry × LeadsToBlock kind entry root
IsItemOf kind false (item.Inner entry child) = IsEntryOf kind entry × LeadsToBlock kind entry child
IsItemOf kind leaf other = ⊥

-- its bytes
abbrev pub tuple_of_item : ColType → EntryItem → List ℕ
tuple_of_item kind (item.List entry pointers) = list_tuple kind entry pointers
tuple_of_item kind (item.Tree entry root) = tree_tuple kind entry root
tuple_of_item kind (item.Inner entry child) = inner_tuple kind (record { child = child; key = entry })

-- bytes are the tuple that says this
pub record IsTupleOf (kind : ColType) (leaf : Bool) (bytes : List ℕ) (entry_item : EntryItem) : Type 0 where
  pub is_item : IsItemOf kind leaf entry_item
  pub bytes_are : bytes ≡ tuple_of_item kind entry_item
