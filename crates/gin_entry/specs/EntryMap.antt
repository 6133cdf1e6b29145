-- The map that a GIN index is: from each entry that some row has to the rows that have it (GinBtreeEntry, the entry tree
-- and the posting lists of ginblock.h).
use Rattle.std.specs.Prelude.{◌≡◌, ◌↔◌, ◌<◌, List, length, map, All, Any, Contains}
use Rattle.std.specs.List.Sorted.{IsStrictlySortedBy}
use Rattle.pg_bytes.specs.declared.row_ptr.RowPtr.{RowPtr}
use Rattle.opclass.specs.declared.value.KeyVal.{KeyVal}
use Rattle.opclass.specs.Order.{pointer_cmp}
use Rattle.gin_entry.specs.declared.entry.Entry.{Entry}
use Rattle.gin_entry.specs.Entries.{HasEntry}
use Rattle.gin_entry.specs.EntryOrder.{entry_cmp}

-- a row as a GIN index sees it: the value of its column, and its pointer
pub record ArrayRow : Type 0 where
  pub value : KeyVal
  pub ptr : RowPtr

-- an entry leads to a row that has it
abbrev pub LeadsTo : List ArrayRow → Entry → RowPtr → Type 0
LeadsTo rows entry ptr = Any (λ row. HasEntry row.value entry × (row.ptr ≡ ptr)) rows

-- an entry and its posting list, the pointers of its rows
pub record Posting : Type 0 where
  pub entry : Entry
  pub pointers : List RowPtr

-- an entry has a pointer in its posting list
abbrev pub HasPosting : List Posting → Entry → RowPtr → Type 0
HasPosting postings entry ptr = Any (λ posting. (posting.entry ≡ entry) × Contains posting.pointers ptr) postings

-- a posting list has a pointer, and its pointers ascend
pub record IsPostingList (pointers : List RowPtr) : Type 0 where
  pub some : 0 < length pointers
  pub ascending : IsStrictlySortedBy pointer_cmp pointers

-- Postings are the map that says to which pointers entries lead: entries ascend, and each leads to the pointers of its
-- list and to no others. An entry that leads nowhere isn't there.
pub record IsMapOf (Leads : Entry → RowPtr → Type 0) (postings : List Posting) : Type 0 where
  pub ascending : IsStrictlySortedBy entry_cmp (map (λ posting. posting.entry) postings)
  pub lists : All (λ posting. IsPostingList posting.pointers) postings
  pub exactly : (entry : Entry) (ptr : RowPtr) → HasPosting postings entry ptr ↔ Leads entry ptr

-- the map of rows
abbrev pub IsGinMap : List ArrayRow → List Posting → Type 0
IsGinMap rows postings = IsMapOf (LeadsTo rows) postings
