-- What a gather keeps on its way.
use Rattle.std.specs.Prelude.{◌≡◌, ◌≤◌, ℕ, Bool, true, false, ⊤, List, [], ◌++◌, length}
use Rattle.std.specs.List.Sorted.{IsPermutation}
use Rattle.pg_bytes.specs.declared.row_ptr.RowPtr.{RowPtr}
use Rattle.gin_entry.specs.EntryOrder.{entry_order}
use Rattle.shared_tape.specs.declared.stored.Record.{Record}
use Rattle.spool.specs.Gathers.{GatherView}
use Rattle.spool.specs.declared.entry_spool.EntrySpool.{EntrySpool}
use Rattle.spool.specs.declared.gather.State.{State}
use Rattle.spool.specs.declared.gather.State.TheVariants.{Fresh, Open, Spent}

-- a record that is filled for one entry after the other has room for its keys, and no INCLUDE values
pub record IsScratch (row : Record) : Type 0 where
  pub keys : length row.keys ≤ 2
  pub extra : row.extra ≡ []

-- entries go into a spool of their order
pub record IsReady (entries : EntrySpool) : Type 0 where
  pub order : entries.spool.order ≡ entry_order
  pub row : IsScratch entries.row

-- no entries yet
pub record IsFresh (most : ℕ) (entries : EntrySpool) : Type 0 where
  pub ready : IsReady entries
  pub run_rows : entries.spool.run_rows ≡ most
  pub none : entries.spool.records ≡ []

-- entries whose next records have this row pointer
abbrev pub at_row : RowPtr → EntrySpool → EntrySpool
at_row ptr entries = record entries { row = record entries.row { ptr = ptr } }

-- records joined those that were put, the row pointer and the bound of runs stayed
pub record Takes (old : EntrySpool) (records : List Record) (new : EntrySpool) : Type 0 where
  pub ready : IsReady new
  pub run_rows : new.spool.run_rows ≡ old.spool.run_rows
  pub ptr : new.row.ptr ≡ old.row.ptr
  pub taken : IsPermutation (old.spool.records ++ records) new.spool.records

-- the records that a gather has, and whether memory ran out
abbrev pub held_by : State → List Record
held_by Fresh = []
held_by (Open entries) = entries.spool.records
held_by Spent = []

abbrev pub is_spent : State → Bool
is_spent Fresh = false
is_spent (Open entries) = false
is_spent Spent = true

-- what entries go into has a gather's bound
pub record IsBoundedBy (most : ℕ) (entries : EntrySpool) : Type 0 where
  pub ready : IsReady entries
  pub run_rows : entries.spool.run_rows ≡ most

abbrev pub Suits : ℕ → State → Type 0
Suits most Fresh = ⊤
Suits most (Open entries) = IsBoundedBy most entries
Suits most Spent = ⊤

-- what a gather puts entries into, with its records and its bound
pub record IsOpenOf (gather : GatherView) (entries : EntrySpool) : Type 0 where
  pub bounded : IsBoundedBy gather.run_rows entries
  pub records : entries.spool.records ≡ gather.records
