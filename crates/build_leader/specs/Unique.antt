-- The unique rule over sorted rows (_bt_load and comparetup_index_btree of tuplesortvariants.c, which meets equal keys
-- as neighbours; UNIQUE NULLS [NOT] DISTINCT).
use Rattle.std.specs.Prelude.{◌≡◌, ℕ, ◌+◌, ◌<◌, List, Some, slice_get}
use Rattle.opclass.specs.declared.spec.IndexSpec.{IndexSpec}
use Rattle.opclass.specs.Order.{Clashes}
use Rattle.pg_bytes.specs.declared.row_ptr.RowPtr.{RowPtr}
use Rattle.shared_tape.specs.declared.stored.Record.{Record}

-- two rows break the rule of an index
abbrev pub Clash : IndexSpec → Record → Record → Type 0
Clash spec a b = Clashes spec.nulls_distinct a.keys b.keys

-- a row and the next one break it
pub record ClashAt (spec : IndexSpec) (rows : List Record) (place : ℕ) (a b : Record) : Type 0 where
  pub one : slice_get rows place ≡ Some a
  pub next : slice_get rows (place + 1) ≡ Some b
  pub clash : Clash spec a b

-- no neighbours before a place break it
abbrev pub NoneClashBefore : IndexSpec → List Record → ℕ → Type 0
NoneClashBefore spec rows place =
    (earlier : ℕ) (a b : Record) → earlier < place → ClashAt spec rows earlier a b → ⊥

-- no neighbours break it
abbrev pub NoneClash : IndexSpec → List Record → Type 0
NoneClash spec rows = (place : ℕ) (a b : Record) → ClashAt spec rows place a b → ⊥

-- the first neighbours that break it, by their row pointers
pub record IsFirstClash (spec : IndexSpec) (rows : List Record) (first second : RowPtr) : Type 0 where
  pub place : ℕ
  pub a : Record
  pub b : Record
  pub clash : ClashAt spec rows place a b
  pub least : NoneClashBefore spec rows place
  pub first_is : first ≡ a.ptr
  pub second_is : second ≡ b.ptr
