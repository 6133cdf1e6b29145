-- What holds of the data, whatever the values are.
use Rattle.std.specs.Prelude.{◌≡◌, ℕ, ◌+◌, ◌^◌, ◌<◌, ◌≤◌, List, ◌++◌, length, take, sum_by}
use Rattle.opclass.specs.declared.types.ColType.{ColType}
use Rattle.opclass.specs.declared.value.KeyVal.{KeyVal}
use Rattle.opclass.specs.declared.value.KeyVal.TheVariants.{Nil, Num, Raw, Items}
use Rattle.tuple_data.specs.Data.{data_from, data_of}
use Rattle.tuple_data.specs.Reading.{AreStored, BeginsWithData}

-- the data of columns and of those behind them are the data of them all
abbrev pub ColumnsBehindFollow : Type 0
ColumnsBehindFollow =
    (kinds more_kinds : List ColType) (values more_values : List KeyVal) → length kinds ≡ length values
    → data_of (kinds ++ more_kinds) (values ++ more_values)
    ≡ data_of kinds values ++ data_from (length (data_of kinds values)) more_kinds more_values

-- the columns in front have the data in front
abbrev pub FrontColumnsHaveTheFront : Type 0
FrontColumnsHaveTheFront =
    (kept : ℕ) (kinds : List ColType) (values : List KeyVal)
    → (behind : List ℕ) × (data_of kinds values ≡ data_of (take kept kinds) (take kept values) ++ behind)

-- the most bytes that a value takes, wherever it stands: zeros before it, its header and its own
abbrev pub room_of : KeyVal → ℕ
room_of Nil = 0
room_of (Num number) = 15
room_of (Raw bytes) = 11 + length bytes
room_of (Items elements) = 0

-- the data take no more than the room of their values
abbrev pub DataTakeTheirRoom : Type 0
DataTakeTheirRoom =
    (kinds : List ColType) (values : List KeyVal) → length (data_of kinds values) ≤ sum_by room_of values

-- one list of values at most has its data in front of the same bytes
abbrev pub ValuesAreToldApart : Type 0
ValuesAreToldApart =
    (kinds : List ColType) (present : ℕ) (bytes : List ℕ) (values others : List KeyVal) → AreStored kinds → length bytes < 2 ^ 30
    → BeginsWithData kinds present bytes values → BeginsWithData kinds present bytes others → values ≡ others
