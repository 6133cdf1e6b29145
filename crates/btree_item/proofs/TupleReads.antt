-- The values that are read of an index tuple.
use Rattle.std.proofs.Common.{◌≡◌, ◌-◌, ◌^◌, ◌<◌, ◌≤◌, ℕ, List, length, drop, sym, ap, subst, ◌∙◌, arith, length-append, length-drop, inl, inr, Some, None, IfOk, IfSome, MatchOption}
use Rattle.std.specs.Prelude.{Option, Result, Ok, Err}
use Rattle.std.specs.List.{AllZip}
use Rattle.std.proofs.lemmas.Bool.{cases_lt}
use Rattle.pg_bytes.specs.Numbers.{number_at}
use Rattle.pg_bytes.specs.declared.row_ptr.RowPtr.{RowPtr}
use Rattle.opclass.specs.declared.types.ColType.{ColType}
use Rattle.opclass.specs.declared.value.KeyVal.{KeyVal}
use Rattle.opclass.specs.Values.{IsValueOf}
use Rattle.tuple_data.specs.Data.{data_of}
use Rattle.tuple_data.specs.Nulls.{has_null}
use Rattle.tuple_data.specs.Reading.{AreStored, BeginsWithData}
use Rattle.tuple_data.proofs.OneReading.{reading_once}
use Rattle.btree_item.specs.Tuple.{bitmap_size, size_of}
use Rattle.btree_item.specs.TupleReading.{BeginsWithTuple}
use Rattle.btree_item.proofs.TupleFronts.{all-there, mark-most, some-there}

-- what the data of a tuple are read as
abbrev pub IsReadAs : List ColType → ℕ → List ℕ → Option (List KeyVal) → Type 0
IsReadAs kinds present bytes read =
    MatchOption read ((values : List KeyVal) → BeginsWithData kinds present bytes values → ⊥) (λ values. BeginsWithData kinds present bytes values)

-- only the values that are read have these data
pub data-only : {E : Type 0} (kinds : List ColType) (present : ℕ) (bytes : List ℕ) (result : Result (Option (List KeyVal)) E)
    → AreStored kinds → length bytes ≤ 2712 → IfOk result (IsReadAs kinds present bytes)
    → IfOk result (λ read. (values : List KeyVal) → BeginsWithData kinds present bytes values → read ≡ Some values)
data-only kinds present bytes (Err e) stored few read = tt
data-only kinds present bytes (Ok None) stored few read = λ values b. absurd (read values b)
data-only kinds present bytes (Ok (Some found)) stored few read = λ values b.
    ap (λ (v : List KeyVal). Some v) (reading_once kinds present bytes found values stored (omega arith) read b)

pub data-typed : {E : Type 0} (kinds : List ColType) (present : ℕ) (bytes : List ℕ) (result : Result (Option (List KeyVal)) E)
    → IfOk result (IsReadAs kinds present bytes) → IfOk result (λ read. IfSome read (AllZip IsValueOf kinds))
data-typed kinds present bytes (Err e) read = tt
data-typed kinds present bytes (Ok None) read = tt
data-typed kinds present bytes (Ok (Some found)) read = read.typed

-- the tuple of values whose data are in a few bytes is small
pub size-small : (kinds : List ColType) (values : List KeyVal) (present : ℕ) (bytes : List ℕ) → length bytes ≤ 2712
    → BeginsWithData kinds present bytes values → size_of kinds values < 2 ^ 13
unfolding size_of
size-small kinds values present bytes few b =
    let whole = ap length b.«data» ∙ length-append (data_of kinds values) b.behind in
    let bitmap : bitmap_size values ≤ 8 = mark-most (has_null values) 8 in
    omega arith

pub data-small : {E : Type 0} (kinds : List ColType) (present : ℕ) (bytes : List ℕ) (result : Result (Option (List KeyVal)) E)
    → length bytes ≤ 2712 → IfOk result (IsReadAs kinds present bytes) → IfOk result (λ read. IfSome read (λ values. size_of kinds values < 2 ^ 13))
data-small kinds present bytes (Err e) few read = tt
data-small kinds present bytes (Ok None) few read = tt
data-small kinds present bytes (Ok (Some found)) few read = size-small kinds found present bytes few read

-- one tuple at most begins the same bytes
pub values-once : (kinds : List ColType) (bytes : List ℕ) (front front' : RowPtr) (size size' : ℕ) (values others : List KeyVal)
    → AreStored kinds → length kinds ≤ 32 → length bytes ≤ 2712
    → BeginsWithTuple kinds bytes front size values → BeginsWithTuple kinds bytes front' size' others → values ≡ others
values-once kinds bytes front front' size size' values others stored few most b c =
    elim (cases_lt (number_at 2 bytes 6) 0x8000) [
      | inl low ↦
          let cut = length-drop 8 bytes in
          reading_once kinds (2 ^ length kinds - 1) (drop 8 bytes) values others stored (omega arith)
          (all-there kinds bytes front size values b low) (all-there kinds bytes front' size' others c low)
      | inr high ↦
          let cut = length-drop 16 bytes in
          reading_once kinds (number_at 4 bytes 8) (drop 16 bytes) values others stored (omega arith)
          (some-there kinds bytes front size values few b (omega arith)).begins
          (some-there kinds bytes front' size' others few c (omega arith)).begins
    ]

-- the values of a tuple are those that were read of its data
pub low-only : {E : Type 0} (kinds : List ColType) (bytes slice : List ℕ) (present : ℕ) (result : Result (Option (List KeyVal)) E)
    → slice ≡ drop 8 bytes → present ≡ 2 ^ length kinds - 1 → number_at 2 bytes 6 < 0x8000
    → IfOk result (λ read. (values : List KeyVal) → BeginsWithData kinds present slice values → read ≡ Some values)
    → IfOk result (λ read. (front : RowPtr) (size : ℕ) (values : List KeyVal) → BeginsWithTuple kinds bytes front size values → read ≡ Some values)
low-only kinds bytes slice present (Err e) cut bits low only = tt
low-only kinds bytes slice present (Ok read) cut bits low only = λ front size values b.
    only values
    (subst (λ (n : ℕ). BeginsWithData kinds n slice values) (sym bits)
    (subst (λ (l : List ℕ). BeginsWithData kinds (2 ^ length kinds - 1) l values) (sym cut) (all-there kinds bytes front size values b low)))

pub high-only : {E : Type 0} (kinds : List ColType) (bytes slice : List ℕ) (present : ℕ) (result : Result (Option (List KeyVal)) E)
    → length kinds ≤ 32 → slice ≡ drop 16 bytes → present ≡ number_at 4 bytes 8 → 0x8000 ≤ number_at 2 bytes 6
    → IfOk result (λ read. (values : List KeyVal) → BeginsWithData kinds present slice values → read ≡ Some values)
    → IfOk result (λ read. (front : RowPtr) (size : ℕ) (values : List KeyVal) → BeginsWithTuple kinds bytes front size values → read ≡ Some values)
high-only kinds bytes slice present (Err e) few cut bits high only = tt
high-only kinds bytes slice present (Ok read) few cut bits high only = λ front size values b.
    only values
    (subst (λ (n : ℕ). BeginsWithData kinds n slice values) (sym bits)
    (subst (λ (l : List ℕ). BeginsWithData kinds (number_at 4 bytes 8) l values) (sym cut) (some-there kinds bytes front size values few b high).begins))
