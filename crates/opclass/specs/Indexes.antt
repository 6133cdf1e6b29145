-- Which tables there are and which indexes over them (DefineIndex of indexcmds.c, INDEX_MAX_KEYS). The statements describe
-- these, and the layers above ask for these and for no others.
use Rattle.std.specs.Prelude.{◌≡◌, ◌≢◌, ◌⊎◌, ⊤, ℕ, ◌+◌, ◌-◌, ◌^◌, ◌<◌, ◌≤◌, ℤ, pos, true, false, [], length, All, AllPairs, Some, slice_get, unsigned_abs}
use Rattle.opclass.specs.declared.types.Compared.{Compared}
use Rattle.opclass.specs.declared.types.Compared.TheVariants.{WithNumber, WithText, WithTruth}
use Rattle.opclass.specs.declared.types.Method.{Method}
use Rattle.opclass.specs.declared.types.Method.TheVariants as method
use Rattle.opclass.specs.declared.filter.Op.TheVariants.{Eq, Ne}
use Rattle.opclass.specs.declared.filter.Test.{Test}
use Rattle.opclass.specs.declared.filter.Test.TheVariants.{IsNull, NotNull, Num, Raw}
use Rattle.opclass.specs.declared.filter.Cond.{Cond}
use Rattle.opclass.specs.declared.spec.IndexSpec.{IndexSpec}
use Rattle.opclass.specs.declared.spec.KeyCol.{KeyCol}
use Rattle.opclass.specs.declared.table.Column.{Column}
use Rattle.opclass.specs.declared.table.Table.{Table}
use Rattle.opclass.specs.Types.{facts_of, takes_key}

-- a table has 1 to 1,600 columns, no two of one name
pub record IsTable (table : Table) : Type 0 where
  pub some : 0 < length table.columns
  pub most : length table.columns ≤ 1600
  pub differ : AllPairs (λ a b. a.name ≢ b.name) table.columns

-- the columns that an index may have, INCLUDE columns among them
abbrev pub most_columns : Method → ℕ
most_columns method.Gin = 1
most_columns other = 32

-- a number is that of a column of a table whose type an index method takes
pub record IsKeyOf (table : Table) (index_method : Method) (number : ℕ) : Type 0 where
  pub column : Column
  pub above : 0 < number
  pub found : slice_get table.columns (number - 1) ≡ Some column
  pub taken : takes_key index_method (facts_of column.kind).key_use ≡ true

-- a key is sorted as it is where nothing is said: ascending, with nulls last
pub record IsPlain (key : KeyCol) : Type 0 where
  pub ascending : key.descending ≡ false
  pub nulls_last : key.nulls_first ≡ false

-- the most digits of a number that a column is compared with
abbrev pub number_digits : ℕ
number_digits = 18

-- a number has so many digits, and a sign
abbrev pub IsNumber : ℤ → Type 0
IsNumber value = unsigned_abs value < 10 ^ number_digits

-- a truth value, as a number
abbrev pub IsTruth : ℤ → Type 0
IsTruth value = (value ≡ pos 0) ⊎ (value ≡ pos 1)

-- a test is one that values are put to which are compared so: a truth value is equal or not
abbrev pub IsTestOf : Compared → Test → Type 0
IsTestOf compared IsNull = ⊤
IsTestOf compared NotNull = ⊤
IsTestOf WithNumber (Num op value) = IsNumber value
IsTestOf WithTruth (Num Eq value) = IsTruth value
IsTestOf WithTruth (Num Ne value) = IsTruth value
IsTestOf WithText (Raw op value) = ⊤
IsTestOf compared test = ⊥

-- a condition is on a column of a table, whose type fits the test
pub record IsConditionOn (table : Table) (condition : Cond) : Type 0 where
  pub column : Column
  pub above : 0 < condition.column
  pub found : slice_get table.columns (condition.column - 1) ≡ Some column
  pub fits : IsTestOf (facts_of column.kind).compared condition.test

-- an index over a table
pub record IsIndexOver (table : Table) (spec : IndexSpec) : Type 0 where
  -- columns of the table of types that the method takes, 1 to 32 with INCLUDE's, for GIN one
  pub keys : All (λ key. IsKeyOf table spec.method key.column) spec.keys
  pub includes : All (IsKeyOf table spec.method) spec.includes
  pub some : 0 < length spec.keys
  pub most : length spec.keys + length spec.includes ≤ most_columns spec.method
  -- what a B-tree alone has: unique keys, keys sorted in another way, and INCLUDE columns
  pub unique : spec.method ≢ method.BTree → spec.unique ≡ false
  pub plain : spec.method ≢ method.BTree → All IsPlain spec.keys
  pub no_includes : spec.method ≢ method.BTree → spec.includes ≡ []
  -- nulls are equal in a unique index alone
  pub distinct : spec.unique ≡ false → spec.nulls_distinct ≡ true
  -- the ranges of the options
  pub fillfactor : (10 ≤ spec.fillfactor) × (spec.fillfactor ≤ 100)
  pub pages_per_range : (1 ≤ spec.pages_per_range) × (spec.pages_per_range ≤ 131072)
  -- and what they are where the method hasn't them
  pub default_fillfactor : spec.method ≢ method.BTree → spec.fillfactor ≡ 90
  pub default_deduplicate : spec.method ≢ method.BTree → spec.deduplicate ≡ true
  pub default_pages : spec.method ≢ method.Brin → spec.pages_per_range ≡ 128
  -- conditions on columns of the table
  pub filter : All (IsConditionOn table) spec.filter
