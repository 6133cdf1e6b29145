-- What is read of a row: of each column a value that its type has (pg_type.dat), no longer than what it is read from.
use Rattle.std.specs.Prelude.{◌≡◌, ℕ, ◌-◌, ◌≤◌, All, List, [], ◌∷◌, length, slice_get, Some, ⊤}
use Rattle.opclass.specs.declared.table.Column.{Column}
use Rattle.opclass.specs.declared.value.Elem.{Elem}
use Rattle.opclass.specs.declared.value.Elem.TheVariants as elem
use Rattle.opclass.specs.declared.value.KeyVal.{KeyVal}
use Rattle.opclass.specs.declared.value.KeyVal.TheVariants.{Nil, Num, Raw, Items}
use Rattle.opclass.specs.Values.{IsValueOf}

-- an element of an array has at most so many bytes
abbrev pub ElementHasAtMost : ℕ → Elem → Type 0
ElementHasAtMost most elem.Null = ⊤
ElementHasAtMost most (elem.Num number) = ⊤
ElementHasAtMost most (elem.Raw bytes) = length bytes ≤ most

-- a value has at most so many bytes, and each element of one that is an array
abbrev pub HasAtMost : ℕ → KeyVal → Type 0
HasAtMost most Nil = ⊤
HasAtMost most (Num number) = ⊤
HasAtMost most (Raw bytes) = length bytes ≤ most
HasAtMost most (Items elements) = All (ElementHasAtMost most) elements

-- a value of the column with this number, counted from 1, which has at most so many bytes
pub record IsReadOf (columns : List Column) (most number : ℕ) (value : KeyVal) : Type 0 where
  pub column : Column
  pub found : slice_get columns (number - 1) ≡ Some column
  pub typed : IsValueOf column.kind value
  pub short : HasAtMost most value

-- values of the columns with these numbers, one by one
abbrev pub AreReadOf : List Column → ℕ → List ℕ → List KeyVal → Type 0
AreReadOf columns most [] [] = ⊤
AreReadOf columns most [] (value ∷ values) = ⊥
AreReadOf columns most (number ∷ numbers) [] = ⊥
AreReadOf columns most (number ∷ numbers) (value ∷ values) =
    IsReadOf columns most number value × AreReadOf columns most numbers values
