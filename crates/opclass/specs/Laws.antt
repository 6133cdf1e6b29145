-- What holds of the order of values and of clashes, whatever the values are.
use Rattle.std.specs.Prelude.{◌≡◌, ◌≢◌, ℕ, Bool, true, List, ◌++◌, take, slice_get, Some}
use Rattle.std.specs.declared.cmp.Ordering.TheVariants.{Equal, Greater}
use Rattle.std.specs.Ordering.{ordering_then}
use Rattle.std.specs.Cmp.{IsTotalOrder}
use Rattle.pg_bytes.specs.declared.row_ptr.RowPtr.{RowPtr}
use Rattle.opclass.specs.declared.value.Elem.{Elem}
use Rattle.opclass.specs.declared.value.KeyVal.{KeyVal}
use Rattle.opclass.specs.declared.spec.SortPart.{SortPart}
use Rattle.opclass.specs.declared.types.ColType.{ColType}
use Rattle.opclass.specs.declared.types.Method.TheVariants.{BTree}
use Rattle.opclass.specs.Types.{facts_of, takes_key}
use Rattle.opclass.specs.Values.{IsValueOf}
use Rattle.opclass.specs.Order.{bytes_cmp, elem_cmp, column_cmp, part_at, key_cmp, row_cmp, Clashes}
use Rattle.opclass.specs.Norm.{piece, norm_of, IsKeyValue, AreKeys}

-- lists of values have a total order: antisymmetric, transitive, and what compares equal compares alike
abbrev pub KeysAreOrdered : Type 0
KeysAreOrdered = (parts : List SortPart) → IsTotalOrder (key_cmp parts)

-- only equal lists compare equal
abbrev pub KeysAreToldApart : Type 0
KeysAreToldApart = (parts : List SortPart) (a b : List KeyVal) → key_cmp parts a b ≡ Equal → a ≡ b

-- of two lists that are alike before a column and differ there, that column decides
abbrev pub FirstDifferenceDecides : Type 0
FirstDifferenceDecides =
    (parts : List SortPart) (a b : List KeyVal) (column : ℕ) (x y : KeyVal) → take column a ≡ take column b
    → slice_get a column ≡ Some x → slice_get b column ≡ Some y → x ≢ y
    → key_cmp parts a b ≡ column_cmp (part_at parts column) x y

-- rows have a total order
abbrev pub RowsAreOrdered : Type 0
RowsAreOrdered = (parts : List SortPart) → IsTotalOrder (row_cmp parts)

-- no two different rows compare equal
abbrev pub RowsAreToldApart : Type 0
RowsAreToldApart = (parts : List SortPart) (a b : List KeyVal × RowPtr) → row_cmp parts a b ≡ Equal → a ≡ b

-- elements of arrays have a total order
abbrev pub ElementsAreOrdered : Type 0
ElementsAreOrdered = IsTotalOrder elem_cmp

-- only equal elements compare equal
abbrev pub ElementsAreToldApart : Type 0
ElementsAreToldApart = (a b : Elem) → elem_cmp a b ≡ Equal → a ≡ b

-- it doesn't matter which of two rows comes first
abbrev pub ClashIsSymmetric : Type 0
ClashIsSymmetric = (distinct : Bool) (a b : List KeyVal) → Clashes distinct a b → Clashes distinct b a

-- where the outer two of three neighbours in order clash, both neighbouring pairs do
abbrev pub ClashIsBetweenNeighbours : Type 0
ClashIsBetweenNeighbours =
    (distinct : Bool) (parts : List SortPart) (a b c : List KeyVal)
    → key_cmp parts a b ≢ Greater → key_cmp parts b c ≢ Greater
    → Clashes distinct a c → Clashes distinct a b × Clashes distinct b c

-- the order of normalised keys as unsigned bytes is the order of the keys
abbrev pub NormsAreOrderedAsKeys : Type 0
NormsAreOrderedAsKeys =
    (parts : List SortPart) (a b : List KeyVal) → AreKeys parts a → AreKeys parts b
    → bytes_cmp (norm_of parts a) (norm_of parts b) ≡ key_cmp parts a b

-- only equal keys have equal normalised keys
abbrev pub NormsAreToldApart : Type 0
NormsAreToldApart =
    (parts : List SortPart) (a b : List KeyVal) → AreKeys parts a → AreKeys parts b
    → norm_of parts a ≡ norm_of parts b → a ≡ b

-- a piece shows its end: what stands behind it is compared only where the two values are equal
abbrev pub PiecesShowTheirEnd : Type 0
PiecesShowTheirEnd =
    (part : SortPart) (a b : KeyVal) (behind_a behind_b : List ℕ) → IsKeyValue a → IsKeyValue b
    → bytes_cmp (piece part a ++ behind_a) (piece part b ++ behind_b)
    ≡ ordering_then (column_cmp part a b) (bytes_cmp behind_a behind_b)

-- what stands behind two normalised keys counts only where the keys are equal
abbrev pub NormsShowTheirEnd : Type 0
NormsShowTheirEnd =
    (parts : List SortPart) (a b : List KeyVal) (behind_a behind_b : List ℕ) → AreKeys parts a → AreKeys parts b
    → bytes_cmp (norm_of parts a ++ behind_a) (norm_of parts b ++ behind_b)
    ≡ ordering_then (key_cmp parts a b) (bytes_cmp behind_a behind_b)

-- the values of a type that a B-tree takes as a key are key values: no arrays, and numbers and bytes in their range
abbrev pub KeyTypesHaveKeyValues : Type 0
KeyTypesHaveKeyValues =
    (kind : ColType) (value : KeyVal) → takes_key BTree (facts_of kind).key_use ≡ true
    → IsValueOf kind value → IsKeyValue value
