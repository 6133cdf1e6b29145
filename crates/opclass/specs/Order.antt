-- The order of the values of several columns (ApplySortComparator of sortsupport.h, comparetup_index_btree of
-- tuplesortvariants.c), made total over all values and all lists.
use Rattle.std.specs.Prelude.{◌≡◌, ◌≢◌, ℕ, Bool, false, if◌then◌else◌, List, [], ◌∷◌, drop, All, IsTrue, slice_index_or}
use Rattle.std.specs.declared.cmp.Ordering.{Ordering}
use Rattle.std.specs.declared.cmp.Ordering.TheVariants.{Less, Equal, Greater}
use Rattle.std.specs.Ordering.{ordering_then, ordering_reverse, int_cmp, nat_cmp}
use Rattle.std.specs.Cmp.Lexicographic.{slice_cmp}
use Rattle.pg_bytes.specs.declared.row_ptr.RowPtr.{RowPtr}
use Rattle.opclass.specs.declared.value.Elem.{Elem}
use Rattle.opclass.specs.declared.value.Elem.TheVariants as elem
use Rattle.opclass.specs.declared.value.KeyVal.{KeyVal}
use Rattle.opclass.specs.declared.value.KeyVal.TheVariants.{Nil, Num, Raw, Items}
use Rattle.opclass.specs.declared.spec.SortPart.{SortPart}

-- bytes: unsigned, and a front of other bytes before them
abbrev pub bytes_cmp : List ℕ → List ℕ → Ordering
bytes_cmp = slice_cmp nat_cmp

-- elements of an array: of one kind by their value, else by their kind, nulls last
abbrev pub elem_place : Elem → ℕ
elem_place (elem.Num number) = 1
elem_place (elem.Raw bytes) = 2
elem_place elem.Null = 3

abbrev pub elem_cmp : Elem → Elem → Ordering
elem_cmp (elem.Num a) (elem.Num b) = int_cmp a b
elem_cmp (elem.Raw a) (elem.Raw b) = bytes_cmp a b
elem_cmp a b = nat_cmp (elem_place a) (elem_place b)

-- Where values of a kind stand in a column: nulls first or last, as the column says. The values of one column that
-- aren't null are of one kind; the other kinds have a place so that the order is total.
abbrev pub kind_place : SortPart → KeyVal → ℕ
kind_place part Nil = if part.nulls_first then 0 else 4
kind_place part (Num number) = 1
kind_place part (Raw bytes) = 2
kind_place part (Items elements) = 3

-- two values of one kind, ascending
abbrev pub value_cmp : KeyVal → KeyVal → Ordering
value_cmp (Num a) (Num b) = int_cmp a b
value_cmp (Raw a) (Raw b) = bytes_cmp a b
value_cmp (Items a) (Items b) = slice_cmp elem_cmp a b
value_cmp a b = Equal

-- descending turns round the order of values, and not where nulls stand
abbrev pub directed : SortPart → Ordering → Ordering
directed part order = if part.descending then ordering_reverse order else order

-- two values of a column
abbrev pub column_cmp : SortPart → KeyVal → KeyVal → Ordering
column_cmp part a b = ordering_then (nat_cmp (kind_place part a) (kind_place part b)) (directed part (value_cmp a b))

-- how a column is sorted that a list of values has and the sort order doesn't: ascending, nulls last
abbrev pub unsaid : SortPart
unsaid = record { descending = false; nulls_first = false }

-- how a column is sorted, counted from 0
abbrev pub part_at : List SortPart → ℕ → SortPart
part_at parts column = slice_index_or parts column unsaid

-- the first column in which two lists of values differ decides, and a front of a list stands before it
abbrev pub key_cmp : List SortPart → List KeyVal → List KeyVal → Ordering
key_cmp parts [] [] = Equal
key_cmp parts [] (b ∷ bs) = Less
key_cmp parts (a ∷ rest) [] = Greater
key_cmp parts (a ∷ rest) (b ∷ bs) =
    ordering_then (column_cmp (part_at parts 0) a b) (key_cmp (drop 1 parts) rest bs)

-- row pointers: by block, then by the line pointer's number (ItemPointerCompare of itemptr.c)
abbrev pub pointer_cmp : RowPtr → RowPtr → Ordering
pointer_cmp p q = ordering_then (nat_cmp p.block q.block) (nat_cmp p.offset q.offset)

-- rows: by their keys, and equal ones by their row pointers
abbrev pub row_cmp : List SortPart → List KeyVal × RowPtr → List KeyVal × RowPtr → Ordering
row_cmp parts a b = ordering_then (key_cmp parts a.0 b.0) (pointer_cmp a.1 b.1)

-- no value is null
abbrev pub HasNoNull : List KeyVal → Type 0
HasNoNull keys = All (λ value. value ≢ Nil) keys

-- two rows with these keys break the unique rule (_bt_check_unique of nbtinsert.c, UNIQUE NULLS [NOT] DISTINCT): their
-- keys are equal and, where nulls are distinct, none of them is null
abbrev pub Clashes : Bool → List KeyVal → List KeyVal → Type 0
Clashes distinct a b = (a ≡ b) × (IsTrue distinct → HasNoNull a)
