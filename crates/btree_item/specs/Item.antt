-- The tuples of a B-tree as values (nbtree.h, BTreeTupleIsPosting and BTreeTupleIsPivot): what a tuple says, and which
-- tuples there are.
use Rattle.std.specs.Prelude.{◌≡◌, ℕ, ◌^◌, ◌<◌, ◌≤◌, ⊤, Option, Some, None, List, [], ◌∷◌, length, take, All}
use Rattle.std.specs.List.{AllZip}
use Rattle.pg_bytes.specs.Pointers.{IsBefore}
use Rattle.pg_bytes.specs.declared.row_ptr.RowPtr.{RowPtr}
use Rattle.opclass.specs.declared.types.ColType.{ColType}
use Rattle.opclass.specs.declared.value.KeyVal.{KeyVal}
use Rattle.opclass.specs.Values.{IsValueOf}
use Rattle.btree_item.specs.Tuple.{size_of}
use Rattle.btree_item.specs.Leaf.{plain_image, posting_image, posting_size}
use Rattle.btree_item.specs.Pivot.{image_of_attributes}
use Rattle.btree_item.specs.declared.item.Item.{Item}
use Rattle.btree_item.specs.declared.item.Item.TheVariants as item

-- the most bytes of a row's tuple: three have room on a page (BTMaxItemSize of nbtree.h)
abbrev pub most_size : ℕ
most_size = 2704

-- a row pointer that six bytes have
abbrev pub IsPointer : RowPtr → Type 0
IsPointer ptr = (ptr.block < 2 ^ 32) × (ptr.offset < 2 ^ 16)

-- a row pointer is before the first of others, where there is one
abbrev pub IsBeforeFirst : RowPtr → List RowPtr → Type 0
IsBeforeFirst ptr [] = ⊤
IsBeforeFirst ptr (other ∷ others) = IsBefore ptr other

-- row pointers ascend, and none is there twice
abbrev pub PointersAscend : List RowPtr → Type 0
PointersAscend [] = ⊤
PointersAscend (ptr ∷ others) = IsBeforeFirst ptr others × PointersAscend others

-- the values of a row, one for each column, in a tuple that isn't too large
pub record IsPlain (kinds : List ColType) (keys : List KeyVal) (ptr : RowPtr) : Type 0 where
  pub typed : AllZip IsValueOf kinds keys
  pub ptr_is : IsPointer ptr
  pub small : size_of kinds keys ≤ most_size

-- several rows, each named once and in their order, whose tuple isn't too large
pub record MayShare (kinds : List ColType) (keys : List KeyVal) (ptrs : List RowPtr) : Type 0 where
  pub several : 2 ≤ length ptrs
  pub ascending : PointersAscend ptrs
  pub small : posting_size kinds keys (length ptrs) ≤ most_size

-- the values that several rows share
pub record IsPosting (kinds : List ColType) (keys : List KeyVal) (ptrs : List RowPtr) : Type 0 where
  pub typed : AllZip IsValueOf kinds keys
  pub ptrs_are : All IsPointer ptrs
  pub shared : MayShare kinds keys ptrs

-- the types of the attributes that a pivot keeps: the first ones
abbrev pub kept_kinds : List ColType → List KeyVal → List ColType
kept_kinds kinds keys = take (length keys) kinds

-- a pivot has a row pointer only where it keeps all attributes
abbrev pub KeepsAll : List ColType → List KeyVal → Option RowPtr → Type 0
KeepsAll kinds keys None = ⊤
KeepsAll kinds keys (Some last) = (length keys ≡ length kinds) × IsPointer last

-- the first attributes of a tuple that separates neighbours; the row pointer takes eight bytes more
pub record IsPivot (kinds : List ColType) (keys : List KeyVal) (last : Option RowPtr) (child : ℕ) : Type 0 where
  pub typed : AllZip IsValueOf (kept_kinds kinds keys) keys
  pub last_is : KeepsAll kinds keys last
  pub child_is : child < 2 ^ 32
  pub small : size_of (kept_kinds kinds keys) keys ≤ most_size

-- a tuple that pages of a B-tree over these columns have
abbrev pub IsItemOf : List ColType → Item → Type 0
IsItemOf kinds (item.Plain keys ptr) = IsPlain kinds keys ptr
IsItemOf kinds (item.Posting keys ptrs) = IsPosting kinds keys ptrs
IsItemOf kinds (item.Pivot keys last child) = IsPivot kinds keys last child

-- its bytes
abbrev pub image_of_item : List ColType → Item → List ℕ
image_of_item kinds (item.Plain keys ptr) = plain_image kinds keys ptr
image_of_item kinds (item.Posting keys ptrs) = posting_image kinds keys ptrs
image_of_item kinds (item.Pivot keys last child) =
    image_of_attributes (kept_kinds kinds keys) keys (length keys) last child

-- bytes are the tuple that says this
pub record IsTupleOf (kinds : List ColType) (bytes : List ℕ) (said : Item) : Type 0 where
  pub is_item : IsItemOf kinds said
  pub bytes_are : bytes ≡ image_of_item kinds said

-- The tuple of an index whose first columns are its keys and whose others are INCLUDE columns: a row has the values of
-- all, rows share a tuple only where all columns are keys (_bt_allequalimage of nbtutils.c), and a pivot has keys alone
-- (_bt_truncate of the same).
abbrev pub IsTupleOfIndex : List ColType → ℕ → List ℕ → Item → Type 0
IsTupleOfIndex kinds key_count bytes (item.Plain keys ptr) = IsTupleOf kinds bytes (item.Plain keys ptr)
IsTupleOfIndex kinds key_count bytes (item.Posting keys ptrs) =
    (key_count ≡ length kinds) × IsTupleOf kinds bytes (item.Posting keys ptrs)
IsTupleOfIndex kinds key_count bytes (item.Pivot keys last child) =
    IsTupleOf (take key_count kinds) bytes (item.Pivot keys last child)
