-- What holds of the tuples of a B-tree, whatever their values are.
use Rattle.std.specs.Prelude.{◌≡◌, ◌≢◌, ℕ, ◌+◌, ◌≤◌, None, List, length, drop}
use Rattle.std.specs.declared.cmp.Ordering.TheVariants.{Less, Greater}
use Rattle.std.specs.Prelude.{Option}
use Rattle.pg_bytes.specs.declared.row_ptr.RowPtr.{RowPtr}
use Rattle.opclass.specs.declared.spec.SortPart.{SortPart}
use Rattle.opclass.specs.declared.types.ColType.{ColType}
use Rattle.opclass.specs.declared.value.KeyVal.{KeyVal}
use Rattle.opclass.specs.Order.{pointer_cmp, row_cmp}
use Rattle.tuple_data.specs.Reading.{AreStored}
use Rattle.btree_item.specs.Tuple.{size_of}
use Rattle.btree_item.specs.Leaf.{plain_image, posting_image, posting_size}
use Rattle.btree_item.specs.Pivot.{image_of_attributes, kept_of, minus_infinity, pivot_cmp, pivot_image, tail_size}
use Rattle.btree_item.specs.Truncation.{KeepsUpToDifference}
use Rattle.btree_item.specs.Item.{IsTupleOfIndex}
use Rattle.btree_item.specs.declared.item.Item.{Item}

-- rows with the same values have the same plain images up to the row pointer
abbrev pub EqualValuesHaveEqualImages : Type 0
EqualValuesHaveEqualImages =
    (kinds : List ColType) (values : List KeyVal) (p q : RowPtr)
    → drop 6 (plain_image kinds values p) ≡ drop 6 (plain_image kinds values q)

-- the images' lengths
pub record ImagesHaveTheirSizes : Type 0 where
  pub plain : (kinds : List ColType) (values : List KeyVal) (ptr : RowPtr)
      → length (plain_image kinds values ptr) ≡ size_of kinds values
  pub posting : (kinds : List ColType) (keys : List KeyVal) (ptrs : List RowPtr)
      → length (posting_image kinds keys ptrs) ≡ posting_size kinds keys (length ptrs)
  pub pivot : (kinds : List ColType) (keys : List KeyVal) (kept : ℕ) (last : Option RowPtr) (child : ℕ)
      → length (image_of_attributes kinds keys kept last child) ≡ size_of kinds keys + tail_size last

-- the pivot that keeps nothing is minus infinity
abbrev pub NothingKeptIsMinusInfinity : Type 0
NothingKeptIsMinusInfinity =
    (kinds : List ColType) (keys : List KeyVal) (child : ℕ)
    → pivot_image kinds keys 0 None child ≡ minus_infinity child

-- two tuples have one number of attributes that their pivot keeps
abbrev pub TruncationIsDetermined : Type 0
TruncationIsDetermined =
    (left right : List KeyVal) (one other : ℕ)
    → KeepsUpToDifference left right one → KeepsUpToDifference left right other → one ≡ other

-- Of a left tuple and a right one the greatest row of the left is below a row of the right. Then the pivot between them
-- is below that row, and below no row of the left.
abbrev pub PivotsSeparate : Type 0
PivotsSeparate =
    (parts : List SortPart) (left right : List KeyVal) (ptr greatest next : RowPtr) (kept : ℕ)
    → length left ≡ length right → KeepsUpToDifference left right kept
    → pointer_cmp ptr greatest ≢ Greater → row_cmp parts (left, greatest) (right, next) ≡ Less
    → (pivot_cmp parts (kept_of right greatest kept) (left, ptr) ≢ Less)
    × (pivot_cmp parts (kept_of right greatest kept) (right, next) ≡ Less)

-- bytes are the tuple of one item at most
abbrev pub TuplesAreToldApart : Type 0
TuplesAreToldApart =
    (kinds : List ColType) (key_count : ℕ) (bytes : List ℕ) (said other : Item) → length kinds ≤ 32 → AreStored kinds
    → IsTupleOfIndex kinds key_count bytes said → IsTupleOfIndex kinds key_count bytes other → said ≡ other
