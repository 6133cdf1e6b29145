-- The items of the leaves: a tuple for each group of rows, in order (_bt_load of nbtsort.c).
use Rattle.std.specs.Prelude.{ℕ, ◌+◌, ◌-◌, Bool, List, [], ◌∷◌, ◌++◌, length, map, Option, Some, None}
use Rattle.pg_bytes.specs.declared.row_ptr.RowPtr.{RowPtr}
use Rattle.opclass.specs.declared.value.KeyVal.{KeyVal}
use Rattle.btree_pack.specs.Break.{Item}
use Rattle.btree_pack.specs.Groups.{Row, Group, rows_of, leaf_groups}
use Rattle.btree_pack.specs.Separators.{Separator, separator}
use Rattle.btree_item.specs.Pivot.{minus_infinity}

-- how tuples are written: of one row from its values and row pointer, of several rows with a list, and a separator's
-- pivot tuple, whose child is 0
pub record Images : Type 0 where
  pub plain : List KeyVal → RowPtr → List ℕ
  pub posting : List KeyVal → List RowPtr → List ℕ
  pub pivot : Separator → List ℕ

-- what an item has to say: its tuple's bytes on a leaf, and those of the separator from the item before it
pub record Content : Type 0 where
  pub tuple : List ℕ
  pub separator : List ℕ

-- the tuple of a row by itself: the values of its keys, then those of its INCLUDE columns
abbrev pub plain_of : Images → Row → List ℕ
plain_of images row = images.plain (row.keys ++ row.extra) row.pointer

-- the tuple of a group
abbrev pub tuple_of_group : Images → Group → List ℕ
tuple_of_group images group = elim group.others [
  | [] ↦ plain_of images group.first
  | next ∷ others ↦ images.posting group.first.keys (map (λ row. row.pointer) (rows_of group))
]

-- the pivot that separates a group from the one before it: nothing is before the first
abbrev pub pivot_between : Images → Option Group → Group → List ℕ
pivot_between images None group = minus_infinity 0
pivot_between images (Some left) group = images.pivot (separator left group)

-- the item of a group that arrives at a moment behind another
abbrev pub leaf_item : Images → ℕ → Option Group → Group → Item Content
leaf_item images moment left group = record {
  content = record { tuple = tuple_of_group images group; separator = pivot_between images left group };
  size = length (tuple_of_group images group);
  extra = length (tuple_of_group images group) - length (plain_of images group.first);
  bound = length (pivot_between images left group);
  arrival = moment;
  child = 0;
}

-- the items of groups that arrive from a moment on behind another
abbrev pub leaf_items_behind : Images → ℕ → Option Group → List Group → List (Item Content)
leaf_items_behind images moment left [] = []
leaf_items_behind images moment left (group ∷ groups) =
    leaf_item images moment left group ∷ leaf_items_behind images (moment + 1) (Some group) groups

-- the items of sorted rows
unfoldable pub leaf_items : Images → Bool → List Row → List (Item Content)
leaf_items images shares rows =
    leaf_items_behind images 1 None (leaf_groups (λ row. length (plain_of images row)) shares rows)
