-- Groups of rows as the packer keeps them.
use Rattle.std.specs.Prelude.{◌≡◌, ℕ, ◌≤◌, List, [], ◌∷◌, length, take}
use Rattle.pg_bytes.specs.declared.row_ptr.RowPtr.{RowPtr}
use Rattle.opclass.specs.declared.types.ColType.{ColType}
use Rattle.btree_item.specs.Leaf.{plain_image, posting_image, posting_size}
use Rattle.btree_item.specs.Pivot.{pivot_image}
use Rattle.btree_item.specs.Tuple.{size_of}
use Rattle.btree_pack.specs.declared.row_group.RowGroup.{RowGroup}

-- a group of an index with these columns, of which so many are keys
pub record IsGroupOf (kinds : List ColType) (keys : ℕ) (group : RowGroup) : Type 0 where
  pub keys_few : keys ≤ length kinds
  pub few : length kinds ≤ 32
  pub columns : length group.values ≡ length kinds
  pub size : group.size ≡ size_of kinds group.values
  pub small : group.size ≤ 2704
  pub kept : group.kept ≤ keys

-- what separates a group from the one before it, as a tuple without a child
abbrev pub separator_image : List ColType → ℕ → RowGroup → List ℕ
separator_image kinds keys group = pivot_image (take keys kinds) (take keys group.values) group.kept group.pointer 0

-- so many row pointers have room in the group's tuple, where rows share tuples
abbrev pub HasRoom : List ColType → ℕ → RowGroup → ℕ → Type 0
HasRoom kinds keys group count =
    2 ≤ count → (keys ≡ length kinds) × (posting_size (take keys kinds) (take keys group.values) count ≤ 812)

-- the leaf tuple of a group's rows
abbrev pub group_image : List ColType → ℕ → RowGroup → List RowPtr → List ℕ
group_image kinds keys group [] = posting_image (take keys kinds) (take keys group.values) []
group_image kinds keys group (ptr ∷ []) = plain_image kinds group.values ptr
group_image kinds keys group (ptr ∷ next ∷ ptrs) =
    posting_image (take keys kinds) (take keys group.values) (ptr ∷ next ∷ ptrs)
