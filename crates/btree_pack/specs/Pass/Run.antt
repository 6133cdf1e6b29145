-- Leaf tuples of a run of rows, written apart from the pages.
use Rattle.std.specs.Prelude.{◌≡◌, ℕ, ◌+◌, ◌≤◌, List, [], ◌∷◌, length, map, take, All, Option, None, IsSomeAnd, MatchOption}
use Rattle.std.specs.Option.{option_or}
use Rattle.opclass.specs.declared.spec.IndexSpec.{IndexSpec}
use Rattle.opclass.specs.declared.types.ColType.{ColType}
use Rattle.btree_pack.specs.Break.{Item}
use Rattle.btree_pack.specs.Ends.{last_of}
use Rattle.btree_pack.specs.Groups.{Row}
use Rattle.btree_pack.specs.Images.{images_of}
use Rattle.btree_pack.specs.Leaves.{Content, leaf_items}
use Rattle.btree_pack.specs.Nodes.{shares_tuples}
use Rattle.btree_pack.specs.Pass.Grouped.{IsGroupOf}
use Rattle.btree_pack.specs.Pass.Packing.{IsTuple}
use Rattle.btree_pack.specs.declared.row_group.RowGroup.{RowGroup}

-- what a page wants to know of a leaf tuple: its bytes, how much of them is its list of row pointers, and the separator
-- from the tuple before it
pub record Leaf : Type 0 where
  pub tuple : List ℕ
  pub extra : ℕ
  pub separator : List ℕ

abbrev pub leaf_of : Item Content → Leaf
leaf_of item = record { tuple = item.content.tuple; extra = item.extra; separator = item.content.separator }

-- a leaf tuple for which pages have room, and for its separator
pub record IsLeaf (leaf : Leaf) : Type 0 where
  pub tuple : IsTuple leaf.tuple
  pub small : length leaf.tuple ≤ 2704
  pub extra : leaf.extra ≤ length leaf.tuple
  pub separator : IsTuple leaf.separator
  pub bound : length leaf.separator ≤ length leaf.tuple + 8

-- A run: the types of its index's columns, of which so many are keys, its leaf tuples in their order, the group of the
-- first one, and that of the last where it is another.
pub record RunView : Type 0 where
  pub kinds : List ColType
  pub keys : ℕ
  pub leaves : List Leaf
  pub first : Option RowGroup
  pub last : Option RowGroup

-- a group whose tuple is the first of these
abbrev pub IsOfTheFirst : RowGroup → List Leaf → Type 0
IsOfTheFirst group [] = ⊥
IsOfTheFirst group (leaf ∷ leaves) = group.size ≤ length leaf.tuple

-- what holds of any run
pub record IsRun (run : RunView) : Type 0 where
  pub leaves : All IsLeaf run.leaves
  pub first : MatchOption run.first (run.leaves ≡ []) (λ group.
      IsGroupOf run.kinds run.keys group × IsOfTheFirst group run.leaves)
  pub last : MatchOption run.last (Unit {0}) (IsGroupOf run.kinds run.keys)

-- the group that has the keys of the first of rows, if there are some
abbrev pub HasFirstKeys : ℕ → List Row → Option RowGroup → Type 0
HasFirstKeys keys [] group = group ≡ None
HasFirstKeys keys (row ∷ rows) group = IsSomeAnd group (λ group. take keys group.values ≡ row.keys)

-- the group that has those of the last
abbrev pub HasLastKeys : ℕ → List Row → Option RowGroup → Type 0
HasLastKeys keys [] group = group ≡ None
HasLastKeys keys (row ∷ rows) group = IsSomeAnd group (λ group. take keys group.values ≡ (last_of row rows).keys)

-- A run has the leaf tuples of rows of an index, each as large as pages take, and the keys of the first row and of the
-- last.
pub record AreLeavesOf (spec : IndexSpec) (kinds : List ColType) (rows : List Row) (run : RunView) : Type 0 where
  pub kinds_are : run.kinds ≡ kinds
  pub keys : run.keys ≡ length spec.keys
  pub leaves : run.leaves ≡ map leaf_of (leaf_items (images_of kinds (length spec.keys)) (shares_tuples spec) rows)
  pub first : HasFirstKeys (length spec.keys) rows run.first
  pub last : HasLastKeys (length spec.keys) rows (option_or run.last run.first)
