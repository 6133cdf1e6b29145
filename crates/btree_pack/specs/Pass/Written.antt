-- A writer of leaf tuples, once rows were put.
use Rattle.std.specs.Prelude.{◌≡◌, ℕ, ◌-◌, Bool, IsTrue, List, [], ◌∷◌, length, map, take, Option, None, IsSomeAnd}
use Rattle.opclass.specs.declared.spec.IndexSpec.{IndexSpec}
use Rattle.opclass.specs.declared.types.ColType.{ColType}
use Rattle.btree_pack.specs.Groups.{Row, Group}
use Rattle.btree_pack.specs.Images.{images_of}
use Rattle.btree_pack.specs.Leaves.{leaf_items_behind}
use Rattle.btree_pack.specs.Nodes.{shares_tuples}
use Rattle.btree_pack.specs.Pass.Grouped.{separator_image}
use Rattle.btree_pack.specs.Pass.Put.{AreColumnsOf}
use Rattle.btree_pack.specs.Pass.Run.{IsRun, Leaf, leaf_of}
use Rattle.btree_pack.specs.Pass.Taken.{HasGrouped, IsReady, IsRowOf}
use Rattle.btree_pack.specs.declared.grouper.Grouper.{Grouper}
use Rattle.btree_pack.specs.declared.row_group.RowGroup.{RowGroup}

-- what a writer keeps: rows in groups, the leaf tuples of the groups that are done, the first of those, and whether
-- memory has run out
pub record Writing : Type 0 where
  pub rows : Grouper
  pub leaves : List Leaf
  pub first : Option RowGroup
  pub spent : Bool

-- memory ran out, and nothing more can be put
abbrev pub IsWriterSpent : Writing → Type 0
IsWriterSpent writer = IsTrue writer.spent

-- a row that the writer's index takes
abbrev pub WritesRow : Writing → Row → Type 0
WritesRow writer row = IsRowOf writer.rows.kinds writer.rows.keys row

-- what holds whatever rows were put
pub record IsWriting (s : Grouper) (leaves : List Leaf) (first : Option RowGroup) : Type 0 where
  pub rows : IsReady s
  pub run : IsRun (record { kinds = s.kinds; keys = s.keys; leaves = leaves; first = first; last = None })

-- the leaf tuple of a group that is done
abbrev pub leaf_done : Grouper → RowGroup → Leaf
leaf_done s group = record {
  tuple = s.tuple.items;
  extra = length s.tuple.items - group.size;
  separator = separator_image s.kinds s.keys group;
}

-- the group that has the keys of the first of groups, if there are some
abbrev pub HasKeysOfTheFirst : ℕ → List Group → Option RowGroup → Type 0
HasKeysOfTheFirst keys [] first = first ≡ None
HasKeysOfTheFirst keys (group ∷ groups) first = IsSomeAnd first (λ first. take keys first.values ≡ group.first.keys)

-- the leaf tuples of these groups of rows are written
pub record AreWritten (s : Grouper) (done : List Group) (written : List Leaf) (begin : Option RowGroup) : Type 0 where
  pub leaves : written ≡ map leaf_of (leaf_items_behind (images_of s.kinds s.keys) 1 None done)
  pub first : HasKeysOfTheFirst s.keys done begin

-- what is kept once these rows were put
abbrev pub HasWrittenRows : List Row → Grouper → List Leaf → Option RowGroup → Type 0
HasWrittenRows rows s leaves first = (done : List Group) × (HasGrouped rows done s × AreWritten s done leaves first)

-- these rows of an index were put
pub record HasWritten (spec : IndexSpec) (kinds : List ColType) (rows : List Row) (writer : Writing) : Type 0 where
  pub kinds_are : writer.rows.kinds ≡ kinds
  pub keys : writer.rows.keys ≡ length spec.keys
  pub columns : AreColumnsOf spec kinds
  pub shares : writer.rows.shares ≡ shares_tuples spec
  pub written : HasWrittenRows rows writer.rows writer.leaves writer.first
