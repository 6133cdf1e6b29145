-- A packer of an index, once rows were put.
use Rattle.std.specs.Prelude.{◌≡◌, ◌+◌, ◌≤◌, Bool, IsTrue, List, length}
use Rattle.opclass.specs.declared.spec.IndexSpec.{IndexSpec}
use Rattle.opclass.specs.declared.types.ColType.{ColType}
use Rattle.btree_pack.specs.Groups.{Row}
use Rattle.btree_pack.specs.Nodes.{shares_tuples}
use Rattle.btree_pack.specs.Pass.Sight.{fillfactor_of}
use Rattle.btree_pack.specs.Pass.Taken.{HasPacked, IsRowOf}
use Rattle.btree_pack.specs.declared.grouper.Grouper.{Grouper}
use Rattle.btree_pack.specs.declared.open_leaves.OpenLeaves.{OpenLeaves}

-- what a packer keeps, and whether memory has run out
pub record Kept : Type 0 where
  pub rows : Grouper
  pub leaves : OpenLeaves
  pub spent : Bool

-- the types of an index's columns, keys first
pub record AreColumnsOf (spec : IndexSpec) (kinds : List ColType) : Type 0 where
  pub all : length kinds ≡ length spec.keys + length spec.includes
  pub few : length kinds ≤ 32

-- memory ran out, and nothing more can be put
abbrev pub IsSpent : Kept → Type 0
IsSpent packer = IsTrue packer.spent

-- a row that the packer's index takes
abbrev pub Takes : Kept → Row → Type 0
Takes packer row = IsRowOf packer.rows.kinds packer.rows.keys row

-- these rows of an index were put
pub record HasPut (spec : IndexSpec) (kinds : List ColType) (rows : List Row) (packer : Kept) : Type 0 where
  pub kinds_are : packer.rows.kinds ≡ kinds
  pub keys : packer.rows.keys ≡ length spec.keys
  pub columns : AreColumnsOf spec kinds
  pub shares : packer.rows.shares ≡ shares_tuples spec
  pub fillfactor : fillfactor_of packer.leaves.tower ≡ spec.fillfactor
  pub packed : HasPacked rows packer.rows packer.leaves
