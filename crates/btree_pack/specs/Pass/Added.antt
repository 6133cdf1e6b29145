-- A packer of runs, once runs were added.
use Rattle.std.specs.Prelude.{◌≡◌, ◌≤◌, ℕ, min, Bool, IsTrue, List, [], ◌∷◌, length, All, Option, Some, None, MatchOption}
use Rattle.std.specs.Option.{option_or}
use Rattle.opclass.specs.declared.spec.IndexSpec.{IndexSpec}
use Rattle.opclass.specs.declared.types.ColType.{ColType}
use Rattle.btree_item.specs.Truncation.{KeepsUpToDifference}
use Rattle.btree_pack.specs.Groups.{Row}
use Rattle.btree_pack.specs.Images.{images_of}
use Rattle.btree_pack.specs.Laws.{IsSmall}
use Rattle.btree_pack.specs.Leaves.{leaf_items}
use Rattle.btree_pack.specs.Nodes.{shares_tuples}
use Rattle.btree_pack.specs.Pass.Finish.{last_separator}
use Rattle.btree_pack.specs.Pass.Grouped.{IsGroupOf, separator_image}
use Rattle.btree_pack.specs.Pass.Packed.{packed, tuple_came}
use Rattle.btree_pack.specs.Pass.Packing.{IsHighKey, Packing}
use Rattle.btree_pack.specs.Pass.Put.{AreColumnsOf}
use Rattle.btree_pack.specs.Pass.Run.{HasLastKeys, Leaf, RunView}
use Rattle.btree_pack.specs.Pass.Sight.{fillfactor_of, packing_of}
use Rattle.btree_pack.specs.Pass.Taken.{LeafIsFirst}
use Rattle.btree_pack.specs.declared.row_group.RowGroup.{RowGroup}
use Rattle.btree_pack.specs.declared.run_leaves.RunLeaves.{RunLeaves}

-- what a packer of runs keeps, and whether memory has run out
pub record Adding : Type 0 where
  pub runs : RunLeaves
  pub spent : Bool

-- memory ran out, and nothing more can be added
abbrev pub IsAddingSpent : Adding → Type 0
IsAddingSpent packer = IsTrue packer.spent

-- a run of the packer's index
pub record AddsRun (packer : Adding) (run : RunView) : Type 0 where
  pub kinds : run.kinds ≡ packer.runs.kinds
  pub keys : run.keys ≡ packer.runs.keys

-- the index is the same
pub record KeepsIndex (old new : Adding) : Type 0 where
  pub kinds : new.runs.kinds ≡ old.runs.kinds
  pub keys : new.runs.keys ≡ old.runs.keys

-- what holds whatever runs were added
pub record AreRunsReady (s : RunLeaves) : Type 0 where
  pub keys_few : s.keys ≤ length s.kinds
  pub few : length s.kinds ≤ 32
  pub leaf : LeafIsFirst (packing_of s.tower).pages
  pub last : MatchOption s.last ((packing_of s.tower).pages ≡ []) (λ group.
      IsGroupOf s.kinds s.keys group × IsHighKey s.high_key.items (packing_of s.tower))

-- tuples that came behind one with this separator
abbrev pub leaves_came : ℕ → List ℕ → Packing → List Leaf → Packing
leaves_came fillfactor separator packing [] = packing
leaves_came fillfactor separator packing (leaf ∷ leaves) =
    leaves_came fillfactor leaf.separator (tuple_came fillfactor separator packing leaf.tuple leaf.extra) leaves

-- the separator of the last of some tuples behind one with a separator
abbrev pub last_key : List ℕ → List Leaf → List ℕ
last_key separator [] = separator
last_key separator (leaf ∷ leaves) = last_key leaf.separator leaves

-- tuples whose first has another separator
abbrev pub with_separator : List ℕ → List Leaf → List Leaf
with_separator separator [] = []
with_separator separator (leaf ∷ leaves) = record leaf { separator = separator } ∷ leaves

-- how many keys a separator keeps of values behind others, which it tells by keys alone: none where nothing is before
abbrev pub KeepsKeys : ℕ → Option RowGroup → RowGroup → ℕ → Type 0
KeepsKeys keys None group kept = kept ≡ 0
KeepsKeys keys (Some before) group kept =
    (all : ℕ) × (KeepsUpToDifference before.values group.values all × (kept ≡ min all keys))

-- a group that keeps so many keys of the values before it
abbrev pub keeping : ℕ → RowGroup → RowGroup
keeping kept group = record group { kept = kept; pointer = None }

-- the tuples of a run with these first and last groups came to the leaves
pub record HasAddedRun (old new : RunLeaves) (leaves : List Leaf) (first : RowGroup) (end : Option RowGroup) : Type 0 where
  pub kept : ℕ
  pub keeps : KeepsKeys old.keys old.last first kept
  pub packing :
      packing_of new.tower
      ≡ leaves_came (fillfactor_of old.tower) old.high_key.items (packing_of old.tower)
      (with_separator (separator_image old.kinds old.keys (keeping kept first)) leaves)
  pub high_key :
      new.high_key.items ≡ last_key [] (with_separator (separator_image old.kinds old.keys (keeping kept first)) leaves)
  pub last : new.last ≡ option_or end (Some (keeping kept first))
  pub kinds : new.kinds ≡ old.kinds
  pub keys : new.keys ≡ old.keys
  pub fillfactor : fillfactor_of new.tower ≡ fillfactor_of old.tower

-- the tuples of a run came to the leaves, if it has some
abbrev pub HasAddedAll : RunLeaves → RunLeaves → RunView → Type 0
HasAddedAll old new run =
    MatchOption run.first (new ≡ old) (λ first. HasAddedRun old new run.leaves first run.last)

-- runs of these rows of an index were added, in their order
pub record HasAdded (spec : IndexSpec) (kinds : List ColType) (rows : List Row) (packer : Adding) : Type 0 where
  pub kinds_are : packer.runs.kinds ≡ kinds
  pub keys : packer.runs.keys ≡ length spec.keys
  pub columns : AreColumnsOf spec kinds
  pub fillfactor : fillfactor_of packer.runs.tower ≡ spec.fillfactor
  pub packing :
      packing_of packer.runs.tower
      ≡ packed spec.fillfactor (leaf_items (images_of kinds (length spec.keys)) (shares_tuples spec) rows)
  pub high_key :
      packer.runs.high_key.items
      ≡ last_separator [] (leaf_items (images_of kinds (length spec.keys)) (shares_tuples spec) rows)
  pub last : HasLastKeys (length spec.keys) rows packer.runs.last
  pub small : All IsSmall (leaf_items (images_of kinds (length spec.keys)) (shares_tuples spec) rows)
