-- Runs of postings that come one after the other, as records stand in the order of entries.
use Rattle.std.specs.Prelude.{◌<◌, ◌^◌, List, ◌++◌, length, map}
use Rattle.opclass.specs.declared.types.ColType.{ColType}
use Rattle.gin_entry.specs.EntryMap.{Posting}
use Rattle.gin_entry.specs.EntryOrder.{entry_order}
use Rattle.shared_tape.specs.declared.stored.Record.{Record}
use Rattle.run_merge.specs.Sorted.{AscendStrictly}
use Rattle.gin_pack.specs.File.{Stored}
use Rattle.gin_pack.specs.Postings.{ArePostingsOf, KeysPart}
use Rattle.gin_pack.specs.Pass.Storing.{HasStored}
use Rattle.gin_pack.specs.declared.packer.EntryPacker.{EntryPacker}

-- the postings of these records were added
pub record HasAdded (kind : ColType) (records : List Record) (packer : EntryPacker) : Type 0 where
  pub stored : List Stored
  pub has : HasStored kind stored packer.store
  pub are : ArePostingsOf kind records (map (λ each. each.posting) stored)

-- those of some records were
pub record IsAdding (packer : EntryPacker) : Type 0 where
  pub kind : ColType
  pub records : List Record
  pub has : HasAdded kind records packer

-- a packer takes a run: it's of entries of its kind, and of fewer records than a posting tree may number
pub record CanAdd (packer : EntryPacker) (run : List Posting) : Type 0 where
  pub kind : ColType
  pub before : List Record
  pub added : HasAdded kind before packer
  pub more : List Record
  pub are : ArePostingsOf kind more run
  pub few : length more < 2 ^ 30

-- The postings of more records were added. They are above those before, and of other entries.
abbrev pub Adds : EntryPacker → EntryPacker → List Posting → Type 0
Adds old new run =
    (kind : ColType) (before more : List Record) → HasAdded kind before old → ArePostingsOf kind more run
    → AscendStrictly entry_order (before ++ more) → KeysPart before more → HasAdded kind (before ++ more) new
