-- Records that are stored as they come: the postings that are stored, and those that a writer has.
use Rattle.std.specs.Prelude.{◌≡◌, ◌⊎◌, ◌<◌, ◌^◌, List, [], ◌++◌, length, map}
use Rattle.std.specs.List.{AllByRecursion}
use Rattle.pg_bytes.specs.declared.row_ptr.RowPtr.{RowPtr}
use Rattle.opclass.specs.declared.types.ColType.{ColType}
use Rattle.opclass.specs.declared.value.KeyVal.{KeyVal}
use Rattle.gin_entry.specs.declared.entry.Entry.{Entry}
use Rattle.gin_entry.specs.EntryMap.{Posting}
use Rattle.gin_entry.specs.EntryOrder.{columns_of}
use Rattle.gin_pack.specs.File.{Stored}
use Rattle.gin_pack.specs.Postings.{IsListed}
use Rattle.gin_pack.specs.Pass.Gathering.{Begins, IsWritten, Joins}
use Rattle.gin_pack.specs.Pass.Storing.{HasStored}
use Rattle.gin_pack.specs.declared.packer.Packer.{Packer}

-- these postings were taken: some are stored, and a writer has the others, so that the last may get more pointers
pub record HasTaken (kind : ColType) (postings : List Posting) (packer : Packer) : Type 0 where
  pub stored : List Stored
  pub has : HasStored kind stored packer.store
  pub others : List Posting
  pub written : IsWritten others packer.writer
  pub none_stored : others ≡ [] → stored ≡ []
  pub all : postings ≡ map (λ each. each.posting) stored ++ others

-- postings were taken that an index may have
pub record IsTaking (packer : Packer) : Type 0 where
  pub postings : List Posting
  pub has : HasTaken packer.store.kind postings packer
  pub listed : AllByRecursion (IsListed packer.store.kind) postings
  pub few : AllByRecursion (λ posting. length posting.pointers < 2 ^ 30) postings

-- a record of an entry was taken, which has these columns
abbrev pub Receives : Packer → Packer → List KeyVal → RowPtr → Type 0
Receives old new keys pointer =
    (kind : ColType) (postings : List Posting) (entry : Entry) → HasTaken kind postings old → keys ≡ columns_of entry
    → (more : List Posting) × HasTaken kind more new × (Joins postings more entry pointer ⊎ Begins postings more entry pointer)

-- what is done is stored, and the postings are the same
abbrev pub KeepsTaken : Packer → Packer → Type 0
KeepsTaken old new = (kind : ColType) (postings : List Posting) → HasTaken kind postings old → HasTaken kind postings new
