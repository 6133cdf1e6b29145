-- The records that a merge gives, on their way into the file.
use Rattle.std.proofs.Common.{◌≡◌, ℕ, ◌^◌, ◌<◌, List, [], ◌∷◌, ◌++◌, length, sym, ap, subst, ◌∙◌, arith, inl, inr, length-append}
use Rattle.std.specs.Prelude.{All}
use Rattle.std.specs.List.{AllByRecursion, flat_map}
use Rattle.std.specs.List.Sorted.{IsPermutation}
use Rattle.std.proofs.lemmas.List.{append-nil, length-map}
use Rattle.std.proofs.lemmas.List.Concat.{flat_map-cons}
use Rattle.std.proofs.lemmas.List.Elements.{All-head, All-tail}
use Rattle.std.proofs.lemmas.List.Sorted.{All-permutation, IsPermutation-refl, IsPermutation-sym, length_permutation}
use Rattle.opclass.specs.declared.types.ColType.{ColType}
use Rattle.gin_entry.specs.EntryMap.{Posting}
use Rattle.gin_entry.specs.EntryOrder.{entry_order}
use Rattle.shared_tape.specs.declared.stored.Record.{Record}
use Rattle.run_merge.specs.Merging.{GivesOne, Merging}
use Rattle.run_merge.specs.Pass.{AreMerged}
use Rattle.run_merge.specs.Sorted.{AreApart, row_of}
use Rattle.run_merge.proofs.Merging.{none_merged}
use Rattle.gin_pack.specs.File.{HasPostings, IsGinFile}
use Rattle.gin_pack.specs.Records.{IsEntryRecord}
use Rattle.gin_pack.specs.Postings.{ArePostingsOf, IsListed, IsTold, pairs_of}
use Rattle.gin_pack.specs.Pass.Taking.{HasTaken, IsTaking, Receives}
use Rattle.gin_pack.specs.declared.packer.Packer.{Packer}
use Rattle.gin_pack.proofs.FileReading.{file-is-read}
use Rattle.gin_pack.proofs.Telling.{begun-told, came-below, joined-told, leads-moved, merged_next, none-told, told-map}

-- records that came tell the postings that a packer took, and the others are left to a merge
pub record AreComing (kind : ColType) (whole : List Record) (merge : Merging) (packer : Packer) : Type 0 where
  pub came : List Record
  pub order : merge.order ≡ entry_order
  pub merged : AreMerged entry_order whole came merge.left
  pub left : All (IsEntryRecord kind) merge.left
  pub postings : List Posting
  pub told : ArePostingsOf kind came postings
  pub taken : HasTaken kind postings packer

pub none-came : (kind : ColType) (merge : Merging) (packer : Packer) → merge.order ≡ entry_order → All (IsEntryRecord kind) merge.left
    → HasTaken kind [] packer → AreComing kind merge.left merge packer
none-came kind merge packer order left taken = record {
  came = [];
  order = order;
  merged = none_merged entry_order merge.left merge.left (IsPermutation-refl merge.left);
  left = left;
  postings = [];
  told = none-told kind;
  taken = taken;
}

-- a posting has no more pointers than records came
pub few-pointers : (bound : ℕ) (postings : List Posting) → length (flat_map pairs_of postings) < bound → AllByRecursion (λ posting. length posting.pointers < bound) postings
few-pointers bound [] few = tt
few-pointers bound (posting ∷ postings) few =
    let parts = ap length (flat_map-cons pairs_of posting postings) ∙ length-append (pairs_of posting) (flat_map pairs_of postings) in
    let mine : length (pairs_of posting) ≡ length posting.pointers = length-map posting.pointers _ in
    (omega arith, few-pointers bound postings (omega arith))

pub listed : (kind : ColType) (postings : List Posting) → AllByRecursion (IsTold kind) postings → AllByRecursion (IsListed kind) postings
listed kind [] all = tt
listed kind (posting ∷ postings) all = (all.0.listed, listed kind postings all.1)

-- the packer may take the next one
pub may-take : (kind : ColType) (whole : List Record) (merge : Merging) (packer : Packer) → length whole < 2 ^ 30 → AreComing kind whole merge packer → IsTaking packer
may-take kind whole merge packer few coming =
    let is : packer.store.kind ≡ kind = coming.taken.has.kind_is in
    let came = length-map coming.came row_of in
    let pairs = ap length coming.told.pairs in
    let all = length_permutation whole (coming.came ++ merge.left) coming.merged.same in
    let both = length-append coming.came merge.left in
    record {
      postings = coming.postings;
      has = subst (λ (k : ColType). HasTaken k coming.postings packer) (sym is) coming.taken;
      listed = subst (λ (k : ColType). AllByRecursion (IsListed k) coming.postings) (sym is) (listed kind coming.postings coming.told.each);
      few = few-pointers (2 ^ 30) coming.postings (omega arith);
    }

-- it took it
pub one-came : (kind : ColType) (whole : List Record) (old new : Merging) (packer after : Packer) (row : Record) → AreApart whole
    → GivesOne old row new → Receives packer after row.keys row.ptr → AreComing kind whole old packer → AreComing kind whole new after
one-came kind whole old new packer after row apart gives takes coming =
    let moved = All-permutation (IsEntryRecord kind) old.left (row ∷ new.left) gives.taken coming.left in
    let is : IsEntryRecord kind row = All-head (IsEntryRecord kind) row new.left moved in
    let merged = merged_next entry_order whole coming.came old new row coming.order gives coming.merged in
    let less = came-below entry_order whole coming.came new.left row apart merged in
    let took = takes kind coming.postings is.entry coming.taken is.keys in
    record {
      came = coming.came ++ row ∷ [];
      order = gives.order ∙ coming.order;
      merged = merged;
      left = All-tail (IsEntryRecord kind) row new.left moved;
      postings = took.0;
      told =
          elim took.2 [
            | inl joins ↦ joined-told kind coming.came coming.postings took.0 row is.entry is.keys is.pointer is.block coming.told less joins
            | inr begins ↦ begun-told kind coming.came coming.postings took.0 row is.entry is.keys is coming.told less begins
          ];
      taken = took.1;
    }

-- ---- the file

-- the file of the postings of records is that of their map, in whatever order the records are told
pub file-of : (kind : ColType) (whole came : List Record) (postings : List Posting) (file : List ℕ) → IsPermutation whole came
    → ArePostingsOf kind came postings → HasPostings kind file postings → IsGinFile kind whole file
file-of kind whole came postings file same told built =
    let is_map = told-map kind whole came postings same told in
    record {
      postings = postings;
      map_is = is_map;
      read = file-is-read kind file postings built (listed kind postings told.each) is_map.ascending is_map.lists;
      built = built;
    }

-- a file is that of records in whatever order they are told
pub moved-file : (kind : ColType) (records moved : List Record) (file : List ℕ) → IsPermutation records moved → IsGinFile kind records file
    → IsGinFile kind moved file
moved-file kind records moved file same is = record {
  postings = is.postings;
  map_is = record {
    ascending = is.map_is.ascending;
    lists = is.map_is.lists;
    exactly = λ entry pointer. (
      λ has. leads-moved records moved entry pointer same ((is.map_is.exactly entry pointer).0 has),
      λ leads. (is.map_is.exactly entry pointer).1
          (leads-moved moved records entry pointer (IsPermutation-sym records moved same) leads),
    );
  };
  read = is.read;
  built = is.built;
}

-- all came: the file is that of their map
pub all-came : (kind : ColType) (whole : List Record) (merge : Merging) (packer : Packer) (file : List ℕ) → merge.left ≡ [] → AreComing kind whole merge packer
    → ((kind : ColType) → (postings : List Posting) → HasTaken kind postings packer → HasPostings kind file postings) → IsGinFile kind whole file
all-came kind whole merge packer file none coming finished =
    let same : IsPermutation whole coming.came =
    subst (IsPermutation whole) (ap (λ (l : List Record). coming.came ++ l) none ∙ append-nil coming.came) coming.merged.same in
    file-of kind whole coming.came coming.postings file same coming.told (finished kind coming.postings coming.taken)

-- a merge has fewer records left once it gave one
pub fewer-left : (old new : Merging) (row : Record) → GivesOne old row new → length new.left < length old.left
fewer-left old new row gives = let same = length_permutation old.left (row ∷ new.left) gives.taken in omega arith
