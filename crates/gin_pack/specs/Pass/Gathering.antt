-- Records that come in their order, an entry's together: the postings that are done, and the one that comes.
use Rattle.std.specs.Prelude.{◌≡◌, ◌≢◌, ◌⊎◌, MatchOption, List, [], ◌∷◌, ◌++◌, None}
use Rattle.pg_bytes.specs.declared.row_ptr.RowPtr.{RowPtr}
use Rattle.opclass.specs.declared.types.ColType.{ColType}
use Rattle.opclass.specs.declared.value.KeyVal.{KeyVal}
use Rattle.gin_entry.specs.declared.entry.Entry.{Entry}
use Rattle.gin_entry.specs.EntryMap.{Posting}
use Rattle.gin_entry.specs.EntryOrder.{columns_of, entry_order}
use Rattle.shared_tape.specs.declared.stored.Record.{Record}
use Rattle.run_merge.specs.Sorted.{AscendStrictly}
use Rattle.gin_pack.specs.Postings.{ArePostingsOf}
use Rattle.gin_file.specs.Entry.{IsEntry}
use Rattle.gin_pack.specs.Records.{IsEntryRecord}
use Rattle.gin_pack.specs.declared.posting_writer.PostingWriter.{PostingWriter}

-- ---- one record more

-- a list with one pointer more
abbrev pub with_pointer : Posting → RowPtr → Posting
with_pointer posting pointer = record { entry = posting.entry; pointers = posting.pointers ++ pointer ∷ [] }

-- a pointer comes to an entry: to the last, or to a new one behind it
pub record Joins (old new : List Posting) (entry : Entry) (pointer : RowPtr) : Type 0 where
  pub before : List Posting
  pub last : Posting
  pub old_is : old ≡ before ++ last ∷ []
  pub same : last.entry ≡ entry
  pub new_is : new ≡ before ++ with_pointer last pointer ∷ []

pub record Begins (old new : List Posting) (entry : Entry) (pointer : RowPtr) : Type 0 where
  pub other : (before : List Posting) (last : Posting) → old ≡ before ++ last ∷ [] → last.entry ≢ entry
  pub new_is : new ≡ old ++ record { entry = entry; pointers = pointer ∷ [] } ∷ []

-- ---- what a writer keeps

-- columns are those of an entry
pub record AreColumns (keys : List KeyVal) : Type 0 where
  pub entry : Entry
  pub columns : keys ≡ columns_of entry
  pub is_entry : IsEntry entry

-- what comes behind the postings that are done: an entry whose columns these are, with these pointers
pub record IsComing (keys : List KeyVal) (pointers : List RowPtr) (posting : Posting) : Type 0 where
  pub columns : keys ≡ columns_of posting.entry
  pub pointers_are : pointers ≡ posting.pointers

-- a writer has these postings: all are done but the last, which may get more pointers
abbrev pub IsWritten : List Posting → PostingWriter → Type 0
IsWritten postings writer = MatchOption writer.pending
    ((postings ≡ []) × (writer.done ≡ []) × (writer.ptrs.items ≡ []))
    (λ keys. (last : Posting) × IsComing keys writer.ptrs.items last × (postings ≡ writer.done ++ last ∷ []))

-- what comes, if anything does, is an entry
abbrev pub HasColumns : PostingWriter → Type 0
HasColumns writer = MatchOption writer.pending (Unit {0}) AreColumns

-- a writer has these postings, all are done, and none comes
pub record IsClosed (postings : List Posting) (writer : PostingWriter) : Type 0 where
  pub done : postings ≡ writer.done
  pub none : writer.pending ≡ None
  pub no_pointers : writer.ptrs.items ≡ []

abbrev pub Closes : PostingWriter → PostingWriter → Type 0
Closes old new = (postings : List Posting) → IsWritten postings old → IsClosed postings new

-- a record of an entry was taken, which has these columns
abbrev pub Takes : PostingWriter → PostingWriter → List KeyVal → RowPtr → Type 0
Takes old new keys pointer =
    (postings : List Posting) (entry : Entry) → IsWritten postings old → keys ≡ columns_of entry
    → (more : List Posting) × IsWritten more new × (Joins postings more entry pointer ⊎ Begins postings more entry pointer)

-- ---- of records

-- a writer has the postings of these records
pub record HasGathered (kind : ColType) (records : List Record) (writer : PostingWriter) : Type 0 where
  pub postings : List Posting
  pub written : IsWritten postings writer
  pub are : ArePostingsOf kind records postings

-- it has those of some records
pub record IsGathering (writer : PostingWriter) : Type 0 where
  pub kind : ColType
  pub records : List Record
  pub has : HasGathered kind records writer

-- it has those of one record more, which is above those before
abbrev pub Gathers : PostingWriter → PostingWriter → Record → Type 0
Gathers old new row =
    (kind : ColType) (records : List Record) → HasGathered kind records old → IsEntryRecord kind row
    → AscendStrictly entry_order (records ++ row ∷ []) → HasGathered kind (records ++ row ∷ []) new
