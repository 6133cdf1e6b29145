-- A writer has the postings of records: of one more, and of all.
use Rattle.std.proofs.Common.{◌≡◌, List, [], ◌∷◌, subst, inl, inr}
use Rattle.std.specs.List.{AllByRecursion}
use Rattle.std.specs.declared.cmp.Ordering.TheVariants.{Less}
use Rattle.opclass.specs.declared.types.ColType.{ColType}
use Rattle.gin_entry.specs.EntryMap.{Posting}
use Rattle.gin_entry.specs.EntryOrder.{entry_order}
use Rattle.shared_tape.specs.declared.stored.Record.{Record}
use Rattle.shared_tape.specs.Stored.{record_cmp}
use Rattle.gin_pack.specs.Postings.{ArePostingsOf, IsTold}
use Rattle.gin_file.specs.Entry.{IsEntry}
use Rattle.gin_pack.specs.Pass.Gathering.{Closes, Gathers, HasColumns, HasGathered, IsGathering, IsWritten, Takes}
use Rattle.gin_pack.specs.declared.posting_writer.PostingWriter.{PostingWriter}
use Rattle.gin_pack.proofs.Takings.{written-columns}
use Rattle.gin_pack.proofs.Telling.{begun-told, below-of, joined-told, none-told}

pub none-gathered : (kind : ColType) (writer : PostingWriter) → IsWritten [] writer → HasGathered kind [] writer
none-gathered kind writer written = record { postings = []; written = written; are = none-told kind }

pub entries-told : (kind : ColType) (postings : List Posting) → AllByRecursion (IsTold kind) postings → AllByRecursion (λ p. IsEntry p.entry) postings
entries-told kind [] all = tt
entries-told kind (posting ∷ postings) all = (all.0.listed.is_entry.entry_is, entries-told kind postings all.1)

pub gathering-columns : (writer : PostingWriter) → IsGathering writer → HasColumns writer
gathering-columns writer gathering =
    let has = gathering.has in
    written-columns has.postings writer has.written (entries-told gathering.kind has.postings has.are.each)

pub gathers : (old new : PostingWriter) (row : Record) → Takes old new row.keys row.ptr → Gathers old new row
gathers old new row takes =
    λ kind records has is up.
    let less : AllByRecursion (λ r. record_cmp entry_order r row ≡ Less) records = below-of entry_order records row up in
    let took = takes has.postings is.entry has.written is.keys in
    record {
      postings = took.0;
      written = took.1;
      are =
          elim took.2 [
            | inl joins ↦ joined-told kind records has.postings took.0 row is.entry is.keys is.pointer is.block has.are less joins
            | inr begins ↦ begun-told kind records has.postings took.0 row is.entry is.keys is has.are less begins
          ];
    }

pub gathered : (old new : PostingWriter) → Closes old new → (kind : ColType) (records : List Record) → HasGathered kind records old
    → ArePostingsOf kind records new.done
gathered old new closes kind records has = subst (ArePostingsOf kind records) (closes has.postings has.written).done has.are
