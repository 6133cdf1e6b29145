-- How a writer takes a record: its pointer comes to the entry that comes, or begins another.
use Rattle.std.proofs.Common.{◌≡◌, ◌≢◌, List, [], ◌∷◌, ◌++◌, refl, sym, ap, subst, ◌∙◌, inl, inr}
use Rattle.std.specs.Prelude.{MatchOption, Option, Some, None}
use Rattle.std.specs.List.{AllByRecursion}
use Rattle.pg_bytes.specs.declared.row_ptr.RowPtr.{RowPtr}
use Rattle.opclass.specs.declared.value.KeyVal.{KeyVal}
use Rattle.gin_entry.specs.declared.entry.Entry.{Entry}
use Rattle.gin_entry.specs.EntryMap.{Posting}
use Rattle.gin_entry.specs.EntryOrder.{columns_of}
use Rattle.gin_entry.proofs.EntryOrders.{same_entry}
use Rattle.gin_file.specs.Entry.{IsEntry}
use Rattle.gin_pack.specs.Pass.Gathering.{AreColumns, Closes, HasColumns, IsComing, IsWritten, Takes, with_pointer}
use Rattle.gin_pack.specs.declared.posting_writer.PostingWriter.{PostingWriter}

-- the ends of lists that are the same
pub push-end : {X : Type 0} (xs ys : List X) (x y : X) → xs ++ x ∷ [] ≡ ys ++ y ∷ [] → x ≡ y
push-end [] [] x y same = cc
push-end [] (b ∷ []) x y same = absurd cc
push-end [] (b ∷ c ∷ ys) x y same = absurd cc
push-end (a ∷ []) [] x y same = absurd cc
push-end (a ∷ c ∷ xs) [] x y same = absurd cc
push-end {X = X} (a ∷ xs) (b ∷ ys) x y same = let rest : xs ++ x ∷ [] ≡ ys ++ y ∷ [] = cc in push-end xs ys x y rest

pub no-end : {X : Type 0} (xs : List X) (x : X) → xs ++ x ∷ [] ≡ [] → ⊥
no-end [] x same = cc
no-end (a ∷ xs) x same = cc

all-last : {X : Type 0} (P : X → Type 0) (xs : List X) (x : X) → AllByRecursion P (xs ++ x ∷ []) → P x
all-last P [] x all = all.0
all-last P (y ∷ xs) x all = all-last P xs x all.1

-- what comes behind those that are done
abbrev pub Coming : List Posting → List Posting → List RowPtr → List KeyVal → Type 0
Coming postings done pointers keys = (last : Posting) × IsComing keys pointers last × (postings ≡ done ++ last ∷ [])

abbrev pub NothingComes : List Posting → List Posting → List RowPtr → Type 0
NothingComes postings done pointers = (postings ≡ []) × (done ≡ []) × (pointers ≡ [])

abbrev pub WrittenAt : List Posting → List Posting → List RowPtr → Option (List KeyVal) → Type 0
WrittenAt postings done pointers pending = MatchOption pending (NothingComes postings done pointers) (Coming postings done pointers)

pub comes : (postings : List Posting) (writer : PostingWriter) (keys : List KeyVal) → writer.pending ≡ Some keys → IsWritten postings writer
    → Coming postings writer.done writer.ptrs.items keys
comes postings writer keys is written = subst (WrittenAt postings writer.done writer.ptrs.items) is written

pub none-comes : (postings : List Posting) (writer : PostingWriter) → writer.pending ≡ None → IsWritten postings writer
    → NothingComes postings writer.done writer.ptrs.items
none-comes postings writer is written = subst (WrittenAt postings writer.done writer.ptrs.items) is written

pub written-coming : (postings : List Posting) (writer : PostingWriter) (keys : List KeyVal) → writer.pending ≡ Some keys
    → Coming postings writer.done writer.ptrs.items keys → IsWritten postings writer
written-coming postings writer keys is coming = subst (WrittenAt postings writer.done writer.ptrs.items) (sym is) coming

pub written-nothing : (postings : List Posting) (writer : PostingWriter) → writer.pending ≡ None
    → NothingComes postings writer.done writer.ptrs.items → IsWritten postings writer
written-nothing postings writer is nothing = subst (WrittenAt postings writer.done writer.ptrs.items) (sym is) nothing

-- the pointer comes to the entry that comes
pub take-joins : (old new : PostingWriter) (keys : List KeyVal) (pointer : RowPtr) → old.pending ≡ Some keys
    → new.done ≡ old.done → new.pending ≡ old.pending → new.ptrs.items ≡ old.ptrs.items ++ pointer ∷ [] → Takes old new keys pointer
take-joins old new keys pointer is same_done same_pending pushed =
    λ postings entry written columns.
    let coming = comes postings old keys is written in
    let last : Posting = coming.0 in
    let same : last.entry ≡ entry = same_entry last.entry entry (sym coming.1.columns ∙ columns) in
    let more : List Posting = old.done ++ with_pointer last pointer ∷ [] in (
      more,
      written-coming more new keys (same_pending ∙ is) (
        with_pointer last pointer,
        record { columns = coming.1.columns; pointers_are = pushed ∙ ap (λ (l : List RowPtr). l ++ pointer ∷ []) coming.1.pointers_are },
        ap (λ (l : List Posting). l ++ with_pointer last pointer ∷ []) (sym same_done),
      ),
      inl (record { before = old.done; last = last; old_is = coming.2; same = same; new_is = refl }),
    )

-- the entry that came is another one
other-last : (postings : List Posting) (old : PostingWriter) (keys : List KeyVal) (entry : Entry) (pending : Option (List KeyVal))
    → old.pending ≡ pending → old.pending ≢ Some keys → keys ≡ columns_of entry → IsWritten postings old
    → (before : List Posting) (last : Posting) → postings ≡ before ++ last ∷ [] → last.entry ≢ entry
other-last postings old keys entry None is other columns written before last ends same =
    no-end before last (sym ends ∙ (none-comes postings old is written).0)
other-last postings old keys entry (Some pending) is other columns written before last ends same =
    let coming = comes postings old pending is written in
    let one : coming.0 ≡ last = push-end old.done before coming.0 last (sym coming.2 ∙ ends) in
    let pending_is : pending ≡ keys =
    coming.1.columns ∙ ap (λ (p : Posting). columns_of p.entry) one ∙ ap columns_of same ∙ sym columns in
    other (is ∙ ap Some pending_is)

-- another entry begins
pub take-begins : (old middle new : PostingWriter) (keys : List KeyVal) (pointer : RowPtr) → old.pending ≢ Some keys → Closes old middle
    → new.done ≡ middle.done → new.pending ≡ Some keys → new.ptrs.items ≡ middle.ptrs.items ++ pointer ∷ [] → Takes old new keys pointer
take-begins old middle new keys pointer other closes same_done pending pushed =
    λ postings entry written columns.
    let closed = closes postings written in
    let first : Posting = record { entry = entry; pointers = pointer ∷ [] } in
    let more : List Posting = postings ++ first ∷ [] in (
      more,
      written-coming more new keys pending (
        first,
        record { columns = columns; pointers_are = pushed ∙ ap (λ (l : List RowPtr). l ++ pointer ∷ []) closed.no_pointers },
        ap (λ (p : List Posting). p ++ first ∷ []) (closed.done ∙ sym same_done),
      ),
      inr (record { other = other-last postings old keys entry old.pending refl other columns written; new_is = refl }),
    )

-- ---- the posting that comes is done

-- what comes is an entry
has-columns : (postings : List Posting) (writer : PostingWriter) (pending : Option (List KeyVal)) → writer.pending ≡ pending → IsWritten postings writer
    → AllByRecursion (λ p. IsEntry p.entry) postings → MatchOption pending (Unit {0}) AreColumns
has-columns postings writer None is written entries = tt
has-columns postings writer (Some keys) is written entries =
    let coming = comes postings writer keys is written in
    record {
      entry = coming.0.entry;
      columns = coming.1.columns;
      is_entry = all-last (λ (p : Posting). IsEntry p.entry) writer.done coming.0 (subst (AllByRecursion (λ (p : Posting). IsEntry p.entry)) coming.2 entries);
    }

pub written-columns : (postings : List Posting) (writer : PostingWriter) → IsWritten postings writer → AllByRecursion (λ p. IsEntry p.entry) postings
    → HasColumns writer
written-columns postings writer written entries = has-columns postings writer writer.pending refl written entries

pub pending-columns : (writer : PostingWriter) (keys : List KeyVal) → HasColumns writer → writer.pending ≡ Some keys → AreColumns keys
pending-columns writer keys has is = subst (λ (o : Option (List KeyVal)). MatchOption o (Unit {0}) AreColumns) is has

-- the posting as the program has it
posting-is : (last : Posting) (entry : Entry) (pointers items : List RowPtr) → entry ≡ last.entry → pointers ≡ items → items ≡ last.pointers
    → last ≡ record { entry = entry; pointers = pointers }
posting-is last entry pointers items same read are =
    ap (λ (e : Entry). record { entry = e; pointers = last.pointers }) (sym same)
    ∙ ap (λ (p : List RowPtr). record { entry = entry; pointers = p }) (sym (read ∙ are))

pub close-done : (old new : PostingWriter) (keys : List KeyVal) (entry : Entry) (pointers : List RowPtr) → old.pending ≡ Some keys
    → ((e : Entry) → keys ≡ columns_of e → entry ≡ e) → pointers ≡ old.ptrs.items
    → new.done ≡ old.done ++ record { entry = entry; pointers = pointers } ∷ [] → new.pending ≡ None → new.ptrs.items ≡ [] → Closes old new
close-done old new keys entry pointers is entry_is read pushed none cleared =
    λ postings written.
    let coming = comes postings old keys is written in
    let last : Posting = coming.0 in
    record {
      done =
          coming.2
          ∙ ap (λ (p : Posting). old.done ++ p ∷ [])
          (posting-is last entry pointers old.ptrs.items (entry_is last.entry coming.1.columns) read coming.1.pointers_are)
          ∙ sym pushed;
      none = none;
      no_pointers = cleared;
    }

pub close-nothing : (old new : PostingWriter) → old.pending ≡ None → new.done ≡ old.done → new.pending ≡ None
    → new.ptrs.items ≡ old.ptrs.items → Closes old new
close-nothing old new is same_done none same_pointers =
    λ postings written.
    let nothing = none-comes postings old is written in
    record { done = nothing.0 ∙ sym (same_done ∙ nothing.1); none = none; no_pointers = same_pointers ∙ nothing.2 }
