-- Records that are stored as they come: one more is taken, and the postings that are done are stored.
use Rattle.std.proofs.Common.{◌≡◌, ◌≢◌, ℕ, ◌^◌, ◌<◌, List, [], ◌∷◌, ◌++◌, length, refl, sym, ap, subst, ◌∙◌, inl, inr, arith, length-append}
use Rattle.std.specs.Prelude.{Option, Some, None, map}
use Rattle.std.specs.List.{AllByRecursion, flat_map}
use Rattle.std.proofs.lemmas.List.Concat.{flat_map-cons}
use Rattle.std.proofs.lemmas.List.{append_assoc, length-map, map-append}
use Rattle.pg_bytes.specs.declared.row_ptr.RowPtr.{RowPtr}
use Rattle.opclass.specs.declared.types.ColType.{ColType}
use Rattle.opclass.specs.declared.value.KeyVal.{KeyVal}
use Rattle.gin_entry.specs.declared.entry.Entry.{Entry}
use Rattle.gin_entry.specs.EntryMap.{Posting}
use Rattle.gin_pack.specs.File.{HasPostings, Stored}
use Rattle.gin_pack.specs.Postings.{ArePostingsOf, IsListed, pairs_of}
use Rattle.gin_file.specs.Entry.{IsEntry}
use Rattle.gin_pack.specs.Pass.Gathering.{Begins, Closes, HasColumns, HasGathered, IsWritten, Joins, Takes, with_pointer}
use Rattle.gin_pack.specs.Pass.Storing.{HasStored, IsStoring, StoresAll}
use Rattle.gin_pack.specs.Pass.Taking.{HasTaken, IsTaking, KeepsTaken, Receives}
use Rattle.gin_pack.specs.declared.packer.Packer.{Packer}
use Rattle.gin_pack.specs.declared.posting_writer.PostingWriter.{PostingWriter}
use Rattle.gin_pack.specs.declared.store.EntryStore.{EntryStore}
use Rattle.gin_pack.proofs.Takings.{comes, no-end, none-comes, push-end, written-columns, written-coming, written-nothing}
use Rattle.gin_pack.proofs.Telling.{Ends, back-of, ends, front-of}
use Rattle.gin_pack.proofs.Telling.Ends.{Last, Nothing}

-- the postings of entries that are stored
abbrev pub told_by : List Stored → List Posting
told_by stored = map (λ each. each.posting) stored

none-told_by : (stored : List Stored) → told_by stored ≡ [] → stored ≡ []
none-told_by [] none = refl
none-told_by (one ∷ stored) none = absurd cc

-- ---- a record more

-- a pointer comes to the last of postings, whatever stands in front of them
joins-behind : (front old new : List Posting) (entry : Entry) (pointer : RowPtr) → Joins old new entry pointer
    → Joins (front ++ old) (front ++ new) entry pointer
joins-behind front old new entry pointer joins = record {
  before = front ++ joins.before;
  last = joins.last;
  old_is = ap (λ (l : List Posting). front ++ l) joins.old_is ∙ sym (append_assoc front joins.before (joins.last ∷ []));
  same = joins.same;
  new_is =
      ap (λ (l : List Posting). front ++ l) joins.new_is
      ∙ sym (append_assoc front joins.before (with_pointer joins.last pointer ∷ []));
}

begins-behind : (front old new : List Posting) (entry : Entry) (pointer : RowPtr) → (old ≡ [] → front ≡ []) → Begins old new entry pointer
    → Begins (front ++ old) (front ++ new) entry pointer
begins-behind front old new entry pointer first begins = record {
  other = λ before last is. by (ends old) before last is;
  new_is =
      ap (λ (l : List Posting). front ++ l) begins.new_is
      ∙ sym (append_assoc front old (record { entry = entry; pointers = pointer ∷ [] } ∷ []));
}
  where
    by : Ends old → (before : List Posting) (last : Posting) → front ++ old ≡ before ++ last ∷ [] → last.entry ≢ entry
    by (Nothing none) before last is =
        let all : front ++ old ≡ [] = ap (λ (l : List Posting). l ++ old) (first none) ∙ none in
        absurd (no-end before last (sym is ∙ all))
    by (Last others end ends_so) before last is =
        let same : (front ++ others) ++ end ∷ [] ≡ before ++ last ∷ [] =
        append_assoc front others (end ∷ []) ∙ ap (λ (l : List Posting). front ++ l) (sym ends_so) ∙ is in
        let one : end ≡ last = push-end (front ++ others) before end last same in
        subst (λ (p : Posting). p.entry ≢ entry) one (begins.other others end ends_so)

grown : (old new : List Posting) (entry : Entry) (pointer : RowPtr) → new ≡ [] → Joins old new entry pointer → ⊥
grown old new entry pointer none joins = no-end joins.before (with_pointer joins.last pointer) (sym joins.new_is ∙ none)

begun : (old new : List Posting) (entry : Entry) (pointer : RowPtr) → new ≡ [] → Begins old new entry pointer → ⊥
begun old new entry pointer none begins = no-end old (record { entry = entry; pointers = pointer ∷ [] }) (sym begins.new_is ∙ none)

pub receives : (old middle new : Packer) (keys : List KeyVal) (pointer : RowPtr) → KeepsTaken old middle → Takes middle.writer new.writer keys pointer
    → new.store ≡ middle.store → Receives old new keys pointer
receives old middle new keys pointer keeps takes same_store =
    λ kind postings entry has columns.
    let kept = keeps kind postings has in
    let took = takes kept.others entry kept.written columns in
    let front : List Posting = told_by kept.stored in
    let first : kept.others ≡ [] → front ≡ [] = λ none. ap told_by (kept.none_stored none) in (
      front ++ took.0,
      record {
        stored = kept.stored;
        has = subst (λ (s : EntryStore). HasStored kind kept.stored s) (sym same_store) kept.has;
        others = took.0;
        written = took.1;
        none_stored = λ none. absurd (elim took.2 [
          | inl joins ↦ grown kept.others took.0 entry pointer none joins
          | inr begins ↦ begun kept.others took.0 entry pointer none begins
        ]);
        all = refl;
      },
      elim took.2 [
        | inl joins ↦
            inl (subst (λ (p : List Posting). Joins p (front ++ took.0) entry pointer) (sym kept.all)
            (joins-behind front kept.others took.0 entry pointer joins))
        | inr begins ↦
            inr (subst (λ (p : List Posting). Begins p (front ++ took.0) entry pointer) (sym kept.all)
            (begins-behind front kept.others took.0 entry pointer first begins))
      ],
    )

-- ---- what is done is stored

-- postings that some calls may store
pub record AreStorable (kind : ColType) (postings : List Posting) : Type 0 where
  pub listed : AllByRecursion (IsListed kind) postings
  pub few : AllByRecursion (λ posting. length posting.pointers < 2 ^ 30) postings

others-storable : (packer : Packer) (taking : IsTaking packer) → AreStorable packer.store.kind taking.has.others
others-storable packer taking =
    let front : List Posting = told_by taking.has.stored in
    record {
      listed = back-of (IsListed packer.store.kind) front taking.has.others (subst (AllByRecursion (IsListed packer.store.kind)) taking.has.all taking.listed);
      few =
          back-of (λ (p : Posting). length p.pointers < 2 ^ 30) front taking.has.others
          (subst (AllByRecursion (λ (p : Posting). length p.pointers < 2 ^ 30)) taking.has.all taking.few);
    }

done-of : (kind : ColType) (others : List Posting) (writer : PostingWriter) (pending : Option (List KeyVal)) → writer.pending ≡ pending
    → IsWritten others writer → AreStorable kind others → AreStorable kind writer.done
done-of kind others writer None is written storable =
    let nothing = none-comes others writer is written in
    subst (AreStorable kind) (nothing.0 ∙ sym nothing.1) storable
done-of kind others writer (Some keys) is written storable =
    let coming = comes others writer keys is written in
    record {
      listed = front-of (IsListed kind) writer.done (coming.0 ∷ []) (subst (AllByRecursion (IsListed kind)) coming.2 storable.listed);
      few =
          front-of (λ (p : Posting). length p.pointers < 2 ^ 30) writer.done (coming.0 ∷ [])
          (subst (AllByRecursion (λ (p : Posting). length p.pointers < 2 ^ 30)) coming.2 storable.few);
    }

pub done-storable : (packer : Packer) → IsTaking packer → AreStorable packer.store.kind packer.writer.done
done-storable packer taking =
    done-of packer.store.kind taking.has.others packer.writer packer.writer.pending refl taking.has.written (others-storable packer taking)

pub taking-storing : (packer : Packer) → IsTaking packer → IsStoring packer.store
taking-storing packer taking = record { stored = taking.has.stored; has = taking.has.has }

keeps-at : (old new : Packer) (pending : Option (List KeyVal)) → old.writer.pending ≡ pending → StoresAll old.store new.store old.writer.done
    → new.writer.done ≡ [] → new.writer.pending ≡ old.writer.pending → new.writer.ptrs.items ≡ old.writer.ptrs.items → KeepsTaken old new
keeps-at old new None is stores cleared same_pending same_pointers =
    λ kind postings has.
    let nothing = none-comes has.others old.writer is has.written in
    let made = stores kind has.stored has.has in
    let none : has.stored ++ made.0 ≡ [] =
    ap (λ (s : List Stored). s ++ made.0) (has.none_stored nothing.0) ∙ none-told_by made.0 (made.1 ∙ nothing.1) in
    record {
      stored = has.stored ++ made.0;
      has = made.2;
      others = [];
      written = written-nothing [] new.writer (same_pending ∙ is) (refl, cleared, same_pointers ∙ nothing.2);
      none_stored = λ _. none;
      all =
          has.all
          ∙ ap (λ (s : List Stored). told_by s ++ has.others) (has.none_stored nothing.0)
          ∙ nothing.0
          ∙ sym (ap (λ (s : List Stored). told_by s ++ []) none);
    }
keeps-at old new (Some keys) is stores cleared same_pending same_pointers =
    λ kind postings has.
    let coming = comes has.others old.writer keys is has.written in
    let last : Posting = coming.0 in
    let made = stores kind has.stored has.has in
    record {
      stored = has.stored ++ made.0;
      has = made.2;
      others = last ∷ [];
      written = written-coming (last ∷ []) new.writer keys (same_pending ∙ is) (
        last,
        record { columns = coming.1.columns; pointers_are = same_pointers ∙ coming.1.pointers_are },
        ap (λ (l : List Posting). l ++ last ∷ []) (sym cleared),
      );
      none_stored = λ none. absurd cc;
      all =
          has.all
          ∙ ap (λ (l : List Posting). told_by has.stored ++ l) (coming.2 ∙ ap (λ (l : List Posting). l ++ last ∷ []) (sym made.1))
          ∙ sym (append_assoc (told_by has.stored) (told_by made.0) (last ∷ []))
          ∙ ap (λ (l : List Posting). l ++ last ∷ []) (sym (map-append (λ (s : Stored). s.posting) has.stored made.0));
    }

pub keeps-taken : (old new : Packer) → StoresAll old.store new.store old.writer.done → new.writer.done ≡ []
    → new.writer.pending ≡ old.writer.pending → new.writer.ptrs.items ≡ old.writer.ptrs.items → KeepsTaken old new
keeps-taken old new stores cleared same_pending same_pointers = keeps-at old new old.writer.pending refl stores cleared same_pending same_pointers

-- what comes is an entry
entries-listed : (kind : ColType) (postings : List Posting) → AllByRecursion (IsListed kind) postings → AllByRecursion (λ p. IsEntry p.entry) postings
entries-listed kind [] all = tt
entries-listed kind (posting ∷ postings) all = (all.0.is_entry.entry_is, entries-listed kind postings all.1)

pub taking-columns : (packer : Packer) → IsTaking packer → HasColumns packer.writer
taking-columns packer taking =
    written-columns taking.has.others packer.writer taking.has.written
    (entries-listed packer.store.kind taking.has.others (others-storable packer taking).listed)

pub kept-columns : (old new : Packer) → IsTaking old → KeepsTaken old new → HasColumns new.writer
kept-columns old new taking keeps =
    let kept = keeps old.store.kind taking.postings taking.has in
    let front : List Posting = told_by kept.stored in
    let mine = back-of (IsListed old.store.kind) front kept.others (subst (AllByRecursion (IsListed old.store.kind)) kept.all taking.listed) in
    written-columns kept.others new.writer kept.written (entries-listed old.store.kind kept.others mine)

-- ---- all came

pub closed-storable : (packer : Packer) (writer : PostingWriter) → IsTaking packer → Closes packer.writer writer → AreStorable packer.store.kind writer.done
closed-storable packer writer taking closes =
    subst (AreStorable packer.store.kind) (closes taking.has.others taking.has.written).done (others-storable packer taking)

pub whole-file : (old : Packer) (writer : PostingWriter) (store : EntryStore) (file : List ℕ) → Closes old.writer writer
    → StoresAll old.store store writer.done
    → ((kind : ColType) → (stored : List Stored) → HasStored kind stored store → HasPostings kind file (told_by stored))
    → (kind : ColType) (postings : List Posting) → HasTaken kind postings old → HasPostings kind file postings
whole-file old writer store file closes stores finished kind postings has =
    let made = stores kind has.stored has.has in
    let all : told_by (has.stored ++ made.0) ≡ postings =
    map-append (λ (s : Stored). s.posting) has.stored made.0
    ∙ ap (λ (l : List Posting). told_by has.stored ++ l) (made.1 ∙ sym (closes has.others has.written).done)
    ∙ sym has.all in
    subst (HasPostings kind file) all (finished kind (has.stored ++ made.0) made.2)

-- ---- nothing came yet

no-postings : (kind : ColType) (postings : List Posting) → ArePostingsOf kind [] postings → postings ≡ []
no-postings kind [] are = refl
no-postings kind (posting ∷ postings) are =
    let pairs = ap length (are.pairs ∙ flat_map-cons pairs_of posting postings) in
    let both = length-append (pairs_of posting) (flat_map pairs_of postings) in
    let mine : length (pairs_of posting) ≡ length posting.pointers = length-map posting.pointers _ in
    let some = are.each.0.listed.some in
    absurd (omega arith)

pub none-taken : (kind : ColType) (packer : Packer) → HasStored kind [] packer.store → HasGathered kind [] packer.writer → HasTaken kind [] packer
none-taken kind packer has gathered = record {
  stored = [];
  has = has;
  others = [];
  written = subst (λ (p : List Posting). IsWritten p packer.writer) (no-postings kind gathered.postings gathered.are) gathered.written;
  none_stored = λ _. refl;
  all = refl;
}
