-- A relation that is read segment by segment: what is known after each.
use Rattle.std.proofs.Common.{◌≡◌, ℕ, zero, suc, ◌+◌, ◌-◌, ◌<◌, ◌≤◌, List, [], ◌∷◌, ◌++◌, length, take, drop, Option, Some, None, refl, sym, ap, ◌∙◌, arith, append-nil, length-append, inl, inr, subst}
use Rattle.std.specs.Prelude.{IsErrOf, IsSome, Result, Ok, Err}
use Rattle.std.specs.List.{flat_map, range_with_len}
use Rattle.std.proofs.lemmas.Bool.{cases_lt}
use Rattle.std.proofs.lemmas.List.{length-take-le}
use Rattle.std.proofs.lemmas.Grind.{flat_map-append}
use Rattle.pg_files.specs.Files.{content}
use Rattle.pg_files.specs.Outside.{FileMap, OnlyReadsAndAsks, Outside}
use Rattle.segments.specs.Limits.{AreLimits, segment_bytes}
use Rattle.segments.specs.Names.{segment_name}
use Rattle.segments.specs.Reading.{CountsSegmentRead, AskFailed, GoesOn, HasEnded, HasSurplus, HaveRoom, IsFaulty, IsOverlong, IsReached, IsToRead, NextFailed, OnFault, ReadFailed, SomeFailed}
use Rattle.segments.specs.Relation.{AreFull, HasSeriesFault, IsFull, IsRelation, bytes_of_segment, first_segments, segment_of}
use Rattle.segments.specs.Told.{OnTold}
use Rattle.segments.specs.declared.fault.SeriesCause.{SeriesCause}
use Rattle.segments.specs.declared.fault.SeriesCause.TheVariants.{Overlong, Surplus}
use Rattle.segments.specs.declared.fault.SeriesError.{SeriesError}
use Rattle.segments.specs.declared.fault.SeriesError.TheVariants as series
use Rattle.segments.specs.declared.fault.SeriesFault.{SeriesFault}
use Rattle.segments.specs.declared.limits.Limits.{Limits}

range_more : (base n : ℕ) → range_with_len base (n + 1) ≡ range_with_len base n ++ (base + n) ∷ []
range_more base zero = ap (λ (k : ℕ). k ∷ []) (let e : base ≡ base + 0 = omega arith in e)
range_more base (suc n) =
    ap (range_with_len base) (let e : suc n + 1 ≡ suc (n + 1) = omega arith in e)
    ∙ ap (λ (l : List ℕ). base ∷ l)
    (range_more (base + 1) n ∙ ap (λ (k : ℕ). range_with_len (base + 1) n ++ k ∷ []) (let e : base + 1 + n ≡ base + suc n = omega arith in e))

-- the bytes of one segment more
pub first_more : (files : FileMap) (name : List ℕ) (count : ℕ) → first_segments files name (count + 1) ≡ first_segments files name count ++ bytes_of_segment files name count
first_more files name count =
    ap (flat_map (bytes_of_segment files name)) (range_more 0 count)
    ∙ flat_map-append (bytes_of_segment files name) (range_with_len 0 count) ((0 + count) ∷ [])
    ∙ ap (λ (b : List ℕ). first_segments files name count ++ b)
    (append-nil (bytes_of_segment files name (0 + count)) ∙ ap (bytes_of_segment files name) (let e : 0 + count ≡ count = omega arith in e))

-- what was read so far: full segments
pub record IsSoFar (size : ℕ) (name : List ℕ) (number : ℕ) (bytes : List ℕ) (files : FileMap) : Type 0 where
  pub full : AreFull size files name number
  pub bytes_are : bytes ≡ first_segments files name number

-- one full segment more
full_more : (size : ℕ) (files : FileMap) (name : List ℕ) (number : ℕ) → AreFull size files name number → IsFull size (segment_of files name number)
    → AreFull size files name (number + 1)
full_more size files name number before here = λ at below. elim (cases_lt at number) [
  | inl less ↦ before at less
  | inr more ↦ subst (λ (n : ℕ). IsFull size (segment_of files name n)) (let e : number ≡ at = omega (arith, below, more) in e) here
]

-- at the start
pub none_so_far : (size : ℕ) (name : List ℕ) (files : FileMap) → IsSoFar size name 0 [] files
none_so_far size name files = record { full = λ at below. absurd (omega (arith, below)); bytes_are = refl }

so_far_more : (size : ℕ) (name : List ℕ) (number : ℕ) (bytes new : List ℕ) (files : FileMap) → IsSoFar size name number bytes files
    → GoesOn size name number bytes new files → IsSoFar size name (number + 1) new files
so_far_more size name number bytes new files before more = record {
  full = full_more size files name number before.full more.full;
  bytes_are = more.bytes_are ∙ ap (λ (b : List ℕ). b ++ bytes_of_segment files name number) before.bytes_are ∙ sym (first_more files name number);
}

-- a full segment has its bytes, and no more
full_length : (size : ℕ) (file : Option (List ℕ)) → IsFull size file → length (content file) ≡ size
full_length size None full = absurd full
full_length size (Some file) full = full

pub full_there : (size : ℕ) (file : Option (List ℕ)) → IsFull size file → file ≡ None → ⊥
full_there size None full none = full
full_there size (Some file) full none = cc

-- a full segment isn't longer than one
pub not_long : (size : ℕ) (file : Option (List ℕ)) → IsFull size file → size < length (content file) → ⊥
not_long size file full long = let is : length (content file) ≡ size = full_length size file full in omega (arith, is, long)

-- a file that is absent has no bytes
none_long : (size : ℕ) (file : Option (List ℕ)) → file ≡ None → size < length (content file) → ⊥
none_long size file none long =
    let empty : length (content file) ≡ 0 = ap (λ (f : Option (List ℕ)). length (content f)) none in omega (arith, empty, long)

-- Behind the last segment none is full, and none has bytes while those before it are full.
behind_full : (size : ℕ) (name : List ℕ) (number : ℕ) (bytes new : List ℕ) (files : FileMap) (at : ℕ) → HasEnded size name number bytes new files
    → number + 1 < at → AreFull size files name at → ⊥
behind_full size name number bytes new files at ended past full =
    full_there size (segment_of files name (number + 1)) (full (number + 1) past) (ended.end (full number (omega (arith, past))))

behind_long : (size : ℕ) (name : List ℕ) (number : ℕ) (bytes new : List ℕ) (files : FileMap) (at least : ℕ) → HasEnded size name number bytes new files
    → number < at → AreFull size files name at → least < length (bytes_of_segment files name at) → ⊥
behind_long size name number bytes new files at least ended past full long = elim (cases_lt (number + 1) at) [
  | inl far ↦ behind_full size name number bytes new files at ended far full
  | inr near ↦ let next : number + 1 ≡ at = omega (arith, past, near) in
      none_long least (segment_of files name at) (ap (segment_of files name) (sym next) ∙ ended.end (full number past)) long
]

ended_sound : (limits : Limits) (name : List ℕ) (number : ℕ) (bytes new : List ℕ) (files : FileMap) → number < limits.segments
    → IsSoFar (segment_bytes limits) name number bytes files → HasEnded (segment_bytes limits) name number bytes new files
    → (cause : SeriesCause) (block : ℕ) → HasSeriesFault limits files name cause block → ⊥
ended_sound limits name number bytes new files few before ended Overlong block (at, permitted, full, long, is) = elim (cases_lt number at) [
  | inl past ↦ behind_long (segment_bytes limits) name number bytes new files at (segment_bytes limits) ended past full long
  | inr within ↦ elim (cases_lt at number) [
    | inl less ↦ not_long (segment_bytes limits) (segment_of files name at) (before.full at less) long
    | inr same ↦ let here : at ≡ number = omega (arith, within, same) in
        let short : length (bytes_of_segment files name number) ≤ segment_bytes limits = ended.short in
        let lengths : length (bytes_of_segment files name at) ≡ length (bytes_of_segment files name number) = ap (λ (n : ℕ). length (bytes_of_segment files name n)) here in
        omega (arith, short, lengths, long)
  ]
]
ended_sound limits name number bytes new files few before ended Surplus block (full, some, is) =
    behind_long (segment_bytes limits) name number bytes new files limits.segments 0 ended few full some

ended_relation : (limits : Limits) (name : List ℕ) (number : ℕ) (bytes new : List ℕ) (files : FileMap) → number < limits.segments
    → IsSoFar (segment_bytes limits) name number bytes files → HasEnded (segment_bytes limits) name number bytes new files
    → IsRelation limits name new files
ended_relation limits name number bytes new files few before ended =
    let same : number ≡ number + 1 - 1 = omega arith in record {
      count = number + 1;
      segments = record {
        some = omega arith;
        full = λ at below. before.full at (omega (arith, below));
        last = subst (λ (n : ℕ). IsSome (segment_of files name n)) same ended.there;
        end = subst (λ (n : ℕ). IsFull (segment_bytes limits) (segment_of files name n) → segment_of files name (number + 1) ≡ None) same ended.end;
      };
      sound = ended_sound limits name number bytes new files few before ended;
      bytes_are = ended.bytes_are ∙ ap (λ (b : List ℕ). b ++ bytes_of_segment files name number) before.bytes_are ∙ sym (first_more files name number);
    }

-- as many as there may be are full, and one more has no bytes
beyond_sound : (limits : Limits) (name bytes : List ℕ) (files : FileMap) → IsSoFar (segment_bytes limits) name limits.segments bytes files
    → segment_of files name limits.segments ≡ Some [] → (cause : SeriesCause) (block : ℕ) → HasSeriesFault limits files name cause block → ⊥
beyond_sound limits name bytes files before empty Overlong block (at, permitted, full, long, is) =
    not_long (segment_bytes limits) (segment_of files name at) (before.full at permitted) long
beyond_sound limits name bytes files before empty Surplus block (full, some, is) =
    let none : length (bytes_of_segment files name limits.segments) ≡ 0 = ap (λ (f : Option (List ℕ)). length (content f)) empty in omega (arith, none, some)

some_there : (file : Option (List ℕ)) → file ≡ Some [] → IsSome file
some_there None there = absurd (let no : ⊥ = cc in no)
some_there (Some file) there = refl

empty_not_full : (size : ℕ) (file : Option (List ℕ)) → 0 < size → file ≡ Some [] → IsFull size file → ⊥
empty_not_full size file some empty full =
    let is : length (content file) ≡ size = full_length size file full in
    let none : length (content file) ≡ 0 = ap (λ (f : Option (List ℕ)). length (content f)) empty in omega (arith, is, none, some)

beyond_relation : (limits : Limits) (name bytes : List ℕ) (files : FileMap) → AreLimits limits → IsSoFar (segment_bytes limits) name limits.segments bytes files
    → segment_of files name limits.segments ≡ Some [] → IsRelation limits name bytes files
beyond_relation limits name bytes files are before empty =
    let same : limits.segments ≡ limits.segments + 1 - 1 = omega arith in
    let blocks : 1 ≤ limits.segment = are.some_blocks in
    let bytes_some : 0 < segment_bytes limits = omega (arith, blocks) in record {
      count = limits.segments + 1;
      segments = record {
        some = omega arith;
        full = λ at below. before.full at (omega (arith, below));
        last = subst (λ (n : ℕ). IsSome (segment_of files name n)) same (some_there (segment_of files name limits.segments) empty);
        end = subst (λ (n : ℕ). IsFull (segment_bytes limits) (segment_of files name n) → segment_of files name (limits.segments + 1) ≡ None) same
            (λ full. absurd (empty_not_full (segment_bytes limits) (segment_of files name limits.segments) bytes_some empty full));
      };
      sound = beyond_sound limits name bytes files before empty;
      bytes_are = before.bytes_are ∙ sym (append-nil (first_segments files name limits.segments))
          ∙ ap (λ (b : List ℕ). first_segments files name limits.segments ++ b) (sym (ap content empty)) ∙ sym (first_more files name limits.segments);
    }

-- ---- of files that may not be told

pub told_more : (size : ℕ) (name : List ℕ) (number : ℕ) (bytes new : List ℕ) (old mid : Option FileMap) → mid ≡ old → OnTold old (IsSoFar size name number bytes)
    → OnTold mid (GoesOn size name number bytes new) → OnTold old (IsSoFar size name (number + 1) new)
told_more size name number bytes new None mid same before more = tt
told_more size name number bytes new (Some files) mid same before more =
    so_far_more size name number bytes new files before (subst (λ (told : Option FileMap). OnTold told (GoesOn size name number bytes new)) same more)

pub told_none : (size : ℕ) (name : List ℕ) (old : Option FileMap) → OnTold old (IsSoFar size name 0 [])
told_none size name None = tt
told_none size name (Some files) = none_so_far size name files

pub told_ended : (limits : Limits) (name : List ℕ) (number : ℕ) (bytes new : List ℕ) (old mid : Option FileMap) → mid ≡ old → number < limits.segments
    → OnTold old (IsSoFar (segment_bytes limits) name number bytes) → OnTold mid (HasEnded (segment_bytes limits) name number bytes new)
    → OnTold old (IsRelation limits name new)
told_ended limits name number bytes new None mid same few before ended = tt
told_ended limits name number bytes new (Some files) mid same few before ended =
    ended_relation limits name number bytes new files few before (subst (λ (told : Option FileMap). OnTold told (HasEnded (segment_bytes limits) name number bytes new)) same ended)

pub told_beyond : (limits : Limits) (name bytes : List ℕ) (old mid : Option FileMap) → mid ≡ old → AreLimits limits
    → OnTold old (IsSoFar (segment_bytes limits) name limits.segments bytes) → OnTold mid (λ files. segment_of files name limits.segments ≡ Some [])
    → OnTold old (IsRelation limits name bytes)
told_beyond limits name bytes None mid same are before empty = tt
told_beyond limits name bytes (Some files) mid same are before empty =
    beyond_relation limits name bytes files are before (subst (λ (told : Option FileMap). OnTold told (λ files. segment_of files name limits.segments ≡ Some [])) same empty)

-- ---- faults

overlong_fault : (limits : Limits) (name : List ℕ) (number : ℕ) (bytes : List ℕ) (fault : SeriesFault) (files : FileMap) → number < limits.segments
    → IsSoFar (segment_bytes limits) name number bytes files → IsOverlong limits name number fault files → IsFaulty limits name fault files
overlong_fault limits name number bytes fault files few before over =
    subst (λ (cause : SeriesCause). HasSeriesFault limits files name cause fault.block) (sym over.cause_is)
    (number, few, before.full, over.long, over.block_is)

surplus_fault : (limits : Limits) (name bytes : List ℕ) (fault : SeriesFault) (files : FileMap) → IsSoFar (segment_bytes limits) name limits.segments bytes files
    → HasSurplus limits name fault files → IsFaulty limits name fault files
surplus_fault limits name bytes fault files before over =
    subst (λ (cause : SeriesCause). HasSeriesFault limits files name cause fault.block) (sym over.cause_is)
    (before.full, over.some, over.block_is)

pub told_overlong : (limits : Limits) (name : List ℕ) (number : ℕ) (bytes : List ℕ) (fault : SeriesFault) (old mid : Option FileMap) → mid ≡ old → number < limits.segments
    → OnTold old (IsSoFar (segment_bytes limits) name number bytes) → OnTold mid (IsOverlong limits name number fault) → OnTold old (IsFaulty limits name fault)
told_overlong limits name number bytes fault None mid same few before over = tt
told_overlong limits name number bytes fault (Some files) mid same few before over =
    overlong_fault limits name number bytes fault files few before (subst (λ (told : Option FileMap). OnTold told (IsOverlong limits name number fault)) same over)

pub told_surplus : (limits : Limits) (name bytes : List ℕ) (fault : SeriesFault) (old mid : Option FileMap) → mid ≡ old
    → OnTold old (IsSoFar (segment_bytes limits) name limits.segments bytes) → OnTold mid (HasSurplus limits name fault) → OnTold old (IsFaulty limits name fault)
told_surplus limits name bytes fault None mid same before over = tt
told_surplus limits name bytes fault (Some files) mid same before over =
    surplus_fault limits name bytes fault files before (subst (λ (told : Option FileMap). OnTold told (HasSurplus limits name fault)) same over)

-- ---- failures

told_full : (size : ℕ) (name : List ℕ) (number : ℕ) (bytes : List ℕ) (told : Option FileMap) → OnTold told (IsSoFar size name number bytes) → IsReached size told name number
told_full size name number bytes None before = tt
told_full size name number bytes (Some files) before = before.full

told_full_more : (size : ℕ) (name : List ℕ) (number : ℕ) (bytes : List ℕ) (old mid : Option FileMap) → mid ≡ old → OnTold old (IsSoFar size name number bytes)
    → OnTold mid (λ files. IsFull size (segment_of files name number)) → IsReached size old name (number + 1)
told_full_more size name number bytes None mid same before here = tt
told_full_more size name number bytes (Some files) mid same before here =
    full_more size files name number before.full (subst (λ (told : Option FileMap). OnTold told (λ files. IsFull size (segment_of files name number))) same here)

-- counts that were as at the start have room, and what rose since rose since the start
pub still_room : (name : List ℕ) (old mid : Outside) → mid.read_faults ≡ old.read_faults → mid.ask_faults ≡ old.ask_faults → HaveRoom name old → HaveRoom name mid
still_room name old mid reads asks room = λ number.
    let read : mid.read_faults (segment_name name number) ≡ old.read_faults (segment_name name number) = ap (λ (counts : List ℕ → ℕ). counts (segment_name name number)) reads in
    let ask : mid.ask_faults (segment_name name number) ≡ old.ask_faults (segment_name name number) = ap (λ (counts : List ℕ → ℕ). counts (segment_name name number)) asks in
    let had = room number in (omega (arith, read, had.0), omega (arith, ask, had.1))

pub read_since : (segment : List ℕ) (old mid new : Outside) → mid.read_faults ≡ old.read_faults → ReadFailed segment mid new → ReadFailed segment old new
read_since segment old mid new reads rose =
    let read : mid.read_faults segment ≡ old.read_faults segment = ap (λ (counts : List ℕ → ℕ). counts segment) reads in omega (arith, read, rose)

pub ask_since : (segment : List ℕ) (old mid new : Outside) → mid.ask_faults ≡ old.ask_faults → AskFailed segment mid new → AskFailed segment old new
ask_since segment old mid new asks rose =
    let ask : mid.ask_faults segment ≡ old.ask_faults segment = ap (λ (counts : List ℕ → ℕ). counts segment) asks in omega (arith, ask, rose)

-- the first segment is read whether it is there or not, and each further one was found there
pub first_to_read : (told : Option FileMap) (name : List ℕ) → IsToRead told name 0
first_to_read None name = tt
first_to_read (Some files) name = inl refl

pub next_to_read : (size : ℕ) (name : List ℕ) (number : ℕ) (bytes new : List ℕ) (old mid : Option FileMap) → mid ≡ old
    → OnTold mid (GoesOn size name number bytes new) → IsToRead old name (number + 1)
next_to_read size name number bytes new None mid same more = tt
next_to_read size name number bytes new (Some files) mid same more =
    let goes : GoesOn size name number bytes new files = subst (λ (told : Option FileMap). OnTold told (GoesOn size name number bytes new)) same more in inr goes.next

-- a failure on the way is one of the relation
pub next_failed : (size : ℕ) (name : List ℕ) (next : ℕ) (bytes : List ℕ) (old mid new : Outside) → OnlyReadsAndAsks old mid → mid.read_faults ≡ old.read_faults
    → mid.ask_faults ≡ old.ask_faults → OnTold old.files (IsSoFar size name next bytes) → IsToRead old.files name next → NextFailed size name next mid new → SomeFailed size name old new
next_failed size name next bytes old mid new only reads asks before to_read (inl rose) = record {
  number = next;
  reached = told_full size name next bytes old.files before;
  failed = inl (to_read, read_since (segment_name name next) old mid new reads rose);
}
next_failed size name next bytes old mid new only reads asks before to_read (inr behind) = record {
  number = next + 1;
  reached = told_full_more size name next bytes old.files mid.files only.files before behind.0;
  failed = inr (ask_since (segment_name name (next + 1)) old mid new asks behind.1);
}

pub beyond_failed : (size : ℕ) (name : List ℕ) (number : ℕ) (bytes : List ℕ) (old mid new : Outside) → mid.read_faults ≡ old.read_faults
    → OnTold old.files (IsSoFar size name number bytes) → IsToRead old.files name number → ReadFailed (segment_name name number) mid new → SomeFailed size name old new
beyond_failed size name number bytes old mid new reads before to_read failed = record {
  number = number;
  reached = told_full size name number bytes old.files before;
  failed = inl (to_read, read_since (segment_name name number) old mid new reads failed);
}

-- an error is one whatever the value would be
same_error : {T U : Type 0} (error other : SeriesError) → IsErrOf {T = T} (Err error) other → IsErrOf {T = U} (Err error) other
same_error {T} {U} error other is = let same : error ≡ other = cc in ap (λ (e : SeriesError). let r : Result U SeriesError = Err e in r) same

-- a failure of one call is one of the whole
pub count_failure : {T U : Type 0} (Inner Outer : Type 0) (name : List ℕ) (error : SeriesError) (result : Result T SeriesError) (old mid new : Outside)
    → result ≡ Err error → mid.read_faults ≡ old.read_faults → mid.ask_faults ≡ old.ask_faults → (Inner → Outer)
    → CountsSegmentRead Inner name result mid new → CountsSegmentRead {T = U} Outer name (Err error) old new
count_failure {T} {U} Inner Outer name error result old mid new was reads asks step counts =
    let here : CountsSegmentRead {T = T} Inner name (Err error) mid new = subst (λ (r : Result T SeriesError). CountsSegmentRead Inner name r mid new) was counts in record {
      raised = λ failed room. step (here.raised (same_error error series.Failed failed) (still_room name old mid reads asks room));
      reads_kept = λ other. here.reads_kept (λ failed. other (same_error error series.Failed failed)) ∙ reads;
      asks_kept = λ other. here.asks_kept (λ failed. other (same_error error series.Failed failed)) ∙ asks;
    }

-- what is known of each fault is known of it in other words
pub on_fault : (P Q : SeriesFault → Type 0) (error : SeriesError) → ((fault : SeriesFault) → P fault → Q fault) → OnFault P error → OnFault Q error
on_fault P Q (series.Fault fault) step is = step fault is
on_fault P Q series.Memory step is = tt
on_fault P Q series.Failed step is = tt

-- what is a value is no error
pub not_error : {T : Type 0} {result : Result T SeriesError} {value : T} {error : SeriesError} → result ≡ Ok value → IsErrOf result error → ⊥
not_error is failed = cc

-- a buffer that was lent comes back as long as it was
pub lent_length : (size : ℕ) (new old : List ℕ) → length new ≡ size → length (take size (new ++ drop (length new) old)) ≡ size
lent_length size new old same =
    let bytes : List ℕ = new ++ drop (length new) old in
    let all : length bytes ≡ length new + length (drop (length new) old) = length-append new (drop (length new) old) in
    length-take-le size bytes (omega (arith, all, same))
