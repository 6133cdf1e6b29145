-- What was read of the heap file tells what the words and the file come to, and what is delivered after reading alone is
-- delivered all in all.
use Rattle.std.proofs.Common.{◌≡◌, ◌⊎◌, ℕ, ◌<◌, ◌≤◌, List, length, take, Option, Some, Result, Err, ap, ap₂, subst, sym, ◌∙◌, arith, inl, inr, refl}
use Rattle.pg_bytes.specs.Blocks.{block_count}
use Rattle.pg_files.specs.Files.{ToldSays, ToldSets}
use Rattle.pg_files.specs.Outside.{FileMap, OnlyReads, Outside}
use Rattle.std.specs.Prelude.{Bool, ◌+◌, string_bytes}
use Rattle.block_claim.specs.Legal.{IsLegal}
use Rattle.build_leader.specs.Blocks.{most_bytes}
use Rattle.build_leader.specs.Outcome.{Duplicate, Faulty, Indexed, RangeWide}
use Rattle.build_leader.specs.declared.fault.LeadFault.TheVariants as lead
use Rattle.opclass.specs.Indexes.{IsIndexOver}
use Rattle.index_stmt.specs.declared.fault.StmtFault.{StmtFault}
use Rattle.index_stmt.specs.declared.fault.ReadStmt.{ReadStmt}
use Rattle.index_stmt.specs.declared.fault.ReadStmt.TheVariants as read
use Rattle.index_stmt.specs.Answers.{Answers}
use Rattle.pg_index.proofs.ReadOn.{told_map}
use Rattle.pg_index.specs.Answer.{fault_of_heap, fault_of_read, fault_of_statement}
use Rattle.pg_index.specs.Calls.BuiltIndex.{IsHeapFault, IsIndexOf, made_of}
use Rattle.pg_index.specs.HeapFile.{IsFront, IsHeapOf, OnToldFile}
use Rattle.pg_index.specs.IndexFile.{Delivery, IsCutShort, IsDelivered, delivery}
use Rattle.pg_index.specs.Outcome.{Asks, HasHeapOutcome, HasOutcome, HeapOutcome, OfBlocks, OfFile, OfHeap, Statement}
use Rattle.pg_index.specs.Run.{Builds, Ends, Refused, Unread, WithoutMemory, Told, delivery_of, nothing}
use Rattle.pg_index.specs.Report.{report_of}
use Rattle.pg_index.specs.Statements.{asked_by, asked_of}
use Rattle.pg_index.specs.Words.{IsInGrammar, heap_name, index_name, index_text, table_text, wants_claims, workers_of}
use Rattle.pg_index.specs.declared.built_index.BuiltIndex.{BuiltIndex}
use Rattle.pg_index.specs.declared.built_index.Manner.{Manner}
use Rattle.pg_index.specs.declared.fault.HeapFault.{HeapFault}
use Rattle.pg_index.specs.declared.fault.HeapFault.TheVariants.{File, Lead}
use Rattle.pg_index.specs.declared.heap_file.FileCause.TheVariants.{NotWhole, TooLong}
use Rattle.pg_index.specs.declared.heap_file.ReadError.{ReadError}
use Rattle.pg_index.specs.declared.heap_file.ReadError.TheVariants.{Failed, Memory}
use Rattle.pg_index.specs.declared.statements.Asked.{Asked}

-- a heap that is too long is so however much of it was read
past_outcome : (asked : Asked) (heap file : List ℕ) (outcome : HeapOutcome) → most_bytes < length heap → IsFront heap file
    → HasHeapOutcome asked heap outcome → HasHeapOutcome asked file outcome
past_outcome asked heap file (OfFile TooLong block) past front has =
    let inside : length heap ≤ length file = front.inside in (omega (arith, has.0), has.1)
past_outcome asked heap file (OfFile NotWhole block) past front has = absurd (omega (arith, has.0))
past_outcome asked heap file (OfBlocks outcome) past front has =
    absurd (let short : length heap ≤ most_bytes = has.0.0 in omega arith)

read_outcome : (asked : Asked) (heap file : List ℕ) (outcome : HeapOutcome) → IsHeapOf heap file
    → HasHeapOutcome asked heap outcome → HasHeapOutcome asked file outcome
read_outcome asked heap file outcome (inl same) has =
    let P : List ℕ → Type 0 = λ h. HasHeapOutcome asked h outcome in subst P same has
read_outcome asked heap file outcome (inr long) has = past_outcome asked heap file outcome long.0 long.1 has

-- a heap that isn't too long was read whole
same_blocks : (heap file : List ℕ) → length heap ≤ most_bytes → IsHeapOf heap file → block_count heap ≡ block_count file
same_blocks heap file short (inl same) = ap block_count same
same_blocks heap file short (inr long) = absurd (omega (arith, long.0))

-- a heap that was read under a name of the words comes to this
pub told_heap : (words : List (List ℕ)) (name : List ℕ) (told : Option FileMap) (asked : Asked) (heap : List ℕ) (outcome : HeapOutcome)
    → name ≡ heap_name words → OnToldFile told name (IsHeapOf heap) → HasHeapOutcome asked heap outcome
    → OnToldFile told (heap_name words) (λ file. HasHeapOutcome asked file outcome)
told_heap words name told asked heap outcome named read has =
    let P : List ℕ → Type 0 = λ n. OnToldFile told n (λ file. HasHeapOutcome asked file outcome) in
    subst P named (told_map told name (IsHeapOf heap) (λ file. HasHeapOutcome asked file outcome) (λ file is. read_outcome asked heap file outcome is has) read)

-- what the texts that were read ask for is what the words ask for
pub asked_is : (words : List (List ℕ)) (table index : List ℕ) (read : Result Asked StmtFault) → table ≡ table_text words → index ≡ index_text words
    → asked_by table index ≡ read → asked_of words ≡ read
asked_is words table index read e f is = sym (ap₂ asked_by e f) ∙ is

answers_of : (words : List (List ℕ)) (table index : List ℕ) (fault : ReadStmt) → table ≡ table_text words → index ≡ index_text words
    → Answers (asked_by table index) (Err fault) → Answers (asked_of words) (Err fault)
answers_of words table index fault e f is =
    let P : Result Asked StmtFault → Type 0 = λ r. Answers r (Err fault) in subst P (ap₂ asked_by e f) is

-- the end of a run whose statements weren't read
told_statement : (words : List (List ℕ)) (old new : Outside) (fault : ReadStmt) → IsInGrammar words → Answers (asked_of words) (Err fault)
    → OnlyReads old new → Ends words old new nothing (Some (fault_of_statement fault))
told_statement words old new (read.Fault fault) grammar answers only =
    Refused (Statement fault) (grammar, answers) refl refl only refl
told_statement words old new read.Memory grammar answers only = WithoutMemory grammar refl only refl

pub ends_unasked : (words : List (List ℕ)) (table index : List ℕ) (old new : Outside) (fault : ReadStmt) → IsInGrammar words
    → table ≡ table_text words → index ≡ index_text words → Answers (asked_by table index) (Err fault)
    → OnlyReads old new → Ends words old new nothing (Some (fault_of_statement fault))
ends_unasked words table index old new fault grammar e f answers only =
    told_statement words old new fault grammar (answers_of words table index fault e f answers) only

-- the end of a run whose heap file wasn't read
pub ends_unread : (words : List (List ℕ)) (old new : Outside) (asked : Asked) (fault : ReadError) → Asks words asked → OnlyReads old new
    → Ends words old new nothing (Some (fault_of_read fault))
ends_unread words old new asked Memory asks only = WithoutMemory asks.0 refl only refl
ends_unread words old new asked Failed asks only = Unread asked asks refl only refl

-- the end of a heap that was refused
refused : (words : List (List ℕ)) (name heap : List ℕ) (old new : Outside) (asked : Asked) (outcome : HeapOutcome) → name ≡ heap_name words → Asks words asked
    → OnToldFile old.files name (IsHeapOf heap) → HasHeapOutcome asked heap outcome → HasOutcome words old.files (OfHeap outcome)
refused words name heap old new asked outcome named asks read has = (asked, asks, told_heap words name old.files asked heap outcome named read has)

pub ends_refused : (words : List (List ℕ)) (name heap : List ℕ) (old new : Outside) (asked : Asked) (fault : HeapFault) → name ≡ heap_name words → Asks words asked
    → OnToldFile old.files name (IsHeapOf heap) → IsHeapFault asked heap fault → OnlyReads old new
    → Ends words old new nothing (Some (fault_of_heap fault))
ends_refused words name heap old new asked (File file) named asks read has only =
    Refused (OfHeap (OfFile file.cause file.block)) (refused words name heap old new asked (OfFile file.cause file.block) named asks read has) refl refl only refl
ends_refused words name heap old new asked (Lead (lead.Row block item cause)) named asks read has only =
    Refused (OfHeap (OfBlocks (Faulty block item cause))) (refused words name heap old new asked (OfBlocks (Faulty block item cause)) named asks read has) refl refl only refl
ends_refused words name heap old new asked (Lead (lead.Duplicate first second)) named asks read has only =
    Refused (OfHeap (OfBlocks (Duplicate first second))) (refused words name heap old new asked (OfBlocks (Duplicate first second)) named asks read has) refl refl only refl
ends_refused words name heap old new asked (Lead (lead.RangeWide range size)) named asks read has only =
    Refused (OfHeap (OfBlocks (RangeWide range size))) (refused words name heap old new asked (OfBlocks (RangeWide range size)) named asks read has) refl refl only refl
ends_refused words name heap old new asked (Lead lead.Memory) named asks read has only = WithoutMemory asks.0 refl only refl

-- a heap that was read under a name of the words has so many blocks
told_blocks : (words : List (List ℕ)) (name : List ℕ) (told : Option FileMap) (heap : List ℕ) → name ≡ heap_name words → length heap ≤ most_bytes
    → OnToldFile told name (IsHeapOf heap) → OnToldFile told (heap_name words) (λ file. block_count heap ≡ block_count file)
told_blocks words name told heap named short read =
    let P : List ℕ → Type 0 = λ n. OnToldFile told n (λ file. block_count heap ≡ block_count file) in
    subst P named (told_map told name (IsHeapOf heap) (λ file. block_count heap ≡ block_count file) (λ file is. same_blocks heap file short is) read)

-- what words and heap file came to, once the index stands in memory
pub builds : (words : List (List ℕ)) (name heap : List ℕ) (outside : Outside) (asked : Asked) (manner : Manner) (index : BuiltIndex) → name ≡ heap_name words
    → manner.workers ≡ workers_of words → Asks words asked → IsIndexOver asked.table asked.spec
    → OnToldFile outside.files name (IsHeapOf heap) → (built : IsIndexOf asked manner heap index)
    → Builds words outside asked (made_of heap index built.taken)
builds words name heap outside asked manner index named workers asks over read built =
    let P : ℕ → Type 0 = λ w. IsLegal (block_count heap) (w + 1) index.claims in
    record {
      asks = asks;
      index = over;
      heap = told_heap words name outside.files asked heap (OfBlocks (Indexed built.taken)) named read built.outcome;
      blocks = told_blocks words name outside.files heap named built.outcome.0.0 read;
      claimed = subst P workers built.legal;
      file = built.file;
    }

-- what is delivered of an index that stands in memory, by its parts
pub delivery_is : (words : List (List ℕ)) (heap : List ℕ) (asked : Asked) (manner : Manner) (index : BuiltIndex) (name image report : List ℕ) → name ≡ index_name words
    → manner.tells_claims ≡ wants_claims words → (built : IsIndexOf asked manner heap index) → image ≡ index.image → report ≡ string_bytes index.report
    → delivery name image report ≡ delivery_of words asked (made_of heap index built.taken)
delivery_is words heap asked manner index name image report named claims built imaged told =
    let R : Bool → Told → List ℕ = λ wanted t. report_of wanted index.claims asked.spec.method t.rows t.blocks in
    ap (λ (n : List ℕ). delivery n image report) named
    ∙ ap₂ (delivery (index_name words)) imaged (told ∙ (built.report ∙ ap₂ R claims built.told))

-- what is delivered after reading alone is delivered all in all
pub delivered_after : (index : Delivery) (old mid new : Outside) → OnlyReads old mid → IsDelivered index mid new → IsDelivered index old new
delivered_after index old mid new only done =
    let F : Option FileMap → Type 0 = λ m. ToldSets index.name (λ _. index.image) m new.files in
    let S : Option (List ℕ) → Type 0 = λ m. ToldSays index.report m new.said in
    (subst F only.files done.0, subst S only.said done.1)

pub cut_after : (index : Delivery) (old mid new : Outside) → OnlyReads old mid → IsCutShort index mid new → IsCutShort index old new
cut_after index old mid new only (inl cut) =
    let F : Option FileMap → Type 0 = λ m. (new.files ≡ m) ⊎ ((count : ℕ) × (count ≤ length index.image) × ToldSets index.name (λ _. take count index.image) m new.files) in
    inl (cut.0 ∙ only.said, subst F only.files cut.1)
cut_after index old mid new only (inr cut) =
    let F : Option FileMap → Type 0 = λ m. ToldSets index.name (λ _. index.image) m new.files in
    let S : Option (List ℕ) → Type 0 = λ m. (count : ℕ) × (count ≤ length index.report) × ToldSays (take count index.report) m new.said in
    inr (subst F only.files cut.0, subst S only.said cut.1)
