-- How a run ends keeps the promise of a build.
use Rattle.std.proofs.Common.{◌≡◌, ℕ, ◌+◌, List, Option, Some, None, IsSome, IsTrue, Bool, true, false, AllPairs, refl, sym, ap, subst, ◌∙◌, arith, inl, inr, slice_index_or}
use Rattle.std.proofs.lemmas.Option.{get_or_from_slice_get, slice_get_within}
use Rattle.pg_bytes.specs.Blocks.{block_count}
use Rattle.pg_bytes.specs.declared.row_ptr.RowPtr.{RowPtr}
use Rattle.pg_files.specs.Outside.{FileMap, Outside}
use Rattle.block_claim.specs.declared.claim.Claim.{Claim}
use Rattle.block_claim.specs.Legal.{IsLegal}
use Rattle.opclass.specs.declared.types.Method.{Method}
use Rattle.opclass.specs.declared.types.Method.TheVariants.{BTree, Brin, Gin}
use Rattle.opclass.specs.Indexes.{IsIndexOver}
use Rattle.shared_tape.specs.declared.stored.Record.{Record}
use Rattle.build_leader.proofs.Determined.{no_first_fault, same_sorted}
use Rattle.build_leader.proofs.Neighbours.{neighbours_tell}
use Rattle.build_leader.specs.Outcome.{AreAccepted, AreTakenRows, Duplicate, Faulty, HasBuildOutcome, Indexed, IsIndexFile, RangeWide}
use Rattle.build_leader.specs.Unique.{Clash, IsFirstClash}
use Rattle.pg_index.proofs.AskedIndex.{asked_is}
use Rattle.pg_index.proofs.Determined.{no_file_fault, not_both, same_asked}
use Rattle.pg_index.specs.Answer.{status_of}
use Rattle.pg_index.specs.HeapFile.{OnFile, OnToldFile}
use Rattle.pg_index.specs.Headline.{AreFirstToClash, BreaksItsRule, Headline, IsBuiltOf, IsDuplicate, SomeClash}
use Rattle.pg_index.specs.IndexFile.{IsDelivered}
use Rattle.pg_index.specs.Outcome.{Asks, HasHeapOutcome, HasOutcome, HeapOutcome, OfBlocks, OfFile, OfHeap, Outcome, Statement, Usage}
use Rattle.pg_index.specs.Run.{Built, Builds, Cut, Ends, Made, Refused, Told, Unread, WithoutMemory, delivery_of, fault_of, told_of}
use Rattle.pg_index.specs.Statements.{asked_of}
use Rattle.pg_index.specs.Words.{heap_name, workers_of}
use Rattle.pg_index.specs.declared.fault.Fault.{Fault}
use Rattle.pg_index.specs.declared.fault.Fault.TheVariants as faults
use Rattle.pg_index.specs.declared.statements.Asked.{Asked}

not_none : IsSome {T = Fault} None → ⊥
not_none some = grind arith

not_unique : (b : Bool) → b ≡ false → IsTrue b → ⊥
not_unique b none some =
    let is : b ≡ true = some in
    cc

-- a fact of a file that is told
of_told : (outside : Option FileMap) (files : FileMap) (name heap : List ℕ) (P : List ℕ → Type 0) → outside ≡ Some files → files name ≡ Some heap
    → OnToldFile outside name P → P heap
of_told outside files name heap P is there fact =
    let Q : Option FileMap → Type 0 = λ m. OnToldFile m name P in
    let R : Option (List ℕ) → Type 0 = λ f. OnFile f P in
    subst R there (subst Q is fact)

-- an index that is refused for its first neighbours that clash breaks its rule
refused_breaks : (asked : Asked) (heap : List ℕ) (first second : RowPtr)
    → HasHeapOutcome asked heap (OfBlocks (Duplicate first second))
    → BreaksItsRule asked heap × AreFirstToClash asked heap first second
refused_breaks asked heap first second has =
    let rows = has.1.3 in
    let found : IsFirstClash asked.spec rows.0 first second = rows.2 in (
      record {
        unique = has.1.2;
        file = has.0;
        sound = has.1.0;
        clash = record {
          sorted = rows.0;
          rows = rows.1;
          one = found.place;
          two = found.place + 1;
          a = found.a;
          b = found.b;
          apart = omega arith;
          first = found.clash.one;
          second = found.clash.next;
          clash = found.clash.clash;
        };
      },
      record { sorted = rows.0; rows = rows.1; clash = found },
    )

-- of rows that don't clash pair by pair no two do
clash_not : (asked : Asked) (heap : List ℕ) (some : SomeClash asked heap)
    → AllPairs (λ a b. Clash asked.spec a b → ⊥) some.sorted → ⊥
clash_not asked heap some pairs =
    let at = λ (place : ℕ). slice_index_or some.sorted place some.a in
    let one : at some.one ≡ some.a = get_or_from_slice_get some.sorted some.one some.a some.a some.first in
    let two : at some.two ≡ some.b = get_or_from_slice_get some.sorted some.two some.b some.a some.second in
    let agree = pairs some.one some.two some.a some.apart (slice_get_within some.sorted some.two some.b some.second) in
    let A : Record → Type 0 = λ a. Clash asked.spec a (at some.two) → ⊥ in
    let B : Record → Type 0 = λ b. Clash asked.spec some.a b → ⊥ in
    subst B two (subst A one agree) some.clash

module _ (words : List (List ℕ)) (files : FileMap) (heap : List ℕ) (asked : Asked) (asks : Asks words asked)
    (old new : Outside) (is : old.files ≡ Some files) (there : files (heap_name words) ≡ Some heap) where
  -- what the heap comes to for the index that the words ask for
  of_heap : (other : Asked) (outcome : HeapOutcome) → Asks words other
      → OnToldFile old.files (heap_name words) (λ file. HasHeapOutcome other file outcome)
      → HasHeapOutcome asked heap outcome
  of_heap other outcome asks' has =
      let P : Asked → Type 0 = λ it. HasHeapOutcome it heap outcome in
      let Q : List ℕ → Type 0 = λ file. HasHeapOutcome other file outcome in
      subst P (same_asked words other asked asks' asks) (of_told old.files files (heap_name words) heap Q is there has)

  -- an outcome that is told as a duplicate
  duplicate : (outcome : Outcome) (first second : RowPtr) → HasOutcome words old.files outcome
      → fault_of outcome ≡ Some (faults.Duplicate first second)
      → BreaksItsRule asked heap × AreFirstToClash asked heap first second
  duplicate (Usage word) first second has e = absurd (let s : 2 ≡ 6 = ap status_of e in omega (arith, s))
  duplicate (Statement fault) first second has e = absurd (let s : 3 ≡ 6 = ap status_of e in omega (arith, s))
  duplicate (OfHeap (OfFile cause block)) first second has e = absurd (let s : 5 ≡ 6 = ap status_of e in omega (arith, s))
  duplicate (OfHeap (OfBlocks (Faulty block item cause))) first second has e = absurd (let s : 5 ≡ 6 = ap status_of e in omega (arith, s))
  duplicate (OfHeap (OfBlocks (RangeWide range size))) first second has e = absurd (let s : 7 ≡ 6 = ap status_of e in omega (arith, s))
  duplicate (OfHeap (OfBlocks (Indexed rows))) first second has e = absurd (let s : 0 ≡ 6 = ap status_of e in omega (arith, s))
  duplicate (OfHeap (OfBlocks (Duplicate a b))) first second has e =
      let same : Some (faults.Duplicate a b) ≡ Some (faults.Duplicate first second) = e in
      let one : a ≡ first = cc in
      let other : b ≡ second = cc in
      let found = refused_breaks asked heap a b (of_heap has.0 (OfBlocks (Duplicate a b)) has.1 has.2) in
      let named = subst (λ row. AreFirstToClash asked heap row b) one found.1 in
      (found.0, subst (AreFirstToClash asked heap first) other named)

  -- no two rows of a unique index clash
  unique_rows : (other : Asked) (m : Method) (rows : List Record) → other.spec.method ≡ m
      → IsIndexOver other.table other.spec → HasBuildOutcome other.table other.spec heap (Indexed rows)
      → IsTrue other.spec.unique → AllPairs (λ a b. Clash other.spec a b → ⊥) rows
  unique_rows other BTree rows is over has unique =
      let are = subst (λ (m : Method). AreTakenRows m other.table other.spec heap rows) is has.1.are in
      let accepted = subst (λ (m : Method). AreAccepted m other.table other.spec heap rows) is has.1.accepted in
      (neighbours_tell other.table other.spec heap rows has.0 are).0 (accepted unique)
  unique_rows other Brin rows is over has unique = absurd (not_unique other.spec.unique (over.unique (λ tree. cc)) unique)
  unique_rows other Gin rows is over has unique = absurd (not_unique other.spec.unique (over.unique (λ tree. cc)) unique)

  -- nor does a unique index that breaks its rule come to be
  not_indexed : (other : Asked) (m : Method) (rows : List Record) → other.spec.method ≡ m
      → IsIndexOver other.table other.spec → HasBuildOutcome other.table other.spec heap (Indexed rows)
      → BreaksItsRule other heap → ⊥
  not_indexed other BTree rows is over has breaks =
      let some = breaks.clash in
      let are = subst (λ (m : Method). AreTakenRows m other.table other.spec heap rows) is has.1.are in
      let same = same_sorted other.table other.spec heap rows some.sorted has.0 are some.rows in
      let pairs = unique_rows other BTree rows is over has breaks.unique in
      let P : List Record → Type 0 = λ list. AllPairs (λ a b. Clash other.spec a b → ⊥) list in
      clash_not other heap some (subst P same pairs)
  not_indexed other Brin rows is over has breaks = not_unique other.spec.unique (over.unique (λ tree. cc)) breaks.unique
  not_indexed other Gin rows is over has breaks = not_unique other.spec.unique (over.unique (λ tree. cc)) breaks.unique

  not_built : (other : Asked) (made : Made) → Builds words old other made → BreaksItsRule asked heap → ⊥
  not_built other made builds breaks =
      let found = of_heap other (OfBlocks (Indexed made.rows)) builds.asks builds.heap in
      not_indexed asked asked.spec.method made.rows refl (asked_is words asked asks.1) found.1 breaks

  -- what words and heap come to where the index breaks its rule
  breaking_outcome : (outcome : Outcome) (fault : Option Fault) → HasOutcome words old.files outcome
      → fault ≡ fault_of outcome → IsSome fault → BreaksItsRule asked heap → IsDuplicate asked heap fault
  breaking_outcome (Usage word) fault has answered some breaks = absurd (asks.0 word has.0)
  breaking_outcome (Statement refused) fault has answered some breaks =
      absurd (not_both (asked_of words) asked refused asks.1 has.1)
  breaking_outcome (OfHeap (OfFile cause block)) fault has answered some breaks =
      absurd (no_file_fault heap cause block breaks.file (of_heap has.0 (OfFile cause block) has.1 has.2))
  breaking_outcome (OfHeap (OfBlocks (Faulty block item cause))) fault has answered some breaks =
      let first = of_heap has.0 (OfBlocks (Faulty block item cause)) has.1 has.2 in
      absurd (no_first_fault asked.table asked.spec heap block item cause breaks.sound first.1)
  breaking_outcome (OfHeap (OfBlocks (RangeWide range size))) fault has answered some breaks =
      let wide = of_heap has.0 (OfBlocks (RangeWide range size)) has.1 has.2 in
      let brin : asked.spec.method ≡ Brin = wide.1.1 in
      absurd (not_unique asked.spec.unique ((asked_is words asked asks.1).unique (λ tree. cc)) breaks.unique)
  breaking_outcome (OfHeap (OfBlocks (Indexed rows))) fault has answered some breaks =
      absurd (not_none (subst IsSome answered some))
  breaking_outcome (OfHeap (OfBlocks (Duplicate first second))) fault has answered some breaks = record {
    first = first;
    second = second;
    answered = answered;
    are = (duplicate (OfHeap (OfBlocks (Duplicate first second))) first second has refl).1;
  }

  -- what was built
  built_of : (other : Asked) (made : Made) (told : Told) → Builds words old other made
      → IsDelivered (delivery_of words other made) old new → other ≡ asked → told ≡ told_of made
      → IsBuiltOf words asked heap old new told
  built_of other made told builds delivered same tells =
      let found = of_told old.files files (heap_name words) heap (λ file. HasHeapOutcome other file (OfBlocks (Indexed made.rows))) is there builds.heap in
      let blocks = of_told old.files files (heap_name words) heap (λ file. made.heap_blocks ≡ block_count file) is there builds.blocks in
      let L : ℕ → Type 0 = λ count. IsLegal count (workers_of words + 1) made.claims in
      let F : ℕ → Type 0 = λ count. IsIndexFile other.table other.spec count made.rows made.image in
      let B : Asked → Type 0 = λ it. IsBuiltOf words it heap old new told in
      let C : List Claim → Type 0 = λ claims. IsLegal (block_count heap) (workers_of words + 1) claims in
      subst B same (record {
        claims = subst C (sym (ap (λ (t : Told). t.claims) tells)) (subst L blocks builds.claimed);
        rows = made.rows;
        of_heap = found.1.1.are;
        image = made.image;
        index = subst F blocks builds.file;
        file = delivered.0;
        unique = unique_rows other other.spec.method made.rows refl builds.index found.1;
      })

  pub keeps : (told : Told) (fault : Option Fault) → Ends words old new told fault → Headline words asked heap old new told fault
  keeps told fault (Refused outcome has answered some only none) = record {
    built = λ e. absurd (not_none (subst IsSome e some));
    refused = λ first second e. duplicate outcome first second has (sym answered ∙ e);
    breaking = λ breaks. inl (breaking_outcome outcome fault has answered some breaks);
  }
  keeps told fault (Built other made builds none delivered tells) = record {
    built = λ e. built_of other made told builds delivered (same_asked words other asked builds.asks asks) tells;
    refused = λ first second e. absurd (let s : 0 ≡ 6 = ap status_of (sym none ∙ e) in omega (arith, s));
    breaking = λ breaks. absurd (not_built other made builds breaks);
  }
  keeps told fault (Cut other made builds answered cut none) = record {
    built = λ e. absurd (let s : 8 ≡ 0 = ap status_of (sym answered ∙ e) in omega (arith, s));
    refused = λ first second e. absurd (let s : 8 ≡ 6 = ap status_of (sym answered ∙ e) in omega (arith, s));
    breaking = λ breaks. absurd (not_built other made builds breaks);
  }
  keeps told fault (Unread other asks' answered only none) = record {
    built = λ e. absurd (let s : 4 ≡ 0 = ap status_of (sym answered ∙ e) in omega (arith, s));
    refused = λ first second e. absurd (let s : 4 ≡ 6 = ap status_of (sym answered ∙ e) in omega (arith, s));
    breaking = λ breaks. inr (inl answered);
  }
  keeps told fault (WithoutMemory grammar answered only none) = record {
    built = λ e. absurd (let s : 10 ≡ 0 = ap status_of (sym answered ∙ e) in omega (arith, s));
    refused = λ first second e. absurd (let s : 10 ≡ 6 = ap status_of (sym answered ∙ e) in omega (arith, s));
    breaking = λ breaks. inr (inr answered);
  }
