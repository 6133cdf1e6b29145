-- Runs of postings that the parts of a GIN index's entries have become: together they hold the records in their order.
use Rattle.std.proofs.Common.{◌≡◌, ◌≢◌, ℕ, suc, ◌+◌, ◌-◌, ◌<◌, ◌≤◌, List, [], ◌∷◌, ◌++◌, length, Some, Bool, true, false, refl, sym, ap, subst, ◌∙◌, arith, All}
use Rattle.std.specs.Prelude.{filter, slice_get}
use Rattle.std.specs.List.Sorted.{IsPermutation, IsSorted}
use Rattle.std.specs.declared.cmp.Ordering.TheVariants.{Equal, Less}
use Rattle.std.proofs.lemmas.Cmp.{tied_itself}
use Rattle.std.proofs.lemmas.List.Elements.{All-filter, All-head, All-tail, All-weaker}
use Rattle.std.proofs.lemmas.List.{append-nil, nil_from_length}
use Rattle.std.proofs.lemmas.List.Sorted.{All-permutation, IsPermutation-sym, length_permutation}
use Rattle.std.proofs.lemmas.List.Sums.{count_by-le-length, length-filter}
use Rattle.opclass.specs.declared.spec.SortPart.{SortPart}
use Rattle.opclass.specs.declared.types.ColType.{ColType}
use Rattle.opclass.specs.declared.value.KeyVal.{KeyVal}
use Rattle.opclass.specs.Order.{bytes_cmp, key_cmp}
use Rattle.opclass.proofs.KeyOrder.{key_cmp_total}
use Rattle.gin_entry.specs.EntryMap.{Posting}
use Rattle.gin_entry.specs.EntryOrder.{entry_order}
use Rattle.shared_tape.specs.declared.stored.Record.{Record}
use Rattle.shared_tape.specs.Stored.{IsStorable, record_cmp}
use Rattle.run_merge.specs.Cutting.{is_in_part, part_of}
use Rattle.run_merge.specs.Merging.{GivesOne, Merging}
use Rattle.run_merge.specs.Pass.{AreMerged}
use Rattle.run_merge.specs.Sorted.{AreApart, AscendStrictly, IsSortedRecords, row_of}
use Rattle.run_merge.proofs.Merging.{none_merged}
use Rattle.run_merge.proofs.Sorting.{Pairs, Pairs-from, Pairs-to, sorted_strictly}
use Rattle.gin_pack.specs.File.{IsGinFile}
use Rattle.gin_pack.specs.Postings.{ArePostingsOf, KeysPart}
use Rattle.gin_pack.specs.Records.{IsEntryRecord}
use Rattle.gin_pack.specs.Pass.Adding.{Adds, CanAdd, HasAdded, IsAdding}
use Rattle.gin_pack.specs.Pass.Gathering.{Gathers, HasGathered, IsGathering}
use Rattle.gin_pack.specs.declared.packer.EntryPacker.{EntryPacker}
use Rattle.gin_pack.specs.declared.posting_writer.PostingWriter.{PostingWriter}
use Rattle.gin_pack.proofs.Packing.{moved-file}
use Rattle.gin_pack.proofs.Telling.{came-ascending, merged_next, pairs-front}
use Rattle.build_leader.specs.Gin.{AreEntries, HoldEntries, IsFileOfPostings, IsPostingRun, most_records}
use Rattle.build_leader.specs.KeyParts.{AreMade, AreOfParts, SharesNoKeys}
use Rattle.build_leader.proofs.EntryRecords.{apart_permuted}
use Rattle.build_leader.proofs.PartRows.{all_parts, between, completed, from_part, keys_differ}

-- ---- records of entries of a part

kind_is : (kind other : ColType) → kind ∷ [] ≡ other ∷ [] → other ≡ kind
kind_is kind other same = cc

-- the kind of the one column that there is
first_is : (kind other : ColType) (kinds : List ColType) → kinds ≡ other ∷ [] → slice_get kinds 0 ≡ Some kind → other ≡ kind
first_is kind other kinds one first = let same : slice_get (other ∷ []) 0 ≡ Some kind = subst (λ (k : List ColType). slice_get k 0 ≡ Some kind) one first in cc

pub of_kind : (kinds : List ColType) (kind : ColType) (parts : List SortPart) (records : List Record) → AreEntries kinds parts records
    → slice_get kinds 0 ≡ Some kind → kinds ≡ kind ∷ []
of_kind kinds kind parts records are first = are.one ∙ ap (λ (k : ColType). k ∷ []) (first_is kind are.kind kinds are.one first)

pub with_kind : (kinds : List ColType) (kind : ColType) (parts : List SortPart) (records : List Record) → AreEntries kinds parts records
    → slice_get kinds 0 ≡ Some kind → AreEntries (kind ∷ []) parts records
with_kind kinds kind parts records are first =
    subst (λ (k : List ColType). AreEntries k parts records) (of_kind kinds kind parts records are first) are

-- records are entries of the kind that the columns have
pub entries_of : (kind : ColType) (parts : List SortPart) (records : List Record) → AreEntries (kind ∷ []) parts records → All (IsEntryRecord kind) records
entries_of kind parts records are = subst (λ (k : ColType). All (IsEntryRecord k) records) (kind_is kind are.kind are.one) are.entries

few_filtered : {X : Type 0} (p : X → Bool) (xs : List X) → length (filter p xs) ≤ length xs
few_filtered p xs = let same = length-filter p xs in let less = count_by-le-length p xs in omega arith

pairs_filtered : {X : Type 0} (R : X → X → Type 0) (p : X → Bool) (xs : List X) → Pairs R xs → Pairs R (filter p xs)
pairs_filtered R p [] pairs = tt
pairs_filtered {X = X} R p (x ∷ xs) pairs = by (p x) refl (pairs_filtered R p xs pairs.1)
  where
    by : (passes : Bool) → p x ≡ passes → Pairs R (filter p xs) → Pairs R (filter p (x ∷ xs))
    by true is rest = rw is (All-filter p (R x) xs pairs.0, rest)
    by false is rest = rw is rest

pub part_entries : (kinds : List ColType) (parts : List SortPart) (cuts : List (List ℕ)) (part : ℕ) (records : List Record) → AreEntries kinds parts records
    → AreEntries kinds parts (part_of parts cuts part records)
part_entries kinds parts cuts part records are =
    let Differ : Record → Record → Type 0 = λ a b. row_of a ≢ row_of b in
    let less = few_filtered (is_in_part parts cuts part) records in
    record {
      kind = are.kind;
      one = are.one;
      order = are.order;
      entries = All-filter (is_in_part parts cuts part) (IsEntryRecord are.kind) records are.entries;
      apart = Pairs-to Differ (part_of parts cuts part records) (pairs_filtered Differ (is_in_part parts cuts part) records (Pairs-from Differ records are.apart));
      few = (let few = are.few in omega arith);
    }

-- in whatever order they are
pub moved_entries : (kinds : List ColType) (parts : List SortPart) (records moved : List Record) → IsPermutation records moved
    → AreEntries kinds parts records → AreEntries kinds parts moved
moved_entries kinds parts records moved same are =
    let long = length_permutation records moved same in
    record {
      kind = are.kind;
      one = are.one;
      order = are.order;
      entries = All-permutation (IsEntryRecord are.kind) records moved same are.entries;
      apart = apart_permuted records moved same are.apart;
      few = (let few = are.few in omega arith);
    }

-- ---- the postings of a part

-- records that came have their postings in a writer, and the others are left to a merge
pub record AreGathered (kind : ColType) (parts : List SortPart) (whole : List Record) (merge : Merging) (writer : PostingWriter) : Type 0 where
  pub came : List Record
  pub order : merge.order ≡ parts
  pub merged : AreMerged parts whole came merge.left
  pub left : All (IsEntryRecord kind) merge.left
  pub has : HasGathered kind came writer

pub none_gathered : (kind : ColType) (parts : List SortPart) (whole : List Record) (merge : Merging) (writer : PostingWriter) → merge.order ≡ parts
    → IsPermutation whole merge.left → All (IsEntryRecord kind) whole → HasGathered kind [] writer → AreGathered kind parts whole merge writer
none_gathered kind parts whole merge writer order same entries has = record {
  came = [];
  order = order;
  merged = none_merged parts whole merge.left same;
  left = All-permutation (IsEntryRecord kind) whole merge.left same entries;
  has = has;
}

pub gathering : (kind : ColType) (parts : List SortPart) (whole : List Record) (merge : Merging) (writer : PostingWriter)
    → AreGathered kind parts whole merge writer → IsGathering writer
gathering kind parts whole merge writer are = record { kind = kind; records = are.came; has = are.has }

pub one_gathered : (kind : ColType) (parts : List SortPart) (whole : List Record) (old new : Merging) (writer after : PostingWriter) (row : Record)
    → parts ≡ entry_order → AreApart whole → GivesOne old row new → Gathers writer after row → AreGathered kind parts whole old writer
    → AreGathered kind parts whole new after
one_gathered kind parts whole old new writer after row order apart gives gathers are =
    let moved = All-permutation (IsEntryRecord kind) old.left (row ∷ new.left) gives.taken are.left in
    let merged = merged_next parts whole are.came old new row are.order gives are.merged in
    let up : AscendStrictly entry_order (are.came ++ row ∷ []) =
    subst (λ (o : List SortPart). AscendStrictly o (are.came ++ row ∷ [])) order (came-ascending parts whole (are.came ++ row ∷ []) new.left apart merged) in
    record {
      came = are.came ++ row ∷ [];
      order = gives.order ∙ are.order;
      merged = merged;
      left = All-tail (IsEntryRecord kind) row new.left moved;
      has = gathers kind are.came are.has (All-head (IsEntryRecord kind) row new.left moved) up;
    }

pub all_gathered : (kind : ColType) (parts : List SortPart) (whole : List Record) (merge : Merging) (writer : PostingWriter) (run : List Posting)
    → merge.left ≡ [] → ((kind : ColType) (records : List Record) → HasGathered kind records writer → ArePostingsOf kind records run)
    → AreGathered kind parts whole merge writer → IsPostingRun kind parts whole run
all_gathered kind parts whole merge writer run none finished are =
    let same : IsPermutation whole are.came =
    subst (IsPermutation whole) (ap (λ (l : List Record). are.came ++ l) none ∙ append-nil are.came) are.merged.same in
    record { sorted = are.came; in_order = record { same = same; ascending = are.merged.ascending }; are = finished kind are.came are.has }

-- ---- runs that are added

-- the runs that are left hold the rest of the records, whatever all of them hold
abbrev pub AreAdded : ColType → List (List Posting) → List (List Posting) → EntryPacker → Type 0
AreAdded kind runs left packer =
    (records : List Record) → HoldEntries kind [] runs records
    → (before : List Record) × (HasAdded kind before packer × HoldEntries kind before left records)

pub none_added : (kind : ColType) (runs left : List (List Posting)) (packer : EntryPacker) → left ≡ runs → HasAdded kind [] packer → AreAdded kind runs left packer
none_added kind runs left packer same has =
    λ records hold.
    ([], (has, subst (λ (l : List (List Posting)). HoldEntries kind [] l records) (sym same) hold))

-- the next run can be added
pub may_add : (kind : ColType) (runs : List (List Posting)) (run : List Posting) (left : List (List Posting)) (packer : EntryPacker)
    → AreAdded kind runs (run ∷ left) packer → (records : List Record) × HoldEntries kind [] runs records → CanAdd packer run
may_add kind runs run left packer are have =
    let so_far = are have.0 have.1 in
    let next = so_far.1.1 in
    record { kind = kind; before = so_far.0; added = so_far.1.0; more = next.0; are = next.1.0; few = next.1.3 }

pub may_finish : (kind : ColType) (runs left : List (List Posting)) (packer : EntryPacker) → AreAdded kind runs left packer
    → (records : List Record) × HoldEntries kind [] runs records → IsAdding packer
may_finish kind runs left packer are have =
    let so_far = are have.0 have.1 in
    record { kind = kind; records = so_far.0; has = so_far.1.0 }

pub one_added : (kind : ColType) (runs : List (List Posting)) (run : List Posting) (left : List (List Posting)) (old new : EntryPacker)
    → Adds old new run → AreAdded kind runs (run ∷ left) old → AreAdded kind runs left new
one_added kind runs run left old new adds are =
    λ records hold.
    let so_far = are records hold in
    let next = so_far.1.1 in (
      so_far.0 ++ next.0,
      (adds kind so_far.0 next.0 so_far.1.0 next.1.0 next.1.1 next.1.2, next.1.4),
    )

pub all_added : (kind : ColType) (runs left : List (List Posting)) (packer : EntryPacker) (file : List ℕ) → length left ≡ 0 → AreAdded kind runs left packer
    → ((kind : ColType) (records : List Record) → HasAdded kind records packer → IsGinFile kind records file) → IsFileOfPostings kind runs file
all_added kind runs left packer file none are finished =
    λ records hold.
    let all = are records hold in
    let whole : all.0 ≡ records = subst (λ (l : List (List Posting)). HoldEntries kind all.0 l records) (nil_from_length left none) all.1.1 in
    finished kind records (subst (λ (r : List Record). HasAdded kind r packer) whole all.1.0)

-- ---- the parts

-- where keys are not equal in an order, they aren't the same
unequal : (order : List SortPart) (a b : List KeyVal) → key_cmp order a b ≢ Equal → a ≢ b
unequal order a b differ same =
    differ (subst (λ (keys : List KeyVal). key_cmp order a keys ≡ Equal) same (tied_itself (key_cmp_total order) a))

module _ (kind : ColType) (order : List SortPart) (cuts : List (List ℕ)) (records : List Record) (are : AreEntries (kind ∷ []) order records)
    (storable : All (IsStorable order) records) (up : IsSorted bytes_cmp cuts) (share : SharesNoKeys order cuts) where
  -- the records of the first parts ascend
  first_ascend : (count : ℕ) (rows : List Record) → count ≤ length cuts + 1 → AreOfParts order cuts records count rows → AscendStrictly entry_order rows
  first_ascend count rows within of =
      let left : ℕ = length cuts + 1 - count in
      let rest = completed order cuts records storable left count (length cuts + 1) rows (omega (arith, within)) of in
      let whole = all_parts order cuts records storable (rows ++ rest.0) up rest.1.0 in
      let Below : Record → Record → Type 0 = λ a b. record_cmp order a b ≡ Less in
      let strict = sorted_strictly order records (rows ++ rest.0) are.apart whole in
      subst (λ (o : List SortPart). AscendStrictly o rows) are.order
      (Pairs-to Below rows (pairs-front Below rows rest.0 (Pairs-from Below (rows ++ rest.0) strict)))

  few_rows : (part : ℕ) (sorted : List Record) → IsSortedRecords order (part_of order cuts part records) sorted → length sorted < most_records
  few_rows part sorted is =
      let same = length_permutation (part_of order cuts part records) sorted is.same in
      let less = few_filtered (is_in_part order cuts part) records in
      let few = are.few in
      omega arith

  -- a part has other keys than those before it
  keys_part : (count : ℕ) (rows last : List Record) → count ≤ length cuts → AreOfParts order cuts records count rows
      → IsSortedRecords order (part_of order cuts count records) last → KeysPart rows last
  keys_part count rows last within of is =
      All-weaker (λ a. All (λ b. key_cmp order a.keys b.keys ≢ Equal) last) (λ a. All (λ b. a.keys ≢ b.keys) last)
      (λ a all. All-weaker (λ b. key_cmp order a.keys b.keys ≢ Equal) (λ b. a.keys ≢ b.keys) (λ b. unequal order a.keys b.keys) last all) rows
      (keys_differ order cuts records storable share count rows last of
      (All-weaker (between order cuts records storable count (suc count)) (between order cuts records storable count (length cuts + 1))
      (λ row in'. (in'.0, (in'.1.0, omega (arith, in'.1.1), in'.1.2))) last (from_part order cuts records storable count last is)))

  hold : (runs : List (List Posting)) (count : ℕ) (rows : List Record) → count + length runs ≡ length cuts + 1
      → AreOfParts order cuts records count rows
      → ((place : ℕ) (run : List Posting) → slice_get runs place ≡ Some run → IsPostingRun kind order (part_of order cuts (count + place) records) run)
      → (all : List Record) × (AreOfParts order cuts records (length cuts + 1) all × HoldEntries kind rows runs all)
  hold [] count rows long of each =
      let whole : count ≡ length cuts + 1 = omega (arith, long) in
      (rows, (subst (λ (n : ℕ). AreOfParts order cuts records n rows) whole of, refl))
  hold (run ∷ runs) count rows long of each =
      let within : count ≤ length cuts = omega (arith, long) in
      let here : count + 0 ≡ count = omega arith in
      let first : IsPostingRun kind order (part_of order cuts count records) run =
      subst (λ (n : ℕ). IsPostingRun kind order (part_of order cuts n records) run) here (each 0 run refl) in
      let last = first.sorted in
      let more : AreOfParts order cuts records (suc count) (rows ++ last) = (rows, (last, (of, first.in_order, refl))) in
      let rest = hold runs (suc count) (rows ++ last) (omega (arith, long)) more
      (λ place one at.
      let there : count + suc place ≡ suc count + place = omega arith in
      subst (λ (n : ℕ). IsPostingRun kind order (part_of order cuts n records) one) there (each (suc place) one at)) in (
        rest.0,
        (
          rest.1.0,
          (
            last,
            (
              first.are,
              first_ascend (suc count) (rows ++ last) (omega (arith, within)) more,
              keys_part count rows last within of first.in_order,
              few_rows count last first.in_order,
              rest.1.1,
            ),
          ),
        ),
      )

  module _ (runs : List (List Posting)) (made : AreMade (IsPostingRun kind order) order cuts records (length cuts + 1) runs) where
    all_held : (all : List Record) × (AreOfParts order cuts records (length cuts + 1) all × HoldEntries kind [] runs all)
    all_held =
        hold runs 0 [] (omega (arith, made.count_is)) refl
        (λ place run at.
        let here : 0 + place ≡ place = omega arith in
        subst (λ (n : ℕ). IsPostingRun kind order (part_of order cuts n records) run) (sym here) (made.each place run at))

    pub runs_hold_entries : (all : List Record) × HoldEntries kind [] runs all
    runs_hold_entries = (all_held.0, all_held.1.1)

    pub postings_are_packed : (file : List ℕ) → IsFileOfPostings kind runs file → IsGinFile kind records file
    postings_are_packed file is =
        let sorted = all_parts order cuts records storable all_held.0 up all_held.1.0 in
        moved-file kind all_held.0 records file (IsPermutation-sym records all_held.0 sorted.same) (is all_held.0 all_held.1.1)
