-- Postings of records, and of others behind them.
use Rattle.std.proofs.Common.{◌≡◌, ◌≢◌, ℕ, ◌^◌, ◌<◌, ◌≤◌, List, [], ◌∷◌, ◌++◌, length, sym, ap, subst, ◌∙◌, inl, inr, arith, Ordering, Less}
use Rattle.std.specs.Prelude.{All, map}
use Rattle.std.specs.List.{AllByRecursion, flat_map}
use Rattle.std.specs.List.Sorted.{IsStrictlySortedBy}
use Rattle.std.proofs.lemmas.List.{length-map, map-append}
use Rattle.std.proofs.lemmas.Grind.{flat_map-append}
use Rattle.std.proofs.lemmas.List.Concat.{flat_map-cons}
use Rattle.std.proofs.lemmas.List.Elements.{All-head, All-tail, recursion_from_All}
use Rattle.std.proofs.lemmas.List.Sorted.{IsPermutation-refl}
use Rattle.pg_bytes.specs.declared.row_ptr.RowPtr.{RowPtr}
use Rattle.opclass.specs.declared.types.ColType.{ColType}
use Rattle.opclass.specs.declared.value.KeyVal.{KeyVal}
use Rattle.opclass.specs.Order.{key_cmp, pointer_cmp, row_cmp}
use Rattle.opclass.proofs.KeyOrder.{key_cmp_exact}
use Rattle.gin_entry.specs.declared.entry.Entry.{Entry}
use Rattle.gin_entry.specs.EntryMap.{Posting}
use Rattle.gin_entry.specs.EntryOrder.{columns_of, entry_cmp, entry_order}
use Rattle.gin_entry.proofs.EntryOrders.{columns_compare}
use Rattle.shared_tape.specs.declared.stored.Record.{Record}
use Rattle.shared_tape.specs.Stored.{record_cmp}
use Rattle.run_merge.specs.Sorted.{AscendStrictly, row_of}
use Rattle.run_merge.proofs.Sorting.{Pairs, Pairs-from}
use Rattle.gin_pack.specs.File.{HasPostings, IsGinFile, Stored}
use Rattle.gin_pack.specs.Postings.{ArePostingsOf, IsListed, IsTold, KeysPart, pairs_of}
use Rattle.gin_pack.specs.Pass.Adding.{Adds, CanAdd, HasAdded, IsAdding}
use Rattle.gin_pack.specs.Pass.Storing.{HasStored, IsStoring, StoresAll}
use Rattle.gin_pack.specs.declared.packer.EntryPacker.{EntryPacker}
use Rattle.gin_pack.proofs.Packing.{few-pointers, file-of, listed}
use Rattle.gin_pack.proofs.Telling.{back-of, front-of, map-of-all, none-told, then-less, weaker}

-- ---- two lists, one behind the other

all-append : {X : Type 0} (P : X → Type 0) (xs ys : List X) → AllByRecursion P xs → AllByRecursion P ys → AllByRecursion P (xs ++ ys)
all-append P [] ys all others = others
all-append P (x ∷ xs) ys all others = (all.0, all-append P xs ys all.1 others)

both-all : {X : Type 0} (P Q : X → Type 0) (xs : List X) → AllByRecursion P xs → AllByRecursion Q xs → AllByRecursion (λ x. P x × Q x) xs
both-all P Q [] all others = tt
both-all P Q (x ∷ xs) all others = ((all.0, others.0), both-all P Q xs all.1 others.1)

sorted-append : {X : Type 0} (c : X → X → Ordering) (xs ys : List X) → IsStrictlySortedBy c xs → IsStrictlySortedBy c ys
    → AllByRecursion (λ x. AllByRecursion (λ y. c x y ≡ Less) ys) xs → IsStrictlySortedBy c (xs ++ ys)
unfolding IsStrictlySortedBy
sorted-append c [] ys up others cross = others
sorted-append c (x ∷ xs) ys up others cross = (
  all-append (λ y. c x y ≡ Less) xs ys up.0 cross.0,
  sorted-append c xs ys up.1 others cross.1,
)

-- ---- pairs on both sides

-- a pair is below another, and has other columns
abbrev Parts : List KeyVal × RowPtr → List KeyVal × RowPtr → Type 0
Parts pair other = (row_cmp entry_order pair other ≡ Less) × (pair.0 ≢ other.0)

records-part : (before more : List Record) → Pairs (λ a b. record_cmp entry_order a b ≡ Less) (before ++ more) → KeysPart before more
    → AllByRecursion (λ row. AllByRecursion (λ other. Parts (row_of row) (row_of other)) more) before
records-part [] more pairs part = tt
records-part (row ∷ before) more pairs part = (
  both-all (λ other. record_cmp entry_order row other ≡ Less) (λ other. row.keys ≢ other.keys) more
      (back-of (λ other. record_cmp entry_order row other ≡ Less) before more
      (recursion_from_All (λ other. record_cmp entry_order row other ≡ Less) (before ++ more) pairs.0))
      (recursion_from_All (λ other. row.keys ≢ other.keys) more
      (All-head (λ one. All (λ other. one.keys ≢ other.keys) more) row before part)),
  records-part before more pairs.1 (All-tail (λ one. All (λ other. one.keys ≢ other.keys) more) row before part),
)

-- what holds of the pairs of postings holds of one of each
some-pairs : (Q : List KeyVal × RowPtr → Type 0) (kind : ColType) (postings : List Posting) → AllByRecursion (IsTold kind) postings
    → AllByRecursion Q (flat_map pairs_of postings) → AllByRecursion (λ posting. (pointer : RowPtr) × Q (columns_of posting.entry, pointer)) postings
some-pairs Q kind [] told all = tt
some-pairs Q kind (posting ∷ postings) told all =
    let cut = subst (AllByRecursion Q) (flat_map-cons pairs_of posting postings) all in (
      by posting.pointers told.0.listed.some (front-of Q (pairs_of posting) (flat_map pairs_of postings) cut),
      some-pairs Q kind postings told.1 (back-of Q (pairs_of posting) (flat_map pairs_of postings) cut),
    )
  where
    by : (pointers : List RowPtr) → 1 ≤ length pointers → AllByRecursion Q (map (λ p. (columns_of posting.entry, p)) pointers)
        → (pointer : RowPtr) × Q (columns_of posting.entry, pointer)
    by [] some all = absurd (omega arith)
    by (pointer ∷ pointers) some all = (pointer, all.0)

entries-part : (a b : Entry) (p q : RowPtr) → Parts (columns_of a, p) (columns_of b, q) → entry_cmp a b ≡ Less
entries-part a b p q parts =
    elim (then-less (key_cmp entry_order (columns_of a) (columns_of b)) (pointer_cmp p q) parts.0) [
      | inl less ↦ sym (columns_compare a b) ∙ less
      | inr same ↦ absurd (parts.1 (key_cmp_exact entry_order (columns_of a) (columns_of b) same.0))
    ]

-- each entry of these is below each of those
entries-cross : (kind : ColType) (before more : List Record) (postings others : List Posting) → ArePostingsOf kind before postings
    → ArePostingsOf kind more others → AscendStrictly entry_order (before ++ more) → KeysPart before more
    → AllByRecursion (λ a. AllByRecursion (λ b. entry_cmp a.entry b.entry ≡ Less) others) postings
entries-cross kind before more postings others are behind up part =
    let records = records-part before more (Pairs-from (λ a b. record_cmp entry_order a b ≡ Less) (before ++ more) up) part in
    let Cross : List KeyVal × RowPtr → Type 0 = λ pair. AllByRecursion (Parts pair) (flat_map pairs_of others) in
    let turned : AllByRecursion (λ row. Cross (row_of row)) before =
    weaker (λ row. AllByRecursion (λ other. Parts (row_of row) (row_of other)) more) (λ row. Cross (row_of row))
    (λ row all. subst (AllByRecursion (Parts (row_of row))) behind.pairs (map-of-all (Parts (row_of row)) row_of more all)) before records in
    let pairs : AllByRecursion Cross (flat_map pairs_of postings) = subst (AllByRecursion Cross) are.pairs (map-of-all Cross row_of before turned) in
    weaker (λ a. (p : RowPtr) × Cross (columns_of a.entry, p)) (λ a. AllByRecursion (λ b. entry_cmp a.entry b.entry ≡ Less) others)
    (λ a one.
    weaker (λ b. (q : RowPtr) × Parts (columns_of a.entry, one.0) (columns_of b.entry, q)) (λ b. entry_cmp a.entry b.entry ≡ Less)
    (λ b other. entries-part a.entry b.entry one.0 other.0 other.1) others
    (some-pairs (Parts (columns_of a.entry, one.0)) kind others behind.each one.1))
    postings (some-pairs Cross kind postings are.each pairs)

pub append-postings : (kind : ColType) (before more : List Record) (postings others : List Posting) → ArePostingsOf kind before postings
    → ArePostingsOf kind more others → AscendStrictly entry_order (before ++ more) → KeysPart before more
    → ArePostingsOf kind (before ++ more) (postings ++ others)
append-postings kind before more postings others are behind up part =
    let cross = entries-cross kind before more postings others are behind up part in
    record {
      pairs =
          map-append row_of before more
          ∙ ap (λ l. l ++ map row_of more) are.pairs
          ∙ ap (λ l. flat_map pairs_of postings ++ l) behind.pairs
          ∙ sym (flat_map-append pairs_of postings others);
      ascending =
          subst (IsStrictlySortedBy entry_cmp) (sym (map-append (λ (p : Posting). p.entry) postings others))
          (sorted-append entry_cmp (map (λ p. p.entry) postings) (map (λ p. p.entry) others) are.ascending behind.ascending
          (map-of-all (λ e. AllByRecursion (λ f. entry_cmp e f ≡ Less) (map (λ p. p.entry) others)) (λ p. p.entry) postings
          (weaker (λ a. AllByRecursion (λ b. entry_cmp a.entry b.entry ≡ Less) others)
          (λ a. AllByRecursion (λ f. entry_cmp a.entry f ≡ Less) (map (λ p. p.entry) others))
          (λ a all. map-of-all (λ f. entry_cmp a.entry f ≡ Less) (λ p. p.entry) others all) postings cross)));
      each = all-append (IsTold kind) postings others are.each behind.each;
    }

-- ---- runs that are added

pub none-added : (kind : ColType) (packer : EntryPacker) → HasStored kind [] packer.store → HasAdded kind [] packer
none-added kind packer has = record { stored = []; has = has; are = none-told kind }

added-storing : (kind : ColType) (records : List Record) (packer : EntryPacker) → HasAdded kind records packer → IsStoring packer.store
added-storing kind records packer added =
    record { stored = added.stored; has = subst (λ (k : ColType). HasStored k added.stored packer.store) (sym added.has.kind_is) added.has }

pub adding-storing : (packer : EntryPacker) → IsAdding packer → IsStoring packer.store
adding-storing packer adding = added-storing adding.kind adding.records packer adding.has

pub add-storing : (packer : EntryPacker) (run : List Posting) → CanAdd packer run → IsStoring packer.store
add-storing packer run can = added-storing can.kind can.before packer can.added

pub add-listed : (packer : EntryPacker) (run : List Posting) → CanAdd packer run → AllByRecursion (IsListed packer.store.kind) run
add-listed packer run can =
    subst (λ (k : ColType). AllByRecursion (IsListed k) run) (sym can.added.has.kind_is) (listed can.kind run can.are.each)

pub add-few : (packer : EntryPacker) (run : List Posting) → CanAdd packer run → AllByRecursion (λ posting. length posting.pointers < 2 ^ 30) run
add-few packer run can =
    let pairs = ap length can.are.pairs in
    let count = length-map can.more row_of in
    few-pointers (2 ^ 30) run (let few = can.few in omega arith)

pub adds : (old new : EntryPacker) (run : List Posting) → StoresAll old.store new.store run → Adds old new run
adds old new run stores =
    λ kind before more has are up part.
    let made = stores kind has.stored has.has in
    let all : map (λ each. each.posting) (has.stored ++ made.0) ≡ map (λ each. each.posting) has.stored ++ run =
    map-append (λ (s : Stored). s.posting) has.stored made.0
    ∙ ap (λ (l : List Posting). map (λ (s : Stored). s.posting) has.stored ++ l) made.1 in
    record {
      stored = has.stored ++ made.0;
      has = made.2;
      are =
          subst (ArePostingsOf kind (before ++ more)) (sym all)
          (append-postings kind before more (map (λ (s : Stored). s.posting) has.stored) run has.are are up part);
    }

pub added-file : (packer : EntryPacker) (file : List ℕ)
    → ((kind : ColType) → (stored : List Stored) → HasStored kind stored packer.store → HasPostings kind file (map (λ each. each.posting) stored))
    → (kind : ColType) (records : List Record) → HasAdded kind records packer → IsGinFile kind records file
added-file packer file finished kind records has =
    file-of kind records records (map (λ (s : Stored). s.posting) has.stored) file (IsPermutation-refl records) has.are (finished kind has.stored has.has)
