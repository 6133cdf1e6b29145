-- Records that come in their order tell postings: one record more, and the map that all of them are.
use Rattle.std.proofs.Common.{◌≡◌, ◌≢◌, ℕ, ◌^◌, ◌<◌, ◌≤◌, List, [], ◌∷◌, ◌++◌, length, refl, sym, ap, subst, ◌∙◌, arith, inl, inr, length-append, Ordering, Less, Equal, Greater, nat_cmp}
use Rattle.std.specs.Prelude.{◌⊎◌, Contains, map}
use Rattle.std.specs.Cmp.{ranks}
use Rattle.std.specs.Ordering.{MatchOrdering, ordering_then}
use Rattle.std.proofs.lemmas.Cmp.{tied_itself}
use Rattle.std.specs.List.{AllByRecursion, flat_map}
use Rattle.std.specs.List.Sorted.{IsPermutation, IsStrictlySortedBy}
use Rattle.std.proofs.lemmas.List.{append_assoc, append-nil, map-append}
use Rattle.std.proofs.lemmas.Grind.{flat_map-append}
use Rattle.std.proofs.lemmas.List.Concat.{flat_map-cons}
use Rattle.std.proofs.lemmas.List.Elements.{All-from_recursion, All-weaker, Contains-append_cases, Contains-append_left, Contains-append_right, recursion_from_All}
use Rattle.std.proofs.lemmas.List.Sorted.{All-permutation, Contains-permutation, IsPermutation-append_right, IsPermutation-refl, IsPermutation-sym, IsPermutation-trans}
use Rattle.pg_bytes.specs.Pointers.{IsBefore}
use Rattle.pg_bytes.specs.declared.row_ptr.RowPtr.{RowPtr}
use Rattle.opclass.specs.declared.types.ColType.{ColType}
use Rattle.opclass.specs.declared.value.KeyVal.{KeyVal}
use Rattle.opclass.specs.declared.spec.SortPart.{SortPart}
use Rattle.opclass.specs.Order.{key_cmp, pointer_cmp, row_cmp}
use Rattle.opclass.proofs.KeyOrder.{key_cmp_exact}
use Rattle.gin_entry.specs.declared.entry.Entry.{Entry}
use Rattle.gin_entry.specs.EntryMap.{HasPosting, IsMapOf, IsPostingList, Posting}
use Rattle.gin_entry.specs.EntryOrder.{columns_of, entry_cmp, entry_order}
use Rattle.gin_entry.proofs.EntryOrders.{columns_compare, entry_cmp_total, same_entry}
use Rattle.gin_entry.proofs.Members.{Any-from, Any-from_map, Contains-cases, Contains-head, Contains-map, Contains-behind, Contains-nil}
use Rattle.shared_tape.specs.declared.stored.Record.{Record}
use Rattle.shared_tape.specs.Stored.{record_cmp}
use Rattle.posting_tree.specs.Segments.{AreAscending, IsStorable}
use Rattle.run_merge.specs.Merging.{GivesOne, IsFirstOf, IsNotBelow, Merging}
use Rattle.run_merge.specs.Pass.{AreMerged}
use Rattle.run_merge.specs.Sorted.{AreApart, AscendStrictly, row_of}
use Rattle.run_merge.proofs.Merging.{merged_more}
use Rattle.run_merge.proofs.Sorting.{Pairs, Pairs-from, Pairs-moved, Pairs-to, sorted_strictly}
use Rattle.gin_pack.specs.File.{Leads}
use Rattle.gin_pack.specs.Records.{IsEntryRecord}
use Rattle.gin_pack.specs.Postings.{ArePostingsOf, IsListed, IsTold, pairs_of}
use Rattle.gin_pack.specs.Pass.Gathering.{Begins, Joins, with_pointer}
use Rattle.gin_pack.proofs.Places.{all-push}

-- ---- orders

-- what makes one of two below the other
pub then-less : (o p : Ordering) → ordering_then o p ≡ Less → (o ≡ Less) ⊎ ((o ≡ Equal) × (p ≡ Less))
then-less Less p is = inl refl
then-less Equal p is = inr (refl, is)
then-less Greater p is = absurd cc

below : (m n : ℕ) → nat_cmp m n ≡ Less → m < n
below m n is = subst (λ (o : Ordering). MatchOrdering o (m < n) (m ≡ n) (n < m)) is (ranks m n)

alike : (m n : ℕ) → nat_cmp m n ≡ Equal → m ≡ n
alike m n is = subst (λ (o : Ordering). MatchOrdering o (m < n) (m ≡ n) (n < m)) is (ranks m n)

before : (p q : RowPtr) → pointer_cmp p q ≡ Less → IsBefore p q
before p q is =
    elim (then-less (nat_cmp p.block q.block) (nat_cmp p.offset q.offset) is) [
      | inl block ↦ inl (below p.block q.block block)
      | inr offset ↦ inr (alike p.block q.block offset.0, below p.offset q.offset offset.1)
    ]

-- ---- lists that ascend, with one more

sorted-push : {X : Type 0} (c : X → X → Ordering) (xs : List X) (x : X) → IsStrictlySortedBy c xs → AllByRecursion (λ y. c y x ≡ Less) xs
    → IsStrictlySortedBy c (xs ++ x ∷ [])
unfolding IsStrictlySortedBy
sorted-push c [] x up all = (tt, tt)
sorted-push c (y ∷ xs) x up all = (all-push (λ z. c y z ≡ Less) xs x up.0 all.0, sorted-push c xs x up.1 all.1)

sorted-one : {X : Type 0} (c : X → X → Ordering) (x : X) → IsStrictlySortedBy c (x ∷ [])
unfolding IsStrictlySortedBy
sorted-one c x = (tt, tt)

sorted-none : {X : Type 0} (c : X → X → Ordering) → IsStrictlySortedBy c []
unfolding IsStrictlySortedBy
sorted-none c = tt

-- each in front is below the last
below-last : {X : Type 0} (c : X → X → Ordering) (xs : List X) (x : X) → IsStrictlySortedBy c (xs ++ x ∷ []) → AllByRecursion (λ y. c y x ≡ Less) xs
unfolding IsStrictlySortedBy
below-last c [] x up = tt
below-last c (y ∷ xs) x up = (last-of (λ z. c y z ≡ Less) xs x up.0, below-last c xs x up.1)
  where
    last-of : {X : Type 0} (P : X → Type 0) (xs : List X) (x : X) → AllByRecursion P (xs ++ x ∷ []) → P x
    last-of P [] x all = all.0
    last-of P (y ∷ xs) x all = last-of P xs x all.1

ascending-push : (pointers : List RowPtr) (pointer : RowPtr) → AreAscending pointers → IsStorable pointer → AllByRecursion (λ p. IsBefore p pointer) pointers
    → AreAscending (pointers ++ pointer ∷ [])
ascending-push [] pointer up is all = (is, tt, tt)
ascending-push (p ∷ []) pointer up is all = (up.0, all.0, (is, tt, tt))
ascending-push (p ∷ next ∷ pointers) pointer up is all = (up.0, up.1, ascending-push (next ∷ pointers) pointer up.2 is all.1)

pub weaker : {X : Type 0} (P Q : X → Type 0) → ((x : X) → P x → Q x) → (xs : List X) → AllByRecursion P xs → AllByRecursion Q xs
weaker P Q leads [] all = tt
weaker P Q leads (x ∷ xs) all = (leads x all.0, weaker P Q leads xs all.1)

pub map-of-all : {X Y : Type 0} (P : Y → Type 0) (f : X → Y) (xs : List X) → AllByRecursion (λ x. P (f x)) xs → AllByRecursion P (map f xs)
map-of-all P f [] all = tt
map-of-all P f (x ∷ xs) all = (all.0, map-of-all P f xs all.1)

pub front-of : {X : Type 0} (P : X → Type 0) (xs ys : List X) → AllByRecursion P (xs ++ ys) → AllByRecursion P xs
front-of P [] ys all = tt
front-of P (x ∷ xs) ys all = (all.0, front-of P xs ys all.1)

pub back-of : {X : Type 0} (P : X → Type 0) (xs ys : List X) → AllByRecursion P (xs ++ ys) → AllByRecursion P ys
back-of P [] ys all = all
back-of P (x ∷ xs) ys all = back-of P xs ys all.1

-- ---- one record more

-- the entries of postings
abbrev entries_of : List Posting → List Entry
entries_of postings = map (λ posting. posting.entry) postings

-- each pair is below another
abbrev AreBelow : List (List KeyVal × RowPtr) → List KeyVal × RowPtr → Type 0
AreBelow pairs pair = AllByRecursion (λ p. row_cmp entry_order p pair ≡ Less) pairs

-- of a posting of the same entry each pointer is below
pointers-below : (entry : Entry) (pointers : List RowPtr) (pointer : RowPtr)
    → AreBelow (map (λ p. (columns_of entry, p)) pointers) (columns_of entry, pointer) → AllByRecursion (λ p. pointer_cmp p pointer ≡ Less) pointers
pointers-below entry [] pointer all = tt
pointers-below entry (p ∷ pointers) pointer all = (
  elim (then-less (key_cmp entry_order (columns_of entry) (columns_of entry)) (pointer_cmp p pointer) all.0) [
    | inl less ↦ absurd (not-itself entry (sym (columns_compare entry entry) ∙ less))
    | inr same ↦ same.1
  ],
  pointers-below entry pointers pointer all.1,
)
  where
    not-itself : (entry : Entry) → entry_cmp entry entry ≡ Less → ⊥
    not-itself entry less = let level = tied_itself entry_cmp_total entry in cc

-- an entry with a pointer below is below, unless it is the same
entry-below : (posting : Posting) (entry : Entry) (pointer : RowPtr) → 1 ≤ length posting.pointers → posting.entry ≢ entry
    → AreBelow (pairs_of posting) (columns_of entry, pointer) → entry_cmp posting.entry entry ≡ Less
entry-below posting entry pointer some other all = by posting.pointers some all
  where
    by : (pointers : List RowPtr) → 1 ≤ length pointers → AreBelow (map (λ p. (columns_of posting.entry, p)) pointers) (columns_of entry, pointer)
        → entry_cmp posting.entry entry ≡ Less
    by [] some all = absurd (omega arith)
    by (p ∷ pointers) some all =
        elim (then-less (key_cmp entry_order (columns_of posting.entry) (columns_of entry)) (pointer_cmp p pointer) all.0) [
          | inl less ↦ sym (columns_compare posting.entry entry) ∙ less
          | inr same ↦ absurd (other (same_entry posting.entry entry (key_cmp_exact entry_order (columns_of posting.entry) (columns_of entry) same.0)))
        ]

-- the pairs of postings, and of one more
pairs-push : (postings : List Posting) (posting : Posting) → flat_map pairs_of (postings ++ posting ∷ []) ≡ flat_map pairs_of postings ++ pairs_of posting
pairs-push postings posting =
    flat_map-append pairs_of postings (posting ∷ []) ∙ ap (λ l. flat_map pairs_of postings ++ l) (append-nil (pairs_of posting))

pub none-told : (kind : ColType) → ArePostingsOf kind [] []
none-told kind = record { pairs = refl; ascending = sorted-none entry_cmp; each = tt }

-- each record that came is below the next one, as a pair
all-below : (kind : ColType) (came : List Record) (postings : List Posting) (row : Record) → ArePostingsOf kind came postings
    → AllByRecursion (λ r. record_cmp entry_order r row ≡ Less) came → AreBelow (flat_map pairs_of postings) (row_of row)
all-below kind came postings row told all =
    subst (λ (p : List (List KeyVal × RowPtr)). AreBelow p (row_of row)) told.pairs
    (map-of-all (λ p. row_cmp entry_order p (row_of row) ≡ Less) row_of came all)

-- its pointer comes to the last entry
pub joined-told : (kind : ColType) (came : List Record) (old new : List Posting) (row : Record) (entry : Entry) → row.keys ≡ columns_of entry
    → IsStorable row.ptr → row.ptr.block < 2 ^ 32 → ArePostingsOf kind came old → AllByRecursion (λ r. record_cmp entry_order r row ≡ Less) came
    → Joins old new entry row.ptr → ArePostingsOf kind (came ++ row ∷ []) new
joined-told kind came old new row entry keys storable block told less joins =
    let last : Posting = joins.last in
    let grown : Posting = with_pointer last row.ptr in
    let was : ArePostingsOf kind came (joins.before ++ last ∷ []) = subst (ArePostingsOf kind came) joins.old_is told in
    let all = all-below kind came (joins.before ++ last ∷ []) row was less in
    let mine = back-of (λ p. row_cmp entry_order p (row_of row) ≡ Less) (flat_map pairs_of joins.before) (pairs_of last)
    (subst (λ (p : List (List KeyVal × RowPtr)). AreBelow p (row_of row)) (pairs-push joins.before last) all) in
    let columns : row.keys ≡ columns_of last.entry = keys ∙ ap columns_of (sym joins.same) in
    let under : AllByRecursion (λ p. pointer_cmp p row.ptr ≡ Less) last.pointers =
    pointers-below last.entry last.pointers row.ptr (subst (λ (k : List KeyVal). AreBelow (pairs_of last) (k, row.ptr)) columns mine) in
    let is = back-of (IsTold kind) joins.before (last ∷ []) was.each in
    let one = is.0 in
    let longer = length-append last.pointers (row.ptr ∷ []) in
    let made : ArePostingsOf kind (came ++ row ∷ []) (joins.before ++ grown ∷ []) = record {
      pairs =
          map-append row_of came (row ∷ [])
          ∙ ap (λ l. l ++ row_of row ∷ []) (was.pairs ∙ pairs-push joins.before last)
          ∙ append_assoc (flat_map pairs_of joins.before) (pairs_of last) (row_of row ∷ [])
          ∙ ap (λ (k : List KeyVal). flat_map pairs_of joins.before ++ (pairs_of last ++ (k, row.ptr) ∷ [])) columns
          ∙ ap (λ l. flat_map pairs_of joins.before ++ l) (sym (map-append (λ (p : RowPtr). (columns_of last.entry, p)) last.pointers (row.ptr ∷ [])))
          ∙ sym (pairs-push joins.before grown);
      ascending =
          subst (IsStrictlySortedBy entry_cmp)
          (map-append (λ (p : Posting). p.entry) joins.before (last ∷ []) ∙ sym (map-append (λ (p : Posting). p.entry) joins.before (grown ∷ []))) was.ascending;
      each = all-push (IsTold kind) joins.before grown (front-of (IsTold kind) joins.before (last ∷ []) was.each) (record {
        listed = record {
          is_entry = one.listed.is_entry;
          small = one.listed.small;
          some = omega arith;
          ascending = ascending-push last.pointers row.ptr one.listed.ascending storable
              (weaker (λ p. pointer_cmp p row.ptr ≡ Less) (λ p. IsBefore p row.ptr) (λ p. before p row.ptr) last.pointers under);
          blocks = all-push (λ (p : RowPtr). p.block < 2 ^ 32) last.pointers row.ptr one.listed.blocks block;
        };
        sorted = sorted-push pointer_cmp last.pointers row.ptr one.sorted under;
      });
    } in
    subst (ArePostingsOf kind (came ++ row ∷ [])) (sym joins.new_is) made

-- the last of postings, if there is one
pub data Ends (postings : List Posting) : Type 0 where
  Nothing : postings ≡ [] → Ends postings
  Last : (front : List Posting) (last : Posting) → postings ≡ front ++ last ∷ [] → Ends postings

pub ends : (postings : List Posting) → Ends postings
ends [] = Nothing refl
ends (posting ∷ postings) = more (ends postings)
  where
    more : Ends postings → Ends (posting ∷ postings)
    more (Nothing none) = Last [] posting (ap (λ (l : List Posting). posting ∷ l) none)
    more (Last front last is) = Last (posting ∷ front) last (ap (λ (l : List Posting). posting ∷ l) is)

-- entries are below one that is another than the last and not below it
entries-below : (kind : ColType) (came : List Record) (postings : List Posting) (row : Record) (entry : Entry) → row.keys ≡ columns_of entry
    → ArePostingsOf kind came postings → AllByRecursion (λ r. record_cmp entry_order r row ≡ Less) came
    → ((front : List Posting) (last : Posting) → postings ≡ front ++ last ∷ [] → last.entry ≢ entry)
    → AllByRecursion (λ e. entry_cmp e entry ≡ Less) (entries_of postings)
entries-below kind came postings row entry keys told less other = by (ends postings)
  where
    by : Ends postings → AllByRecursion (λ e. entry_cmp e entry ≡ Less) (entries_of postings)
    by (Nothing none) = subst (λ (p : List Posting). AllByRecursion (λ e. entry_cmp e entry ≡ Less) (entries_of p)) (sym none) tt
    by (Last front last is) =
        let was : ArePostingsOf kind came (front ++ last ∷ []) = subst (ArePostingsOf kind came) is told in
        let all = all-below kind came (front ++ last ∷ []) row was less in
        let mine = back-of (λ p. row_cmp entry_order p (row_of row) ≡ Less) (flat_map pairs_of front) (pairs_of last)
        (subst (λ (p : List (List KeyVal × RowPtr)). AreBelow p (row_of row)) (pairs-push front last) all) in
        let one = back-of (IsTold kind) front (last ∷ []) was.each in
        let final : entry_cmp last.entry entry ≡ Less =
        entry-below last entry row.ptr one.0.listed.some (other front last is) (subst (λ (k : List KeyVal). AreBelow (pairs_of last) (k, row.ptr)) keys mine) in
        let entries : entries_of (front ++ last ∷ []) ≡ entries_of front ++ last.entry ∷ [] = map-append (λ (p : Posting). p.entry) front (last ∷ []) in
        let under = below-last entry_cmp (entries_of front) last.entry (subst (IsStrictlySortedBy entry_cmp) entries was.ascending) in
        subst (AllByRecursion (λ e. entry_cmp e entry ≡ Less)) (sym (ap entries_of is ∙ entries))
        (all-push (λ e. entry_cmp e entry ≡ Less) (entries_of front) last.entry
        (weaker (λ e. entry_cmp e last.entry ≡ Less) (λ e. entry_cmp e entry ≡ Less) (λ e less. entry_cmp_total.trans e last.entry entry less final) (entries_of front) under) final)

-- it begins another entry
pub begun-told : (kind : ColType) (came : List Record) (old new : List Posting) (row : Record) (entry : Entry) → row.keys ≡ columns_of entry
    → IsEntryRecord kind row → ArePostingsOf kind came old → AllByRecursion (λ r. record_cmp entry_order r row ≡ Less) came
    → Begins old new entry row.ptr → ArePostingsOf kind (came ++ row ∷ []) new
begun-told kind came old new row entry keys is told less begins =
    let first : Posting = record { entry = entry; pointers = row.ptr ∷ [] } in
    let same : is.entry ≡ entry = same_entry is.entry entry (sym is.keys ∙ keys) in
    let good : IsListed kind (record { entry = is.entry; pointers = row.ptr ∷ [] }) = record {
      is_entry = is.is_entry;
      small = is.small;
      some = omega arith;
      ascending = (is.pointer, tt, tt);
      blocks = (is.block, tt);
    } in
    let made : ArePostingsOf kind (came ++ row ∷ []) (old ++ first ∷ []) = record {
      pairs =
          map-append row_of came (row ∷ [])
          ∙ ap (λ l. l ++ row_of row ∷ []) told.pairs
          ∙ ap (λ (k : List KeyVal). flat_map pairs_of old ++ (k, row.ptr) ∷ []) keys
          ∙ sym (pairs-push old first);
      ascending =
          subst (IsStrictlySortedBy entry_cmp) (sym (map-append (λ (p : Posting). p.entry) old (first ∷ [])))
          (sorted-push entry_cmp (entries_of old) entry told.ascending (entries-below kind came old row entry keys told less begins.other));
      each = all-push (IsTold kind) old first told.each (record {
        listed = subst (λ (e : Entry). IsListed kind (record { entry = e; pointers = row.ptr ∷ [] })) same good;
        sorted = sorted-one pointer_cmp row.ptr;
      });
    } in
    subst (ArePostingsOf kind (came ++ row ∷ [])) (sym begins.new_is) made

-- ---- the map

-- a pair is told by the posting of its entry
pair-told : (postings : List Posting) (entry : Entry) (pointer : RowPtr) → Contains (flat_map pairs_of postings) (columns_of entry, pointer) → HasPosting postings entry pointer
pair-told [] entry pointer there = absurd (Contains-nil (columns_of entry, pointer) there)
pair-told (posting ∷ postings) entry pointer there =
    let cut : Contains (pairs_of posting ++ flat_map pairs_of postings) (columns_of entry, pointer) =
    subst (λ l. Contains l (columns_of entry, pointer)) (flat_map-cons pairs_of posting postings) there in
    elim (Contains-append_cases (pairs_of posting) (flat_map pairs_of postings) (columns_of entry, pointer) cut) [
      | inl here ↦
          let some = Any-from_map (λ (p : RowPtr). (columns_of posting.entry, p)) posting.pointers (columns_of entry, pointer) here in
          let entries : posting.entry ≡ entry = same_entry posting.entry entry (ap (λ (p : List KeyVal × RowPtr). p.0) (sym some.4)) in
          let pointers : some.1 ≡ pointer = ap (λ (p : List KeyVal × RowPtr). p.1) (sym some.4) in
          Any-from (λ (p : Posting). (p.entry ≡ entry) × Contains p.pointers pointer) (posting ∷ postings) posting (Contains-head posting postings)
          (entries, subst (Contains posting.pointers) pointers (some.0, some.2, some.3))
      | inr behind ↦
          let later = pair-told postings entry pointer behind in
          Any-from (λ (p : Posting). (p.entry ≡ entry) × Contains p.pointers pointer) (posting ∷ postings) later.1
          (Contains-behind posting later.1 postings (later.0, later.2, later.3)) later.4
    ]

told-pair : (postings : List Posting) (entry : Entry) (pointer : RowPtr) → HasPosting postings entry pointer → Contains (flat_map pairs_of postings) (columns_of entry, pointer)
told-pair postings entry pointer some = by postings some.1 (some.0, some.2, some.3) some.4.0 some.4.1
  where
    by : (postings : List Posting) (posting : Posting) → Contains postings posting → posting.entry ≡ entry → Contains posting.pointers pointer
        → Contains (flat_map pairs_of postings) (columns_of entry, pointer)
    by [] posting there same has = absurd (Contains-nil posting there)
    by (first ∷ postings) posting there same has =
        subst (λ l. Contains l (columns_of entry, pointer)) (sym (flat_map-cons pairs_of first postings))
        (elim (Contains-cases first posting postings there) [
          | inl is ↦
              Contains-append_left (pairs_of first) (flat_map pairs_of postings) (columns_of entry, pointer)
              (subst (λ (e : Entry). Contains (pairs_of first) (columns_of e, pointer)) (ap (λ (p : Posting). p.entry) is ∙ same)
              (Contains-map (λ (p : RowPtr). (columns_of first.entry, p)) first.pointers pointer (subst (λ (p : Posting). Contains p.pointers pointer) (sym is) has)))
          | inr behind ↦
              Contains-append_right (pairs_of first) (flat_map pairs_of postings) (columns_of entry, pointer) (by postings posting behind same has)
        ])

leads-pair : (records : List Record) (entry : Entry) (pointer : RowPtr) → Leads records entry pointer → Contains (map row_of records) (columns_of entry, pointer)
leads-pair records entry pointer some =
    let here = Contains-map row_of records some.1 (some.0, some.2, some.3) in
    let same : row_of some.1 ≡ (columns_of entry, pointer) =
    ap (λ (k : List KeyVal). (k, some.1.ptr)) some.4.0 ∙ ap (λ (p : RowPtr). (columns_of entry, p)) some.4.1 in
    subst (Contains (map row_of records)) same here

pair-leads : (records : List Record) (entry : Entry) (pointer : RowPtr) → Contains (map row_of records) (columns_of entry, pointer) → Leads records entry pointer
pair-leads records entry pointer there =
    let some = Any-from_map row_of records (columns_of entry, pointer) there in
    Any-from (λ (r : Record). (r.keys ≡ columns_of entry) × (r.ptr ≡ pointer)) records some.1 (some.0, some.2, some.3)
    (ap (λ (p : List KeyVal × RowPtr). p.0) (sym some.4), ap (λ (p : List KeyVal × RowPtr). p.1) (sym some.4))

pub leads-moved : (xs ys : List Record) (entry : Entry) (pointer : RowPtr) → IsPermutation xs ys → Leads xs entry pointer → Leads ys entry pointer
leads-moved xs ys entry pointer same some =
    let there = Contains-permutation xs ys some.1 same (some.0, some.2, some.3) in
    Any-from (λ (r : Record). (r.keys ≡ columns_of entry) × (r.ptr ≡ pointer)) ys some.1 there some.4

-- records that all came are the map of their postings
pub told-map : (kind : ColType) (whole came : List Record) (postings : List Posting) → IsPermutation whole came → ArePostingsOf kind came postings → IsMapOf (Leads whole) postings
told-map kind whole came postings same told = record {
  ascending = told.ascending;
  lists = All-from_recursion (λ posting. IsPostingList posting.pointers) postings
      (weaker (IsTold kind) (λ posting. IsPostingList posting.pointers) (λ posting is. record { some = is.listed.some; ascending = is.sorted }) postings told.each);
  exactly = λ entry pointer. (
    λ has. leads-moved came whole entry pointer (IsPermutation-sym whole came same)
        (pair-leads came entry pointer (subst (λ l. Contains l (columns_of entry, pointer)) (sym told.pairs) (told-pair postings entry pointer has))),
    λ leads. pair-told postings entry pointer
        (subst (λ l. Contains l (columns_of entry, pointer)) told.pairs (leads-pair came entry pointer (leads-moved whole came entry pointer same leads))),
  );
}

-- ---- records in their order

merged_turned : (order : List SortPart) (whole merged left moved : List Record) → IsPermutation left moved → AreMerged order whole merged left → AreMerged order whole merged moved
merged_turned order whole merged left moved same was = record {
  same = IsPermutation-trans whole (merged ++ left) (merged ++ moved) was.same (IsPermutation-append_right merged left moved same);
  ascending = was.ascending;
  below = All-weaker (λ row. IsFirstOf order row left) (λ row. IsFirstOf order row moved)
      (λ row first. All-permutation (λ other. IsNotBelow order other row) left moved same first) merged was.below;
}

-- a merge gives the next record
pub merged_next : (order : List SortPart) (whole merged : List Record) (old new : Merging) (row : Record) → old.order ≡ order
    → GivesOne old row new → AreMerged order whole merged old.left → AreMerged order whole (merged ++ row ∷ []) new.left
merged_next order whole merged old new row is gives was =
    let first : IsFirstOf order row old.left = subst (λ parts. IsFirstOf parts row old.left) is gives.first in
    merged_more order whole merged (row ∷ new.left) new.left new.left row
    (merged_turned order whole merged old.left (row ∷ new.left) gives.taken was) refl
    (All-permutation (λ other. IsNotBelow order other row) old.left (row ∷ new.left) gives.taken first)
    (IsPermutation-refl new.left)

pub pairs-front : {X : Type 0} (R : X → X → Type 0) (xs ys : List X) → Pairs R (xs ++ ys) → Pairs R xs
pairs-front R [] ys pairs = tt
pairs-front {X = X} R (x ∷ xs) ys pairs = (
  All-from_recursion (R x) xs (front-of (R x) xs ys (recursion_from_All (R x) (xs ++ ys) pairs.0)),
  pairs-front R xs ys pairs.1,
)

pairs-last : {X : Type 0} (R : X → X → Type 0) (xs : List X) (x : X) → Pairs R (xs ++ x ∷ []) → AllByRecursion (λ y. R y x) xs
pairs-last R [] x pairs = tt
pairs-last R (y ∷ xs) x pairs = ((back-of (R y) xs (x ∷ []) (recursion_from_All (R y) (xs ++ x ∷ []) pairs.0)).0, pairs-last R xs x pairs.1)

-- records that ascend strictly are below the last
pub below-of : (order : List SortPart) (records : List Record) (row : Record) → AscendStrictly order (records ++ row ∷ [])
    → AllByRecursion (λ r. record_cmp order r row ≡ Less) records
below-of order records row up =
    pairs-last (λ a b. record_cmp order a b ≡ Less) records row (Pairs-from (λ a b. record_cmp order a b ≡ Less) (records ++ row ∷ []) up)

-- records that came ascend strictly, where no two are alike
pub came-ascending : (order : List SortPart) (whole came left : List Record) → AreApart whole → AreMerged order whole came left → AscendStrictly order came
came-ascending order whole came left apart merged =
    let Differ : Record → Record → Type 0 = λ a b. row_of a ≢ row_of b in
    let pairs = Pairs-moved Differ (λ a b other same. other (sym same)) whole (came ++ left) merged.same (Pairs-from Differ whole apart) in
    let mine : AreApart came = Pairs-to Differ came (pairs-front Differ came left pairs) in
    sorted_strictly order came came mine (record { same = IsPermutation-refl came; ascending = merged.ascending })

-- those that came before a record are below it
pub came-below : (order : List SortPart) (whole came left : List Record) (row : Record) → AreApart whole → AreMerged order whole (came ++ row ∷ []) left
    → AllByRecursion (λ r. record_cmp order r row ≡ Less) came
came-below order whole came left row apart merged = below-of order came row (came-ascending order whole (came ++ row ∷ []) left apart merged)
