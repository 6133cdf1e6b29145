-- Where the entries of a GIN index over a heap lead.
use Rattle.std.proofs.Common.{◌≡◌, ◌↔◌, ◌⊎◌, ℕ, ◌<◌, ◌≤◌, List, [], ◌∷◌, map, refl, sym, ap, subst, ◌∙◌, inl, inr, arith}
use Rattle.std.specs.Prelude.{Any, Contains}
use Rattle.std.proofs.lemmas.List.Elements.{All-contains}
use Rattle.pg_bytes.specs.declared.row_ptr.RowPtr.{RowPtr}
use Rattle.opclass.specs.declared.spec.IndexSpec.{IndexSpec}
use Rattle.opclass.specs.declared.table.Table.{Table}
use Rattle.opclass.specs.declared.value.Elem.{Elem}
use Rattle.opclass.specs.declared.value.Elem.TheVariants as elem
use Rattle.opclass.specs.declared.value.KeyVal.{KeyVal}
use Rattle.opclass.specs.declared.value.KeyVal.TheVariants.{Nil, Num, Raw, Items}
use Rattle.gin_entry.specs.declared.entry.Category.TheVariants.{EmptyItem, NullItem}
use Rattle.gin_entry.specs.declared.entry.Entry.{Entry}
use Rattle.gin_entry.specs.Entries.{HasEntry, entry_of, placeholder}
use Rattle.gin_entry.specs.EntryMap.{ArrayRow, HasPosting, Posting}
use Rattle.gin_entry.proofs.Members.{Any-from, Any-from_map, Contains-cases, Contains-map, Contains-nil}
use Rattle.shared_tape.specs.declared.stored.Record.{Record}
use Rattle.run_merge.proofs.Sorting.{Pairs}
use Rattle.build_leader.specs.Entries.{array_of, array_row}
use Rattle.build_leader.specs.EntryLaws.{AreMapped, ElementsLeadToTheirRows, EmptyArraysLeadToTheirRows, HasElement, NullsLeadToTheirRows, PostingsPointToRows}
use Rattle.build_leader.proofs.Apart.{Differ, heap_pointers_differ}

-- ---- which entries a value has

-- the entry of an element has a key, or is that of nulls
element_category : (element : Elem) → (entry_of element).category ≤ 1
element_category elem.Null = omega arith
element_category (elem.Num number) = omega arith
element_category (elem.Raw bytes) = omega arith

-- so it is none of the others that have no key
no_element : (element : Elem) (entry : Entry) → 1 < entry.category → entry ≡ entry_of element → ⊥
no_element element entry above same =
    let category = ap (λ (e : Entry). e.category) same in
    omega (arith, above, category, element_category element)

-- elements with one entry are one
one_element : (a b : Elem) → entry_of a ≡ entry_of b → a ≡ b
one_element a b same = by a b (ap (λ (e : Entry). e.key) same)
  where
    by : (a b : Elem) → (entry_of a).key ≡ (entry_of b).key → a ≡ b
    by elem.Null elem.Null key = refl
    by elem.Null (elem.Num number) key = cc
    by elem.Null (elem.Raw bytes) key = cc
    by (elem.Num number) elem.Null key = cc
    by (elem.Num number) (elem.Num other) key = cc
    by (elem.Num number) (elem.Raw bytes) key = cc
    by (elem.Raw bytes) elem.Null key = cc
    by (elem.Raw bytes) (elem.Num number) key = cc
    by (elem.Raw bytes) (elem.Raw other) key = cc

element_is : (element : Elem) (value : KeyVal) → HasEntry value (entry_of element) ↔ HasElement element value
element_is element Nil = (
  (λ has. no_element element (placeholder NullItem) (omega arith) (sym has)),
  (λ never. absurd never),
)
element_is element (Num number) = ((λ never. never), (λ never. never))
element_is element (Raw bytes) = ((λ never. never), (λ never. never))
element_is element (Items []) = (
  (λ has. absurd (no_element element (placeholder EmptyItem) (omega arith) (sym has))),
  (λ there. absurd (Contains-nil element there)),
)
element_is element (Items (first ∷ elements)) = (
  (λ has. subst (Contains (first ∷ elements)) (sym (one_element element has.1 has.4)) (has.0, has.2, has.3)),
  (λ there. Any-from (λ each. entry_of element ≡ entry_of each) (first ∷ elements) element there refl),
)

null_is : (value : KeyVal) → HasEntry value (placeholder NullItem) ↔ (value ≡ Nil)
null_is Nil = ((λ has. refl), (λ same. refl))
null_is (Num number) = ((λ never. absurd never), (λ same. absurd (let e : Num number ≡ Nil = same in cc)))
null_is (Raw bytes) = ((λ never. absurd never), (λ same. absurd (let e : Raw bytes ≡ Nil = same in cc)))
null_is (Items []) = (
  (λ has. let category = ap (λ (e : Entry). e.category) has in absurd (omega (arith, category))),
  (λ same. absurd (let e : Items [] ≡ Nil = same in cc)),
)
null_is (Items (element ∷ elements)) = (
  (λ has. absurd (no_element has.1 (placeholder NullItem) (omega arith) has.4)),
  (λ same. absurd (let e : Items (element ∷ elements) ≡ Nil = same in cc)),
)

empty_is : (value : KeyVal) → HasEntry value (placeholder EmptyItem) ↔ (value ≡ Items [])
empty_is Nil = (
  (λ has. let category = ap (λ (e : Entry). e.category) has in absurd (omega (arith, category))),
  (λ same. absurd (let e : Nil ≡ Items [] = same in cc)),
)
empty_is (Num number) = ((λ never. absurd never), (λ same. absurd (let e : Num number ≡ Items [] = same in cc)))
empty_is (Raw bytes) = ((λ never. absurd never), (λ same. absurd (let e : Raw bytes ≡ Items [] = same in cc)))
empty_is (Items []) = ((λ has. refl), (λ same. refl))
empty_is (Items (element ∷ elements)) = (
  (λ has. absurd (no_element has.1 (placeholder EmptyItem) (omega arith) has.4)),
  (λ same. absurd (let e : Items (element ∷ elements) ≡ Items [] = same in cc)),
)

-- ---- where an entry leads

-- rows with one pointer are one
same_row : (rows : List Record) (a b : Record) → Pairs Differ rows
    → Contains rows a → Contains rows b → a.ptr ≡ b.ptr → a ≡ b
same_row [] a b differ in_a in_b same = absurd (Contains-nil a in_a)
same_row (row ∷ rows) a b differ in_a in_b same =
    by (Contains-cases row a rows in_a) (Contains-cases row b rows in_b)
    (λ behind behind'. same_row rows a b differ.1 behind behind' same)
  where
    apart : (other : Record) → Contains rows other → row.ptr ≡ other.ptr → ⊥
    apart other there = All-contains (Differ row) rows other differ.0 there

    by : (row ≡ a) ⊎ Contains rows a → (row ≡ b) ⊎ Contains rows b → (Contains rows a → Contains rows b → a ≡ b) → a ≡ b
    by (inl first) (inl second) both = sym first ∙ second
    by (inl first) (inr behind) both = absurd (apart b behind (ap (λ (r : Record). r.ptr) first ∙ same))
    by (inr behind) (inl second) both = absurd (apart a behind (ap (λ (r : Record). r.ptr) second ∙ sym same))
    by (inr behind) (inr behind') both = both behind behind'

module _ (table : Table) (spec : IndexSpec) (heap : List ℕ) (rows : List Record) (postings : List Posting)
    (mapped : AreMapped table spec heap rows postings) where
  -- the row to which an entry leads
  led : (entry : Entry) (ptr : RowPtr) → HasPosting postings entry ptr
      → Any (λ row. HasEntry (array_of row) entry × (row.ptr ≡ ptr)) rows
  led entry ptr has =
      let some = (mapped.map_is.exactly entry ptr).0 has in
      let row = Any-from_map array_row rows some.1 (some.0, some.2, some.3) in
      let its = subst (λ (r : ArrayRow). HasEntry r.value entry × (r.ptr ≡ ptr)) row.4 some.4 in
      Any-from (λ r. HasEntry (array_of r) entry × (r.ptr ≡ ptr)) rows row.1 (row.0, row.2, row.3) its

  -- it has the entry
  leads_to_row : (row : Record) (entry : Entry) → Contains rows row
      → HasPosting postings entry row.ptr ↔ HasEntry (array_of row) entry
  leads_to_row row entry there = (
    (λ has.
        let some = led entry row.ptr has in
        let differ = heap_pointers_differ table spec heap rows mapped.sound mapped.of_heap in
        let one : some.1 ≡ row = same_row rows some.1 row differ (some.0, some.2, some.3) there some.4.1 in
        subst (λ (r : Record). HasEntry (array_of r) entry) one some.4.0),
    (λ has.
        (mapped.map_is.exactly entry row.ptr).1
        (Any-from (λ (r : ArrayRow). HasEntry r.value entry × (r.ptr ≡ row.ptr)) (map array_row rows) (array_row row)
        (Contains-map array_row rows row there) (has, refl))),
  )

both_ways : {A B C : Type 0} → A ↔ B → B ↔ C → A ↔ C
both_ways first second = ((λ a. second.0 (first.0 a)), (λ c. first.1 (second.1 c)))

pub elements_lead : ElementsLeadToTheirRows
elements_lead table spec heap rows postings row element mapped there =
    both_ways (leads_to_row table spec heap rows postings mapped row (entry_of element) there)
    (element_is element (array_of row))

pub nulls_lead : NullsLeadToTheirRows
nulls_lead table spec heap rows postings row mapped there =
    both_ways (leads_to_row table spec heap rows postings mapped row (placeholder NullItem) there)
    (null_is (array_of row))

pub empty_arrays_lead : EmptyArraysLeadToTheirRows
empty_arrays_lead table spec heap rows postings row mapped there =
    both_ways (leads_to_row table spec heap rows postings mapped row (placeholder EmptyItem) there)
    (empty_is (array_of row))

pub point_to_rows : PostingsPointToRows
point_to_rows table spec heap rows postings entry ptr mapped has =
    let some = led table spec heap rows postings mapped entry ptr has in
    (some.0, some.1, some.2, some.3, some.4.1)
