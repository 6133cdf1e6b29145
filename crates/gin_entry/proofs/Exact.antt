-- The entries of a value are exactly those that it has.
use Rattle.std.proofs.Common.{◌≡◌, ◌≢◌, ◌↔◌, List, [], ◌∷◌, map, refl, sym, subst, inl, inr}
use Rattle.std.specs.Prelude.{Any, Contains}
use Rattle.std.specs.List.Sorted.{IsStrictlySortedBy}
use Rattle.opclass.specs.declared.value.Elem.{Elem}
use Rattle.opclass.specs.declared.value.KeyVal.{KeyVal}
use Rattle.opclass.specs.declared.value.KeyVal.TheVariants.{Nil, Num, Raw, Items}
use Rattle.gin_entry.specs.declared.entry.Entry.{Entry}
use Rattle.gin_entry.specs.Entries.{distinct, entries, entry_of}
use Rattle.gin_entry.specs.EntryOrder.{entry_cmp}
use Rattle.gin_entry.specs.Laws.{AreEntries}
use Rattle.gin_entry.proofs.Members.{Any-among, Any-from_map, Contains-cases, Contains-head, Contains-nil, map_from_Any}
use Rattle.gin_entry.proofs.Ascending.{map_sorted, same_list}
use Rattle.gin_entry.proofs.EntryOrders.{entry_cmp_total, entry_cmp-elements}
use Rattle.gin_entry.proofs.Distinct.{distinct_has, distinct_only, distinct_sorted}

-- entries ascend as the elements do
entries_sorted : (elements : List Elem) → IsStrictlySortedBy entry_cmp (map entry_of (distinct elements))
entries_sorted elements =
    map_sorted entry_of entry_cmp (distinct elements)
    (subst (λ cmp. IsStrictlySortedBy cmp (distinct elements)) (λ i a b. sym (entry_cmp-elements a b) i) (distinct_sorted elements))

-- an entry is one of the elements'
pub elements_exact : (elements : List Elem) (entry : Entry)
    → Contains (map entry_of (distinct elements)) entry ↔ Any (λ each. entry ≡ entry_of each) elements
elements_exact elements entry = (
  (λ there. Any-among (λ each. entry ≡ entry_of each) (distinct elements) elements (distinct_only elements)
      (Any-from_map entry_of (distinct elements) entry there)),
  (λ some. map_from_Any entry_of (distinct elements) entry
      (Any-among (λ each. entry ≡ entry_of each) elements (distinct elements) (distinct_has elements) some)),
)

one_sorted : (entry : Entry) → IsStrictlySortedBy entry_cmp (entry ∷ [])
unfolding IsStrictlySortedBy
one_sorted entry = (tt, tt)

none_sorted : IsStrictlySortedBy entry_cmp []
unfolding IsStrictlySortedBy
none_sorted = tt

one_exact : (only entry : Entry) → Contains (only ∷ []) entry ↔ (entry ≡ only)
one_exact only entry = (
  (λ there. elim (Contains-cases only entry [] there) [ inl same ↦ sym same | inr behind ↦ absurd (Contains-nil entry behind) ]),
  (λ same. subst (Contains (only ∷ [])) (sym same) (Contains-head only [])),
)

pub entries_exact : (value : KeyVal) → AreEntries value (entries value)
entries_exact Nil = record { ascending = one_sorted _; exactly = one_exact _ }
entries_exact (Items []) = record { ascending = one_sorted _; exactly = one_exact _ }
entries_exact (Items (element ∷ elements)) = record {
  ascending = entries_sorted (element ∷ elements);
  exactly = elements_exact (element ∷ elements);
}
entries_exact (Num number) = record { ascending = none_sorted; exactly = λ entry. (Contains-nil entry, λ none. absurd none) }
entries_exact (Raw bytes) = record { ascending = none_sorted; exactly = λ entry. (Contains-nil entry, λ none. absurd none) }

pub entries_determined : (value : KeyVal) (list : List Entry) → AreEntries value list → list ≡ entries value
entries_determined value list are =
    let exact = entries_exact value in
    same_list entry_cmp_total list (entries value) are.ascending exact.ascending
    (λ z there. (exact.exactly z).1 ((are.exactly z).0 there)) (λ z there. (are.exactly z).1 ((exact.exactly z).0 there))

pub elements_are : (elements : List Elem) (entry : Entry) → elements ≢ []
    → Contains (entries (Items elements)) entry ↔ Any (λ element. entry ≡ entry_of element) elements
elements_are [] entry some = absurd (some refl)
elements_are (element ∷ elements) entry some = elements_exact (element ∷ elements) entry
