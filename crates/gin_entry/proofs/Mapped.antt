-- A relation of entries to pointers has one map.
use Rattle.std.proofs.Common.{◌≡◌, List, map, get_or, refl, sym, ap, subst, ◌∙◌, Equal}
use Rattle.std.specs.Prelude.{Contains}
use Rattle.std.specs.Cmp.{IsTotalOrder}
use Rattle.std.specs.List.Sorted.{IsStrictlySortedBy}
use Rattle.std.proofs.lemmas.Cmp.{on_total, tied_itself}
use Rattle.std.proofs.lemmas.List.Elements.{All-contains, Contains-get_or}
use Rattle.pg_bytes.specs.declared.row_ptr.RowPtr.{RowPtr}
use Rattle.gin_entry.specs.declared.entry.Entry.{Entry}
use Rattle.gin_entry.specs.EntryOrder.{entry_cmp}
use Rattle.gin_entry.specs.EntryMap.{HasPosting, IsMapOf, IsPostingList, Posting}
use Rattle.gin_entry.proofs.Members.{Any-from}
use Rattle.gin_entry.proofs.Ascending.{same_element, same_list, sorted_from_map}
use Rattle.gin_entry.proofs.EntryOrders.{entry_cmp_total, pointers_total}

-- postings compare by their entries
posting_cmp_total : IsTotalOrder (λ (a b : Posting). entry_cmp a.entry b.entry)
posting_cmp_total = on_total (λ posting. posting.entry) entry_cmp_total

by_entry : (postings : List Posting) → IsStrictlySortedBy entry_cmp (map (λ posting. posting.entry) postings)
    → IsStrictlySortedBy (λ a b. entry_cmp a.entry b.entry) postings
by_entry postings up = sorted_from_map (λ posting. posting.entry) entry_cmp postings up

module _ {Leads : Entry → RowPtr → Type 0} where
  -- the pointers of a posting of one map are those of the posting of the other with its entry
  passes : (a b : List Posting) → IsMapOf Leads a → IsMapOf Leads b → (p q : Posting) → Contains a p → Contains b q → q.entry ≡ p.entry
      → (ptr : RowPtr) → Contains p.pointers ptr → Contains q.pointers ptr
  passes a b map_a map_b p q in_a in_b same ptr there =
      let leads : Leads p.entry ptr =
      (map_a.exactly p.entry ptr).0 (Any-from (λ posting. (posting.entry ≡ p.entry) × Contains posting.pointers ptr) a p in_a (refl, there)) in
      let other : HasPosting b p.entry ptr = (map_b.exactly p.entry ptr).1 leads in
      let level : entry_cmp other.1.entry q.entry ≡ Equal =
      ap (λ e. entry_cmp e q.entry) (other.4.0 ∙ sym same) ∙ tied_itself entry_cmp_total q.entry in
      let one : other.1 ≡ q =
      same_element posting_cmp_total b other.1 q (by_entry b map_b.ascending) (other.0, other.2, other.3) in_b level in
      subst (λ (posting : Posting). Contains posting.pointers ptr) one other.4.1

  -- a posting of one map is one of the other
  is_there : (a b : List Posting) → IsMapOf Leads a → IsMapOf Leads b → (p : Posting) → Contains a p → Contains b p
  is_there a b map_a map_b p in_a =
      let list : IsPostingList p.pointers = All-contains (λ posting. IsPostingList posting.pointers) a p map_a.lists in_a in
      let ptr : RowPtr = get_or p.pointers 0 (record { block = 0; offset = 0 }) in
      let first : Contains p.pointers ptr = Contains-get_or p.pointers 0 _ list.some in
      let leads : Leads p.entry ptr =
      (map_a.exactly p.entry ptr).0 (Any-from (λ posting. (posting.entry ≡ p.entry) × Contains posting.pointers ptr) a p in_a (refl, first)) in
      let other : HasPosting b p.entry ptr = (map_b.exactly p.entry ptr).1 leads in
      let q : Posting = other.1 in
      let in_b : Contains b q = (other.0, other.2, other.3) in
      let list' : IsPostingList q.pointers = All-contains (λ posting. IsPostingList posting.pointers) b q map_b.lists in_b in
      let pointers : q.pointers ≡ p.pointers =
      same_list pointers_total q.pointers p.pointers list'.ascending list.ascending
      (passes b a map_b map_a q p in_b in_a (sym other.4.0)) (passes a b map_a map_b p q in_a in_b other.4.0) in
      let one : q ≡ p = λ i. record { entry = other.4.0 i; pointers = pointers i } in
      subst (Contains b) one in_b

  pub same_map : (a b : List Posting) → IsMapOf Leads a → IsMapOf Leads b → a ≡ b
  same_map a b map_a map_b =
      same_list posting_cmp_total a b (by_entry a map_a.ascending) (by_entry b map_b.ascending)
      (is_there a b map_a map_b) (is_there b a map_b map_a)
