-- The laws of roots.
use Rattle.std.specs.Prelude.{Option, Some, None, IsSomeAnd, slice_get}
use Rattle.std.proofs.Common.{◌≡◌, refl, inl, inr, ℕ, ◌<◌, List, get_or, ap, ap₂, subst, ◌∙◌, arith}
use Rattle.std.proofs.lemmas.Bool.{cases_order}
use Rattle.std.proofs.lemmas.List.{get_or_default}
use Rattle.hot_chain.specs.Roots.{IsRoot, Row, AreRows}
use Rattle.hot_chain.specs.declared.fault.RootCause.TheVariants.{Orphan, SharedRoot}
use Rattle.hot_chain.specs.Laws.{HasOneRoot, HasOneRootUnlessOrphan, EachHasOneRoot, RootsDiffer, HeapOnlyIsNoRoot, RowsAreDetermined}
use Rattle.hot_chain.proofs.Ascending.{IsWithin, same_ascending}
use Rattle.hot_chain.proofs.Existence.{cases_heap_only, cases_root, heap-only-no-start}
use Rattle.hot_chain.proofs.Rows.{root-is-one}

-- a live item that is no orphan has one root
pub one-root : HasOneRootUnlessOrphan
one-root page item live no_orphan =
    let one : (root : ℕ) → IsRoot page item root → HasOneRoot page item = λ root r. (root, r, λ other r'. root-is-one page item other root r' r) in
    elim (cases_heap_only page item) [
      | inr direct ↦ one item (inl (direct, refl))
      | inl only ↦ elim (cases_root page item only) [
        | inl found ↦ one found.0 found.1
        | inr lost ↦ absurd (no_orphan (live, only, lost))
      ]
    ]

pub each_one_root : EachHasOneRoot
each_one_root page item sound live = one-root page item live (λ orphan. sound item Orphan orphan)

pub separate_roots : RootsDiffer
separate_roots page root a b sound la lb ra rb =
    elim (cases_order a b) as (λ _. a ≡ b) [
      | inl same ↦ same
      | inr differ ↦ elim differ as (λ _. a ≡ b) [
        | inl less ↦ absurd (sound b SharedRoot (lb, (root, rb, (a, less, la, ra))))
        | inr more ↦ absurd (sound a SharedRoot (la, (root, ra, (b, more, lb, rb))))
      ]
    ]

pub not_own_root : HeapOnlyIsNoRoot
not_own_root page item normal only (inl own) = own.0 only
not_own_root page item normal only (inr chain) = heap-only-no-start page item normal only chain.1.0.0 chain.1.0.1

-- a row of one list of the page's rows is in the other
row_within : (page : List ℕ) (a b : List Row) → AreRows page a → AreRows page b → IsWithin a b
row_within page a b first second i inside =
    let d0 : Row = record { item = 0; root = 0 } in
    let y : Row = get_or a i d0 in
    let place = second.all y.item (first.each i d0 inside).0 in
    let x : Row = place.1 in
    let item : x.item ≡ y.item = place.4 in
    let its : IsRoot page x.item x.root = subst (λ (row : Row). IsRoot page row.item row.root) place.3 (second.each place.0 x place.2).1 in
    let root : IsRoot page y.item x.root = subst (λ (k : ℕ). IsRoot page k x.root) item its in (
      place.0,
      place.2,
      λ d.
          get_or_default b place.0 d x place.2
          ∙ place.3
          ∙ ap₂ (λ (k r : ℕ). record { item = k; root = r }) item (root-is-one page y.item x.root y.root root (first.each i d0 inside).1)
          ∙ get_or_default a i d0 d inside,
    )

-- the rows of a page ascend by item, so they are one list
pub same_rows : RowsAreDetermined
same_rows page a b first second =
    same_ascending (λ (x y : Row). x.item < y.item) (λ x y less more. omega arith) (record { item = 0; root = 0 }) a b first.ascending second.ascending
    (row_within page a b first second)
    (row_within page b a second first)

-- an item and a root that are read at one place are the row there
row_of_both : (o : Option Row) (item root : ℕ) → IsSomeAnd o (λ (row : Row). row.item ≡ item) → IsSomeAnd o (λ (row : Row). row.root ≡ root)
    → o ≡ Some (record { item = item; root = root })
row_of_both None item root a b = absurd a
row_of_both (Some row) item root a b = ap (λ (r : Row). Some r) (ap₂ (λ (k r : ℕ). record { item = k; root = r }) a b)

pub row-at : (rows : List Row) (i item root : ℕ) → IsSomeAnd (slice_get rows i) (λ (row : Row). row.item ≡ item)
    → IsSomeAnd (slice_get rows i) (λ (row : Row). row.root ≡ root) → slice_get rows i ≡ Some (record { item = item; root = root })
row-at rows i item root a b = row_of_both (slice_get rows i) item root a b
