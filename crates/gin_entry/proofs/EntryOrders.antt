-- The orders of entries and of row pointers: they are total, and only equal ones compare equal.
use Rattle.std.proofs.Common.{◌≡◌, ℕ, zero, suc, pos, true, false, refl, ap, ◌∙◌, arith, Ordering, Equal, nat_cmp, int_cmp}
use Rattle.std.specs.Cmp.{IsTotalOrder}
use Rattle.std.specs.Ordering.{ordering_then}
use Rattle.std.proofs.lemmas.Bool.Decides.{nat_tests}
use Rattle.std.proofs.lemmas.Cmp.{on_total, then_total, nat_cmp_total}
use Rattle.std.proofs.lemmas.Map.Lookups.{exact_unsigned}
use Rattle.opclass.specs.declared.value.Elem.{Elem}
use Rattle.opclass.specs.declared.value.Elem.TheVariants as elem
use Rattle.opclass.specs.declared.spec.SortPart.{SortPart}
use Rattle.opclass.specs.Order.{column_cmp, elem_cmp, key_cmp, pointer_cmp, unsaid}
use Rattle.opclass.proofs.KeyOrder.{column_cmp_exact, column_cmp_total, then-Equal, then_level}
use Rattle.gin_entry.specs.declared.entry.Entry.{Entry}
use Rattle.gin_entry.specs.Entries.{entry_of}
use Rattle.gin_entry.specs.EntryOrder.{category_column, columns_of, entry_cmp, entry_order}

pub entry_cmp_total : IsTotalOrder entry_cmp
entry_cmp_total = then_total (on_total (λ e. e.category) nat_cmp_total) (on_total (λ e. e.key) (column_cmp_total unsaid))

pub entry_cmp_exact : (a b : Entry) → entry_cmp a b ≡ Equal → a ≡ b
entry_cmp_exact a b level =
    let both = then_level (nat_cmp a.category b.category) (column_cmp unsaid a.key b.key) level in
    let category = exact_unsigned a.category b.category both.0 in
    let key = column_cmp_exact unsaid a.key b.key both.1 in
    λ i. record { category = category i; key = key i }

pub pointers_total : IsTotalOrder pointer_cmp
pointers_total = then_total (on_total (λ p. p.block) nat_cmp_total) (on_total (λ p. p.offset) nat_cmp_total)

-- elements compare as their entries do
pub entry_cmp-elements : (a b : Elem) → entry_cmp (entry_of a) (entry_of b) ≡ elem_cmp a b
entry_cmp-elements (elem.Num a) (elem.Num b) = refl
entry_cmp-elements (elem.Num a) (elem.Raw b) = refl
entry_cmp-elements (elem.Num a) elem.Null = refl
entry_cmp-elements (elem.Raw a) (elem.Num b) = refl
entry_cmp-elements (elem.Raw a) (elem.Raw b) = refl
entry_cmp-elements (elem.Raw a) elem.Null = refl
entry_cmp-elements elem.Null (elem.Num b) = refl
entry_cmp-elements elem.Null (elem.Raw b) = refl
entry_cmp-elements elem.Null elem.Null = refl

-- ---- the columns of entries

numbers_compare : (m n : ℕ) → int_cmp (pos m) (pos n) ≡ nat_cmp m n
numbers_compare m n = grind (arith, nat_tests)

-- how the column of a category is sorted
abbrev nulls_before : SortPart
nulls_before = record { descending = false; nulls_first = true }

-- the columns of two categories compare as these
categories_compare : (m n : ℕ) → column_cmp nulls_before (category_column m) (category_column n) ≡ nat_cmp m n
categories_compare zero zero = refl
categories_compare zero (suc n) = grind (arith, nat_tests)
categories_compare (suc m) zero = grind (arith, nat_tests)
categories_compare (suc m) (suc n) = numbers_compare (suc m) (suc n)

-- the columns of two entries compare as these
pub columns_compare : (a b : Entry) → key_cmp entry_order (columns_of a) (columns_of b) ≡ entry_cmp a b
columns_compare a b =
    ap (λ (o : Ordering). ordering_then o (ordering_then (column_cmp unsaid a.key b.key) Equal)) (categories_compare a.category b.category)
    ∙ ap (ordering_then (nat_cmp a.category b.category)) (then-Equal (column_cmp unsaid a.key b.key))

-- categories of the same column are the same
pub same_category : (m n : ℕ) → category_column m ≡ category_column n → m ≡ n
same_category zero zero same = refl
same_category zero (suc n) same = absurd cc
same_category (suc m) zero same = absurd cc
same_category (suc m) (suc n) same = cc

-- entries of the same columns are the same
pub same_entry : (a b : Entry) → columns_of a ≡ columns_of b → a ≡ b
same_entry a b same =
    let column : category_column a.category ≡ category_column b.category = cc in
    let key : a.key ≡ b.key = cc in
    let category = same_category a.category b.category column in
    λ i. record { category = category i; key = key i }
