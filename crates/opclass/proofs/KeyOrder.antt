-- The laws of the order of values: it is total, and only equal lists compare equal.
use Rattle.std.proofs.Common.{◌≡◌, ◌≢◌, ℕ, ◌≤◌, ℤ, pos, Bool, true, false, cond, IsTrue, ◌↔◌, zero, suc, Some, slice_get, take, List, [], ◌∷◌, drop, refl, sym, ap, subst, ◌∙◌, arith, Ordering, Less, Equal, Greater, nat_cmp, int_cmp}
use Rattle.std.specs.Ordering.{ordering_then, ordering_reverse, on, then_cmp, is_eq}
use Rattle.std.specs.Cmp.{IsTotalOrder, Equal-is}
use Rattle.std.specs.Cmp.Lexicographic.{slice_cmp}
use Rattle.std.proofs.lemmas.Cmp.{on_total, then_total, back_total, nat_cmp_total, int_cmp_total, nat_list_cmp_total, lists_total, tied_itself, alike_right}
use Rattle.std.proofs.lemmas.Bool.Decides.{nat_tests}
use Rattle.std.proofs.lemmas.Map.Lookups.{exact_unsigned, exact_signed, exact_bytes}
use Rattle.opclass.specs.declared.value.Elem.{Elem}
use Rattle.opclass.specs.declared.value.Elem.TheVariants as elem
use Rattle.opclass.specs.declared.value.KeyVal.{KeyVal}
use Rattle.opclass.specs.declared.value.KeyVal.TheVariants.{Nil, Num, Raw, Items}
use Rattle.opclass.specs.declared.spec.SortPart.{SortPart}
use Rattle.pg_bytes.specs.declared.row_ptr.RowPtr.{RowPtr}
use Rattle.opclass.specs.Order.{bytes_cmp, elem_place, elem_cmp, kind_place, value_cmp, directed, column_cmp, part_at, key_cmp, pointer_cmp, row_cmp, HasNoNull, Clashes}

-- ---- one order and then another

pub then-Equal : (o : Ordering) → ordering_then o Equal ≡ o
then-Equal Less = refl
then-Equal Equal = refl
then-Equal Greater = refl

pub reverse-reverse : (o : Ordering) → ordering_reverse (ordering_reverse o) ≡ o
reverse-reverse Less = refl
reverse-reverse Equal = refl
reverse-reverse Greater = refl

pub reverse-then : (o p : Ordering) → ordering_reverse (ordering_then o p) ≡ ordering_then (ordering_reverse o) (ordering_reverse p)
reverse-then Less p = refl
reverse-then Equal p = refl
reverse-then Greater p = refl

-- both orders are level where the two together are
pub then_level : (o p : Ordering) → ordering_then o p ≡ Equal → (o ≡ Equal) × (p ≡ Equal)
then_level Less p e = cc
then_level Equal p e = (refl, e)
then_level Greater p e = cc

-- the second order doesn't count where the first isn't level
decided : (o p q : Ordering) → o ≢ Equal → ordering_then o p ≡ ordering_then o q
decided Less p q apart = refl
decided Equal p q apart = absurd (apart refl)
decided Greater p q apart = refl

-- ---- elements of arrays

elem_number : Elem → ℤ
elem_number elem.Null = pos 0
elem_number (elem.Num number) = number
elem_number (elem.Raw bytes) = pos 0

elem_bytes : Elem → List ℕ
elem_bytes elem.Null = []
elem_bytes (elem.Num number) = []
elem_bytes (elem.Raw bytes) = bytes

-- by kind, then by number, then by bytes
ranked_elem_cmp : Elem → Elem → Ordering
ranked_elem_cmp = then_cmp (on elem_place nat_cmp) (then_cmp (on elem_number int_cmp) (on elem_bytes bytes_cmp))

elem_cmp-ranked : (a b : Elem) → ranked_elem_cmp a b ≡ elem_cmp a b
unfolding ranked_elem_cmp elem_number elem_bytes
elem_cmp-ranked (elem.Num a) (elem.Num b) = then-Equal (int_cmp a b)
elem_cmp-ranked (elem.Num a) (elem.Raw b) = refl
elem_cmp-ranked (elem.Num a) elem.Null = refl
elem_cmp-ranked (elem.Raw a) (elem.Num b) = refl
elem_cmp-ranked (elem.Raw a) (elem.Raw b) = refl
elem_cmp-ranked (elem.Raw a) elem.Null = refl
elem_cmp-ranked elem.Null (elem.Num b) = refl
elem_cmp-ranked elem.Null (elem.Raw b) = refl
elem_cmp-ranked elem.Null elem.Null = refl

pub elem_cmp_total : IsTotalOrder elem_cmp
unfolding ranked_elem_cmp
elem_cmp_total =
    subst IsTotalOrder (λ i a b. elem_cmp-ranked a b i)
    (then_total (on_total elem_place nat_cmp_total) (then_total (on_total elem_number int_cmp_total) (on_total elem_bytes nat_list_cmp_total)))

pub elem_cmp_exact : (a b : Elem) → elem_cmp a b ≡ Equal → a ≡ b
elem_cmp_exact (elem.Num a) (elem.Num b) e = ap elem.Num (exact_signed a b e)
elem_cmp_exact (elem.Num a) (elem.Raw b) e = cc
elem_cmp_exact (elem.Num a) elem.Null e = cc
elem_cmp_exact (elem.Raw a) (elem.Num b) e = cc
elem_cmp_exact (elem.Raw a) (elem.Raw b) e = ap elem.Raw (exact_bytes a b e)
elem_cmp_exact (elem.Raw a) elem.Null e = cc
elem_cmp_exact elem.Null (elem.Num b) e = cc
elem_cmp_exact elem.Null (elem.Raw b) e = cc
elem_cmp_exact elem.Null elem.Null e = refl

pub elements_cmp_exact : (a b : List Elem) → slice_cmp elem_cmp a b ≡ Equal → a ≡ b
elements_cmp_exact [] [] e = refl
elements_cmp_exact [] (y ∷ b) e = cc
elements_cmp_exact (x ∷ a) [] e = cc
elements_cmp_exact (x ∷ a) (y ∷ b) e =
    let both = then_level (elem_cmp x y) (slice_cmp elem_cmp a b) e in
    let head : x ≡ y = elem_cmp_exact x y both.0 in
    let tail : a ≡ b = elements_cmp_exact a b both.1 in
    cc

-- ---- values of a column

value_number : KeyVal → ℤ
value_number Nil = pos 0
value_number (Num number) = number
value_number (Raw bytes) = pos 0
value_number (Items elements) = pos 0

value_bytes : KeyVal → List ℕ
value_bytes Nil = []
value_bytes (Num number) = []
value_bytes (Raw bytes) = bytes
value_bytes (Items elements) = []

value_elements : KeyVal → List Elem
value_elements Nil = []
value_elements (Num number) = []
value_elements (Raw bytes) = []
value_elements (Items elements) = elements

-- by number, then by bytes, then by elements
ranked_value_cmp : KeyVal → KeyVal → Ordering
ranked_value_cmp = then_cmp (on value_number int_cmp) (then_cmp (on value_bytes bytes_cmp) (on value_elements (slice_cmp elem_cmp)))

ranked_value_cmp_total : IsTotalOrder ranked_value_cmp
unfolding ranked_value_cmp
ranked_value_cmp_total =
    then_total (on_total value_number int_cmp_total) (then_total (on_total value_bytes nat_list_cmp_total) (on_total value_elements (lists_total elem_cmp_total)))

reverse_total : {K : Type 0} {R : K → K → Ordering} → IsTotalOrder R → IsTotalOrder (λ a b. ordering_reverse (R a b))
reverse_total {K} {R} o = subst IsTotalOrder (λ i a b. o.antisymm b a i) (back_total o)

directed_total : {K : Type 0} {R : K → K → Ordering} → (part : SortPart) → IsTotalOrder R → IsTotalOrder (λ a b. directed part (R a b))
directed_total {K} {R} part o =
    elim part.descending as (λ d. IsTotalOrder (λ a b. cond d (ordering_reverse (R a b)) (R a b))) [ true ↦ reverse_total o | false ↦ o ]

pub directed_level : (part : SortPart) (o : Ordering) → directed part o ≡ Equal → o ≡ Equal
directed_level part o =
    elim part.descending as (λ d. cond d (ordering_reverse o) o ≡ Equal → o ≡ Equal) [ true ↦ (λ e. sym (reverse-reverse o) ∙ ap ordering_reverse e) | false ↦ λ e. e ]

-- nulls stand with no value
null_apart : (part : SortPart) (place : ℕ) → 1 ≤ place → place ≤ 3 → nat_cmp (kind_place part Nil) place ≢ Equal
null_apart part place low high e =
    let same = exact_unsigned (kind_place part Nil) place e in
    grind (arith, nat_tests)

value_apart : (part : SortPart) (place : ℕ) → 1 ≤ place → place ≤ 3 → nat_cmp place (kind_place part Nil) ≢ Equal
value_apart part place low high e =
    let same = exact_unsigned place (kind_place part Nil) e in
    grind (arith, nat_tests)

ranked_column_cmp : SortPart → KeyVal → KeyVal → Ordering
ranked_column_cmp part = then_cmp (on (kind_place part) nat_cmp) (λ a b. directed part (ranked_value_cmp a b))

ranked_column_cmp_total : (part : SortPart) → IsTotalOrder (ranked_column_cmp part)
unfolding ranked_column_cmp
ranked_column_cmp_total part = then_total (on_total (kind_place part) nat_cmp_total) (directed_total part ranked_value_cmp_total)

column_cmp-ranked : (part : SortPart) (a b : KeyVal) → ranked_column_cmp part a b ≡ column_cmp part a b
unfolding ranked_column_cmp ranked_value_cmp value_number value_bytes value_elements
column_cmp-ranked part Nil Nil = refl
column_cmp-ranked part Nil (Num b) = decided _ _ _ (null_apart part 1 (omega arith) (omega arith))
column_cmp-ranked part Nil (Raw b) = decided _ _ _ (null_apart part 2 (omega arith) (omega arith))
column_cmp-ranked part Nil (Items b) = decided _ _ _ (null_apart part 3 (omega arith) (omega arith))
column_cmp-ranked part (Num a) Nil = decided _ _ _ (value_apart part 1 (omega arith) (omega arith))
column_cmp-ranked part (Num a) (Num b) = ap (directed part) (then-Equal (int_cmp a b))
column_cmp-ranked part (Num a) (Raw b) = refl
column_cmp-ranked part (Num a) (Items b) = refl
column_cmp-ranked part (Raw a) Nil = decided _ _ _ (value_apart part 2 (omega arith) (omega arith))
column_cmp-ranked part (Raw a) (Num b) = refl
column_cmp-ranked part (Raw a) (Raw b) = ap (directed part) (then-Equal (bytes_cmp a b))
column_cmp-ranked part (Raw a) (Items b) = refl
column_cmp-ranked part (Items a) Nil = decided _ _ _ (value_apart part 3 (omega arith) (omega arith))
column_cmp-ranked part (Items a) (Num b) = refl
column_cmp-ranked part (Items a) (Raw b) = refl
column_cmp-ranked part (Items a) (Items b) = refl

pub column_cmp_total : (part : SortPart) → IsTotalOrder (column_cmp part)
column_cmp_total part = subst IsTotalOrder (λ i a b. column_cmp-ranked part a b i) (ranked_column_cmp_total part)

-- two values that compare equal
value_cmp_exact : (part : SortPart) (a b : KeyVal) → nat_cmp (kind_place part a) (kind_place part b) ≡ Equal → value_cmp a b ≡ Equal → a ≡ b
value_cmp_exact part Nil Nil place value = refl
value_cmp_exact part Nil (Num b) place value = absurd (null_apart part 1 (omega arith) (omega arith) place)
value_cmp_exact part Nil (Raw b) place value = absurd (null_apart part 2 (omega arith) (omega arith) place)
value_cmp_exact part Nil (Items b) place value = absurd (null_apart part 3 (omega arith) (omega arith) place)
value_cmp_exact part (Num a) Nil place value = absurd (value_apart part 1 (omega arith) (omega arith) place)
value_cmp_exact part (Num a) (Num b) place value = ap Num (exact_signed a b value)
value_cmp_exact part (Num a) (Raw b) place value = cc
value_cmp_exact part (Num a) (Items b) place value = cc
value_cmp_exact part (Raw a) Nil place value = absurd (value_apart part 2 (omega arith) (omega arith) place)
value_cmp_exact part (Raw a) (Num b) place value = cc
value_cmp_exact part (Raw a) (Raw b) place value = ap Raw (exact_bytes a b value)
value_cmp_exact part (Raw a) (Items b) place value = cc
value_cmp_exact part (Items a) Nil place value = absurd (value_apart part 3 (omega arith) (omega arith) place)
value_cmp_exact part (Items a) (Num b) place value = cc
value_cmp_exact part (Items a) (Raw b) place value = cc
value_cmp_exact part (Items a) (Items b) place value = ap Items (elements_cmp_exact a b value)

pub column_cmp_exact : (part : SortPart) (a b : KeyVal) → column_cmp part a b ≡ Equal → a ≡ b
column_cmp_exact part a b e =
    let both = then_level (nat_cmp (kind_place part a) (kind_place part b)) (directed part (value_cmp a b)) e in
    value_cmp_exact part a b both.0 (directed_level part (value_cmp a b) both.1)

-- ---- lists of values

-- how the columns behind the first are sorted
part_at-drop : (parts : List SortPart) (column : ℕ) → part_at (drop 1 parts) column ≡ part_at parts (suc column)
part_at-drop [] column = refl
part_at-drop (part ∷ parts) column = refl

pub key_cmp_exact : (parts : List SortPart) (a b : List KeyVal) → key_cmp parts a b ≡ Equal → a ≡ b
key_cmp_exact parts [] [] e = refl
key_cmp_exact parts [] (y ∷ b) e = cc
key_cmp_exact parts (x ∷ a) [] e = cc
key_cmp_exact parts (x ∷ a) (y ∷ b) e =
    let both = then_level (column_cmp (part_at parts 0) x y) (key_cmp (drop 1 parts) a b) e in
    let head : x ≡ y = column_cmp_exact (part_at parts 0) x y both.0 in
    let tail : a ≡ b = key_cmp_exact (drop 1 parts) a b both.1 in
    cc

pub key_cmp_antisymm : (parts : List SortPart) (a b : List KeyVal) → key_cmp parts a b ≡ ordering_reverse (key_cmp parts b a)
key_cmp_antisymm parts [] [] = refl
key_cmp_antisymm parts [] (y ∷ b) = refl
key_cmp_antisymm parts (x ∷ a) [] = refl
key_cmp_antisymm parts (x ∷ a) (y ∷ b) =
    let head = (column_cmp_total (part_at parts 0)).antisymm x y in
    let tail = key_cmp_antisymm (drop 1 parts) a b in
    rw (head, tail) (sym (reverse-then (column_cmp (part_at parts 0) y x) (key_cmp (drop 1 parts) b a)))

-- the first order chains, and the second where the first is level
then_trans : {K : Type 0} {R : K → K → Ordering} → IsTotalOrder R → (x y z : K) (r s : Ordering) → R x y ≡ r → R y z ≡ s
    → (o p q : Ordering) → (o ≡ Less → p ≡ Less → q ≡ Less) → ordering_then r o ≡ Less → ordering_then s p ≡ Less → ordering_then (R x z) q ≡ Less
then_trans order x y z Less Less xy yz o p q chain below below' = ap (λ r. ordering_then r q) (order.trans x y z xy yz)
then_trans order x y z Less Equal xy yz o p q chain below below' =
    ap (λ r. ordering_then r q) (sym (alike_right order y z x yz) ∙ xy)
then_trans order x y z Less Greater xy yz o p q chain below below' = cc
then_trans order x y z Equal Less xy yz o p q chain below below' = ap (λ r. ordering_then r q) (order.congr x y z xy ∙ yz)
then_trans order x y z Equal Equal xy yz o p q chain below below' =
    ap (λ r. ordering_then r q) (order.congr x y z xy ∙ yz) ∙ chain below below'
then_trans order x y z Equal Greater xy yz o p q chain below below' = cc
then_trans order x y z Greater s xy yz o p q chain below below' = cc

pub key_cmp_trans : (parts : List SortPart) (a b c : List KeyVal) → key_cmp parts a b ≡ Less → key_cmp parts b c ≡ Less → key_cmp parts a c ≡ Less
key_cmp_trans parts [] [] c ab bc = cc
key_cmp_trans parts [] (y ∷ b) [] ab bc = cc
key_cmp_trans parts [] (y ∷ b) (z ∷ c) ab bc = refl
key_cmp_trans parts (x ∷ a) [] c ab bc = cc
key_cmp_trans parts (x ∷ a) (y ∷ b) [] ab bc = cc
key_cmp_trans parts (x ∷ a) (y ∷ b) (z ∷ c) ab bc =
    then_trans (column_cmp_total (part_at parts 0)) x y z _ _ refl refl (key_cmp (drop 1 parts) a b) (key_cmp (drop 1 parts) b c) (key_cmp (drop 1 parts) a c)
    (key_cmp_trans (drop 1 parts) a b c) ab bc

pub key_cmp_total : (parts : List SortPart) → IsTotalOrder (key_cmp parts)
key_cmp_total parts = record {
  antisymm = key_cmp_antisymm parts;
  trans = key_cmp_trans parts;
  congr = λ a b c e. ap (λ keys. key_cmp parts keys c) (key_cmp_exact parts a b e);
}

-- what a test of two lists tells
pub is_eq-key_cmp : (parts : List SortPart) (a b : List KeyVal) (answer : Bool) → answer ≡ is_eq (key_cmp parts a b) → IsTrue answer ↔ (a ≡ b)
is_eq-key_cmp parts a b answer told = (
  (λ yes. key_cmp_exact parts a b ((Equal-is (key_cmp parts a b)).0 (sym told ∙ yes))),
  (λ same. told ∙ ap is_eq (ap (key_cmp parts a) (sym same) ∙ tied_itself (key_cmp_total parts) a)),
)

-- of two lists that are alike before a column, that column decides if they differ there
pub key_cmp-first_difference : (parts : List SortPart) (a b : List KeyVal) (column : ℕ) (x y : KeyVal) → take column a ≡ take column b
    → slice_get a column ≡ Some x → slice_get b column ≡ Some y → x ≢ y → key_cmp parts a b ≡ column_cmp (part_at parts column) x y
key_cmp-first_difference parts [] b column x y before here there apart = cc
key_cmp-first_difference parts (first ∷ a) [] column x y before here there apart = cc
key_cmp-first_difference parts (first ∷ a) (second ∷ b) zero x y before here there apart =
    let left : first ≡ x = cc in
    let right : second ≡ y = cc in
    ap (λ v. ordering_then (column_cmp (part_at parts 0) v second) (key_cmp (drop 1 parts) a b)) left
    ∙ ap (λ v. ordering_then (column_cmp (part_at parts 0) x v) (key_cmp (drop 1 parts) a b)) right
    ∙ decided (column_cmp (part_at parts 0) x y) _ Equal (λ e. apart (column_cmp_exact (part_at parts 0) x y e))
    ∙ then-Equal (column_cmp (part_at parts 0) x y)
key_cmp-first_difference parts (first ∷ a) (second ∷ b) (suc column) x y before here there apart =
    let same : first ≡ second = cc in
    let rest : take column a ≡ take column b = cc in
    ap (λ v. ordering_then (column_cmp (part_at parts 0) first v) (key_cmp (drop 1 parts) a b)) (sym same)
    ∙ ap (λ o. ordering_then o (key_cmp (drop 1 parts) a b)) (tied_itself (column_cmp_total (part_at parts 0)) first)
    ∙ key_cmp-first_difference (drop 1 parts) a b column x y rest here there apart
    ∙ ap (λ part. column_cmp part x y) (part_at-drop parts column)

-- ---- rows

pointer_cmp_total : IsTotalOrder pointer_cmp
pointer_cmp_total = then_total (on_total (λ p. p.block) nat_cmp_total) (on_total (λ p. p.offset) nat_cmp_total)

pointer_cmp_exact : (p q : RowPtr) → pointer_cmp p q ≡ Equal → p ≡ q
pointer_cmp_exact p q e =
    let both = then_level (nat_cmp p.block q.block) (nat_cmp p.offset q.offset) e in
    let block = exact_unsigned p.block q.block both.0 in
    let offset = exact_unsigned p.offset q.offset both.1 in
    λ i. record { block = block i; offset = offset i }

pub row_cmp_total : (parts : List SortPart) → IsTotalOrder (row_cmp parts)
row_cmp_total parts = then_total (on_total (λ row. row.0) (key_cmp_total parts)) (on_total (λ row. row.1) pointer_cmp_total)

pub row_cmp_exact : (parts : List SortPart) (a b : List KeyVal × RowPtr) → row_cmp parts a b ≡ Equal → a ≡ b
row_cmp_exact parts a b e =
    let both = then_level (key_cmp parts a.0 b.0) (pointer_cmp a.1 b.1) e in
    let keys = key_cmp_exact parts a.0 b.0 both.0 in
    let pointers = pointer_cmp_exact a.1 b.1 both.1 in
    λ i. (keys i, pointers i)

-- ---- clashes

pub clash_symmetric : (distinct : Bool) (a b : List KeyVal) → Clashes distinct a b → Clashes distinct b a
clash_symmetric distinct a b clash = (sym clash.0, λ said. subst HasNoNull clash.0 (clash.1 said))

-- what is neither below nor above is level
level : (o : Ordering) → o ≢ Greater → ordering_reverse o ≢ Greater → o ≡ Equal
level Less up down = absurd (down refl)
level Equal up down = refl
level Greater up down = absurd (up refl)

pub clash_between : (distinct : Bool) (parts : List SortPart) (a b c : List KeyVal) → key_cmp parts a b ≢ Greater → key_cmp parts b c ≢ Greater
    → Clashes distinct a c → Clashes distinct a b × Clashes distinct b c
clash_between distinct parts a b c ab bc clash =
    let turned : ordering_reverse (key_cmp parts a b) ≢ Greater =
    λ e. bc (ap (key_cmp parts b) (sym clash.0) ∙ key_cmp_antisymm parts b a ∙ e) in
    let same : a ≡ b = key_cmp_exact parts a b (level (key_cmp parts a b) ab turned) in
    ((same, clash.1), (sym same ∙ clash.0, λ said. subst HasNoNull same (clash.1 said)))
