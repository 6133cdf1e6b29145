-- The values of needed columns, one by one.
use Rattle.std.proofs.Common.{◌≡◌, ℕ, suc, ◌+◌, ◌-◌, ◌<◌, ◌≤◌, List, [], ◌∷◌, ◌++◌, length, take, get_or, All, Result, Ok, Err, refl, sym, ap, subst, ◌∙◌, arith}
use Rattle.std.proofs.lemmas.List.{take_all, take_more}
use Rattle.std.specs.List.Sorted.{IsStrictlyIncreasing}
use Rattle.std.proofs.lemmas.List.Elements.{All-head, All-tail}
use Rattle.std.proofs.lemmas.List.Kept.{AllPairs-from_increasing}
use Rattle.opclass.specs.declared.table.Column.{Column}
use Rattle.opclass.specs.declared.value.KeyVal.{KeyVal}
use Rattle.heap_row.specs.declared.fault.ReadFault.{ReadFault}
use Rattle.heap_row.specs.declared.fault.ReadFault.TheVariants as read
use Rattle.heap_row.specs.declared.fault.RowCause.{RowCause}
use Rattle.heap_row.specs.Attribute.{AreColumnsOf, value_of, values_of}
use Rattle.heap_row.specs.Fault.{◌>>=◌}
use Rattle.heap_row.specs.Pass.{AreAhead, Fails, last_of}
use Rattle.heap_row.specs.Tuple.{HeapTuple}

-- the first number of an ascending list is below the others, which ascend
above_first : (number : ℕ) (numbers : List ℕ) → IsStrictlyIncreasing (number ∷ numbers) → All (λ other. number < other) numbers
above_first number numbers ascend k d below =
    let later : suc k < length (number ∷ numbers) = omega arith in
    AllPairs-from_increasing (number ∷ numbers) ascend 0 (suc k) d (omega arith) later

tail_ascends : (number : ℕ) (numbers : List ℕ) → IsStrictlyIncreasing (number ∷ numbers) → IsStrictlyIncreasing numbers
tail_ascends number numbers ascend k below =
    let e : suc k + 1 ≡ suc (k + 1) = omega arith in
    let next = ascend (suc k) (omega arith) in
    rw e at next

ahead : (columns : List Column) (before : ℕ) (numbers : List ℕ) → IsStrictlyIncreasing numbers → All (λ number. before < number) numbers
    → All (λ number. number ≤ length columns) numbers → AreAhead columns before numbers
ahead columns before [] ascend above inside = tt
ahead columns before (number ∷ numbers) ascend above inside = (
  All-head (λ n. before < n) number numbers above,
  All-head (λ n. n ≤ length columns) number numbers inside,
  ahead columns number numbers (tail_ascends number numbers ascend) (above_first number numbers ascend) (All-tail (λ n. n ≤ length columns) number numbers inside),
)

-- the columns of a table stand behind none
pub all_ahead : (columns : List Column) (numbers : List ℕ) → AreColumnsOf columns numbers → AreAhead columns 0 numbers
all_ahead columns numbers are = ahead columns 0 numbers are.ascending are.first are.last

-- ---- the last of several columns

ahead_split : (columns : List Column) (before : ℕ) (numbers : List ℕ) (number : ℕ) → AreAhead columns before (numbers ++ number ∷ [])
    → AreAhead columns before numbers × (last_of before numbers < number) × (number ≤ length columns)
ahead_split columns before [] number are = (tt, are.0, are.1)
ahead_split columns before (first ∷ numbers) number are =
    let rest = ahead_split columns first numbers number are.2 in
    ((are.0, are.1, rest.0), rest.1, rest.2)

last_behind : (before : ℕ) (numbers : List ℕ) (number : ℕ) → last_of before (numbers ++ number ∷ []) ≡ number
last_behind before [] number = refl
last_behind before (first ∷ numbers) number = last_behind first numbers number

regroup : (first : Result KeyVal RowCause) (values : Result (List KeyVal) RowCause) (last : Result KeyVal RowCause)
    → (first >>= λ f. (values >>= λ vs. last >>= λ l. Ok (vs ++ l ∷ [])) >>= λ vs. Ok (f ∷ vs))
    ≡ ((first >>= λ f. values >>= λ vs. Ok (f ∷ vs)) >>= λ vs. last >>= λ l. Ok (vs ++ l ∷ []))
regroup (Err cause) values last = refl
regroup (Ok f) (Err cause) last = refl
regroup (Ok f) (Ok vs) (Err cause) = refl
regroup (Ok f) (Ok vs) (Ok l) = refl

last_read : (tuple : HeapTuple) (columns : List Column) (numbers : List ℕ) (number : ℕ)
    → values_of tuple columns (numbers ++ number ∷ [])
    ≡ (values_of tuple columns numbers >>= λ values. value_of tuple columns (number - 1) >>= λ value. Ok (values ++ value ∷ []))
last_read tuple columns [] number = last_alone (value_of tuple columns (number - 1))
  where
    last_alone : (read : Result KeyVal RowCause) → (read >>= λ value. Ok (value ∷ [])) ≡ (read >>= λ value. Ok ([] ++ value ∷ []))
    last_alone (Ok value) = refl
    last_alone (Err cause) = refl
last_read tuple columns (first ∷ numbers) number =
    ap (λ (others : Result (List KeyVal) RowCause). value_of tuple columns (first - 1) >>= λ f. others >>= λ vs. Ok (f ∷ vs)) (last_read tuple columns numbers number)
    ∙ regroup (value_of tuple columns (first - 1)) (values_of tuple columns numbers) (value_of tuple columns (number - 1))

-- these are the columns before the last one, and the last one
abbrev pub earlier : List ℕ → List ℕ
earlier numbers = take (length numbers - 1) numbers

abbrev pub last : List ℕ → ℕ
last numbers = get_or numbers (length numbers - 1) 0

whole : (numbers : List ℕ) → 1 ≤ length numbers → earlier numbers ++ last numbers ∷ [] ≡ numbers
whole numbers some =
    let e : length numbers - 1 + 1 ≡ length numbers = omega arith in
    sym (take_more numbers (length numbers - 1) 0 (omega arith)) ∙ ap (λ (n : ℕ). take n numbers) e ∙ take_all (length numbers) numbers (omega arith)

-- where the last column stands
pub last_ahead : (columns : List Column) (before : ℕ) (numbers : List ℕ) → 1 ≤ length numbers → AreAhead columns before numbers
    → AreAhead columns before (earlier numbers) × (last_of before (earlier numbers) < last numbers) × (last numbers ≤ length columns)
last_ahead columns before numbers some are =
    ahead_split columns before (earlier numbers) (last numbers) (subst (AreAhead columns before) (sym (whole numbers some)) are)

pub last_is : (before : ℕ) (numbers : List ℕ) → 1 ≤ length numbers → last numbers ≡ last_of before numbers
last_is before numbers some = sym (last_behind before (earlier numbers) (last numbers)) ∙ ap (last_of before) (whole numbers some)

-- the values of several columns are those of the earlier ones and that of the last one
pub read_last : (tuple : HeapTuple) (columns : List Column) (numbers : List ℕ) → 1 ≤ length numbers
    → values_of tuple columns numbers
    ≡ (values_of tuple columns (earlier numbers) >>= λ values. value_of tuple columns (last numbers - 1) >>= λ value. Ok (values ++ value ∷ []))
read_last tuple columns numbers some =
    ap (values_of tuple columns) (sym (whole numbers some)) ∙ last_read tuple columns (earlier numbers) (last numbers)

module _ (tuple : HeapTuple) (columns : List Column) (numbers : List ℕ) where
  pub earlier_fails : (fault : ReadFault) → 1 ≤ length numbers → Fails fault (values_of tuple columns (earlier numbers))
      → Fails fault (values_of tuple columns numbers)
  earlier_fails (read.Cause cause) some fails = rw (read_last tuple columns numbers some, fails) refl
  earlier_fails read.Memory some fails = tt

  pub last_fails : (fault : ReadFault) (number : ℕ) (values : List KeyVal) → 1 ≤ length numbers
      → values_of tuple columns (earlier numbers) ≡ Ok values → number ≡ last numbers
      → Fails fault (value_of tuple columns (number - 1)) → Fails fault (values_of tuple columns numbers)
  last_fails (read.Cause cause) number values some front same fails =
      let fails' : value_of tuple columns (last numbers - 1) ≡ Err cause = ap (λ (n : ℕ). value_of tuple columns (n - 1)) (sym same) ∙ fails in
      rw (read_last tuple columns numbers some, front, fails') refl
  last_fails read.Memory number values some front same fails = tt

  pub reads : (number : ℕ) (values new : List KeyVal) (value : KeyVal) → 1 ≤ length numbers
      → values_of tuple columns (earlier numbers) ≡ Ok values → number ≡ last numbers
      → value_of tuple columns (number - 1) ≡ Ok value → new ≡ values ++ value ∷ [] → values_of tuple columns numbers ≡ Ok new
  reads number values new value some front same read put =
      let read' : value_of tuple columns (last numbers - 1) ≡ Ok value = ap (λ (n : ℕ). value_of tuple columns (n - 1)) (sym same) ∙ read in
      rw (read_last tuple columns numbers some, front, read', put) refl
