-- The columns that an index needs are one list, whichever way they are found.
use Rattle.std.proofs.Common.{◌≡◌, ◌⊎◌, ℕ, zero, suc, ◌+◌, ◌-◌, ◌<◌, ◌≤◌, Bool, true, false, ◌||◌, eqb, List, [], ◌∷◌, length, map, get_or, refl, sym, ap, subst, ◌∙◌, inl, inr, arith, All}
use Rattle.std.specs.Prelude.{Contains, filter}
use Rattle.std.specs.List.{list_any, range_with_len}
use Rattle.std.specs.List.Sorted.{IsStrictlyIncreasing}
use Rattle.std.proofs.lemmas.Bool.{eq-eqb, eqb-true}
use Rattle.std.proofs.lemmas.List.{get_or_default}
use Rattle.std.proofs.lemmas.List.Elements.{All-append, All-contains, All-filter, All-from_get_or, All-map, All-weaker, Contains-append_left, Contains-get_or, filter_passes}
use Rattle.std.proofs.lemmas.List.FromFn.{get_or-range_with_len, length-range_with_len}
use Rattle.std.proofs.lemmas.List.Kept.{AllPairs-from_increasing, IsStrictlyIncreasing-filter}
use Rattle.std.proofs.lemmas.Option.{slice_get_within}
use Rattle.block_claim.proofs.Whole.{in_range}
use Rattle.hot_chain.proofs.Ascending.{IsWithin, same_ascending}
use Rattle.opclass.specs.declared.filter.Cond.{Cond}
use Rattle.opclass.specs.declared.spec.IndexSpec.{IndexSpec}
use Rattle.opclass.specs.declared.spec.KeyCol.{KeyCol}
use Rattle.opclass.specs.declared.table.Table.{Table}
use Rattle.opclass.specs.Indexes.{IsConditionOn, IsIndexOver, IsKeyOf}
use Rattle.opclass.specs.Needed.{EachNamedOnce, named_columns}
use Rattle.heap_row.specs.Attribute.{AreColumnsOf}
use Rattle.build_leader.specs.IndexRow.{index_columns, key_columns, needed_of}

-- ---- what a filter keeps

-- an element of a filtered list is one of the list
in_filter : {X : Type 0} (p : X → Bool) (xs : List X) (x : X) → Contains (filter p xs) x → Contains xs x
in_filter p [] x there = there
in_filter {X} p (y ∷ ys) x there = go (p y) refl (in_filter p ys x)
  where
    later : Contains ys x → Contains (y ∷ ys) x
    later there' = (suc there'.0, omega (arith, there'.1), there'.2)

    front : Contains (y ∷ filter p ys) x → (Contains (filter p ys) x → Contains ys x) → Contains (y ∷ ys) x
    front (zero, below, same) down = (0, omega arith, same)
    front (suc k, below, same) down = later (down (k, omega arith, same))

    go : (b : Bool) → p y ≡ b → (Contains (filter p ys) x → Contains ys x) → Contains (y ∷ ys) x
    go true e down = front (rw e at there) down
    go false e down = later (down (rw e at there))

-- and one that passes is in the filtered list
filter_has : {X : Type 0} (p : X → Bool) (xs : List X) (x : X) → p x ≡ true → Contains xs x → Contains (filter p xs) x
filter_has p [] x pass there = absurd (omega (arith, there.1))
filter_has p (y ∷ ys) x pass (zero, below, same) =
    let e : p y ≡ true = ap p same ∙ pass in
    rw e (0, omega arith, same)
filter_has {X} p (y ∷ ys) x pass (suc k, below, same) = go (p y) refl (filter_has p ys x pass (k, omega arith, same))
  where
    go : (b : Bool) → p y ≡ b → Contains (filter p ys) x → Contains (filter p (y ∷ ys)) x
    go true e there = rw e (suc there.0, omega (arith, there.1), there.2)
    go false e there = rw e there

-- ---- numbers of a list

or_true : (a b : Bool) → (a || b) ≡ true → (a ≡ true) ⊎ (b ≡ true)
or_true true b e = inl refl
or_true false b e = inr e

true_or : (a b : Bool) → b ≡ true → (a || b) ≡ true
true_or true b e = refl
true_or false b e = e

any_is_in : (n : ℕ) (named : List ℕ) → list_any (eqb n) named ≡ true → Contains named n
any_is_in n [] e = cc
any_is_in n (x ∷ xs) e = elim (or_true (eqb n x) (list_any (eqb n) xs) e) [
  | inl here ↦ (0, omega arith, sym (eqb-true n x here))
  | inr later ↦ let at = any_is_in n xs later in (suc at.0, omega (arith, at.1), at.2)
]

in_is_any : (n : ℕ) (named : List ℕ) → Contains named n → list_any (eqb n) named ≡ true
in_is_any n [] there = absurd (omega (arith, there.1))
in_is_any n (x ∷ xs) (zero, below, same) =
    let e : eqb n x ≡ true = eq-eqb n x (sym same) in
    ap (λ b. b || list_any (eqb n) xs) e
in_is_any n (x ∷ xs) (suc k, below, same) = true_or (eqb n x) _ (in_is_any n xs (k, omega arith, same))

-- ---- the needed columns

module _ (table : Table) (spec : IndexSpec) where
  abbrev numbers : List ℕ
  numbers = range_with_len 1 (length table.columns)

  numbers_ascend : IsStrictlyIncreasing numbers
  numbers_ascend k inside =
      let count = length-range_with_len 1 (length table.columns) in
      let one = get_or-range_with_len 1 (length table.columns) k 0 (omega arith) in
      let next = get_or-range_with_len 1 (length table.columns) (k + 1) 0 (omega arith) in
      omega arith

  pub needed_ascends : IsStrictlyIncreasing (needed_of table spec)
  needed_ascends = IsStrictlyIncreasing-filter (λ number. list_any (eqb number) (named_columns spec)) numbers numbers_ascend

  -- the needed columns are columns of the table
  pub needed_columns : AreColumnsOf table.columns (needed_of table spec)
  needed_columns =
      let p : ℕ → Bool = λ number. list_any (eqb number) (named_columns spec) in
      let count = length-range_with_len 1 (length table.columns) in
      record {
        ascending = needed_ascends;
        first = All-filter p (λ number. 1 ≤ number) numbers
            (All-from_get_or (λ number. 1 ≤ number) numbers 0 (λ i inside. let e = get_or-range_with_len 1 (length table.columns) i 0 (omega arith) in omega arith));
        last = All-filter p (λ number. number ≤ length table.columns) numbers
            (All-from_get_or (λ number. number ≤ length table.columns) numbers 0 (λ i inside. let e = get_or-range_with_len 1 (length table.columns) i 0 (omega arith) in omega arith));
      }

  -- a column of the table
  abbrev IsColumn : ℕ → Type 0
  IsColumn number = (1 ≤ number) × (number ≤ length table.columns)

  module _ (over : IsIndexOver table spec) where
    key_is_column : (number : ℕ) → IsKeyOf table spec.method number → IsColumn number
    key_is_column number key =
        let inside = slice_get_within table.columns (number - 1) key.column key.found in
        let above : 0 < number = key.above in
        (omega arith, omega arith)

    condition_is_column : (condition : Cond) → IsConditionOn table condition → IsColumn condition.column
    condition_is_column condition on =
        let inside = slice_get_within table.columns (condition.column - 1) on.column on.found in
        let above : 0 < condition.column = on.above in
        (omega arith, omega arith)

    pub columns_are_keys : All (IsKeyOf table spec.method) (index_columns spec)
    columns_are_keys =
        All-append (IsKeyOf table spec.method) (key_columns spec) spec.includes
        (All-map (IsKeyOf table spec.method) (λ (key : KeyCol). key.column) spec.keys over.keys) over.includes

    named_are_columns : All IsColumn (named_columns spec)
    named_are_columns =
        All-append IsColumn (index_columns spec) (map (λ (cond : Cond). cond.column) spec.filter)
        (All-weaker (IsKeyOf table spec.method) IsColumn key_is_column (index_columns spec) columns_are_keys)
        (All-map IsColumn (λ (cond : Cond). cond.column) spec.filter
        (All-weaker (IsConditionOn table) (λ (cond : Cond). IsColumn cond.column) condition_is_column spec.filter over.filter))

    pub needed_has : (number : ℕ) → Contains (named_columns spec) number → Contains (needed_of table spec) number
    needed_has number named =
        let column = All-contains IsColumn (named_columns spec) number named_are_columns named in
        let low : 1 ≤ number = column.0 in
        let high : number ≤ length table.columns = column.1 in
        let place : 1 + (number - 1) ≡ number = omega arith in
        let there = subst (λ (n : ℕ). Contains numbers n) place (in_range 1 (length table.columns) (number - 1) (omega arith)) in
        filter_has (λ n. list_any (eqb n) (named_columns spec)) numbers number (in_is_any number (named_columns spec) named) there

    has_named : (number : ℕ) → Contains (needed_of table spec) number → Contains (named_columns spec) number
    has_named number there =
        let p : ℕ → Bool = λ n. list_any (eqb n) (named_columns spec) in
        let pass = All-contains (λ n. p n ≡ true) (filter p numbers) number (filter_passes p numbers) there in
        any_is_in number (named_columns spec) pass

    within : (xs ys : List ℕ) → ((n : ℕ) → Contains xs n → Contains ys n) → IsWithin xs ys
    within xs ys goes i inside =
        let at = goes (get_or xs i 0) (Contains-get_or xs i 0 inside) in
        (at.0, at.1, λ d. get_or_default ys at.0 d (get_or xs i 0) at.1 ∙ at.2 ∙ get_or_default xs i 0 d inside)

    -- each of them once, ascending, is this list
    pub same_needed : (columns : List ℕ) → EachNamedOnce spec columns → columns ≡ needed_of table spec
    same_needed columns each =
        same_ascending (λ x y. x < y) (λ x y less more. omega arith) 0 columns (needed_of table spec)
        (AllPairs-from_increasing columns each.ascending)
        (AllPairs-from_increasing (needed_of table spec) needed_ascends)
        (within columns (needed_of table spec) (λ n there. needed_has n ((each.same n).0 there)))
        (within (needed_of table spec) columns (λ n there. (each.same n).1 (has_named n there)))

    index_is_named : (number : ℕ) → Contains (index_columns spec) number → Contains (named_columns spec) number
    index_is_named number there = Contains-append_left (index_columns spec) (map (λ (cond : Cond). cond.column) spec.filter) number there

    -- the index's columns are among them
    pub columns_are_needed : All (Contains (needed_of table spec)) (index_columns spec)
    columns_are_needed k d inside =
        subst (λ (n : ℕ). Contains (needed_of table spec) n)
        (get_or_default (index_columns spec) k 0 d inside)
        (needed_has (get_or (index_columns spec) k 0) (index_is_named _ (Contains-get_or (index_columns spec) k 0 inside)))
