-- Indexes that are printed are read again.
use Rattle.std.proofs.Common.{◌≡◌, ◌≢◌, inl, inr, ℕ, zero, suc, ◌<◌, ◌≤◌, ◌+◌, ◌-◌, ◌^◌, pos, negsuc, Bool, true, false, nat_le, nat_lt, List, [], ◌∷◌, ◌++◌, map, length, slice_get, Some, Ok, refl, ap, ◌∙◌, sym, subst, arith, All, AllPairs, codes, append_assoc, append-nil, length-append}
use Rattle.std.proofs.lemmas.Bool.Decides.{nat_tests}
use Rattle.std.proofs.lemmas.Option.{get_or_from_slice_get, slice_get_within}
use Rattle.std.proofs.lemmas.Slice.Eq.{bytes_eq-Decides}
use Rattle.std.specs.Str.{bytes_eq}
use Rattle.stmt_token.specs.declared.sign.Sign.{Sign as SignKind}
use Rattle.stmt_token.specs.declared.sign.Sign.TheVariants.{Comma, LeftParen, RightParen, TypeCast}
use Rattle.stmt_token.specs.Spelling.{printed}
use Rattle.stmt_token.specs.Tokens.{TokenValue, Quoted, Sign, Word, tokens_of}
use Rattle.stmt_token.proofs.Printed.{printed_read}
use Rattle.opclass.specs.declared.types.Compared.{Compared}
use Rattle.opclass.specs.declared.types.Compared.TheVariants.{Never, WithNumber, WithText, WithTruth}
use Rattle.opclass.specs.declared.types.Method.{Method}
use Rattle.opclass.specs.declared.types.Method.TheVariants as method
use Rattle.opclass.specs.declared.filter.Op.{Op}
use Rattle.opclass.specs.declared.filter.Op.TheVariants.{Eq, Ne, Lt, Le, Gt, Ge}
use Rattle.opclass.specs.declared.filter.Test.{Test}
use Rattle.opclass.specs.declared.filter.Test.TheVariants.{IsNull, NotNull, Num, Raw}
use Rattle.opclass.specs.declared.filter.Cond.{Cond}
use Rattle.opclass.specs.declared.spec.IndexSpec.{IndexSpec}
use Rattle.opclass.specs.declared.spec.KeyCol.{KeyCol}
use Rattle.opclass.specs.declared.table.Column.{Column}
use Rattle.opclass.specs.declared.table.Table.{Table}
use Rattle.opclass.specs.Types.{facts_of}
use Rattle.index_stmt.specs.declared.options.Settings.{Settings}
use Rattle.index_stmt.specs.Columns.{collation, column_from, column_named}
use Rattle.index_stmt.specs.Conditions.{cast, comparison, condition, conjunction, filter_rule, item, literal, null_test, operator_in}
use Rattle.index_stmt.specs.Faults.{index_of}
use Rattle.index_stmt.specs.IndexPrinter.{condition_tokens, distinct_tokens, filter_tokens, include_tokens, index_tokens, key_tokens, method_word, name_tokens, number_option, settings_tokens, sign_of, sort_tokens, test_tokens, truth_option, uniqueness_tokens}
use Rattle.index_stmt.specs.IndexStatement.{direction, distinctness, include_list, included, includes, index_column, index_head, index_statement, key, key_list, method_rule, nulls_order, uniqueness}
use Rattle.index_stmt.specs.Laws.{IndexesArePrinted}
use Rattle.opclass.specs.Indexes.{most_columns, IsConditionOn, IsIndexOver, IsKeyOf, IsPlain, IsTable, IsTestOf}
use Rattle.index_stmt.specs.Names.{name, schema}
use Rattle.index_stmt.specs.Options.{deduplicate_of, fillfactor_of, option, option_list, options, pages_per_range_of, unset}
use Rattle.index_stmt.specs.Printer.{enclosed, with_between}
use Rattle.index_stmt.specs.Rule.{◌>>=◌, done, if_next, is_sign, is_word, next_is, separated, sign}
use Rattle.index_stmt.specs.TableStatement.{end_of_statement}
use Rattle.index_stmt.proofs.Lists.{separated-last, separated-more}
use Rattle.index_stmt.proofs.PrintedLists.{ReadsItems, enclosed_read, in_the_middle, items_read}
use Rattle.index_stmt.proofs.SpellableIndexes.{index_written}
use Rattle.index_stmt.proofs.Taking.{included_takes, item_takes, key_takes, option_takes}
use Rattle.index_stmt.proofs.Texts.{short_enough}

same_bytes : (bytes : List ℕ) → bytes_eq bytes bytes ≡ true
same_bytes bytes = (bytes_eq-Decides bytes bytes).1 refl

below : (n bound : ℕ) → n < bound → nat_lt n bound ≡ true
below n bound less = grind (arith, nat_tests)

-- a column's name is found as the column's number, since names differ
name_found : (number : ℕ) (columns : List Column) (place : ℕ) (one : Column) → AllPairs (λ a b. a.name ≢ b.name) columns
    → slice_get columns place ≡ Some one
    → column_from number columns one.name ≡ Some (record { number = number + place; kind = one.kind })
name_found number [] place one differ at = cc
name_found number (first ∷ others) zero one differ at =
    let same : first ≡ one = cc in
    subst (λ one. column_from number (first ∷ others) one.name ≡ Some (record { number = number + 0; kind = one.kind })) same
    (rw (same_bytes first.name) (ap (λ (n : ℕ). Some (record { number = n; kind = first.kind })) (let e : number ≡ number + 0 = omega arith in e)))
name_found number (first ∷ others) (suc place) one differ at =
    rw (apart (bytes_eq first.name one.name) refl)
    (name_found (number + 1) others place one (λ i j d less inside. differ (suc i) (suc j) d (omega arith) (omega arith)) at
    ∙ ap (λ (n : ℕ). Some (record { number = n; kind = one.kind })) (let e : (number + 1) + place ≡ number + suc place = omega arith in e))
  where
    other : first.name ≢ one.name
    other =
        let within = slice_get_within others place one at in
        subst (λ (column : Column). first.name ≢ column.name) (get_or_from_slice_get others place one one at)
        (differ 0 (suc place) one (omega arith) (omega (arith, within)))

    apart : (b : Bool) → bytes_eq first.name one.name ≡ b → bytes_eq first.name one.name ≡ false
    apart true e = absurd (other ((bytes_eq-Decides first.name one.name).0 e))
    apart false e = e

number_found : (table : Table) (number : ℕ) (one : Column) → IsTable table → 0 < number → slice_get table.columns (number - 1) ≡ Some one
    → column_named table.columns one.name ≡ Some (record { number = number; kind = one.kind })
number_found table number one is above at =
    name_found 1 table.columns (number - 1) one is.differ at
    ∙ ap (λ (n : ℕ). Some (record { number = n; kind = one.kind })) (let e : 1 + (number - 1) ≡ number = omega arith in e)

column_let_through : (table : Table) (kind_of : Method) (columns : ℕ) (number : ℕ) → IsTable table → (is : IsKeyOf table kind_of number)
    → columns < most_columns kind_of
    → index_column table kind_of columns is.column.name ≡ Ok (record { number = number; kind = is.column.kind })
column_let_through table kind_of columns number good is room =
    rw (number_found table number is.column good is.above is.found, is.taken, below columns (most_columns kind_of) room) refl

-- a sign stands behind a column
abbrev BehindName : List TokenValue → Type 0
BehindName rest = (s : SignKind) × (more : List TokenValue) × (rest ≡ Sign s ∷ more)

-- a key that is printed is read
with_key : (table : Table) (kind_of : Method) (before : List KeyCol) (one : Column) (number : ℕ) (descending nulls_first : Bool) (s : SignKind) (rest : List TokenValue)
    → index_column table kind_of (length before) one.name ≡ Ok (record { number = number; kind = one.kind })
    → (kind_of ≢ method.BTree → IsPlain (record { column = number; descending = descending; nulls_first = nulls_first }))
    → key table kind_of before
    ((Quoted one.name ∷ sort_tokens kind_of (record { column = number; descending = descending; nulls_first = nulls_first })) ++ (Sign s ∷ rest))
    ≡ Ok (before ++ record { column = number; descending = descending; nulls_first = nulls_first } ∷ [], Sign s ∷ rest)
unfolding key name collation direction nulls_order
with_key table method.BTree before one number true true s rest found plain = rw found refl
with_key table method.BTree before one number true false s rest found plain = rw found refl
with_key table method.BTree before one number false true s rest found plain = rw found refl
with_key table method.BTree before one number false false s rest found plain = rw found refl
with_key table method.Brin before one number false false s rest found plain = rw found refl
with_key table method.Brin before one number true nulls s rest found plain = let a = (plain (λ e. cc)).ascending in cc
with_key table method.Brin before one number false true s rest found plain = let a = (plain (λ e. cc)).nulls_last in cc
with_key table method.Gin before one number false false s rest found plain = rw found refl
with_key table method.Gin before one number true nulls s rest found plain = let a = (plain (λ e. cc)).ascending in cc
with_key table method.Gin before one number false true s rest found plain = let a = (plain (λ e. cc)).nulls_last in cc

record AreKeys (table : Table) (kind_of : Method) (keys : List KeyCol) : Type 0 where
  each : All (λ key. IsKeyOf table kind_of key.column) keys
  most : length keys ≤ most_columns kind_of
  plain : kind_of ≢ method.BTree → All IsPlain keys

key_read : (table : Table) (kind_of : Method) (before : List KeyCol) (one : KeyCol) (rest : List TokenValue) → IsTable table
    → IsKeyOf table kind_of one.column → length before < most_columns kind_of → (kind_of ≢ method.BTree → IsPlain one) → BehindName rest
    → key table kind_of before (key_tokens table kind_of one ++ rest) ≡ Ok (before ++ one ∷ [], rest)
key_read table kind_of before one rest good is room plain behind =
    subst (λ rest. key table kind_of before (key_tokens table kind_of one ++ rest) ≡ Ok (before ++ one ∷ [], rest)) (sym behind.2)
    (rw is.found
    (with_key table kind_of before is.column one.column one.descending one.nulls_first behind.0 behind.1
    (column_let_through table kind_of (length before) one.column good is room) plain))

reads_keys : (table : Table) (kind_of : Method) → IsTable table → ReadsItems (key table kind_of) (key_tokens table kind_of) (AreKeys table kind_of) BehindName
reads_keys table kind_of good = record {
  takes = key_takes table kind_of;
  item = λ before one others rest are behind.
      key_read table kind_of before one rest good
      (in_the_middle (λ (key : KeyCol). IsKeyOf table kind_of key.column) before one others are.each)
      (let longer = length-append before (one ∷ others) in let most = are.most in omega (arith, longer, most))
      (λ other. in_the_middle IsPlain before one others (are.plain other)) behind;
}

keys_read : (table : Table) (kind_of : Method) (keys : List KeyCol) (rest : List TokenValue) → IsTable table → 0 < length keys → AreKeys table kind_of keys
    → key_list table kind_of (enclosed (map (key_tokens table kind_of) keys) ++ rest) ≡ Ok (keys, rest)
unfolding key_list
keys_read table kind_of [] rest good some are = absurd (omega arith)
keys_read table kind_of (one ∷ others) rest good some are =
    enclosed_read (key table kind_of) (key_tokens table kind_of) (AreKeys table kind_of) BehindName (reads_keys table kind_of good)
    (λ more. (Comma, more, refl)) (λ more. (RightParen, more, refl)) one others rest are

-- INCLUDE columns that are printed are read
record AreIncluded (table : Table) (keys : ℕ) (columns : List ℕ) : Type 0 where
  each : All (IsKeyOf table method.BTree) columns
  most : keys + length columns ≤ 32

included_read : (table : Table) (keys : ℕ) (before : List ℕ) (number : ℕ) (rest : List TokenValue) → IsTable table
    → IsKeyOf table method.BTree number → keys + length before < 32
    → included table keys before (name_tokens table number ++ rest) ≡ Ok (before ++ number ∷ [], rest)
unfolding included name
included_read table keys before number rest good is room =
    rw (is.found, column_let_through table method.BTree (keys + length before) number good is room) refl

reads_included : (table : Table) (keys : ℕ) → IsTable table → ReadsItems (included table keys) (name_tokens table) (AreIncluded table keys) (λ rest. Unit {0})
reads_included table keys good = record {
  takes = included_takes table keys;
  item = λ before number others rest are behind.
      included_read table keys before number rest good
      (in_the_middle (IsKeyOf table method.BTree) before number others are.each)
      (let longer = length-append before (number ∷ others) in let most = are.most in omega (arith, longer, most));
}

includes_read : (table : Table) (kind_of : Method) (keys : ℕ) (columns : List ℕ) (rest : List TokenValue) → IsTable table
    → All (IsKeyOf table kind_of) columns → keys + length columns ≤ most_columns kind_of → (kind_of ≢ method.BTree → columns ≡ [])
    → next_is (is_word (codes "include")) rest ≡ false
    → includes table kind_of keys (include_tokens table columns ++ rest) ≡ Ok (columns, rest)
unfolding includes include_list
includes_read table kind_of keys [] rest good each most none other = rw other refl
includes_read table method.BTree keys (one ∷ others) rest good each most none other =
    enclosed_read (included table keys) (name_tokens table) (AreIncluded table keys) (λ rest. Unit {0}) (reads_included table keys good)
    (λ more. tt) (λ more. tt) one others rest (record { each = each; most = most })
includes_read table method.Brin keys (one ∷ others) rest good each most none other = let a = none (λ e. cc) in cc
includes_read table method.Gin keys (one ∷ others) rest good each most none other = let a = none (λ e. cc) in cc

-- NULLS [NOT] DISTINCT
distinct_read : (unique distinct : Bool) (rest : List TokenValue) → (unique ≡ false → distinct ≡ true) → next_is (is_word (codes "nulls")) rest ≡ false
    → distinctness unique (distinct_tokens unique distinct ++ rest) ≡ Ok (distinct, rest)
unfolding distinctness
distinct_read true true rest only other = refl
distinct_read true false rest only other = refl
distinct_read false true rest only other = rw other refl
distinct_read false false rest only other = let a = only refl in cc

-- what the options of each method are set to
abbrev set_by : Method → IndexSpec → Settings
set_by method.BTree spec = record unset { fillfactor = Some spec.fillfactor; deduplicate_items = Some spec.deduplicate }
set_by method.Brin spec = record unset { pages_per_range = Some spec.pages_per_range }
set_by method.Gin spec = record unset { fastupdate = Some true }

at_most : (n bound : ℕ) → n ≤ bound → nat_le n bound ≡ true
at_most n bound less = grind (arith, nat_tests)

fillfactor_read : (percent : ℕ) (rest : List TokenValue) → 10 ≤ percent → percent ≤ 100
    → option method.BTree unset (number_option (codes "fillfactor") percent ++ rest) ≡ Ok (record unset { fillfactor = Some percent }, rest)
unfolding option
fillfactor_read percent rest low high = rw (at_most 10 percent low, at_most percent 100 high) refl

deduplicate_read : (percent : ℕ) (on : Bool) (rest : List TokenValue)
    → option method.BTree (record unset { fillfactor = Some percent }) (truth_option (codes "deduplicate_items") on ++ rest)
    ≡ Ok (record unset { fillfactor = Some percent; deduplicate_items = Some on }, rest)
unfolding option
deduplicate_read percent true rest = refl
deduplicate_read percent false rest = refl

pages_read : (pages : ℕ) (rest : List TokenValue) → 1 ≤ pages → pages ≤ 131072
    → option method.Brin unset (number_option (codes "pages_per_range") pages ++ rest) ≡ Ok (record unset { pages_per_range = Some pages }, rest)
unfolding option
pages_read pages rest low high = rw (at_most 1 pages low, at_most pages 131072 high) refl

fastupdate_read : (rest : List TokenValue)
    → option method.Gin unset (truth_option (codes "fastupdate") true ++ rest) ≡ Ok (record unset { fastupdate = Some true }, rest)
unfolding option
fastupdate_read rest = refl

record AreOptions (kind_of : Method) (spec : IndexSpec) : Type 0 where
  fillfactor : (10 ≤ spec.fillfactor) × (spec.fillfactor ≤ 100)
  pages_per_range : (1 ≤ spec.pages_per_range) × (spec.pages_per_range ≤ 131072)
  default_fillfactor : kind_of ≢ method.BTree → spec.fillfactor ≡ 90
  default_deduplicate : kind_of ≢ method.BTree → spec.deduplicate ≡ true
  default_pages : kind_of ≢ method.Brin → spec.pages_per_range ≡ 128

settings_read : (kind_of : Method) (spec : IndexSpec) (rest : List TokenValue) → AreOptions kind_of spec
    → separated (is_sign Comma) (option kind_of) unset (with_between (Sign Comma) (settings_tokens kind_of spec) ++ (Sign RightParen ∷ rest))
    ≡ Ok (set_by kind_of spec, Sign RightParen ∷ rest)
settings_read method.BTree spec rest are =
    separated-more (is_sign Comma) (option method.BTree) (option_takes method.BTree) unset (record unset { fillfactor = Some spec.fillfactor }) _ _
    (fillfactor_read spec.fillfactor
    (Sign Comma ∷ (truth_option (codes "deduplicate_items") spec.deduplicate ++ (Sign RightParen ∷ rest))) are.fillfactor.0 are.fillfactor.1) refl
    ∙ separated-last (is_sign Comma) (option method.BTree) (option_takes method.BTree) (record unset { fillfactor = Some spec.fillfactor })
    (set_by method.BTree spec) _ _ (deduplicate_read spec.fillfactor spec.deduplicate (Sign RightParen ∷ rest)) refl
settings_read method.Brin spec rest are =
    separated-last (is_sign Comma) (option method.Brin) (option_takes method.Brin) unset (set_by method.Brin spec) _ _
    (pages_read spec.pages_per_range (Sign RightParen ∷ rest) are.pages_per_range.0 are.pages_per_range.1) refl
settings_read method.Gin spec rest are =
    separated-last (is_sign Comma) (option method.Gin) (option_takes method.Gin) unset (set_by method.Gin spec) _ _
    (fastupdate_read (Sign RightParen ∷ rest)) refl

options_read : (kind_of : Method) (spec : IndexSpec) (rest : List TokenValue) → AreOptions kind_of spec
    → options kind_of ((Word (codes "with") ∷ enclosed (settings_tokens kind_of spec)) ++ rest) ≡ Ok (set_by kind_of spec, rest)
unfolding options option_list
options_read kind_of spec rest are =
    ap (λ tokens. (separated (is_sign Comma) (option kind_of) unset >>= λ settings. (sign RightParen >>= λ _. done settings)) tokens)
    (append_assoc (with_between (Sign Comma) (settings_tokens kind_of spec)) (Sign RightParen ∷ []) rest)
    ∙ rw (settings_read kind_of spec rest are) refl

set_fillfactor : (kind_of : Method) (spec : IndexSpec) → AreOptions kind_of spec → fillfactor_of (set_by kind_of spec) ≡ spec.fillfactor
set_fillfactor method.BTree spec are = refl
set_fillfactor method.Brin spec are = sym (are.default_fillfactor (λ e. cc))
set_fillfactor method.Gin spec are = sym (are.default_fillfactor (λ e. cc))

set_deduplicate : (kind_of : Method) (spec : IndexSpec) → AreOptions kind_of spec → deduplicate_of (set_by kind_of spec) ≡ spec.deduplicate
set_deduplicate method.BTree spec are = refl
set_deduplicate method.Brin spec are = sym (are.default_deduplicate (λ e. cc))
set_deduplicate method.Gin spec are = sym (are.default_deduplicate (λ e. cc))

set_pages : (kind_of : Method) (spec : IndexSpec) → AreOptions kind_of spec → pages_per_range_of (set_by kind_of spec) ≡ spec.pages_per_range
set_pages method.BTree spec are = sym (are.default_pages (λ e. cc))
set_pages method.Brin spec are = refl
set_pages method.Gin spec are = sym (are.default_pages (λ e. cc))

-- no cast stands behind a condition
abbrev BehindTest : List TokenValue → Type 0
BehindTest rest = next_is (is_sign TypeCast) rest ≡ false

operator_is : (op : Op) → operator_in (Sign (sign_of op)) ≡ Some op
operator_is Eq = refl
operator_is Ne = refl
operator_is Lt = refl
operator_is Le = refl
operator_is Gt = refl
operator_is Ge = refl

test_read : (compared : Compared) (test : Test) (rest : List TokenValue) → IsTestOf compared test → BehindTest rest
    → if_next (is_word (codes "is")) null_test (comparison compared) (test_tokens compared test ++ rest) ≡ Ok (test, rest)
unfolding null_test comparison literal cast
test_read compared IsNull rest is ends = refl
test_read compared NotNull rest is ends = refl
test_read WithNumber (Num op (pos number)) rest is ends = rw (operator_is op, below number (10 ^ 18) is, ends) refl
test_read WithNumber (Num op (negsuc number)) rest is ends = rw (operator_is op, below (suc number) (10 ^ 18) is, ends) refl
test_read WithText (Raw op bytes) rest is ends = rw (operator_is op, ends) refl
test_read WithTruth (Num Eq value) rest (inl e) ends = rw (e, ends) refl
test_read WithTruth (Num Eq value) rest (inr e) ends = rw (e, ends) refl
test_read WithTruth (Num Ne value) rest (inl e) ends = rw (e, ends) refl
test_read WithTruth (Num Ne value) rest (inr e) ends = rw (e, ends) refl
test_read WithTruth (Num Lt value) rest is ends = absurd is
test_read WithTruth (Num Le value) rest is ends = absurd is
test_read WithTruth (Num Gt value) rest is ends = absurd is
test_read WithTruth (Num Ge value) rest is ends = absurd is
test_read WithTruth (Raw op bytes) rest is ends = absurd is
test_read WithNumber (Raw op bytes) rest is ends = absurd is
test_read WithText (Num op value) rest is ends = absurd is
test_read Never (Num op value) rest is ends = absurd is
test_read Never (Raw op bytes) rest is ends = absurd is

condition_read : (table : Table) (before : List Cond) (one : Cond) (rest : List TokenValue) → IsTable table → IsConditionOn table one → BehindTest rest
    → condition table before (condition_tokens table one ++ rest) ≡ Ok (before ++ one ∷ [], rest)
unfolding condition name
condition_read table before one rest good is ends =
    rw (
      is.found,
      number_found table one.column is.column good is.above is.found,
      test_read (facts_of is.column.kind).compared one.test rest is.fits ends,
    ) refl

item_read : (depth : ℕ) (table : Table) (before : List Cond) (one : Cond) (rest : List TokenValue) → IsTable table → IsConditionOn table one → BehindTest rest
    → item depth table before (condition_tokens table one ++ rest) ≡ Ok (before ++ one ∷ [], rest)
item_read zero table before one rest good is ends = condition_read table before one rest good is ends
item_read (suc depth) table before one rest good is ends =
    rw (let closed : next_is (is_sign LeftParen) (condition_tokens table one ++ rest) ≡ false = rw is.found refl in closed)
    (condition_read table before one rest good is ends)

reads_conditions : (depth : ℕ) (table : Table) → IsTable table
    → ReadsItems (item depth table) (condition_tokens table) (λ conditions. All (IsConditionOn table) conditions) BehindTest
reads_conditions depth table good = record {
  takes = item_takes depth table;
  item = λ before one others rest are ends.
      item_read depth table before one rest good (in_the_middle (IsConditionOn table) before one others are) ends;
}

conditions_read : (depth : ℕ) (table : Table) (one : Cond) (others : List Cond) → IsTable table → All (IsConditionOn table) (one ∷ others)
    → conjunction depth table [] (with_between (Word (codes "and")) (map (condition_tokens table) (one ∷ others)) ++ []) ≡ Ok (one ∷ others, [])
unfolding conjunction
conditions_read depth table one others good each =
    items_read (item depth table) (condition_tokens table) (λ conditions. All (IsConditionOn table) conditions) BehindTest
    (is_word (codes "and")) (Word (codes "and")) [] (reads_conditions depth table good) refl refl (λ rest. refl) refl [] one others each

filter_read : (table : Table) (conditions : List Cond) → IsTable table → All (IsConditionOn table) conditions
    → filter_rule table (filter_tokens table conditions) ≡ Ok (conditions, [])
unfolding filter_rule
filter_read table [] good each = refl
filter_read table (one ∷ others) good each =
    ap (conjunction 16 table []) (sym (append-nil (with_between (Word (codes "and")) (map (condition_tokens table) (one ∷ others)))))
    ∙ conditions_read 16 table one others good each

-- what stands before the keys
head_read : (table : Table) (called : List ℕ) (unique : Bool) (kind_of : Method) (rest : List TokenValue)
    → (kind_of ≢ method.BTree → unique ≡ false)
    → index_head table
    (((Word (codes "create") ∷ uniqueness_tokens unique)
    ++ (Word (codes "index") ∷ Quoted called ∷ Word (codes "on") ∷ Quoted table.name ∷ Word (codes "using") ∷ Word (method_word kind_of) ∷ []))
    ++ rest)
    ≡ Ok (record { name = called; unique = unique; method = kind_of }, rest)
unfolding index_head uniqueness name schema method_rule
head_read table called true method.BTree rest only = rw (same_bytes table.name) refl
head_read table called false method.BTree rest only = rw (same_bytes table.name) refl
head_read table called false method.Brin rest only = rw (same_bytes table.name) refl
head_read table called false method.Gin rest only = rw (same_bytes table.name) refl
head_read table called true method.Brin rest only = let a = only (λ e. cc) in cc
head_read table called true method.Gin rest only = let a = only (λ e. cc) in cc

no_include : (unique distinct : Bool) (others : List TokenValue)
    → next_is (is_word (codes "include")) (distinct_tokens unique distinct ++ (Word (codes "with") ∷ others)) ≡ false
no_include true true others = refl
no_include true false others = refl
no_include false distinct others = refl

-- an index that is printed is read
index_read : (table : Table) (spec : IndexSpec) → IsTable table → IsIndexOver table spec
    → index_statement table (index_tokens table spec) ≡ Ok (spec, [])
unfolding index_statement end_of_statement
index_read table spec good is =
    let options : AreOptions spec.method spec = record {
      fillfactor = is.fillfactor;
      pages_per_range = is.pages_per_range;
      default_fillfactor = is.default_fillfactor;
      default_deduplicate = is.default_deduplicate;
      default_pages = is.default_pages;
    }
    in
    let most = is.most in
    rw (
      head_read table spec.name spec.unique spec.method _ is.unique,
      keys_read table spec.method spec.keys _ good is.some (record { each = is.keys; most = omega (arith, most); plain = is.plain }),
      includes_read table spec.method (length spec.keys) spec.includes _ good is.includes is.most is.no_includes
          (no_include spec.unique spec.nulls_distinct _),
      distinct_read spec.unique spec.nulls_distinct _ is.distinct refl,
      options_read spec.method spec _ options,
      filter_read table spec.filter good is.filter,
      set_fillfactor spec.method spec options,
      set_deduplicate spec.method spec options,
      set_pages spec.method spec options,
    ) refl

-- what a text's tokens are read as, the text is
text_read : (text : List ℕ) (tokens : List TokenValue) (table : Table) (spec : IndexSpec) → length text ≤ 65536 → tokens_of text ≡ tokens
    → index_statement table tokens ≡ Ok (spec, []) → index_of table text ≡ Ok spec
text_read text tokens table spec short same read = rw (short_enough text short, same, read) refl

pub indexes_printed : IndexesArePrinted
indexes_printed table spec good names is named short =
    text_read (printed (index_tokens table spec)) (index_tokens table spec) table spec short
    (printed_read (index_tokens table spec) (index_written table spec names is named)) (index_read table spec good is)
