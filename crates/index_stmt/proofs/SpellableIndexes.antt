-- The tokens of indexes that are printed have spellings.
use Rattle.std.proofs.Common.{◌≡◌, inl, inr, ℕ, suc, ◌<◌, ◌≤◌, ◌-◌, ◌^◌, ℤ, pos, negsuc, Bool, true, false, List, [], ◌∷◌, map, slice_get, Some, refl, sym, subst, arith, All, codes}
use Rattle.std.proofs.lemmas.List.Elements.{All-append, All-cons, All-map, All-nil, All-weaker}
use Rattle.std.proofs.lemmas.Option.{get_or_from_slice_get, slice_get_within}
use Rattle.std.specs.List.{list_all}
use Rattle.stmt_token.specs.declared.sign.Sign.TheVariants as sign
use Rattle.stmt_token.specs.Spelling.{IsQuotable, IsToken}
use Rattle.stmt_token.specs.Tokens.{TokenValue, Number, Quoted, Sign, Text, Word}
use Rattle.opclass.specs.declared.types.Compared.{Compared}
use Rattle.opclass.specs.declared.types.Compared.TheVariants.{Never, WithNumber, WithText, WithTruth}
use Rattle.opclass.specs.declared.types.Method.{Method}
use Rattle.opclass.specs.declared.types.Method.TheVariants as method
use Rattle.opclass.specs.declared.filter.Op.TheVariants.{Eq, Ne, Lt, Le, Gt, Ge}
use Rattle.opclass.specs.declared.filter.Test.{Test}
use Rattle.opclass.specs.declared.filter.Test.TheVariants.{IsNull, NotNull, Num, Raw}
use Rattle.opclass.specs.declared.filter.Cond.{Cond}
use Rattle.opclass.specs.declared.spec.IndexSpec.{IndexSpec}
use Rattle.opclass.specs.declared.spec.KeyCol.{KeyCol}
use Rattle.opclass.specs.declared.table.Column.{Column}
use Rattle.opclass.specs.declared.table.Table.{Table}
use Rattle.opclass.specs.Types.{facts_of}
use Rattle.index_stmt.specs.IndexPrinter.{condition_tokens, distinct_tokens, filter_tokens, head_tokens, include_tokens, index_tokens, key_tokens, method_word, name_tokens, number_option, number_tokens, settings_tokens, sign_of, sort_tokens, tail_tokens, test_tokens, truth_option, uniqueness_tokens}
use Rattle.opclass.specs.Indexes.{IsConditionOn, IsIndexOver, IsKeyOf, IsNumber, IsTestOf}
use Rattle.index_stmt.specs.Named.{HasNames, IsNamed}
use Rattle.index_stmt.specs.Printer.{enclosed}
use Rattle.index_stmt.proofs.Spellable.{between_written, enclosed_written, is_plain, plain, plain_before, plain_written, quoted_before}

quotable_at : (table : Table) (place : ℕ) (one : Column) → HasNames table → slice_get table.columns place ≡ Some one → IsQuotable one.name
quotable_at table place one names at =
    subst (λ (column : Column). IsQuotable column.name) (get_or_from_slice_get table.columns place one one at)
    (names.columns place one (slice_get_within table.columns place one at))

name_written : (table : Table) (kind_of : Method) → HasNames table → (number : ℕ) → IsKeyOf table kind_of number → All IsToken (name_tokens table number)
name_written table kind_of names number is =
    rw is.found (quoted_before is.column.name [] (quotable_at table (number - 1) is.column names is.found) (All-nil IsToken))

sort_plain : (kind_of : Method) (column : ℕ) (descending nulls_first : Bool)
    → list_all is_plain (sort_tokens kind_of (record { column = column; descending = descending; nulls_first = nulls_first })) ≡ true
sort_plain method.BTree column true true = refl
sort_plain method.BTree column true false = refl
sort_plain method.BTree column false true = refl
sort_plain method.BTree column false false = refl
sort_plain method.Brin column descending nulls_first = refl
sort_plain method.Gin column descending nulls_first = refl

key_written : (table : Table) (kind_of : Method) → HasNames table → (key : KeyCol) → IsKeyOf table kind_of key.column → All IsToken (key_tokens table kind_of key)
key_written table kind_of names key is =
    All-append IsToken (name_tokens table key.column) (sort_tokens kind_of key) (name_written table kind_of names key.column is)
    (plain_written (sort_tokens kind_of key) (sort_plain kind_of key.column key.descending key.nulls_first))

includes_written : (table : Table) (kind_of : Method) (columns : List ℕ) → HasNames table → All (IsKeyOf table kind_of) columns → All IsToken (include_tokens table columns)
includes_written table kind_of [] names are = All-nil IsToken
includes_written table kind_of (one ∷ others) names are =
    plain_before (Word (codes "include") ∷ []) (enclosed (map (name_tokens table) (one ∷ others))) refl
    (enclosed_written (map (name_tokens table) (one ∷ others))
    (All-map (All IsToken) (name_tokens table) (one ∷ others)
    (All-weaker (IsKeyOf table kind_of) (λ number. All IsToken (name_tokens table number)) (name_written table kind_of names) (one ∷ others) are)))

distinct_plain : (unique distinct : Bool) → list_all is_plain (distinct_tokens unique distinct) ≡ true
distinct_plain true true = refl
distinct_plain true false = refl
distinct_plain false distinct = refl

number_written : (number : ℕ) → number < 10 ^ 18 → All IsToken (Number number ∷ [])
number_written number small = All-cons IsToken (Number number) [] small (All-nil IsToken)

deduplicate_plain : (on : Bool) → list_all is_plain (truth_option (codes "deduplicate_items") on) ≡ true
deduplicate_plain true = refl
deduplicate_plain false = refl

settings_written : (kind_of : Method) (spec : IndexSpec) → spec.fillfactor ≤ 100 → spec.pages_per_range ≤ 131072
    → All (All IsToken) (settings_tokens kind_of spec)
settings_written method.BTree spec full pages =
    All-cons (All IsToken) (number_option (codes "fillfactor") spec.fillfactor) (truth_option (codes "deduplicate_items") spec.deduplicate ∷ [])
    (plain_before (Word (codes "fillfactor") ∷ Sign sign.Equal ∷ []) (Number spec.fillfactor ∷ []) refl (number_written spec.fillfactor (omega arith)))
    (All-cons (All IsToken) (truth_option (codes "deduplicate_items") spec.deduplicate) []
    (plain_written (truth_option (codes "deduplicate_items") spec.deduplicate) (deduplicate_plain spec.deduplicate)) (All-nil (All IsToken)))
settings_written method.Brin spec full pages =
    All-cons (All IsToken) (number_option (codes "pages_per_range") spec.pages_per_range) []
    (plain_before (Word (codes "pages_per_range") ∷ Sign sign.Equal ∷ []) (Number spec.pages_per_range ∷ []) refl
    (number_written spec.pages_per_range (omega arith))) (All-nil (All IsToken))
settings_written method.Gin spec full pages =
    All-cons (All IsToken) (truth_option (codes "fastupdate") true) [] (plain_written (truth_option (codes "fastupdate") true) refl) (All-nil (All IsToken))

spelt_number : (value : ℤ) → IsNumber value → All IsToken (number_tokens value)
spelt_number (pos number) small = number_written number small
spelt_number (negsuc number) small = plain_before (Sign sign.Minus ∷ []) (Number (suc number) ∷ []) refl (number_written (suc number) small)

test_written : (compared : Compared) (test : Test) → IsTestOf compared test → All IsToken (test_tokens compared test)
test_written compared IsNull is = plain_written (Word (codes "is") ∷ Word (codes "null") ∷ []) refl
test_written compared NotNull is = plain_written (Word (codes "is") ∷ Word (codes "not") ∷ Word (codes "null") ∷ []) refl
test_written WithNumber (Num op value) is = plain_before (Sign (sign_of op) ∷ []) (number_tokens value) refl (spelt_number value is)
test_written WithText (Raw op bytes) is =
    plain_before (Sign (sign_of op) ∷ []) (Text bytes ∷ []) refl (All-cons IsToken (Text bytes) [] tt (All-nil IsToken))
test_written WithTruth (Num Eq value) (inl e) =
    subst (λ value. All IsToken (test_tokens WithTruth (Num Eq value))) (sym e) (plain_written (Sign sign.Equal ∷ Word (codes "false") ∷ []) refl)
test_written WithTruth (Num Eq value) (inr e) =
    subst (λ value. All IsToken (test_tokens WithTruth (Num Eq value))) (sym e) (plain_written (Sign sign.Equal ∷ Word (codes "true") ∷ []) refl)
test_written WithTruth (Num Ne value) (inl e) =
    subst (λ value. All IsToken (test_tokens WithTruth (Num Ne value))) (sym e) (plain_written (Sign sign.NotEqual ∷ Word (codes "false") ∷ []) refl)
test_written WithTruth (Num Ne value) (inr e) =
    subst (λ value. All IsToken (test_tokens WithTruth (Num Ne value))) (sym e) (plain_written (Sign sign.NotEqual ∷ Word (codes "true") ∷ []) refl)
test_written WithTruth (Num Lt value) is = absurd is
test_written WithTruth (Num Le value) is = absurd is
test_written WithTruth (Num Gt value) is = absurd is
test_written WithTruth (Num Ge value) is = absurd is
test_written WithTruth (Raw op bytes) is = absurd is
test_written WithNumber (Raw op bytes) is = absurd is
test_written WithText (Num op value) is = absurd is
test_written Never (Num op value) is = absurd is
test_written Never (Raw op bytes) is = absurd is

condition_written : (table : Table) → HasNames table → (one : Cond) → IsConditionOn table one → All IsToken (condition_tokens table one)
condition_written table names one is =
    rw is.found (quoted_before is.column.name (test_tokens (facts_of is.column.kind).compared one.test)
    (quotable_at table (one.column - 1) is.column names is.found) (test_written (facts_of is.column.kind).compared one.test is.fits))

filter_written : (table : Table) (conditions : List Cond) → HasNames table → All (IsConditionOn table) conditions → All IsToken (filter_tokens table conditions)
filter_written table [] names are = All-nil IsToken
filter_written table (one ∷ others) names are =
    plain_before (Word (codes "where") ∷ []) _ refl
    (between_written (Word (codes "and")) (map (condition_tokens table) (one ∷ others)) (plain (Word (codes "and")) refl)
    (All-map (All IsToken) (condition_tokens table) (one ∷ others)
    (All-weaker (IsConditionOn table) (λ condition. All IsToken (condition_tokens table condition)) (condition_written table names) (one ∷ others) are)))

uniqueness_plain : (unique : Bool) → list_all is_plain (Word (codes "create") ∷ uniqueness_tokens unique) ≡ true
uniqueness_plain true = refl
uniqueness_plain false = refl

method_plain : (kind_of : Method) → list_all is_plain (Word (codes "using") ∷ Word (method_word kind_of) ∷ []) ≡ true
method_plain method.BTree = refl
method_plain method.Brin = refl
method_plain method.Gin = refl

head_written : (table : Table) (spec : IndexSpec) → HasNames table → IsNamed spec → All IsToken (head_tokens table spec)
head_written table spec names named =
    let using : List TokenValue = Word (codes "using") ∷ Word (method_word spec.method) ∷ [] in
    let on : List TokenValue = Word (codes "on") ∷ Quoted table.name ∷ using in
    let index : List TokenValue = Word (codes "index") ∷ Quoted spec.name ∷ on in
    plain_before (Word (codes "create") ∷ uniqueness_tokens spec.unique) index (uniqueness_plain spec.unique)
    (plain_before (Word (codes "index") ∷ []) (Quoted spec.name ∷ on) refl
    (quoted_before spec.name on named.own
    (plain_before (Word (codes "on") ∷ []) (Quoted table.name ∷ using) refl
    (quoted_before table.name using names.own (plain_written using (method_plain spec.method))))))

tail_written : (table : Table) (spec : IndexSpec) → HasNames table → IsIndexOver table spec → All IsToken (tail_tokens table spec)
tail_written table spec names is =
    plain_before (distinct_tokens spec.unique spec.nulls_distinct) _ (distinct_plain spec.unique spec.nulls_distinct)
    (All-append IsToken (Word (codes "with") ∷ enclosed (settings_tokens spec.method spec)) (filter_tokens table spec.filter)
    (plain_before (Word (codes "with") ∷ []) (enclosed (settings_tokens spec.method spec)) refl
    (enclosed_written (settings_tokens spec.method spec) (settings_written spec.method spec is.fillfactor.1 is.pages_per_range.1)))
    (filter_written table spec.filter names is.filter))

pub index_written : (table : Table) (spec : IndexSpec) → HasNames table → IsIndexOver table spec → IsNamed spec → All IsToken (index_tokens table spec)
index_written table spec names is named =
    All-append IsToken (head_tokens table spec) _ (head_written table spec names named)
    (All-append IsToken (enclosed (map (key_tokens table spec.method) spec.keys)) _
    (enclosed_written (map (key_tokens table spec.method) spec.keys)
    (All-map (All IsToken) (key_tokens table spec.method) spec.keys
    (All-weaker (λ key. IsKeyOf table spec.method key.column) (λ key. All IsToken (key_tokens table spec.method key))
    (key_written table spec.method names) spec.keys is.keys)))
    (All-append IsToken (include_tokens table spec.includes) (tail_tokens table spec)
    (includes_written table spec.method spec.includes names is.includes) (tail_written table spec names is)))
