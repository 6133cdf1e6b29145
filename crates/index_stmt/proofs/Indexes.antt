-- Which indexes the statement of an index describes.
use Rattle.std.proofs.Common.{◌≡◌, ℕ, ◌<◌, ◌≤◌, ◌+◌, ◌-◌, Bool, true, false, cond, ◌&&◌, nat_le, nat_lt, List, [], ◌∷◌, length, drop, Option, Some, None, Result, Ok, Err, slice_get, refl, ap, sym, subst, inl, inr, ◌⊎◌, arith, length-append, All, codes, lit≤, ◌≢◌, ◌∙◌, not}
use Rattle.std.specs.Option.{option_map_or}
use Rattle.std.proofs.lemmas.Bool.Decides.{nat_tests}
use Rattle.std.proofs.lemmas.List.Elements.{All-nil, All-push}
use Rattle.std.specs.Str.{bytes_eq}
use Rattle.stmt_token.specs.declared.sign.Sign.TheVariants.{Comma, Equal, LeftParen, RightParen}
use Rattle.stmt_token.specs.Borrowed.{number_of}
use Rattle.stmt_token.specs.Tokens.{TokenValue, tokens_of}
use Rattle.opclass.specs.declared.types.Method.{Method}
use Rattle.opclass.specs.declared.types.Method.TheVariants as method
use Rattle.opclass.specs.declared.spec.IndexSpec.{IndexSpec}
use Rattle.opclass.specs.declared.spec.KeyCol.{KeyCol}
use Rattle.opclass.specs.declared.table.Table.{Table}
use Rattle.opclass.specs.Types.{facts_of, takes_key}
use Rattle.index_stmt.specs.declared.columns.Found.{Found}
use Rattle.index_stmt.specs.declared.fault.StmtCause.{StmtCause}
use Rattle.index_stmt.specs.declared.fault.StmtCause.TheVariants.{NotAllowed, NoToken, OutOfRange, UnknownName, Repeated}
use Rattle.index_stmt.specs.declared.options.OptionName.{OptionName}
use Rattle.index_stmt.specs.declared.options.OptionName.TheVariants.{DeduplicateItems, Fastupdate, Fillfactor, PagesPerRange}
use Rattle.index_stmt.specs.declared.options.Settings.{Settings}
use Rattle.index_stmt.specs.Columns.{collation, column_named}
use Rattle.index_stmt.specs.Conditions.{filter_rule}
use Rattle.index_stmt.specs.IndexStatement.{direction, distinctness, include_list, included, includes, index_column, index_head, index_statement, is_btree, key, key_list, nulls_order, known_method, method_named, method_rule, this_table, uniqueness}
use Rattle.opclass.specs.Indexes.{IsIndexOver, IsKeyOf, IsPlain, most_columns}
use Rattle.index_stmt.specs.Names.{name, word_in, qualified}
use Rattle.index_stmt.specs.Options.{as_truth, fillfactor_of, in_range, known_option, option, option_list, options, pages_per_range_of, set_to, truth_in, unset, value_in, with_option, deduplicate_of, is_set, option_named}
use Rattle.index_stmt.specs.Cause.{number_of_cause}
use Rattle.index_stmt.specs.Faults.{index_of, told}
use Rattle.index_stmt.specs.Rule.{Read, done, is_sign, is_word, meaning, next_is, refused, separated, sign, token_as, word}
use Rattle.index_stmt.specs.TableStatement.{end_of_statement}
use Rattle.index_stmt.proofs.Lists.{both_read}
use Rattle.index_stmt.proofs.Spellable.{both_true}
use Rattle.index_stmt.proofs.Tables.{same_value, separated_leads}
use Rattle.index_stmt.proofs.Taking.{if_read}
use Rattle.index_stmt.specs.declared.index_statement.Head.{Head}
use Rattle.index_stmt.proofs.Filters.{filter_is}
use Rattle.index_stmt.proofs.Found.{Stands, found_stands, meant_of, not_allowed}

stands_key : (table : Table) (kind_of : Method) (found : Found) → Stands table.columns 1 found
    → takes_key kind_of (facts_of found.kind).key_use ≡ true → IsKeyOf table kind_of found.number
stands_key table kind_of found stands taken =
    let n = stands.number_is in
    record {
      column = stands.column;
      above = omega (arith, n);
      found = subst (λ place. slice_get table.columns place ≡ Some stands.column) (let e : stands.place ≡ found.number - 1 = omega (arith, n) in e) stands.at;
      taken = subst (λ kind. takes_key kind_of (facts_of kind).key_use ≡ true) (sym stands.kind) taken;
    }

-- a column that is let through is a key, and there is room for it
index_column_is : (table : Table) (kind_of : Method) (columns : ℕ) (called : List ℕ) (found : Found)
    → index_column table kind_of columns called ≡ Ok found → IsKeyOf table kind_of found.number × (columns < most_columns kind_of)
index_column_is table kind_of columns called found e = which (column_named table.columns called) refl e
  where
    which : (o : Option Found) → column_named table.columns called ≡ o
        → option_map_or (λ column. cond (takes_key kind_of (facts_of column.kind).key_use && nat_lt columns (most_columns kind_of)) (Ok column) (Err NotAllowed)) o (Err UnknownName) ≡ Ok found
        → IsKeyOf table kind_of found.number × (columns < most_columns kind_of)
    which None is e = cc
    which (Some one) is e = taken (takes_key kind_of (facts_of one.kind).key_use && nat_lt columns (most_columns kind_of)) refl e
      where
        room : (n : ℕ) → nat_lt columns n ≡ true → columns < n
        room n e = grind (arith, nat_tests)

        taken : (b : Bool) → (takes_key kind_of (facts_of one.kind).key_use && nat_lt columns (most_columns kind_of)) ≡ b
            → cond b (Ok one) (Err NotAllowed) ≡ Ok found → IsKeyOf table kind_of found.number × (columns < most_columns kind_of)
        taken false both e = cc
        taken true both e =
            let same : one ≡ found = cc in
            let parts = both_true (takes_key kind_of (facts_of one.kind).key_use) (nat_lt columns (most_columns kind_of)) both in (
              subst (λ (f : Found). IsKeyOf table kind_of f.number) same (stands_key table kind_of one (found_stands 1 table.columns called one is) parts.0),
              room (most_columns kind_of) parts.1,
            )

-- the keys so far, of an index of a method
pub record AreKeys (table : Table) (kind_of : Method) (keys : List KeyCol) : Type 0 where
  pub each : All (λ key. IsKeyOf table kind_of key.column) keys
  pub most : length keys ≤ most_columns kind_of
  pub plain : kind_of ≢ method.BTree → All IsPlain keys

-- a key of another method than a B-tree is sorted as it is where nothing is said
ascending : (kind_of : Method) (tokens : List TokenValue) (descending : Bool) (rest : List TokenValue)
    → direction kind_of tokens ≡ Ok (descending, rest) → kind_of ≢ method.BTree → descending ≡ false
unfolding direction
ascending method.BTree tokens descending rest e other = absurd (other refl)
ascending method.Brin tokens descending rest e other =
    let desc = not_allowed (next_is (is_word (codes "asc")) tokens) tokens _ descending rest e in
    sym (same_value false descending tokens rest (not_allowed (next_is (is_word (codes "desc")) tokens) tokens _ descending rest desc))
ascending method.Gin tokens descending rest e other =
    let desc = not_allowed (next_is (is_word (codes "asc")) tokens) tokens _ descending rest e in
    sym (same_value false descending tokens rest (not_allowed (next_is (is_word (codes "desc")) tokens) tokens _ descending rest desc))

unsaid : (kind_of : Method) (descending : Bool) (tokens : List TokenValue) (nulls_first : Bool) (rest : List TokenValue)
    → nulls_order kind_of descending tokens ≡ Ok (nulls_first, rest) → kind_of ≢ method.BTree → descending ≡ nulls_first
unfolding nulls_order
unsaid method.BTree descending tokens nulls_first rest e other = absurd (other refl)
unsaid method.Brin descending tokens nulls_first rest e other =
    same_value descending nulls_first tokens rest (not_allowed (next_is (is_word (codes "nulls")) tokens) tokens (Ok (descending, tokens)) nulls_first rest e)
unsaid method.Gin descending tokens nulls_first rest e other =
    same_value descending nulls_first tokens rest (not_allowed (next_is (is_word (codes "nulls")) tokens) tokens (Ok (descending, tokens)) nulls_first rest e)

key_leads : (table : Table) (kind_of : Method) (keys : List KeyCol) (tokens : List TokenValue) (after : List KeyCol) (rest : List TokenValue)
    → AreKeys table kind_of keys → key table kind_of keys tokens ≡ Ok (after, rest) → (0 < length after) × AreKeys table kind_of after
unfolding key
key_leads table kind_of keys tokens after rest are e =
    let a = both_read (meaning name (index_column table kind_of (length keys)) tokens) _ after rest e in
    let b = both_read (collation a.0.kind a.1) _ after rest a.3 in
    let c = both_read (direction kind_of b.1) _ after rest b.3 in
    let d = both_read (nulls_order kind_of c.0 c.1) _ after rest c.3 in
    let is = same_value _ after d.1 rest d.3 in
    let meant = meant_of name (index_column table kind_of (length keys)) tokens a.1 a.0 a.2 in
    let column = index_column_is table kind_of (length keys) meant.0 a.0 meant.1 in
    let one : KeyCol = record { column = a.0.number; descending = c.0; nulls_first = d.0 } in
    let longer = length-append keys (one ∷ []) in
    let room = column.1 in
    subst (λ keys. (0 < length keys) × AreKeys table kind_of keys) is (
      omega (arith, longer),
      record {
        each = All-push (λ (key : KeyCol). IsKeyOf table kind_of key.column) keys one are.each column.0;
        most = omega (arith, longer, room);
        plain = λ other.
            let down = ascending kind_of b.1 c.0 c.1 c.2 other in
            All-push IsPlain keys one (are.plain other)
            (record { ascending = down; nulls_last = sym (unsaid kind_of c.0 c.1 d.0 d.1 d.2 other) ∙ down });
      },
    )

-- the INCLUDE columns so far, behind so many keys
pub record AreIncluded (table : Table) (keys : ℕ) (columns : List ℕ) : Type 0 where
  pub each : All (IsKeyOf table method.BTree) columns
  pub most : keys + length columns ≤ 32

included_leads : (table : Table) (keys : ℕ) (columns : List ℕ) (tokens : List TokenValue) (after : List ℕ) (rest : List TokenValue)
    → AreIncluded table keys columns → included table keys columns tokens ≡ Ok (after, rest) → AreIncluded table keys after
unfolding included
included_leads table keys columns tokens after rest are e =
    let a = both_read (meaning name (index_column table method.BTree (keys + length columns)) tokens) _ after rest e in
    let is = same_value _ after a.1 rest a.3 in
    let meant = meant_of name (index_column table method.BTree (keys + length columns)) tokens a.1 a.0 a.2 in
    let column = index_column_is table method.BTree (keys + length columns) meant.0 a.0 meant.1 in
    let longer = length-append columns (a.0.number ∷ []) in
    let room : keys + length columns < 32 = column.1 in
    subst (AreIncluded table keys) is (record {
      each = All-push (IsKeyOf table method.BTree) columns a.0.number are.each column.0;
      most = omega (arith, longer, room);
    })

include_list_is : (table : Table) (keys : ℕ) (tokens : List TokenValue) (columns : List ℕ) (rest : List TokenValue) → keys ≤ 32
    → include_list table keys tokens ≡ Ok (columns, rest) → AreIncluded table keys columns
unfolding include_list
include_list_is table keys tokens columns rest few e =
    let a = both_read (sign LeftParen tokens) _ columns rest e in
    let b = both_read (separated (is_sign Comma) (included table keys) [] a.1) _ columns rest a.3 in
    let c = both_read (sign RightParen b.1) _ columns rest b.3 in
    subst (AreIncluded table keys) (same_value _ columns c.1 rest c.3)
    (separated_leads (AreIncluded table keys) (AreIncluded table keys) (is_sign Comma) (included table keys) (included_leads table keys) (λ s is. is)
    [] a.1 b.0 b.1 (record { each = All-nil _; most = omega (arith, few) }) b.2)

-- none, or of a B-tree
record AreIncludes (table : Table) (kind_of : Method) (keys : ℕ) (columns : List ℕ) : Type 0 where
  each : All (IsKeyOf table kind_of) columns
  most : keys + length columns ≤ most_columns kind_of
  none : kind_of ≢ method.BTree → columns ≡ []

includes_is : (table : Table) (kind_of : Method) (keys : ℕ) (tokens : List TokenValue) (columns : List ℕ) (rest : List TokenValue)
    → keys ≤ most_columns kind_of → includes table kind_of keys tokens ≡ Ok (columns, rest)
    → AreIncludes table kind_of keys columns
unfolding includes
includes_is table kind_of keys tokens columns rest few e = which (next_is (is_word (codes "include")) tokens) kind_of few e
  where
    without : (kind_of : Method) → keys ≤ most_columns kind_of → [] ≡ columns → AreIncludes table kind_of keys columns
    without kind_of few is =
        subst (AreIncludes table kind_of keys) is (record { each = All-nil _; most = omega (arith, few); none = λ other. refl })

    which : (b : Bool) (kind_of : Method) → keys ≤ most_columns kind_of
        → cond b (cond (is_btree kind_of) (include_list table keys (drop 1 tokens)) (refused NotAllowed tokens)) (done [] tokens) ≡ Ok (columns, rest)
        → AreIncludes table kind_of keys columns
    which true method.BTree few e =
        let is = include_list_is table keys (drop 1 tokens) columns rest few e in
        record { each = is.each; most = is.most; none = λ other. absurd (other refl) }
    which true method.Brin few e = cc
    which true method.Gin few e = cc
    which false kind_of few e = without kind_of few (same_value [] columns tokens rest e)

key_list_is : (table : Table) (kind_of : Method) (tokens : List TokenValue) (keys : List KeyCol) (rest : List TokenValue)
    → key_list table kind_of tokens ≡ Ok (keys, rest) → (0 < length keys) × AreKeys table kind_of keys
unfolding key_list
key_list_is table kind_of tokens keys rest e =
    let a = both_read (sign LeftParen tokens) _ keys rest e in
    let b = both_read (separated (is_sign Comma) (key table kind_of) [] a.1) _ keys rest a.3 in
    let c = both_read (sign RightParen b.1) _ keys rest b.3 in
    subst (λ keys. (0 < length keys) × AreKeys table kind_of keys) (same_value _ keys c.1 rest c.3)
    (separated_leads (AreKeys table kind_of) (λ keys. (0 < length keys) × AreKeys table kind_of keys) (is_sign Comma) (key table kind_of)
    (key_leads table kind_of) (λ s both. both.1) [] a.1 b.0 b.1 (record { each = All-nil _; most = omega arith; plain = λ other. All-nil _ }) b.2)

-- nulls are distinct where the index isn't unique
distinct_is : (unique : Bool) (tokens : List TokenValue) (distinct : Bool) (rest : List TokenValue)
    → distinctness unique tokens ≡ Ok (distinct, rest) → unique ≡ false → distinct ≡ true
unfolding distinctness
distinct_is true tokens distinct rest e plain = cc
distinct_is false tokens distinct rest e plain =
    sym (same_value true distinct tokens rest (not_allowed (next_is (is_word (codes "nulls")) tokens) tokens (Ok (true, tokens)) distinct rest e))

-- the method that has an option
abbrev owner : OptionName → Method
owner Fillfactor = method.BTree
owner DeduplicateItems = method.BTree
owner PagesPerRange = method.Brin
owner Fastupdate = method.Gin

named_is : (kind_of : Method) (called : List ℕ) (option : OptionName) → option_named kind_of called ≡ Some option → kind_of ≡ owner option
named_is method.BTree called option e = which (bytes_eq called (codes "fillfactor")) (bytes_eq called (codes "deduplicate_items")) e
  where
    which : (a b : Bool) → cond a (Some Fillfactor) (cond b (Some DeduplicateItems) None) ≡ Some option → method.BTree ≡ owner option
    which true b e = let same : Fillfactor ≡ option = cc in ap owner same
    which false true e = let same : DeduplicateItems ≡ option = cc in ap owner same
    which false false e = cc
named_is method.Brin called option e = which (bytes_eq called (codes "pages_per_range")) e
  where
    which : (a : Bool) → cond a (Some PagesPerRange) None ≡ Some option → method.Brin ≡ owner option
    which true e = let same : PagesPerRange ≡ option = cc in ap owner same
    which false e = cc
named_is method.Gin called option e = which (bytes_eq called (codes "fastupdate")) e
  where
    which : (a : Bool) → cond a (Some Fastupdate) None ≡ Some option → method.Gin ≡ owner option
    which true e = let same : Fastupdate ≡ option = cc in ap owner same
    which false e = cc

known_option_is : (kind_of : Method) (settings : Settings) (called : List ℕ) (option : OptionName)
    → known_option kind_of settings called ≡ Ok option → kind_of ≡ owner option
known_option_is kind_of settings called option e = which (option_named kind_of called) refl e
  where
    which : (o : Option OptionName) → option_named kind_of called ≡ o
        → option_map_or (λ option. cond (is_set settings option) (Err Repeated) (Ok option)) o (Err NotAllowed) ≡ Ok option → kind_of ≡ owner option
    which None is e = cc
    which (Some one) is e = once (is_set settings one) e
      where
        once : (b : Bool) → cond b (Err Repeated) (Ok one) ≡ Ok option → kind_of ≡ owner option
        once true e = cc
        once false e = let same : one ≡ option = cc in named_is kind_of called one is ∙ ap owner same

-- the options so far lie in their ranges, and are at their defaults where the method hasn't them
record AreSettings (kind_of : Method) (settings : Settings) : Type 0 where
  fillfactor : (10 ≤ fillfactor_of settings) × (fillfactor_of settings ≤ 100)
  pages_per_range : (1 ≤ pages_per_range_of settings) × (pages_per_range_of settings ≤ 131072)
  default_fillfactor : kind_of ≢ method.BTree → fillfactor_of settings ≡ 90
  default_deduplicate : kind_of ≢ method.BTree → deduplicate_of settings ≡ true
  default_pages : kind_of ≢ method.Brin → pages_per_range_of settings ≡ 128

in_range_is : (low high : ℕ) (value : Option ℕ) (meant : ℕ) → in_range low high value ≡ Ok meant → (low ≤ meant) × (meant ≤ high)
in_range_is low high None meant e = cc
in_range_is low high (Some n) meant e = which (nat_le low n && nat_le n high) refl e
  where
    below : (a b : ℕ) → nat_le a b ≡ true → a ≤ b
    below a b e = grind (arith, nat_tests)

    which : (b : Bool) → (nat_le low n && nat_le n high) ≡ b → cond b (Ok n) (Err OutOfRange) ≡ Ok meant → (low ≤ meant) × (meant ≤ high)
    which true both e =
        let same : n ≡ meant = cc in
        let parts = both_true (nat_le low n) (nat_le n high) both in
        subst (λ n. (low ≤ n) × (n ≤ high)) same (below low n parts.0, below n high parts.1)
    which false both e = cc

set_is : {A : Type 0} (set : A → Settings) (r : Result A StmtCause) (after : Settings) → set_to set r ≡ Ok after
    → (value : A) × (r ≡ Ok value) × (set value ≡ after)
set_is set (Ok value) after e = (value, refl, let same : set value ≡ after = cc in same)
set_is set (Err cause) after e = cc

with_option_is : (kind_of : Method) (settings : Settings) (option : OptionName) (value : TokenValue) (after : Settings) → AreSettings kind_of settings
    → kind_of ≡ owner option → with_option settings option value ≡ Ok after → AreSettings kind_of after
with_option_is kind_of settings Fillfactor value after are known e =
    let set = set_is (λ percent. record settings { fillfactor = Some percent }) (in_range 10 100 (number_of value)) after e in
    subst (AreSettings kind_of) set.2 (record {
      fillfactor = in_range_is 10 100 (number_of value) set.0 set.1;
      pages_per_range = are.pages_per_range;
      default_fillfactor = λ other. absurd (other known);
      default_deduplicate = are.default_deduplicate;
      default_pages = are.default_pages;
    })
with_option_is kind_of settings DeduplicateItems value after are known e =
    let set = set_is (λ on. record settings { deduplicate_items = Some on }) (as_truth (truth_in value)) after e in
    subst (AreSettings kind_of) set.2 (record {
      fillfactor = are.fillfactor;
      pages_per_range = are.pages_per_range;
      default_fillfactor = are.default_fillfactor;
      default_deduplicate = λ other. absurd (other known);
      default_pages = are.default_pages;
    })
with_option_is kind_of settings PagesPerRange value after are known e =
    let set = set_is (λ pages. record settings { pages_per_range = Some pages }) (in_range 1 131072 (number_of value)) after e in
    subst (AreSettings kind_of) set.2 (record {
      fillfactor = are.fillfactor;
      pages_per_range = in_range_is 1 131072 (number_of value) set.0 set.1;
      default_fillfactor = are.default_fillfactor;
      default_deduplicate = are.default_deduplicate;
      default_pages = λ other. absurd (other known);
    })
with_option_is kind_of settings Fastupdate value after are known e =
    let set = set_is (λ on. record settings { fastupdate = Some on }) (as_truth (truth_in value)) after e in
    subst (AreSettings kind_of) set.2 (record {
      fillfactor = are.fillfactor;
      pages_per_range = are.pages_per_range;
      default_fillfactor = are.default_fillfactor;
      default_deduplicate = are.default_deduplicate;
      default_pages = are.default_pages;
    })

option_leads : (kind_of : Method) (settings : Settings) (tokens : List TokenValue) (after : Settings) (rest : List TokenValue)
    → AreSettings kind_of settings → option kind_of settings tokens ≡ Ok (after, rest) → AreSettings kind_of after
unfolding option
option_leads kind_of settings tokens after rest are e =
    let a = both_read (meaning (token_as word_in) (known_option kind_of settings) tokens) _ after rest e in
    let b = both_read (sign Equal a.1) _ after rest a.3 in
    let called = meant_of (token_as word_in) (known_option kind_of settings) tokens a.1 a.0 a.2 in
    let meant = meant_of (token_as value_in) (with_option settings a.0) b.1 rest after b.3 in
    with_option_is kind_of settings a.0 meant.0 after are (known_option_is kind_of settings called.0 a.0 called.1) meant.1

unset_is : (kind_of : Method) → AreSettings kind_of unset
unset_is kind_of = record {
  fillfactor = (lit≤ tt, lit≤ tt);
  pages_per_range = (lit≤ tt, lit≤ tt);
  default_fillfactor = λ other. refl;
  default_deduplicate = λ other. refl;
  default_pages = λ other. refl;
}

option_list_is : (kind_of : Method) (tokens : List TokenValue) (settings : Settings) (rest : List TokenValue)
    → option_list kind_of tokens ≡ Ok (settings, rest) → AreSettings kind_of settings
unfolding option_list
option_list_is kind_of tokens settings rest e =
    let a = both_read (sign LeftParen tokens) _ settings rest e in
    let b = both_read (separated (is_sign Comma) (option kind_of) unset a.1) _ settings rest a.3 in
    let c = both_read (sign RightParen b.1) _ settings rest b.3 in
    subst (AreSettings kind_of) (same_value _ settings c.1 rest c.3)
    (separated_leads (AreSettings kind_of) (AreSettings kind_of) (is_sign Comma) (option kind_of) (option_leads kind_of) (λ s is. is)
    unset a.1 b.0 b.1 (unset_is kind_of) b.2)

options_is : (kind_of : Method) (tokens : List TokenValue) (settings : Settings) (rest : List TokenValue)
    → options kind_of tokens ≡ Ok (settings, rest) → AreSettings kind_of settings
unfolding options
options_is kind_of tokens settings rest e = which (if_read (next_is (is_word (codes "with")) tokens) _ _ settings rest e)
  where
    which : (option_list kind_of (drop 1 tokens) ≡ Ok (settings, rest)) ⊎ (done unset tokens ≡ Ok (settings, rest)) → AreSettings kind_of settings
    which (inl e) = option_list_is kind_of (drop 1 tokens) settings rest e
    which (inr e) = subst (AreSettings kind_of) (same_value unset settings tokens rest e) (unset_is kind_of)

-- only a B-tree is unique
known_method_is : (unique : Bool) (called : List ℕ) (kind_of : Method) → known_method unique called ≡ Ok kind_of → kind_of ≢ method.BTree → unique ≡ false
known_method_is unique called kind_of e other = which (method_named called) unique e
  where
    which : (o : Option Method) (unique : Bool)
        → option_map_or (λ method. cond (unique && not (is_btree method)) (Err NotAllowed) (Ok method)) o (Err NotAllowed) ≡ Ok kind_of → unique ≡ false
    which None unique e = cc
    which (Some one) false e = refl
    which (Some method.BTree) true e = let same : method.BTree ≡ kind_of = cc in absurd (other (sym same))
    which (Some method.Brin) true e = cc
    which (Some method.Gin) true e = cc

method_is : (unique : Bool) (tokens : List TokenValue) (kind_of : Method) (rest : List TokenValue) → method_rule unique tokens ≡ Ok (kind_of, rest)
    → kind_of ≢ method.BTree → unique ≡ false
unfolding method_rule
method_is unique tokens kind_of rest e other = which (if_read (next_is (is_word (codes "using")) tokens) _ _ kind_of rest e)
  where
    which : (meaning (token_as word_in) (known_method unique) (drop 1 tokens) ≡ Ok (kind_of, rest)) ⊎ (done method.BTree tokens ≡ Ok (kind_of, rest))
        → unique ≡ false
    which (inl e) =
        let meant = meant_of (token_as word_in) (known_method unique) (drop 1 tokens) rest kind_of e in
        known_method_is unique meant.0 kind_of meant.1 other
    which (inr e) = absurd (other (sym (same_value method.BTree kind_of tokens rest e)))

head_is : (table : Table) (tokens : List TokenValue) (head : Head) (rest : List TokenValue)
    → index_head table tokens ≡ Ok (head, rest) → head.method ≢ method.BTree → head.unique ≡ false
unfolding index_head
head_is table tokens head rest e =
    let a = both_read (word (codes "create") tokens) _ head rest e in
    let b = both_read (uniqueness a.1) _ head rest a.3 in
    let c = both_read (word (codes "index") b.1) _ head rest b.3 in
    let d = both_read (name c.1) _ head rest c.3 in
    let f = both_read (word (codes "on") d.1) _ head rest d.3 in
    let g = both_read (qualified (meaning name (this_table table)) f.1) _ head rest f.3 in
    let h = both_read (method_rule b.0 g.1) _ head rest g.3 in
    subst (λ (head : Head). head.method ≢ method.BTree → head.unique ≡ false) (same_value _ head h.1 rest h.3) (method_is b.0 g.1 h.0 h.1 h.2)

-- the statement of an index describes an index over the table
pub index_is : (table : Table) (tokens : List TokenValue) (spec : IndexSpec) (rest : List TokenValue)
    → index_statement table tokens ≡ Ok (spec, rest) → IsIndexOver table spec
unfolding index_statement
index_is table tokens spec rest e =
    let a = both_read (index_head table tokens) _ spec rest e in
    let b = both_read (key_list table a.0.method a.1) _ spec rest a.3 in
    let c = both_read (includes table a.0.method (length b.0) b.1) _ spec rest b.3 in
    let d = both_read (distinctness a.0.unique c.1) _ spec rest c.3 in
    let f = both_read (options a.0.method d.1) _ spec rest d.3 in
    let g = both_read (filter_rule table f.1) _ spec rest f.3 in
    let h = both_read (end_of_statement g.1) _ spec rest g.3 in
    let head = head_is table tokens a.0 a.1 a.2 in
    let keys = key_list_is table a.0.method a.1 b.0 b.1 b.2 in
    let columns = includes_is table a.0.method (length b.0) b.1 c.0 c.1 keys.1.most c.2 in
    let settings = options_is a.0.method d.1 f.0 f.1 f.2 in
    subst (IsIndexOver table) (same_value _ spec h.1 rest h.3) (record {
      keys = keys.1.each;
      includes = columns.each;
      some = keys.0;
      most = columns.most;
      unique = head;
      plain = keys.1.plain;
      no_includes = columns.none;
      distinct = distinct_is a.0.unique c.1 d.0 d.1 d.2;
      fillfactor = settings.fillfactor;
      pages_per_range = settings.pages_per_range;
      default_fillfactor = settings.default_fillfactor;
      default_deduplicate = settings.default_deduplicate;
      default_pages = settings.default_pages;
      filter = filter_is table f.1 g.0 g.1 g.2;
    })

-- the index that a text describes is an index over the table
pub described_is : (table : Table) (text : List ℕ) (spec : IndexSpec) → index_of table text ≡ Ok spec
    → IsIndexOver table spec
described_is table text spec e = which (nat_lt 65536 (length text)) (index_statement table (tokens_of text)) refl e
  where
    which : (long : Bool) (read : Read IndexSpec) → index_statement table (tokens_of text) ≡ read
        → cond long (Err (record { statement = 2; place = 65536; cause = number_of_cause NoToken })) (told 2 text read) ≡ Ok spec
        → IsIndexOver table spec
    which true read is e = cc
    which false (Err fault) is e = cc
    which false (Ok read) is e =
        let same : read.0 ≡ spec = cc in
        subst (IsIndexOver table) same (index_is table (tokens_of text) read.0 read.1 is)
