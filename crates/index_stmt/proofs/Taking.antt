-- Which rules take a token where they read something.
use Rattle.std.proofs.Common.{◌≡◌, ℕ, zero, suc, ◌<◌, ◌≤◌, Bool, true, false, cond, List, [], ◌∷◌, length, drop, Option, Some, None, Result, Ok, Err, ap, subst, arith, length-drop, All, ◌⊎◌, inl, inr, codes, neg_ℤ, pos}
use Rattle.std.proofs.lemmas.List.Elements.{All-drop}
use Rattle.std.specs.Option.{option_map_or}
use Rattle.stmt_token.specs.Spelling.{CanBeQuoted}
use Rattle.stmt_token.specs.Tokens.{TokenValue}
use Rattle.stmt_token.specs.declared.sign.Sign.{Sign}
use Rattle.stmt_token.specs.declared.sign.Sign.TheVariants.{Dot, Equal, RightBracket, RightParen}
use Rattle.opclass.specs.declared.types.ColType.{ColType}
use Rattle.opclass.specs.declared.types.Method.{Method}
use Rattle.opclass.specs.declared.types.Compared.{Compared}
use Rattle.opclass.specs.declared.filter.Op.{Op}
use Rattle.opclass.specs.declared.filter.Cond.{Cond}
use Rattle.opclass.specs.declared.filter.Test.TheVariants.{IsNull, NotNull, Num}
use Rattle.opclass.specs.declared.spec.KeyCol.{KeyCol}
use Rattle.opclass.specs.declared.table.Table.{Table}
use Rattle.opclass.specs.declared.table.Column.{Column}
use Rattle.index_stmt.specs.declared.options.Settings.{Settings}
use Rattle.index_stmt.specs.declared.fault.StmtCause.{StmtCause}
use Rattle.index_stmt.specs.declared.fault.StmtCause.TheVariants.{NoToken, Unexpected, UnknownName, UnknownType, NotAllowed, OutOfRange, Repeated}
use Rattle.index_stmt.specs.declared.type_name.TypeStart.{TypeStart}
use Rattle.index_stmt.specs.declared.type_name.TypeStart.TheVariants.{Whole, Element, Sized, Character, Decimal, Double, Time, Timestamp}
use Rattle.index_stmt.specs.Rule.{Read, Rule, clause, done, expected, if_next, judged, listed, meaning, next_is, other_token, separated, sign, token_as, word}
use Rattle.index_stmt.specs.Names.{name}
use Rattle.index_stmt.specs.TypeNames.{begins_type, halfway, number, precision, size, sized, time, time_zone, timestamp, type_behind, type_name, type_spelling}
use Rattle.index_stmt.specs.Columns.{collation, is_c}
use Rattle.index_stmt.specs.TableStatement.{column, nullness}
use Rattle.index_stmt.specs.Options.{option}
use Rattle.index_stmt.specs.IndexStatement.{direction, included, key, nulls_order}
use Rattle.index_stmt.specs.Conditions.{cast, comparison, condition, item, literal, null_test}
use Rattle.index_stmt.proofs.Lists.{Takes, Keeps, Leaves, both_read, takes_first, keeps_both, takes_keeps}

-- what is left of two readings that are one
pub same_rest : {A : Type 0} (x y : A) (s t : List TokenValue) → ◌≡◌ {A = Read A} (Ok (x, s)) (Ok (y, t)) → s ≡ t
same_rest {A} x y s t e =
    let p : ◌≡◌ {A = A × List TokenValue} (x, s) (y, t) = cc in
    ap (λ (r : A × List TokenValue). r.1) p

-- tokens that are left, and all but the first of them
pub left : {A : Type 0} (x y : A) (s t : List TokenValue) → ◌≡◌ {A = Read A} (Ok (x, s)) (Ok (y, t)) → All CanBeQuoted s → All CanBeQuoted t
left x y s t e each = subst (λ tokens. All CanBeQuoted tokens) (same_rest x y s t e) each

behind_first : (tokens : List TokenValue) → All CanBeQuoted tokens → All CanBeQuoted (drop 1 tokens)
behind_first tokens each = All-drop CanBeQuoted 1 tokens each

pub done_keeps : {A : Type 0} (value : A) → Keeps (done value)
done_keeps value = record {
  no_more = λ tokens read rest e. let n = ap length (same_rest value read tokens rest e) in omega (arith, n);
  leaves = λ tokens read rest e each. left value read tokens rest e each;
}

pub if_read : {A : Type 0} (b : Bool) (x y : Read A) (value : A) (rest : List TokenValue) → cond b x y ≡ Ok (value, rest)
    → (x ≡ Ok (value, rest)) ⊎ (y ≡ Ok (value, rest))
if_read true x y value rest e = inl e
if_read false x y value rest e = inr e

-- a test that isn't passed leaves an error, so what was read is behind a token
pub expected_takes : (test : TokenValue → Bool) → Takes (expected test)
expected_takes test = record {
  fewer = λ tokens value rest e. expected_fewer tokens value rest e;
  leaves = λ tokens value rest e each. expected_leaves tokens value rest e each;
}
  where
    expected_leaves : Leaves (expected test)
    expected_leaves tokens value rest e each = passed (next_is test tokens) e
      where
        passed : (b : Bool) → cond b (Ok (tt, drop 1 tokens)) (other_token tokens) ≡ Ok (value, rest) → All CanBeQuoted rest
        passed true e = left tt value (drop 1 tokens) rest e (behind_first tokens each)
        passed false e = cc

    expected_fewer : (tokens : List TokenValue) (value : Unit {0}) (rest : List TokenValue) → expected test tokens ≡ Ok (value, rest) → length rest < length tokens
    expected_fewer [] value rest e = cc
    expected_fewer (token ∷ tokens) value rest e = passed (test token) e
      where
        passed : (b : Bool) → cond b (Ok (tt, tokens)) (other_token (token ∷ tokens)) ≡ Ok (value, rest) → length rest < suc (length tokens)
        passed true e = let n = ap length (same_rest tt value tokens rest e) in omega (arith, n)
        passed false e = cc

pub token_as_takes : {A : Type 0} (view : TokenValue → Option A) → Takes (token_as view)
token_as_takes {A} view = record { fewer = as_fewer; leaves = as_leaves }
  where
    as_leaves : Leaves (token_as view)
    as_leaves [] value rest e each = cc
    as_leaves (token ∷ tokens) value rest e each = passed (view token) e
      where
        passed : (found : Option A) → option_map_or (λ found. Ok (found, tokens)) found (other_token (token ∷ tokens)) ≡ Ok (value, rest) → All CanBeQuoted rest
        passed (Some found) e = left found value tokens rest e (behind_first (token ∷ tokens) each)
        passed None e = cc

    as_fewer : (tokens : List TokenValue) (value : A) (rest : List TokenValue) → token_as view tokens ≡ Ok (value, rest) → length rest < length tokens
    as_fewer [] value rest e = cc
    as_fewer (token ∷ tokens) value rest e = passed (view token) e
      where
        passed : (found : Option A) → option_map_or (λ found. Ok (found, tokens)) found (other_token (token ∷ tokens)) ≡ Ok (value, rest) → length rest < suc (length tokens)
        passed (Some found) e = let n = ap length (same_rest found value tokens rest e) in omega (arith, n)
        passed None e = cc

pub if_next_keeps : {A : Type 0} (test : TokenValue → Bool) (begun otherwise : Rule A) → Keeps begun → Keeps otherwise → Keeps (if_next test begun otherwise)
if_next_keeps {A} test begun otherwise first second = record {
  no_more = λ tokens value rest e. either tokens value rest (if_read (next_is test tokens) _ _ value rest e);
  leaves = λ tokens value rest e each. leaving tokens value rest each (if_read (next_is test tokens) _ _ value rest e);
}
  where
    leaving : (tokens : List TokenValue) (value : A) (rest : List TokenValue) → All CanBeQuoted tokens → (begun (drop 1 tokens) ≡ Ok (value, rest)) ⊎ (otherwise tokens ≡ Ok (value, rest)) → All CanBeQuoted rest
    leaving tokens value rest each (inl e) = first.leaves (drop 1 tokens) value rest e (behind_first tokens each)
    leaving tokens value rest each (inr e) = second.leaves tokens value rest e each

    either : (tokens : List TokenValue) (value : A) (rest : List TokenValue) → (begun (drop 1 tokens) ≡ Ok (value, rest)) ⊎ (otherwise tokens ≡ Ok (value, rest)) → length rest ≤ length tokens
    either tokens value rest (inl e) = let n = first.no_more (drop 1 tokens) value rest e in let d = length-drop 1 tokens in omega (arith, n, d)
    either tokens value rest (inr e) = second.no_more tokens value rest e

pub clause_keeps : {A : Type 0} (test : TokenValue → Bool) (allowed : Bool) (begun otherwise : Rule A) → Keeps begun → Keeps otherwise → Keeps (clause test allowed begun otherwise)
clause_keeps test true begun otherwise first second = if_next_keeps test begun otherwise first second
clause_keeps {A} test false begun otherwise first second = record {
  no_more = λ tokens value rest e. either tokens value rest (if_read (next_is test tokens) _ _ value rest e);
  leaves = λ tokens value rest e each. leaving tokens value rest each (if_read (next_is test tokens) _ _ value rest e);
}
  where
    leaving : (tokens : List TokenValue) (value : A) (rest : List TokenValue) → All CanBeQuoted tokens → (◌≡◌ {A = Read A} (Err (NotAllowed, tokens)) (Ok (value, rest))) ⊎ (otherwise tokens ≡ Ok (value, rest)) → All CanBeQuoted rest
    leaving tokens value rest each (inl e) = cc
    leaving tokens value rest each (inr e) = second.leaves tokens value rest e each

    either : (tokens : List TokenValue) (value : A) (rest : List TokenValue) → (◌≡◌ {A = Read A} (Err (NotAllowed, tokens)) (Ok (value, rest))) ⊎ (otherwise tokens ≡ Ok (value, rest)) → length rest ≤ length tokens
    either tokens value rest (inl e) = cc
    either tokens value rest (inr e) = second.no_more tokens value rest e

pub meaning_takes : {A B : Type 0} (rule : Rule A) (judge : A → Result B StmtCause) → Takes rule → Takes (meaning rule judge)
meaning_takes {A} {B} rule judge takes = record {
  fewer = λ tokens value rest e.
      let both = both_read (rule tokens) (λ read. judged (judge read) tokens) value rest e in
      let less = takes.fewer tokens both.0 both.1 both.2 in
      let n = ap length (same_tokens (judge both.0) tokens both.1 value rest both.3) in
      omega (arith, less, n);
  leaves = λ tokens value rest e each.
      let both = both_read (rule tokens) (λ read. judged (judge read) tokens) value rest e in
      subst (λ tokens. All CanBeQuoted tokens) (same_tokens (judge both.0) tokens both.1 value rest both.3) (takes.leaves tokens both.0 both.1 both.2 each);
}
  where
    same_tokens : (r : Result B StmtCause) (begun tokens : List TokenValue) (value : B) (rest : List TokenValue) → judged r begun tokens ≡ Ok (value, rest) → tokens ≡ rest
    same_tokens (Ok meant) begun tokens value rest e = same_rest meant value tokens rest e
    same_tokens (Err cause) begun tokens value rest e = cc

expected_keeps : (test : TokenValue → Bool) → Keeps (expected test)
expected_keeps test = takes_keeps _ (expected_takes test)

pub word_keeps : (text : List ℕ) → Keeps (word text)
word_keeps text = takes_keeps _ (expected_takes _)

pub sign_keeps : (wanted : Sign) → Keeps (sign wanted)
sign_keeps wanted = takes_keeps _ (expected_takes _)

pub name_takes : Takes name
unfolding name
name_takes = token_as_takes _

collation_keeps : (kind : ColType) → Keeps (collation kind)
unfolding collation
collation_keeps kind =
    clause_keeps _ _ _ _ (if_next_keeps _ _ _ (keeps_both _ _ (sign_keeps Dot) (λ _. expected_keeps is_c)) (expected_keeps is_c)) (done_keeps _)

nullness_keeps : Keeps nullness
unfolding nullness
nullness_keeps = if_next_keeps _ _ _ (word_keeps _) (if_next_keeps _ _ _ (done_keeps _) (done_keeps _))

number_keeps : Keeps number
number_keeps = takes_keeps _ (token_as_takes _)

size_keeps : Keeps size
unfolding size
size_keeps = if_next_keeps _ _ _ (keeps_both _ _ number_keeps (λ _. sign_keeps RightParen)) (done_keeps _)

precision_keeps : Keeps precision
unfolding precision
precision_keeps =
    if_next_keeps _ _ _
    (keeps_both _ _ number_keeps (λ _. if_next_keeps _ _ _ (keeps_both _ _ number_keeps (λ _. sign_keeps RightParen)) (sign_keeps RightParen)))
    (done_keeps _)

time_zone_keeps : Keeps time_zone
unfolding time_zone
time_zone_keeps = keeps_both _ _ (word_keeps _) (λ _. word_keeps _)

time_keeps : Keeps time
unfolding time
time_keeps =
    keeps_both _ _ size_keeps (λ _. if_next_keeps _ _ _ (keeps_both _ _ time_zone_keeps (λ _. done_keeps _)) (done_keeps _))

timestamp_keeps : Keeps timestamp
unfolding timestamp
timestamp_keeps =
    keeps_both _ _ size_keeps (λ _. if_next_keeps _ _ _ (keeps_both _ _ time_zone_keeps (λ _. done_keeps _))
    (if_next_keeps _ _ _ (keeps_both _ _ time_zone_keeps (λ _. done_keeps _)) (done_keeps _)))

sized_keeps : (kind : ColType) → Keeps (sized kind)
sized_keeps kind = keeps_both _ _ size_keeps (λ _. done_keeps _)

type_behind_keeps : (start : TypeStart) → Keeps (type_behind start)
unfolding type_behind
type_behind_keeps (Whole kind) = done_keeps _
type_behind_keeps (Element kind array) = if_next_keeps _ _ _ (keeps_both _ _ (sign_keeps RightBracket) (λ _. done_keeps array)) (done_keeps kind)
type_behind_keeps (Sized kind) = sized_keeps kind
type_behind_keeps Character = if_next_keeps _ _ _ (sized_keeps _) (sized_keeps _)
type_behind_keeps Decimal = keeps_both _ _ precision_keeps (λ _. done_keeps _)
type_behind_keeps Double = keeps_both _ _ (word_keeps _) (λ _. done_keeps _)
type_behind_keeps Time = time_keeps
type_behind_keeps Timestamp = timestamp_keeps

type_spelling_keeps : Keeps type_spelling
type_spelling_keeps = keeps_both _ _ (takes_keeps _ (token_as_takes _)) type_behind_keeps

whole_read : {A : Type 0} (begun : List TokenValue) (read : Read A) (value : A) (rest : List TokenValue) → halfway begun read ≡ Ok (value, rest) → read ≡ Ok (value, rest)
whole_read begun (Ok read) value rest e = e
whole_read begun (Err (NoToken, tokens)) value rest e = cc
whole_read begun (Err (Unexpected, tokens)) value rest e = cc
whole_read begun (Err (UnknownName, tokens)) value rest e = cc
whole_read begun (Err (UnknownType, tokens)) value rest e = cc
whole_read begun (Err (NotAllowed, tokens)) value rest e = cc
whole_read begun (Err (OutOfRange, tokens)) value rest e = cc
whole_read begun (Err (Repeated, tokens)) value rest e = cc

pub type_name_keeps : Keeps type_name
unfolding type_name
type_name_keeps = record {
  no_more = λ tokens value rest e. either tokens value rest (if_read (next_is begins_type tokens) _ _ value rest e);
  leaves = λ tokens value rest e each. leaving tokens value rest each (if_read (next_is begins_type tokens) _ _ value rest e);
}
  where
    leaving : (tokens : List TokenValue) (value : ColType) (rest : List TokenValue) → All CanBeQuoted tokens → (halfway tokens (type_spelling tokens) ≡ Ok (value, rest)) ⊎ (other_token tokens ≡ Ok (value, rest)) → All CanBeQuoted rest
    leaving tokens value rest each (inl e) = type_spelling_keeps.leaves tokens value rest (whole_read tokens (type_spelling tokens) value rest e) each
    leaving tokens value rest each (inr e) = cc

    either : (tokens : List TokenValue) (value : ColType) (rest : List TokenValue) → (halfway tokens (type_spelling tokens) ≡ Ok (value, rest)) ⊎ (other_token tokens ≡ Ok (value, rest)) → length rest ≤ length tokens
    either tokens value rest (inl e) = type_spelling_keeps.no_more tokens value rest (whole_read tokens (type_spelling tokens) value rest e)
    either tokens value rest (inr e) = cc

pub column_takes : (columns : List Column) → Takes (column columns)
unfolding column
column_takes columns =
    takes_first _ _ (meaning_takes _ _ name_takes) (λ _. keeps_both _ _ type_name_keeps (λ _.
    keeps_both _ _ (collation_keeps _) (λ _. keeps_both _ _ nullness_keeps (λ _. done_keeps _))))

pub option_takes : (method : Method) (settings : Settings) → Takes (option method settings)
unfolding option
option_takes method settings =
    takes_first _ _ (meaning_takes _ _ (token_as_takes _)) (λ _. keeps_both _ _ (sign_keeps Equal) (λ _.
    takes_keeps _ (meaning_takes _ _ (token_as_takes _))))

direction_keeps : (method : Method) → Keeps (direction method)
unfolding direction
direction_keeps method = clause_keeps _ _ _ _ (done_keeps _) (clause_keeps _ _ _ _ (done_keeps _) (done_keeps _))

nulls_order_keeps : (method : Method) (descending : Bool) → Keeps (nulls_order method descending)
unfolding nulls_order
nulls_order_keeps method descending =
    clause_keeps _ _ _ _ (if_next_keeps _ _ _ (done_keeps true) (keeps_both _ _ (word_keeps (codes "last")) (λ _. done_keeps false))) (done_keeps _)

pub key_takes : (table : Table) (method : Method) (keys : List KeyCol) → Takes (key table method keys)
unfolding key
key_takes table method keys =
    takes_first _ _ (meaning_takes _ _ name_takes) (λ _. keeps_both _ _ (collation_keeps _) (λ _.
    keeps_both _ _ (direction_keeps _) (λ _. keeps_both _ _ (nulls_order_keeps _ _) (λ _. done_keeps _))))

pub included_takes : (table : Table) (keys : ℕ) (columns : List ℕ) → Takes (included table keys columns)
unfolding included
included_takes table keys columns = takes_first _ _ (meaning_takes _ _ name_takes) (λ _. done_keeps _)

null_test_keeps : Keeps null_test
unfolding null_test
null_test_keeps =
    if_next_keeps _ _ _ (keeps_both _ _ (word_keeps (codes "null")) (λ _. done_keeps NotNull))
    (keeps_both _ _ (word_keeps (codes "null")) (λ _. done_keeps IsNull))

literal_keeps : (compared : Compared) (op : Op) → Keeps (literal compared op)
unfolding literal
literal_keeps compared op =
    clause_keeps _ _ _ _ (keeps_both _ _ number_keeps (λ number. done_keeps (Num op (neg_ℤ (pos number)))))
    (takes_keeps _ (meaning_takes _ _ (token_as_takes _)))

cast_keeps : Keeps cast
unfolding cast
cast_keeps = if_next_keeps _ _ _ (keeps_both _ _ type_name_keeps (λ _. done_keeps tt)) (done_keeps _)

comparison_keeps : (compared : Compared) → Keeps (comparison compared)
unfolding comparison
comparison_keeps compared =
    keeps_both _ _ (takes_keeps _ (meaning_takes _ _ (token_as_takes _))) (λ _. keeps_both _ _ (literal_keeps _ _) (λ _.
    keeps_both _ _ cast_keeps (λ _. done_keeps _)))

condition_takes : (table : Table) (conditions : List Cond) → Takes (condition table conditions)
unfolding condition
condition_takes table conditions =
    takes_first _ _ (meaning_takes _ _ name_takes) (λ column.
    keeps_both _ _ (if_next_keeps _ _ _ null_test_keeps (comparison_keeps _)) (λ _. done_keeps _))

if_next_takes : {A : Type 0} (test : TokenValue → Bool) (begun otherwise : Rule A) → Takes begun → Takes otherwise → Takes (if_next test begun otherwise)
if_next_takes {A} test begun otherwise first second = record {
  fewer = λ tokens value rest e. either tokens value rest (if_read (next_is test tokens) _ _ value rest e);
  leaves = λ tokens value rest e each. leaving tokens value rest each (if_read (next_is test tokens) _ _ value rest e);
}
  where
    leaving : (tokens : List TokenValue) (value : A) (rest : List TokenValue) → All CanBeQuoted tokens → (begun (drop 1 tokens) ≡ Ok (value, rest)) ⊎ (otherwise tokens ≡ Ok (value, rest)) → All CanBeQuoted rest
    leaving tokens value rest each (inl e) = first.leaves (drop 1 tokens) value rest e (behind_first tokens each)
    leaving tokens value rest each (inr e) = second.leaves tokens value rest e each

    either : (tokens : List TokenValue) (value : A) (rest : List TokenValue) → (begun (drop 1 tokens) ≡ Ok (value, rest)) ⊎ (otherwise tokens ≡ Ok (value, rest)) → length rest < length tokens
    either tokens value rest (inl e) = let n = first.fewer (drop 1 tokens) value rest e in let d = length-drop 1 tokens in omega (arith, n, d)
    either tokens value rest (inr e) = second.fewer tokens value rest e

listed_takes : {S : Type 0} (more : ℕ) (between : TokenValue → Bool) (item : S → Rule S) → ((s : S) → Takes (item s)) → (before : S) → Takes (listed more between item before)
listed_takes zero between item takes before = takes before
listed_takes (suc more) between item takes before =
    takes_first _ _ (takes before) (λ after. if_next_keeps _ _ _ (takes_keeps _ (listed_takes more between item takes after)) (done_keeps _))

separated_takes : {S : Type 0} (between : TokenValue → Bool) (item : S → Rule S) → ((s : S) → Takes (item s)) → (before : S) → Takes (separated between item before)
unfolding separated
separated_takes between item takes before = record {
  fewer = λ tokens. (listed_takes (length tokens) between item takes before).fewer tokens;
  leaves = λ tokens. (listed_takes (length tokens) between item takes before).leaves tokens;
}

pub item_takes : (depth : ℕ) (table : Table) (conditions : List Cond) → Takes (item depth table conditions)
item_takes zero table conditions = condition_takes table conditions
item_takes (suc depth) table conditions =
    if_next_takes _ _ _
    (takes_first _ _ (separated_takes _ _ (item_takes depth table) conditions) (λ conditions. keeps_both _ _ (sign_keeps RightParen) (λ _. done_keeps conditions)))
    (condition_takes table conditions)
