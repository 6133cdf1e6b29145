-- Which conditions the statement of an index describes.
use Rattle.std.proofs.Common.{◌≡◌, ℕ, zero, suc, ◌<◌, ◌-◌, Bool, true, false, cond, nat_lt, List, [], ◌∷◌, drop, Option, Some, None, Ok, Err, slice_get, refl, sym, subst, inl, inr, ◌⊎◌, arith, All, codes, neg_ℤ, pos, ◌^◌}
use Rattle.std.specs.Option.{option_map_or, option_map}
use Rattle.std.proofs.lemmas.Bool.Decides.{nat_tests}
use Rattle.std.proofs.lemmas.List.Elements.{All-nil, All-push}
use Rattle.std.specs.Str.{bytes_eq}
use Rattle.stmt_token.specs.declared.sign.Sign.TheVariants.{LeftParen, RightParen}
use Rattle.stmt_token.specs.Tokens.{TokenValue, Bad, Number, Quoted, Sign, Text, Word}
use Rattle.opclass.specs.declared.types.ColType.{ColType}
use Rattle.opclass.specs.declared.types.Compared.{Compared}
use Rattle.opclass.specs.declared.types.Compared.TheVariants.{Never, WithNumber, WithText, WithTruth}
use Rattle.opclass.specs.declared.filter.Op.{Op}
use Rattle.opclass.specs.declared.filter.Op.TheVariants.{Eq, Ne, Lt, Le, Gt, Ge}
use Rattle.opclass.specs.declared.filter.Test.{Test}
use Rattle.opclass.specs.declared.filter.Test.TheVariants.{IsNull, NotNull, Num, Raw}
use Rattle.opclass.specs.declared.filter.Cond.{Cond}
use Rattle.opclass.specs.declared.table.Table.{Table}
use Rattle.opclass.specs.Types.{facts_of}
use Rattle.index_stmt.specs.declared.columns.Found.{Found}
use Rattle.index_stmt.specs.declared.fault.StmtCause.TheVariants.{NotAllowed, UnknownName}
use Rattle.index_stmt.specs.Columns.{column_named, known_column}
use Rattle.index_stmt.specs.Conditions.{Literal, OfNumber, OfText, OfTruth, cast, comparison, condition, conjunction, filter_rule, item, known_operator, literal, literal_in, null_test, operator_in, takes_numbers, test_rule, test_with, truth_number}
use Rattle.opclass.specs.Indexes.{number_digits, IsConditionOn, IsTestOf, IsNumber, IsTruth}
use Rattle.index_stmt.specs.Names.{name}
use Rattle.index_stmt.specs.Rule.{Rule, ◌>>=◌, done, is_sign, is_word, judged, meaning, next_is, refused, separated, sign, token_as, word, other_token}
use Rattle.index_stmt.specs.TypeNames.{number}
use Rattle.index_stmt.proofs.Lists.{both_read}
use Rattle.index_stmt.proofs.Tables.{same_value, separated_leads}
use Rattle.index_stmt.proofs.Taking.{if_read}
use Rattle.std.specs.Prelude.{⊤}
use Rattle.index_stmt.proofs.Found.{Stands, found_stands, let_through, meant_of}

-- a number that a literal is has at most 18 digits
abbrev IsSmall : Literal → Type 0
IsSmall (OfNumber n) = n < 10 ^ number_digits
IsSmall (OfText bytes) = ⊤
IsSmall (OfTruth truth) = ⊤

small : (n : ℕ) → nat_lt n (10 ^ 18) ≡ true → n < 10 ^ 18
small n e = grind (arith, nat_tests)

literal_small : (tokens : List TokenValue) (of : Literal) (rest : List TokenValue) → token_as literal_in tokens ≡ Ok (of, rest) → IsSmall of
literal_small [] of rest e = cc
literal_small (Number n ∷ tokens) of rest e = which (nat_lt n (10 ^ 18)) refl e
  where
    which : (b : Bool) → nat_lt n (10 ^ 18) ≡ b
        → option_map_or (λ found. Ok (found, tokens)) (option_map OfNumber (cond b (Some n) None)) (other_token (Number n ∷ tokens)) ≡ Ok (of, rest)
        → IsSmall of
    which true is e = subst IsSmall (same_value (OfNumber n) of tokens rest e) (small n is)
    which false is e = cc
literal_small (Text bytes ∷ tokens) of rest e = subst IsSmall (same_value (OfText bytes) of tokens rest e) tt
literal_small (Word bytes ∷ tokens) of rest e = which (bytes_eq bytes (codes "true")) (bytes_eq bytes (codes "false")) e
  where
    which : (a b : Bool)
        → option_map_or (λ found. Ok (found, tokens)) (cond a (Some (OfTruth true)) (cond b (Some (OfTruth false)) None)) (other_token (Word bytes ∷ tokens)) ≡ Ok (of, rest)
        → IsSmall of
    which true b e = subst IsSmall (same_value (OfTruth true) of tokens rest e) tt
    which false true e = subst IsSmall (same_value (OfTruth false) of tokens rest e) tt
    which false false e = cc
literal_small (Quoted bytes ∷ tokens) of rest e = cc
literal_small (Sign s ∷ tokens) of rest e = cc
literal_small (Bad ∷ tokens) of rest e = cc

number_small : (tokens : List TokenValue) (n : ℕ) (rest : List TokenValue) → number tokens ≡ Ok (n, rest) → n < 10 ^ 18
number_small [] n rest e = cc
number_small (Number m ∷ tokens) n rest e = which (nat_lt m (10 ^ 18)) refl e
  where
    which : (b : Bool) → nat_lt m (10 ^ 18) ≡ b
        → option_map_or (λ found. Ok (found, tokens)) (cond b (Some m) None) (other_token (Number m ∷ tokens)) ≡ Ok (n, rest)
        → n < 10 ^ 18
    which true is e = subst (λ n. n < 10 ^ 18) (same_value m n tokens rest e) (small m is)
    which false is e = cc
number_small (Text bytes ∷ tokens) n rest e = cc
number_small (Word bytes ∷ tokens) n rest e = cc
number_small (Quoted bytes ∷ tokens) n rest e = cc
number_small (Sign s ∷ tokens) n rest e = cc
number_small (Bad ∷ tokens) n rest e = cc

is_truth : (truth : Bool) → IsTruth (truth_number truth)
is_truth true = inr refl
is_truth false = inl refl

-- a comparison is with what the type is compared with
test_with_is : (compared : Compared) (op : Op) (of : Literal) (test : Test) → known_operator compared op ≡ Ok op → IsSmall of
    → test_with compared op of ≡ Ok test → IsTestOf compared test
test_with_is WithNumber op (OfNumber n) test known few e = let same : Num op (pos n) ≡ test = cc in subst (IsTestOf WithNumber) same few
test_with_is WithText op (OfText bytes) test known few e = let same : Raw op bytes ≡ test = cc in subst (IsTestOf WithText) same tt
test_with_is WithTruth Eq (OfTruth truth) test known few e =
    let same : Num Eq (truth_number truth) ≡ test = cc in subst (IsTestOf WithTruth) same (is_truth truth)
test_with_is WithTruth Ne (OfTruth truth) test known few e =
    let same : Num Ne (truth_number truth) ≡ test = cc in subst (IsTestOf WithTruth) same (is_truth truth)
test_with_is WithTruth Lt (OfTruth truth) test known few e = cc
test_with_is WithTruth Le (OfTruth truth) test known few e = cc
test_with_is WithTruth Gt (OfTruth truth) test known few e = cc
test_with_is WithTruth Ge (OfTruth truth) test known few e = cc
test_with_is Never op of test known few e = cc
test_with_is WithNumber op (OfText bytes) test known few e = cc
test_with_is WithNumber op (OfTruth truth) test known few e = cc
test_with_is WithText op (OfNumber n) test known few e = cc
test_with_is WithText op (OfTruth truth) test known few e = cc
test_with_is WithTruth op (OfNumber n) test known few e = cc
test_with_is WithTruth op (OfText bytes) test known few e = cc

-- an operator that is let through is let through again
known_is : (compared : Compared) (op known : Op) → known_operator compared op ≡ Ok known → known_operator compared known ≡ Ok known
known_is Never op known e = cc
known_is WithNumber op known e = refl
known_is WithText op known e = refl
known_is WithTruth Eq known e = let same : Eq ≡ known = cc in subst (λ op. known_operator WithTruth op ≡ Ok op) same refl
known_is WithTruth Ne known e = let same : Ne ≡ known = cc in subst (λ op. known_operator WithTruth op ≡ Ok op) same refl
known_is WithTruth Lt known e = cc
known_is WithTruth Le known e = cc
known_is WithTruth Gt known e = cc
known_is WithTruth Ge known e = cc

abbrev negative : Op → Rule Test
negative op = number >>= λ number. done (Num op (neg_ℤ (pos number)))

negated : (n : ℕ) → n < 10 ^ 18 → IsNumber (neg_ℤ (pos n))
negated zero few = few
negated (suc n) few = few

-- a literal with `-` is compared with numbers
negative_is : (compared : Compared) (op : Op) (tokens : List TokenValue) (test : Test) (rest : List TokenValue) → takes_numbers compared ≡ true
    → negative op tokens ≡ Ok (test, rest) → IsTestOf compared test
negative_is WithNumber op tokens test rest takes e =
    let a = both_read (number tokens) _ test rest e in
    subst (IsTestOf WithNumber) (same_value _ test a.1 rest a.3) (negated a.0 (number_small tokens a.0 a.1 a.2))
negative_is Never op tokens test rest takes e = cc
negative_is WithTruth op tokens test rest takes e = cc
negative_is WithText op tokens test rest takes e = cc

literal_is : (compared : Compared) (op : Op) (tokens : List TokenValue) (test : Test) (rest : List TokenValue) → known_operator compared op ≡ Ok op
    → literal compared op tokens ≡ Ok (test, rest) → IsTestOf compared test
unfolding literal
literal_is compared op tokens test rest known e = which (next_is _ tokens) (takes_numbers compared) refl e
  where
    plain : meaning (token_as literal_in) (test_with compared op) tokens ≡ Ok (test, rest) → IsTestOf compared test
    plain e =
        let both = both_read (token_as literal_in tokens) (λ read. judged (test_with compared op read) tokens) test rest e in
        test_with_is compared op both.0 test known (literal_small tokens both.0 both.1 both.2)
        (let_through (test_with compared op both.0) tokens both.1 rest test both.3)

    which : (b allowed : Bool) → takes_numbers compared ≡ allowed
        → cond b (cond allowed (negative op (drop 1 tokens)) (refused NotAllowed tokens)) (meaning (token_as literal_in) (test_with compared op) tokens) ≡ Ok (test, rest)
        → IsTestOf compared test
    which true true takes e = negative_is compared op (drop 1 tokens) test rest takes e
    which true false takes e = cc
    which false allowed takes e = plain e

comparison_is : (compared : Compared) (tokens : List TokenValue) (test : Test) (rest : List TokenValue)
    → comparison compared tokens ≡ Ok (test, rest) → IsTestOf compared test
unfolding comparison
comparison_is compared tokens test rest e =
    let a = both_read (meaning (token_as operator_in) (known_operator compared) tokens) _ test rest e in
    let b = both_read (literal compared a.0 a.1) _ test rest a.3 in
    let c = both_read (cast b.1) _ test rest b.3 in
    let meant = meant_of (token_as operator_in) (known_operator compared) tokens a.1 a.0 a.2 in
    subst (IsTestOf compared) (same_value _ test c.1 rest c.3)
    (literal_is compared a.0 a.1 b.0 b.1 (known_is compared meant.0 a.0 meant.1) b.2)

null_test_is : (compared : Compared) (tokens : List TokenValue) (test : Test) (rest : List TokenValue)
    → null_test tokens ≡ Ok (test, rest) → IsTestOf compared test
unfolding null_test
null_test_is compared tokens test rest e = which (if_read (next_is (is_word (codes "not")) tokens) _ _ test rest e)
  where
    which : ((word (codes "null") >>= λ _. done NotNull) (drop 1 tokens) ≡ Ok (test, rest)) ⊎ ((word (codes "null") >>= λ _. done IsNull) tokens ≡ Ok (test, rest))
        → IsTestOf compared test
    which (inl e) =
        let a = both_read (word (codes "null") (drop 1 tokens)) _ test rest e in
        subst (IsTestOf compared) (same_value NotNull test a.1 rest a.3) tt
    which (inr e) =
        let a = both_read (word (codes "null") tokens) _ test rest e in
        subst (IsTestOf compared) (same_value IsNull test a.1 rest a.3) tt

test_is : (kind : ColType) (tokens : List TokenValue) (test : Test) (rest : List TokenValue)
    → test_rule kind tokens ≡ Ok (test, rest) → IsTestOf (facts_of kind).compared test
test_is kind tokens test rest e = which (if_read (next_is (is_word (codes "is")) tokens) _ _ test rest e)
  where
    which : (null_test (drop 1 tokens) ≡ Ok (test, rest)) ⊎ (comparison (facts_of kind).compared tokens ≡ Ok (test, rest))
        → IsTestOf (facts_of kind).compared test
    which (inl e) = null_test_is (facts_of kind).compared (drop 1 tokens) test rest e
    which (inr e) = comparison_is (facts_of kind).compared tokens test rest e

known_column_is : (table : Table) (called : List ℕ) (found : Found) → known_column table called ≡ Ok found → Stands table.columns 1 found
known_column_is table called found e = which (column_named table.columns called) refl e
  where
    which : (o : Option Found) → column_named table.columns called ≡ o → option_map_or Ok o (Err UnknownName) ≡ Ok found → Stands table.columns 1 found
    which None is e = cc
    which (Some one) is e =
        let same : one ≡ found = cc in
        subst (Stands table.columns 1) same (found_stands 1 table.columns called one is)

stands_condition : (table : Table) (found : Found) (test : Test) → Stands table.columns 1 found → IsTestOf (facts_of found.kind).compared test
    → IsConditionOn table (record { column = found.number; test = test })
stands_condition table found test stands fits =
    let n = stands.number_is in
    record {
      column = stands.column;
      above = omega (arith, n);
      found = subst (λ place. slice_get table.columns place ≡ Some stands.column) (let e : stands.place ≡ found.number - 1 = omega (arith, n) in e) stands.at;
      fits = subst (λ kind. IsTestOf (facts_of kind).compared test) (sym stands.kind) fits;
    }

condition_leads : (table : Table) (conditions : List Cond) (tokens : List TokenValue) (after : List Cond) (rest : List TokenValue)
    → All (IsConditionOn table) conditions → condition table conditions tokens ≡ Ok (after, rest) → All (IsConditionOn table) after
unfolding condition
condition_leads table conditions tokens after rest are e =
    let a = both_read (meaning name (known_column table) tokens) _ after rest e in
    let b = both_read (test_rule a.0.kind a.1) _ after rest a.3 in
    let meant = meant_of name (known_column table) tokens a.1 a.0 a.2 in
    let one : Cond = record { column = a.0.number; test = b.0 } in
    subst (λ conditions. All (IsConditionOn table) conditions) (same_value _ after b.1 rest b.3)
    (All-push (IsConditionOn table) conditions one are
    (stands_condition table a.0 b.0 (known_column_is table meant.0 a.0 meant.1) (test_is a.0.kind a.1 b.0 b.1 b.2)))

-- an item in parentheses
abbrev enclosed : ℕ → Table → List Cond → Rule (List Cond)
enclosed depth table conditions =
    separated (is_word (codes "and")) (item depth table) conditions >>= λ conditions. (sign RightParen >>= λ _. done conditions)

item_leads : (depth : ℕ) (table : Table) (conditions : List Cond) (tokens : List TokenValue) (after : List Cond) (rest : List TokenValue)
    → All (IsConditionOn table) conditions → item depth table conditions tokens ≡ Ok (after, rest) → All (IsConditionOn table) after
item_leads zero table conditions tokens after rest are e = condition_leads table conditions tokens after rest are e
item_leads (suc depth) table conditions tokens after rest are e =
    which (item_leads depth table) (if_read (next_is (is_sign LeftParen) tokens) _ _ after rest e)
  where
    which : ((s : List Cond) (tokens : List TokenValue) (after : List Cond) (rest : List TokenValue) → All (IsConditionOn table) s → item depth table s tokens ≡ Ok (after, rest) → All (IsConditionOn table) after)
        → (enclosed depth table conditions (drop 1 tokens) ≡ Ok (after, rest)) ⊎ (condition table conditions tokens ≡ Ok (after, rest)) → All (IsConditionOn table) after
    which leads (inl e) =
        let a = both_read (separated (is_word (codes "and")) (item depth table) conditions (drop 1 tokens)) _ after rest e in
        let b = both_read (sign RightParen a.1) _ after rest a.3 in
        subst (λ conditions. All (IsConditionOn table) conditions) (same_value a.0 after b.1 rest b.3)
        (separated_leads (λ s. All (IsConditionOn table) s) (λ s. All (IsConditionOn table) s) (is_word (codes "and")) (item depth table)
        leads (λ s is. is) conditions (drop 1 tokens) a.0 a.1 are a.2)
    which leads (inr e) = condition_leads table conditions tokens after rest are e

pub filter_is : (table : Table) (tokens : List TokenValue) (conditions : List Cond) (rest : List TokenValue)
    → filter_rule table tokens ≡ Ok (conditions, rest) → All (IsConditionOn table) conditions
unfolding filter_rule conjunction
filter_is table tokens conditions rest e = which (if_read (next_is (is_word (codes "where")) tokens) _ _ conditions rest e)
  where
    which : (separated (is_word (codes "and")) (item 16 table) [] (drop 1 tokens) ≡ Ok (conditions, rest)) ⊎ (done [] tokens ≡ Ok (conditions, rest)) → All (IsConditionOn table) conditions
    which (inl e) =
        separated_leads (λ s. All (IsConditionOn table) s) (λ s. All (IsConditionOn table) s) (is_word (codes "and")) (item 16 table)
        (item_leads 16 table) (λ s is. is) [] (drop 1 tokens) conditions rest (All-nil _) e
    which (inr e) = subst (λ s. All (IsConditionOn table) s) (same_value [] conditions tokens rest e) (All-nil _)
