-- The names that statements give can be quoted.
use Rattle.std.proofs.Common.{◌≡◌, ℕ, Bool, true, false, cond, List, [], ◌∷◌, length, drop, Some, None, is_some, Ok, subst, inl, inr, ◌⊎◌, arith, nat_lt, All, codes}
use Rattle.std.specs.Option.{option_map_or}
use Rattle.std.proofs.lemmas.List.Elements.{All-drop, All-nil, All-push}
use Rattle.stmt_token.specs.declared.sign.Sign.TheVariants.{Comma, Dot, LeftParen, RightParen}
use Rattle.stmt_token.specs.Spelling.{CanBeQuoted, IsQuotable}
use Rattle.stmt_token.specs.Tokens.{TokenValue, Bad, Number, Quoted, Sign, Text, Word}
use Rattle.opclass.specs.declared.spec.IndexSpec.{IndexSpec}
use Rattle.opclass.specs.declared.table.Column.{Column}
use Rattle.opclass.specs.declared.table.Table.{Table}
use Rattle.index_stmt.specs.declared.index_statement.Head.{Head}
use Rattle.index_stmt.specs.Columns.{collation, column_named}
use Rattle.index_stmt.specs.Conditions.{filter_rule}
use Rattle.index_stmt.specs.IndexStatement.{distinctness, includes, index_head, index_statement, key_list, method_rule, this_table, uniqueness}
use Rattle.index_stmt.specs.Named.{HasNames, IsNamed}
use Rattle.index_stmt.specs.Names.{is_name, is_reserved, name, qualified, schema}
use Rattle.index_stmt.specs.Options.{options}
use Rattle.index_stmt.specs.Rule.{done, expected, is_sign, meaning, next_is, other_token, separated, sign, word}
use Rattle.index_stmt.specs.TableStatement.{column, end_of_statement, new_name, nullness, table_statement}
use Rattle.index_stmt.specs.TypeNames.{type_name}
use Rattle.index_stmt.proofs.Lists.{Keeps, Leaves, both_read}
use Rattle.index_stmt.proofs.Tables.{let_through, same_value, separated_named}
use Rattle.index_stmt.proofs.Taking.{column_takes, done_keeps, expected_takes, if_next_keeps, if_read, left, name_takes, sign_keeps, word_keeps}

-- a name that is read can be quoted
name_is : (tokens : List TokenValue) (called : List ℕ) (rest : List TokenValue) → All CanBeQuoted tokens → name tokens ≡ Ok (called, rest) → IsQuotable called
unfolding name
name_is [] called rest each e = cc
name_is (Word bytes ∷ tokens) called rest each e = which (is_reserved bytes) e
  where
    which : (b : Bool) → option_map_or (λ found. Ok (found, tokens)) (cond b None (Some bytes)) (other_token (Word bytes ∷ tokens)) ≡ Ok (called, rest)
        → IsQuotable called
    which true e = cc
    which false e = subst IsQuotable (same_value bytes called tokens rest e) (each 0 Bad (omega arith))
name_is (Quoted bytes ∷ tokens) called rest each e = subst IsQuotable (same_value bytes called tokens rest e) (each 0 Bad (omega arith))
name_is (Number n ∷ tokens) called rest each e = cc
name_is (Text bytes ∷ tokens) called rest each e = cc
name_is (Sign s ∷ tokens) called rest each e = cc
name_is (Bad ∷ tokens) called rest each e = cc

name_leaves : (tokens : List TokenValue) (called : List ℕ) (rest : List TokenValue) → name tokens ≡ Ok (called, rest) → All CanBeQuoted tokens → All CanBeQuoted rest
name_leaves tokens called rest e each = name_takes.leaves tokens called rest e each

-- a schema that is passed over
schema_leaves : Leaves schema
unfolding schema
schema_leaves tokens value rest e each =
    let a = both_read (expected is_name tokens) _ value rest e in
    which a.1 ((expected_takes is_name).leaves tokens a.0 a.1 a.2 each) (if_read (next_is (is_sign Dot) a.1) _ _ value rest a.3)
  where
    which : (behind : List TokenValue) → All CanBeQuoted behind → (done tt (drop 1 behind) ≡ Ok (value, rest)) ⊎ (done tt tokens ≡ Ok (value, rest)) → All CanBeQuoted rest
    which behind others (inl e) = left tt value (drop 1 behind) rest e (All-drop CanBeQuoted 1 behind others)
    which behind others (inr e) = left tt value tokens rest e each

-- the columns so far have names that can be quoted
abbrev AreNamed : List Column → Type 0
AreNamed columns = All (λ column. IsQuotable column.name) columns

column_names : (columns : List Column) (tokens : List TokenValue) (after : List Column) (rest : List TokenValue) → AreNamed columns
    → All CanBeQuoted tokens → column columns tokens ≡ Ok (after, rest) → AreNamed after
unfolding column
column_names columns tokens after rest are each e =
    let named = both_read (meaning name (new_name columns) tokens) _ after rest e in
    let typed = both_read (type_name named.1) _ after rest named.3 in
    let collated = both_read (collation typed.0 typed.1) _ after rest typed.3 in
    let nulls = both_read (nullness collated.1) _ after rest collated.3 in
    let read = both_read (name tokens) _ named.0 named.1 named.2 in
    let new = let_through (is_some (column_named columns read.0)) (nat_lt (length columns) 1600) read.0 named.0 tokens read.1 named.1 read.3 in
    let one : Column = record { name = named.0; kind = typed.0 } in
    subst AreNamed (same_value _ after nulls.1 rest nulls.3)
    (All-push (λ (column : Column). IsQuotable column.name) columns one are (subst IsQuotable new.2 (name_is tokens read.0 read.1 each read.2)))

-- the statement of a table
pub table_named : (tokens : List TokenValue) (table : Table) (rest : List TokenValue) → All CanBeQuoted tokens
    → table_statement tokens ≡ Ok (table, rest) → HasNames table
unfolding table_statement
table_named tokens table rest each e =
    let a = both_read (word (codes "create") tokens) _ table rest e in
    let b = both_read (word (codes "table") a.1) _ table rest a.3 in
    let c = both_read (qualified name b.1) _ table rest b.3 in
    let d = both_read (sign LeftParen c.1) _ table rest c.3 in
    let f = both_read (separated (is_sign Comma) column [] d.1) _ table rest d.3 in
    let g = both_read (sign RightParen f.1) _ table rest f.3 in
    let h = both_read (end_of_statement g.1) _ table rest g.3 in
    let front = (word_keeps (codes "create")).leaves tokens a.0 a.1 a.2 each in
    let behind = (word_keeps (codes "table")).leaves a.1 b.0 b.1 b.2 front in
    let own = both_read (schema b.1) _ c.0 c.1 c.2 in
    let named = schema_leaves b.1 own.0 own.1 own.2 behind in
    let inside = (sign_keeps LeftParen).leaves c.1 d.0 d.1 d.2 (name_leaves own.1 c.0 c.1 own.3 named) in
    subst HasNames (same_value _ table h.1 rest h.3) (record {
      own = name_is own.1 c.0 c.1 named own.3;
      columns = separated_named AreNamed (is_sign Comma) column column_takes column_names [] d.1 f.0 f.1 (All-nil _) inside f.2;
    })

-- the statement of an index
uniqueness_keeps : Keeps uniqueness
unfolding uniqueness
uniqueness_keeps = if_next_keeps _ _ _ (done_keeps true) (done_keeps false)

head_named : (table : Table) (tokens : List TokenValue) (head : Head) (rest : List TokenValue) → All CanBeQuoted tokens
    → index_head table tokens ≡ Ok (head, rest) → IsQuotable head.name
unfolding index_head
head_named table tokens head rest each e =
    let a = both_read (word (codes "create") tokens) _ head rest e in
    let b = both_read (uniqueness a.1) _ head rest a.3 in
    let c = both_read (word (codes "index") b.1) _ head rest b.3 in
    let d = both_read (name c.1) _ head rest c.3 in
    let f = both_read (word (codes "on") d.1) _ head rest d.3 in
    let g = both_read (qualified (meaning name (this_table table)) f.1) _ head rest f.3 in
    let h = both_read (method_rule b.0 g.1) _ head rest g.3 in
    let first = (word_keeps (codes "create")).leaves tokens a.0 a.1 a.2 each in
    let second = uniqueness_keeps.leaves a.1 b.0 b.1 b.2 first in
    let third = (word_keeps (codes "index")).leaves b.1 c.0 c.1 c.2 second in
    subst (λ (head : Head). IsQuotable head.name) (same_value _ head h.1 rest h.3) (name_is c.1 d.0 d.1 third d.2)

pub index_named : (table : Table) (tokens : List TokenValue) (spec : IndexSpec) (rest : List TokenValue) → All CanBeQuoted tokens
    → index_statement table tokens ≡ Ok (spec, rest) → IsNamed spec
unfolding index_statement
index_named table tokens spec rest each e =
    let a = both_read (index_head table tokens) _ spec rest e in
    let b = both_read (key_list table a.0.method a.1) _ spec rest a.3 in
    let c = both_read (includes table a.0.method (length b.0) b.1) _ spec rest b.3 in
    let d = both_read (distinctness a.0.unique c.1) _ spec rest c.3 in
    let f = both_read (options a.0.method d.1) _ spec rest d.3 in
    let g = both_read (filter_rule table f.1) _ spec rest f.3 in
    let h = both_read (end_of_statement g.1) _ spec rest g.3 in
    subst IsNamed (same_value _ spec h.1 rest h.3) (record { own = head_named table tokens a.0 a.1 each a.2 })
