-- Tables that are printed are read again.
use Rattle.std.proofs.Common.{◌≡◌, ◌≢◌, ℕ, suc, ◌<◌, ◌≤◌, ◌+◌, Bool, true, false, cond, nat_lt, List, [], ◌∷◌, ◌++◌, map, length, get_or, Some, is_some, Ok, refl, sym, subst, arith, length-append}
use Rattle.std.proofs.Math.ListN.{get_or-append}
use Rattle.std.proofs.Math.Seq.{get_or-append_seam}
use Rattle.std.proofs.lemmas.Bool.Decides.{nat_tests}
use Rattle.std.proofs.lemmas.Slice.Eq.{bytes_eq-Decides}
use Rattle.std.specs.Str.{bytes_eq}
use Rattle.stmt_token.specs.declared.sign.Sign.TheVariants.{Comma, RightParen}
use Rattle.stmt_token.specs.Spelling.{printed}
use Rattle.stmt_token.specs.Tokens.{TokenValue, Sign, tokens_of}
use Rattle.stmt_token.proofs.Printed.{printed_read}
use Rattle.opclass.specs.declared.types.ColType.{ColType}
use Rattle.opclass.specs.declared.types.ColType.TheVariants as ty
use Rattle.opclass.specs.declared.table.Column.{Column}
use Rattle.opclass.specs.declared.table.Table.{Table}
use Rattle.index_stmt.specs.Columns.{collation, column_from, column_named}
use Rattle.index_stmt.specs.Faults.{table_of}
use Rattle.index_stmt.specs.Laws.{TablesArePrinted}
use Rattle.opclass.specs.Indexes.{IsTable}
use Rattle.index_stmt.specs.Names.{name, schema}
use Rattle.index_stmt.specs.Printer.{column_tokens, table_tokens, type_tokens, with_between}
use Rattle.index_stmt.specs.Rule.{is_sign, separated}
use Rattle.index_stmt.specs.TableStatement.{column, end_of_statement, nullness, table_statement}
use Rattle.index_stmt.specs.TypeNames.{precision, size, time, time_zone, timestamp, type_behind, type_name}
use Rattle.index_stmt.proofs.PrintedLists.{ReadsItems, items_read}
use Rattle.index_stmt.proofs.Spellable.{table_written}
use Rattle.index_stmt.proofs.Tables.{AreColumns}
use Rattle.index_stmt.proofs.Taking.{column_takes}
use Rattle.index_stmt.proofs.Texts.{short_enough}

-- what stands behind a column: `)` behind the last one, else a comma
abbrev behind_column : Bool → TokenValue
behind_column true = Sign RightParen
behind_column false = Sign Comma

record BehindColumn (rest : List TokenValue) : Type 0 where
  last : Bool
  more : List TokenValue
  is : rest ≡ behind_column last ∷ more

-- the one spelling of each type is read as the type
type_read : (kind : ColType) (last : Bool) (rest : List TokenValue)
    → type_name (type_tokens kind ++ behind_column last ∷ rest) ≡ Ok (kind, behind_column last ∷ rest)
unfolding precision size time time_zone timestamp type_behind type_name
type_read ty.Bool true rest = refl
type_read ty.Bool false rest = refl
type_read ty.Int2 true rest = refl
type_read ty.Int2 false rest = refl
type_read ty.Int4 true rest = refl
type_read ty.Int4 false rest = refl
type_read ty.Int8 true rest = refl
type_read ty.Int8 false rest = refl
type_read ty.Oid true rest = refl
type_read ty.Oid false rest = refl
type_read ty.Date true rest = refl
type_read ty.Date false rest = refl
type_read ty.Timestamp true rest = refl
type_read ty.Timestamp false rest = refl
type_read ty.Timestamptz true rest = refl
type_read ty.Timestamptz false rest = refl
type_read ty.Time true rest = refl
type_read ty.Time false rest = refl
type_read ty.Uuid true rest = refl
type_read ty.Uuid false rest = refl
type_read ty.Text true rest = refl
type_read ty.Text false rest = refl
type_read ty.Varchar true rest = refl
type_read ty.Varchar false rest = refl
type_read ty.Bytea true rest = refl
type_read ty.Bytea false rest = refl
type_read ty.Float4 true rest = refl
type_read ty.Float4 false rest = refl
type_read ty.Float8 true rest = refl
type_read ty.Float8 false rest = refl
type_read ty.Numeric true rest = refl
type_read ty.Numeric false rest = refl
type_read ty.Bpchar true rest = refl
type_read ty.Bpchar false rest = refl
type_read ty.Name true rest = refl
type_read ty.Name false rest = refl
type_read ty.Interval true rest = refl
type_read ty.Interval false rest = refl
type_read ty.Json true rest = refl
type_read ty.Json false rest = refl
type_read ty.Jsonb true rest = refl
type_read ty.Jsonb false rest = refl
type_read ty.Int4Array true rest = refl
type_read ty.Int4Array false rest = refl
type_read ty.Int8Array true rest = refl
type_read ty.Int8Array false rest = refl
type_read ty.TextArray true rest = refl
type_read ty.TextArray false rest = refl

-- a column that is new is read, where there is room for it
column_read : (columns : List Column) (new : Column) (last : Bool) (rest : List TokenValue)
    → is_some (column_named columns new.name) ≡ false → nat_lt (length columns) 1600 ≡ true
    → column columns (column_tokens new ++ (behind_column last ∷ rest)) ≡ Ok (columns ++ new ∷ [], behind_column last ∷ rest)
unfolding column name collation nullness
column_read columns new true rest fresh room = rw (fresh, room, type_read new.kind true rest) refl
column_read columns new false rest fresh room = rw (fresh, room, type_read new.kind false rest) refl

-- a name that is no column's isn't found
not_among : (number : ℕ) (columns : List Column) (wanted : List ℕ)
    → ((k : ℕ) (d : Column) → k < length columns → (get_or columns k d).name ≢ wanted)
    → is_some (column_from number columns wanted) ≡ false
not_among number [] wanted differ = refl
not_among number (first ∷ others) wanted differ =
    behind (bytes_eq first.name wanted) refl (not_among (number + 1) others wanted (λ k d inside. differ (suc k) d (omega arith)))
  where
    behind : (b : Bool) → bytes_eq first.name wanted ≡ b → is_some (column_from (number + 1) others wanted) ≡ false
        → is_some (cond b (Some (record { number = number; kind = first.kind })) (column_from (number + 1) others wanted)) ≡ false
    behind true same rest = absurd (differ 0 first (omega arith) ((bytes_eq-Decides first.name wanted).0 same))
    behind false same rest = rest

-- columns that stand before one of another name
fresh_behind : (before : List Column) (new : Column) (others : List Column) → AreColumns (before ++ new ∷ others)
    → (k : ℕ) (d : Column) → k < length before → (get_or before k d).name ≢ new.name
fresh_behind before new others are k d inside =
    let pair = are.differ k (length before) d inside (omega (arith, length-append before (new ∷ others))) in
    subst (λ column. column.name ≢ new.name) (get_or-append before (new ∷ others) d k inside)
    (subst (λ column. (get_or (before ++ new ∷ others) k d).name ≢ column.name) (get_or-append_seam before new others d) pair)

room_behind : (before : List Column) (new : Column) (others : List Column) → AreColumns (before ++ new ∷ others)
    → nat_lt (length before) 1600 ≡ true
room_behind before new others are =
    let longer = length-append before (new ∷ others) in
    let most = are.most in
    fits (length before) (omega (arith, longer, most))
  where
    fits : (n : ℕ) → n < 1600 → nat_lt n 1600 ≡ true
    fits n below = grind (arith, nat_tests)

-- columns are read one after another
reads_columns : ReadsItems column column_tokens AreColumns BehindColumn
reads_columns = record {
  takes = column_takes;
  item = λ before new others rest are behind.
      subst (λ rest. column before (column_tokens new ++ rest) ≡ Ok (before ++ new ∷ [], rest)) (sym behind.is)
      (column_read before new behind.last behind.more
      (not_among 1 before new.name (fresh_behind before new others are)) (room_behind before new others are));
}

columns_read : (first : Column) (others : List Column) → AreColumns (first ∷ others)
    → separated (is_sign Comma) column [] (with_between (Sign Comma) (map column_tokens (first ∷ others)) ++ (Sign RightParen ∷ []))
    ≡ Ok (first ∷ others, Sign RightParen ∷ [])
columns_read first others are =
    items_read column column_tokens AreColumns BehindColumn (is_sign Comma) (Sign Comma) (Sign RightParen ∷ []) reads_columns refl refl
    (λ rest. record { last = false; more = rest; is = refl }) (record { last = true; more = []; is = refl }) [] first others are

-- a table that is printed is read
with_columns : (called : List ℕ) (columns : List Column) → 0 < length columns → AreColumns columns
    → table_statement (table_tokens (record { name = called; columns = columns })) ≡ Ok (record { name = called; columns = columns }, [])
unfolding table_statement end_of_statement schema name
with_columns called [] some are = absurd (omega arith)
with_columns called (first ∷ others) some are = rw (columns_read first others are) refl

table_read : (table : Table) → IsTable table → table_statement (table_tokens table) ≡ Ok (table, [])
table_read table is = with_columns table.name table.columns is.some (record { most = is.most; differ = is.differ })

-- what a text's tokens are read as, the text is
text_read : (text : List ℕ) (tokens : List TokenValue) (table : Table) → length text ≤ 65536 → tokens_of text ≡ tokens
    → table_statement tokens ≡ Ok (table, []) → table_of text ≡ Ok table
text_read text tokens table short same read = rw (short_enough text short, same, read) refl

pub tables_printed : TablesArePrinted
tables_printed table is named short =
    text_read (printed (table_tokens table)) (table_tokens table) table short
    (printed_read (table_tokens table) (table_written table named)) (table_read table is)
