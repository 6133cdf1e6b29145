-- What a text comes to: what the statement means, or the first fault in reading order.
use Rattle.std.specs.Prelude.{ℕ, ◌-◌, nat_lt, if◌then◌else◌, List, length, drop, Result, Ok, Err}
use Rattle.stmt_token.specs.Reading.{next_place}
use Rattle.stmt_token.specs.Tokens.{lexemes_of, tokens_of}
use Rattle.opclass.specs.declared.table.Table.{Table}
use Rattle.opclass.specs.declared.spec.IndexSpec.{IndexSpec}
use Rattle.index_stmt.specs.declared.fault.StmtCause.TheVariants.{NoToken}
use Rattle.index_stmt.specs.declared.fault.StmtFault.{StmtFault}
use Rattle.index_stmt.specs.Cause.{number_of_cause}
use Rattle.index_stmt.specs.Rule.{Read, Rule}
use Rattle.index_stmt.specs.TableStatement.{table_statement}
use Rattle.index_stmt.specs.IndexStatement.{index_statement}

-- the most bytes of a statement
abbrev pub most_bytes : ℕ
most_bytes = 65536

-- the place of the token at which so many tokens are left of a text, or of the text's end
abbrev pub place_before : List ℕ → ℕ → ℕ
place_before text left = next_place (drop (length (lexemes_of text) - left) (lexemes_of text)) (length text)

-- what a rule makes of a text's tokens, with the fault's statement, place and cause
abbrev pub told : {A : Type 0} → ℕ → List ℕ → Read A → Result A StmtFault
told statement text (Ok read) = Ok read.0
told statement text (Err fault) =
    Err (record {
      statement = statement;
      place = place_before text (length fault.1);
      cause = number_of_cause fault.0;
    })

-- a statement of too many bytes is refused before all else
abbrev pub statement_of : {A : Type 0} → ℕ → Rule A → List ℕ → Result A StmtFault
statement_of statement rule text =
    if nat_lt most_bytes (length text)
    then Err (record { statement = statement; place = most_bytes; cause = number_of_cause NoToken })
    else told statement text (rule (tokens_of text))

-- the table that a text describes
abbrev pub table_of : List ℕ → Result Table StmtFault
table_of text = statement_of 1 table_statement text

-- the index over a table that a text describes
abbrev pub index_of : Table → List ℕ → Result IndexSpec StmtFault
index_of table text = statement_of 2 (index_statement table) text
