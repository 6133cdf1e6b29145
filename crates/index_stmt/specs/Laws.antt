-- What holds of the two statements, whatever the texts are.
use Rattle.std.specs.Prelude.{◌≡◌, ◌⊎◌, ℕ, ◌≤◌, List, length, Result, Ok, Err}
use Rattle.stmt_token.specs.Spelling.{printed}
use Rattle.stmt_token.specs.Tokens.{tokens_of}
use Rattle.opclass.specs.declared.spec.IndexSpec.{IndexSpec}
use Rattle.opclass.specs.declared.table.Table.{Table}
use Rattle.index_stmt.specs.declared.fault.StmtCause.{StmtCause}
use Rattle.index_stmt.specs.declared.fault.StmtFault.{StmtFault}
use Rattle.index_stmt.specs.Cause.{number_of_cause}
use Rattle.index_stmt.specs.Faults.{index_of, place_before, statement_of, table_of}
use Rattle.index_stmt.specs.IndexPrinter.{index_tokens}
use Rattle.opclass.specs.Indexes.{IsIndexOver, IsTable}
use Rattle.index_stmt.specs.Named.{HasNames, IsNamed}
use Rattle.index_stmt.specs.Printer.{table_tokens}
use Rattle.index_stmt.specs.Rule.{Rule}

-- what a text comes to
pub record Comes {A : Type 0} (read : List ℕ → Result A StmtFault) : Type 0 where
  -- each text has a value or a fault
  pub some : (text : List ℕ) → ((value : A) × (read text ≡ Ok value)) ⊎ ((fault : StmtFault) × (read text ≡ Err fault))
  -- and not both
  pub either : (text : List ℕ) (value : A) (fault : StmtFault) → read text ≡ Ok value → read text ≡ Err fault → ⊥
  -- and one alone
  pub value : (text : List ℕ) (a b : A) → read text ≡ Ok a → read text ≡ Ok b → a ≡ b
  pub fault : (text : List ℕ) (a b : StmtFault) → read text ≡ Err a → read text ≡ Err b → a ≡ b

-- what two texts of the same tokens come to: the same value, or faults of the same cause before equally many tokens
abbrev pub Alike : {A : Type 0} → ℕ → List ℕ → List ℕ → Result A StmtFault → Result A StmtFault → Type 0
Alike statement one other (Ok a) (Ok b) = a ≡ b
Alike statement one other (Err a) (Err b) =
    (cause : StmtCause) × (left : ℕ)
    × (a ≡ record { statement = statement; place = place_before one left; cause = number_of_cause cause })
    × (b ≡ record { statement = statement; place = place_before other left; cause = number_of_cause cause })
Alike statement one other a b = ⊥

-- only the tokens of a text count
abbrev pub OnlyTokensCount : {A : Type 0} → ℕ → Rule A → Type 0
OnlyTokensCount {A} statement rule =
    (one other : List ℕ) → length one ≤ 65536 → length other ≤ 65536 → tokens_of one ≡ tokens_of other
    → Alike statement one other (statement_of statement rule one) (statement_of statement rule other)

-- a table whose names can be quoted, printed and read, is the table
abbrev pub TablesArePrinted : Type 0
TablesArePrinted =
    (table : Table) → IsTable table → HasNames table → length (printed (table_tokens table)) ≤ 65536
    → table_of (printed (table_tokens table)) ≡ Ok table

-- an index over a table, printed and read, is the index, where the names of both can be quoted
abbrev pub IndexesArePrinted : Type 0
IndexesArePrinted =
    (table : Table) (spec : IndexSpec) → IsTable table → HasNames table → IsIndexOver table spec → IsNamed spec
    → length (printed (index_tokens table spec)) ≤ 65536
    → index_of table (printed (index_tokens table spec)) ≡ Ok spec
