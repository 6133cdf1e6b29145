-- What the public calls answer.
use Rattle.std.specs.Prelude.{◌≡◌, ℕ, ⊤, length, Result, Ok, Err}
use Rattle.index_stmt.specs.declared.fault.ReadStmt.{ReadStmt}
use Rattle.index_stmt.specs.declared.fault.ReadStmt.TheVariants as read
use Rattle.index_stmt.specs.declared.fault.StmtCause.{StmtCause}
use Rattle.index_stmt.specs.declared.fault.StmtCause.TheVariants.{NoToken}
use Rattle.index_stmt.specs.declared.fault.StmtFault.{StmtFault}
use Rattle.index_stmt.specs.Cause.{number_of_cause}
use Rattle.index_stmt.specs.Faults.{most_bytes, place_before}
use Rattle.index_stmt.specs.Pass.{Ahead}

-- what a text comes to is answered: the value, or the fault, unless memory ran out
abbrev pub Answers : {A : Type 0} → Result A StmtFault → Result A ReadStmt → Type 0
Answers meant (Ok value) = meant ≡ Ok value
Answers meant (Err (read.Fault fault)) = meant ≡ Err fault
Answers meant (Err read.Memory) = ⊤

-- the fault at the next token
abbrev pub fault_at : ℕ → StmtCause → Ahead → ReadStmt
fault_at statement cause ahead =
    read.Fault (record {
      statement = statement;
      place = place_before ahead.text (length ahead.tokens);
      cause = number_of_cause cause;
    })

-- the fault of a statement of too many bytes
abbrev pub too_long : ℕ → ReadStmt
too_long statement = read.Fault (record { statement = statement; place = most_bytes; cause = number_of_cause NoToken })
