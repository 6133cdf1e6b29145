-- The two statements of a build, as its words give them.
use Rattle.std.specs.Prelude.{ℕ, List, Result, Ok, Err}
use Rattle.opclass.specs.declared.table.Table.{Table}
use Rattle.index_stmt.specs.declared.fault.StmtFault.{StmtFault}
use Rattle.index_stmt.specs.Faults.{index_of, table_of}
use Rattle.pg_index.specs.Words.{index_text, table_text}
use Rattle.pg_index.specs.declared.statements.Asked.{Asked}

-- the index that a text describes over a table
abbrev pub asked_over : Table → List ℕ → Result Asked StmtFault
asked_over table text = elim (index_of table text) [
  | Ok spec ↦ Ok (record { table = table; spec = spec })
  | Err fault ↦ Err fault
]

-- what two texts describe, or the first fault: the table's comes first
abbrev pub asked_by : List ℕ → List ℕ → Result Asked StmtFault
asked_by table index = elim (table_of table) [
  | Ok described ↦ asked_over described index
  | Err fault ↦ Err fault
]

-- what the words of a build ask for
abbrev pub asked_of : List (List ℕ) → Result Asked StmtFault
asked_of words = asked_by (table_text words) (index_text words)
