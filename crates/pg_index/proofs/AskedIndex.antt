-- What the words of a build ask for is an index over a table.
use Rattle.std.proofs.Common.{◌≡◌, ℕ, List, Result, Ok, Err, refl, subst}
use Rattle.opclass.specs.Indexes.{IsIndexOver}
use Rattle.opclass.specs.declared.spec.IndexSpec.{IndexSpec}
use Rattle.opclass.specs.declared.table.Table.{Table}
use Rattle.index_stmt.proofs.Indexes.{described_is}
use Rattle.index_stmt.specs.Faults.{index_of, table_of}
use Rattle.index_stmt.specs.declared.fault.StmtFault.{StmtFault}
use Rattle.pg_index.specs.Statements.{asked_of, asked_over}
use Rattle.pg_index.specs.Words.{index_text, table_text}
use Rattle.pg_index.specs.declared.statements.Asked.{Asked}

-- what is asked for where the index was read over a table
abbrev with_table : Table → Result IndexSpec StmtFault → Result Asked StmtFault
with_table table read = elim read [
  | Ok spec ↦ Ok (record { table = table; spec = spec })
  | Err fault ↦ Err fault
]

read_over : (table : Table) (text : List ℕ) (asked : Asked) (read : Result IndexSpec StmtFault)
    → index_of table text ≡ read → with_table table read ≡ Ok asked → IsIndexOver asked.table asked.spec
read_over table text asked (Err fault) is e = cc
read_over table text asked (Ok spec) is e =
    let made : Asked = record { table = table; spec = spec } in
    let same : made ≡ asked = cc in
    subst (λ (it : Asked). IsIndexOver it.table it.spec) same (described_is table text spec is)

-- and where the table was read
abbrev with_index : List ℕ → Result Table StmtFault → Result Asked StmtFault
with_index index read = elim read [
  | Ok described ↦ asked_over described index
  | Err fault ↦ Err fault
]

read_by : (index : List ℕ) (asked : Asked) (read : Result Table StmtFault) → with_index index read ≡ Ok asked
    → IsIndexOver asked.table asked.spec
read_by index asked (Err fault) e = cc
read_by index asked (Ok described) e = read_over described index asked (index_of described index) refl e

pub asked_is : (words : List (List ℕ)) (asked : Asked) → asked_of words ≡ Ok asked → IsIndexOver asked.table asked.spec
asked_is words asked e = read_by (index_text words) asked (table_of (table_text words)) e
