-- Tables and indexes whose names a text can spell.
use Rattle.std.specs.Prelude.{All}
use Rattle.stmt_token.specs.Spelling.{IsQuotable}
use Rattle.opclass.specs.declared.spec.IndexSpec.{IndexSpec}
use Rattle.opclass.specs.declared.table.Table.{Table}

-- the names of a table and of its columns can be quoted
pub record HasNames (table : Table) : Type 0 where
  pub own : IsQuotable table.name
  pub columns : All (λ column. IsQuotable column.name) table.columns

-- the name of an index can be quoted
pub record IsNamed (spec : IndexSpec) : Type 0 where
  pub own : IsQuotable spec.name
