-- The columns of the table that an index needs.
use Rattle.std.specs.Prelude.{◌↔◌, ℕ, List, ◌++◌, map, Contains}
use Rattle.std.specs.List.Sorted.{IsStrictlyIncreasing}
use Rattle.opclass.specs.declared.spec.IndexSpec.{IndexSpec}

-- the columns of its keys, its INCLUDE columns and the columns of its conditions
abbrev pub named_columns : IndexSpec → List ℕ
named_columns spec = (map (λ key. key.column) spec.keys ++ spec.includes) ++ map (λ cond. cond.column) spec.filter

-- each of them once, ascending
pub record EachNamedOnce (spec : IndexSpec) (columns : List ℕ) : Type 0 where
  pub ascending : IsStrictlyIncreasing columns
  pub same : (column : ℕ) → Contains columns column ↔ Contains (named_columns spec) column
