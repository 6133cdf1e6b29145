-- The causes for which a statement is refused, and the numbers by which they are told.
use Rattle.std.specs.Prelude.{ℕ}
use Rattle.index_stmt.specs.declared.fault.StmtCause.{StmtCause}
use Rattle.index_stmt.specs.declared.fault.StmtCause.TheVariants.{NoToken, Unexpected, UnknownName, UnknownType, NotAllowed, OutOfRange, Repeated}

abbrev pub number_of_cause : StmtCause → ℕ
number_of_cause NoToken = 1
number_of_cause Unexpected = 2
number_of_cause UnknownName = 3
number_of_cause UnknownType = 4
number_of_cause NotAllowed = 5
number_of_cause OutOfRange = 6
number_of_cause Repeated = 7
