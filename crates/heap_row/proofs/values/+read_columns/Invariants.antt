use Rattle.std.proofs.Common.{length}
use Rattle.heap_row.proofs.values.+read_columns.Given as goal

abbrev pub decreases-read_columns : goal.decreases-read_columns
decreases-read_columns l = length l.needed.now
