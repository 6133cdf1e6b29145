use Rattle.std.proofs.Common.{length}
use Rattle.brin_summary.proofs.summary.+join_columns.Given as goal

abbrev pub decreases-join_columns : goal.decreases-join_columns
decreases-join_columns l = length l.other_nulls.now
