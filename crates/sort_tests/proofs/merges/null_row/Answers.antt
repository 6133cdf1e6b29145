use Rattle.std.proofs.Common.{arith}
use Rattle.run_merge.proofs.Rows.{null_storable}
use Rattle.sort_tests.proofs.merges.null_row.Goals as goal

pub returns : goal.returns
returns c = null_storable c.args.part _ c.in_ok-one_key.ensures c.new.ensures (omega arith, omega arith)
