use Rattle.std.proofs.Common.{length, arith}
use Rattle.heap_row.proofs.ReadValues.{are_read}
use Rattle.heap_row.proofs.laws.values_are_of_their_types.Goals as goal

pub returns : goal.returns
returns c tuple columns needed values are_bytes are read = are_read tuple columns (length tuple.body) needed values are_bytes (omega arith) are read
