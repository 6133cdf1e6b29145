use Rattle.pg_bytes.proofs.ItemReading.{items-read}
use Rattle.pg_bytes.proofs.laws.items_are_read.Goals as goal

pub returns : goal.returns
returns c = items-read
