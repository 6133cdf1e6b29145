use Rattle.pg_bytes.proofs.ItemReading.{lowest-read}
use Rattle.pg_bytes.proofs.laws.lowest_is_read_first.Goals as goal

pub returns : goal.returns
returns c = lowest-read
