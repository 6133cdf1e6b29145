use Rattle.gin_entry.proofs.Exact.{entries_determined}
use Rattle.gin_entry.proofs.laws.entries_are_determined.Goals as goal

pub returns : goal.returns
returns c = entries_determined
