use Rattle.gin_entry.proofs.Exact.{entries_exact}
use Rattle.gin_entry.proofs.laws.entries_are_exact.Goals as goal

pub returns : goal.returns
returns c = entries_exact
