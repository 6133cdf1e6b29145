use Rattle.gin_entry.proofs.Exact.{elements_are}
use Rattle.gin_entry.proofs.laws.elements_are_entries.Goals as goal

pub returns : goal.returns
returns c = elements_are
