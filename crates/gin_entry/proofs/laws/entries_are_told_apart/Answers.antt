use Rattle.gin_entry.proofs.EntryOrders.{entry_cmp_exact}
use Rattle.gin_entry.proofs.laws.entries_are_told_apart.Goals as goal

pub returns : goal.returns
returns c = entry_cmp_exact
