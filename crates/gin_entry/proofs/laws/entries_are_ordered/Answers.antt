use Rattle.gin_entry.proofs.EntryOrders.{entry_cmp_total}
use Rattle.gin_entry.proofs.laws.entries_are_ordered.Goals as goal

pub returns : goal.returns
returns c = entry_cmp_total
