use Rattle.gin_entry.proofs.EntryOrders.{columns_compare}
use Rattle.gin_entry.proofs.laws.columns_compare_as_entries.Goals as goal

pub returns : goal.returns
returns c = columns_compare
