use Rattle.brin_summary.proofs.Pointers.{on-page-is}
use Rattle.brin_summary.proofs.revmap.items_from.Goals as goal

pub returns : goal.returns
returns c = on-page-is c.args.pointers.now c.args.first c.min-from.result c.min.result c.min-from.ensures c.min.ensures
