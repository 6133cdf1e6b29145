use Rattle.std.proofs.Common.{subst, sym}
use Rattle.opclass.specs.Needed.{EachNamedOnce}
use Rattle.opclass.proofs.NeededColumns.{each_named_once}
use Rattle.opclass.proofs.needs.needed.Goals as goal

pub returns : goal.returns
returns c =
    subst (EachNamedOnce c.args.spec.now) (sym c.from_vec.ensures)
    (each_named_once _ _ _ _ c.in_ok-columns.ensures c.sort_unstable.ensures.permutation c.sort_unstable.ensures.sorted c.dedup.ensures.filtered)
