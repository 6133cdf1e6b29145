use Rattle.std.proofs.Common.{rules}
use Rattle.shared_tape.proofs.PlaceOrder.{places_sorted, sort-ascending}
use Rattle.shared_tape.proofs.run_buf.sort.Goals as goal

pub returns-clause-ascending : goal.returns-clause-ascending
returns-clause-ascending c =
    sort-ascending _ _ _ _ (λ k. (c.type_inv.bytes k).fits) c.requires c.sort_unstable_by.ensures.permutation
    (places_sorted _ _ c.sort_unstable_by.ensures.sorted (λ a r q k. search rules))
