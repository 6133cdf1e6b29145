use Rattle.std.proofs.Common.{rules}
use Rattle.gin_entry.proofs.Borrowed.{repeats_dropped}
use Rattle.gin_entry.proofs.extract.drop_repeats.Goals as goal

pub returns : goal.returns
returns c = repeats_dropped _ _ c.dedup_by.ensures.filtered (λ x y b f' x' y' called. search rules)
