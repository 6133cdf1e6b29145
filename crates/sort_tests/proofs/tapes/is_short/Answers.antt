use Rattle.std.proofs.lemmas.List.Elements.{All-from_get_or}
use Rattle.std.proofs.Common.{◌<◌}
use Rattle.sort_tests.proofs.tapes.is_short.Goals as goal

pub returns-clause-bytes : goal.returns-clause-bytes
returns-clause-bytes c = All-from_get_or (λ byte. byte < 256) _ 0 (λ i inside. (c.type_inv.bytes i).fits)
