use Rattle.gin_entry.proofs.Mapped.{same_map}
use Rattle.gin_entry.proofs.laws.map_is_determined.Goals as goal

pub returns : goal.returns
returns c rows a b = same_map a b
