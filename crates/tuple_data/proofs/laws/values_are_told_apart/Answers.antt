use Rattle.tuple_data.proofs.OneReading.{reading_once}
use Rattle.tuple_data.proofs.laws.values_are_told_apart.Goals as goal

pub returns : goal.returns
returns c = reading_once
