use Rattle.gin_file.proofs.OneMap.{map-once}
use Rattle.gin_file.proofs.laws.files_are_read_as_one_map.Goals as goal

pub returns : goal.returns
returns c = map-once
