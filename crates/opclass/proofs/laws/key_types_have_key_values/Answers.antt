use Rattle.opclass.proofs.KeyValues.{key_types_have_key_values}
use Rattle.opclass.proofs.laws.key_types_have_key_values.Goals as goal

pub returns : goal.returns
returns c = key_types_have_key_values
