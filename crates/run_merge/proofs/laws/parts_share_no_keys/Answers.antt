use Rattle.run_merge.proofs.KeyCuts.{keys_apart}
use Rattle.run_merge.proofs.laws.parts_share_no_keys.Goals as goal

pub returns : goal.returns
returns c = keys_apart
