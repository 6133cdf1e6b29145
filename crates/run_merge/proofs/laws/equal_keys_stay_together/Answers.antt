use Rattle.run_merge.proofs.KeyCuts.{equal_together}
use Rattle.run_merge.proofs.laws.equal_keys_stay_together.Goals as goal

pub returns : goal.returns
returns c = equal_together
