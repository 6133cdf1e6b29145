use Rattle.build_leader.proofs.SharedRows.{claims_share}
use Rattle.build_leader.proofs.laws.claims_share_the_rows.Goals as goal

pub returns : goal.returns
returns c = claims_share
