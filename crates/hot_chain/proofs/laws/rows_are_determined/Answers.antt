use Rattle.hot_chain.proofs.RootLaws.{same_rows}
use Rattle.hot_chain.proofs.laws.rows_are_determined.Goals as goal

pub returns : goal.returns
returns c = same_rows
