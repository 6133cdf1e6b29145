use Rattle.stmt_token.proofs.Spelt.{blanks_nothing}
use Rattle.stmt_token.proofs.laws.blanks_dont_count.Goals as goal

pub returns : goal.returns
returns c = blanks_nothing
