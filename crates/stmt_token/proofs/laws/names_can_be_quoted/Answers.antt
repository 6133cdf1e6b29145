use Rattle.stmt_token.proofs.Names.{names_quotable}
use Rattle.stmt_token.proofs.laws.names_can_be_quoted.Goals as goal

pub returns : goal.returns
returns c = names_quotable
