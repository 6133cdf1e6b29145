use Rattle.stmt_token.proofs.Printed.{printed_read}
use Rattle.stmt_token.proofs.laws.tokens_are_printed.Goals as goal

pub returns : goal.returns
returns c = printed_read
