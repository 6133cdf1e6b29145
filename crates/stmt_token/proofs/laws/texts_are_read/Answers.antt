use Rattle.stmt_token.proofs.Spelt.{texts_read}
use Rattle.stmt_token.proofs.laws.texts_are_read.Goals as goal

pub returns : goal.returns
returns c = texts_read
