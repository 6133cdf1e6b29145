use Rattle.stmt_token.proofs.ReadBack.{read_back}
use Rattle.stmt_token.proofs.laws.texts_are_spelt.Goals as goal

pub returns : goal.returns
returns c = read_back
