use Rattle.index_stmt.proofs.Texts.{tokens_count}
use Rattle.index_stmt.specs.IndexStatement.{index_statement}
use Rattle.index_stmt.proofs.laws.only_tokens_count_for_an_index.Goals as goal

pub returns : goal.returns
returns c = λ table. tokens_count 2 (index_statement table)
