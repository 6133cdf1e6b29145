use Rattle.index_stmt.proofs.Texts.{tokens_count}
use Rattle.index_stmt.specs.TableStatement.{table_statement}
use Rattle.index_stmt.proofs.laws.only_tokens_count_for_a_table.Goals as goal

pub returns : goal.returns
returns c = tokens_count 1 table_statement
