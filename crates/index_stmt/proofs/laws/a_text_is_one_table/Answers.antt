use Rattle.index_stmt.proofs.Texts.{comes}
use Rattle.index_stmt.specs.Faults.{table_of}
use Rattle.index_stmt.proofs.laws.a_text_is_one_table.Goals as goal

pub returns : goal.returns
returns c = comes table_of
