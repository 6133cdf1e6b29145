use Rattle.index_stmt.proofs.Texts.{comes}
use Rattle.index_stmt.specs.Faults.{index_of}
use Rattle.index_stmt.proofs.laws.a_text_is_one_index.Goals as goal

pub returns : goal.returns
returns c = λ table. comes (index_of table)
