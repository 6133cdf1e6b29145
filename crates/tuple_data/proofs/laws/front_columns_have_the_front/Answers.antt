use Rattle.tuple_data.proofs.Columns.{front_columns}
use Rattle.tuple_data.proofs.laws.front_columns_have_the_front.Goals as goal

pub returns : goal.returns
returns c = front_columns 0
