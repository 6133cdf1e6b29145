use Rattle.std.proofs.Common.{◌++◌, length, ap, ◌∙◌, zero-add}
use Rattle.tuple_data.specs.Data.{data_from, data_of}
use Rattle.tuple_data.proofs.Columns.{columns_behind}
use Rattle.tuple_data.proofs.laws.columns_behind_follow.Goals as goal

pub returns : goal.returns
returns c kinds more_kinds values more_values same =
    columns_behind 0 kinds more_kinds values more_values same
    ∙ ap (λ place. data_of kinds values ++ data_from place more_kinds more_values) (zero-add (length (data_of kinds values)))
