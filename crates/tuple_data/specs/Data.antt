-- The data of a tuple (heap_fill_tuple of heaptuple.c): the values of its columns, one behind the other.
use Rattle.std.specs.Prelude.{ℕ, ◌+◌, List, [], ◌∷◌, ◌++◌, length}
use Rattle.opclass.specs.declared.types.ColType.{ColType}
use Rattle.opclass.specs.declared.value.KeyVal.{KeyVal}
use Rattle.tuple_data.specs.Datum.{piece_at}

-- the values from a place on, counted from where the data begin
abbrev pub data_from : ℕ → List ColType → List KeyVal → List ℕ
data_from place [] values = []
data_from place (kind ∷ kinds) [] = []
data_from place (kind ∷ kinds) (value ∷ values) =
    piece_at place kind value ++ data_from (place + length (piece_at place kind value)) kinds values

abbrev pub data_of : List ColType → List KeyVal → List ℕ
data_of kinds values = data_from 0 kinds values
