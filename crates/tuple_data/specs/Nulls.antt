-- What the header of an index tuple says of its values (index_form_tuple of indextuple.c).
use Rattle.std.specs.Prelude.{ℕ, ◌+◌, ◌*◌, Bool, true, false, not, ◌&&◌, ◌||◌, if◌then◌else◌, List, [], ◌∷◌}
use Rattle.std.specs.List.{list_any}
use Rattle.opclass.specs.declared.types.ColType.{ColType}
use Rattle.opclass.specs.declared.types.Width.{Width}
use Rattle.opclass.specs.declared.types.Width.TheVariants.{Fixed, Variable}
use Rattle.opclass.specs.declared.value.KeyVal.{KeyVal}
use Rattle.opclass.specs.declared.value.KeyVal.TheVariants.{Nil}
use Rattle.opclass.specs.Types.{facts_of}

abbrev pub is_null : KeyVal → Bool
is_null Nil = true
is_null value = false

-- some value is null
abbrev pub has_null : List KeyVal → Bool
has_null values = list_any is_null values

abbrev pub is_variable : Width → Bool
is_variable Variable = true
is_variable (Fixed width) = false

-- some column of variable width has a value
abbrev pub has_variable : List ColType → List KeyVal → Bool
has_variable [] values = false
has_variable (kind ∷ kinds) [] = false
has_variable (kind ∷ kinds) (value ∷ values) =
    (is_variable (facts_of kind).width && not (is_null value)) || has_variable kinds values

-- the null bitmap as a number: the first column has the lowest bit, which is set where its value isn't null
abbrev pub null_bits : List KeyVal → ℕ
null_bits [] = 0
null_bits (value ∷ values) = (if is_null value then 0 else 1) + 2 * null_bits values
