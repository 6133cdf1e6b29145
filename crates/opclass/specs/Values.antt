-- Which values the columns of a type have.
use Rattle.std.specs.Prelude.{◌≡◌, ◌⊎◌, ℕ, ◌-◌, ◌*◌, ◌^◌, ◌<◌, ℤ, pos, neg_ℤ, ◌≤ℤ◌, ◌<ℤ◌, ⊤, List, length, All}
use Rattle.opclass.specs.declared.types.ColType.{ColType}
use Rattle.opclass.specs.declared.types.Width.{Width}
use Rattle.opclass.specs.declared.types.Width.TheVariants.{Fixed, Variable}
use Rattle.opclass.specs.declared.types.Form.{Form}
use Rattle.opclass.specs.declared.types.Form.TheVariants as form
use Rattle.opclass.specs.declared.value.Elem.{Elem}
use Rattle.opclass.specs.declared.value.Elem.TheVariants as elem
use Rattle.opclass.specs.declared.value.KeyVal.{KeyVal}
use Rattle.opclass.specs.declared.value.KeyVal.TheVariants.{Nil, Num, Raw, Items}
use Rattle.opclass.specs.Types.{facts_of}

-- a number of this form and width
abbrev pub IsNumberOf : Form → Width → ℤ → Type 0
IsNumberOf form.Truth width number = (number ≡ pos 0) ⊎ (number ≡ pos 1)
IsNumberOf form.Signed (Fixed bytes) number =
    (neg_ℤ (pos (2 ^ (8 * bytes - 1))) ≤ℤ number) × (number <ℤ pos (2 ^ (8 * bytes - 1)))
IsNumberOf form.Unsigned (Fixed bytes) number = (pos 0 ≤ℤ number) × (number <ℤ pos (2 ^ (8 * bytes)))
IsNumberOf other width number = ⊥

-- as many bytes as a fixed type has
abbrev pub IsAsWide : Width → List ℕ → Type 0
IsAsWide (Fixed width) bytes = length bytes ≡ width
IsAsWide Variable bytes = ⊤

-- bytes of this form and width
abbrev pub IsBytesOf : Form → Width → List ℕ → Type 0
IsBytesOf form.Bytes width bytes = All (λ byte. byte < 256) bytes × IsAsWide width bytes
IsBytesOf other width bytes = ⊥

-- an element of an array of a type
abbrev pub IsElementOf : ColType → Elem → Type 0
IsElementOf kind elem.Null = ⊤
IsElementOf kind (elem.Num number) = IsNumberOf (facts_of kind).form (facts_of kind).width number
IsElementOf kind (elem.Raw bytes) = IsBytesOf (facts_of kind).form (facts_of kind).width bytes

-- an array of this form
abbrev pub IsArrayOf : Form → List Elem → Type 0
IsArrayOf (form.Array element) elements = All (IsElementOf element) elements
IsArrayOf other elements = ⊥

-- a value that a column of this type has
abbrev pub IsValueOf : ColType → KeyVal → Type 0
IsValueOf kind Nil = ⊤
IsValueOf kind (Num number) = IsNumberOf (facts_of kind).form (facts_of kind).width number
IsValueOf kind (Raw bytes) = IsBytesOf (facts_of kind).form (facts_of kind).width bytes
IsValueOf kind (Items elements) = IsArrayOf (facts_of kind).form elements
