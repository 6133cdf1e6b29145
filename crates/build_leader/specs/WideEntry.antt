-- Which arrays may have entries that are too large.
use Rattle.std.specs.Prelude.{◌≡◌}
use Rattle.opclass.specs.declared.types.ColType.{ColType}
use Rattle.opclass.specs.declared.types.Form.{Form}
use Rattle.opclass.specs.declared.types.Form.TheVariants as form
use Rattle.opclass.specs.declared.types.Width.TheVariants.{Variable}
use Rattle.opclass.specs.Types.{facts_of}

-- the elements of arrays of this form have no fixed width
abbrev pub AreTexts : Form → Type 0
AreTexts (form.Array element) = (facts_of element).width ≡ Variable
AreTexts other = ⊥

-- those of arrays of a type
abbrev pub HasTexts : ColType → Type 0
HasTexts kind = AreTexts (facts_of kind).form
