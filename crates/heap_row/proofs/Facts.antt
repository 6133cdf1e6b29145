-- What the table of types has of each type.
use Rattle.std.proofs.Common.{ℕ, ◌<◌, ◌≤◌, arith}
use Rattle.std.specs.Prelude.{⊤}
use Rattle.opclass.specs.declared.types.ColType.{ColType}
use Rattle.opclass.specs.declared.types.Width.{Width}
use Rattle.opclass.specs.declared.types.Width.TheVariants.{Fixed, Variable}
use Rattle.opclass.specs.declared.types.Form.{Form}
use Rattle.opclass.specs.declared.types.Form.TheVariants.{Truth, Signed, Unsigned}
use Rattle.opclass.specs.Types.{facts_of}
use Rattle.heap_row.specs.Pass.{IsWidthOf}

-- a width of some bytes, which are as many as a value of the form has
abbrev pub IsFit : Form → Width → Type 0
IsFit form (Fixed width) = (0 < width) × IsWidthOf form width
IsFit Truth Variable = ⊥
IsFit Signed Variable = ⊥
IsFit Unsigned Variable = ⊥
IsFit form Variable = ⊤

pub widths_fit : (kind : ColType) → IsFit (facts_of kind).form (facts_of kind).width
widths_fit kind = search arith

pub alignments_fit : (kind : ColType) → (0 < (facts_of kind).alignment) × ((facts_of kind).alignment ≤ 8)
alignments_fit kind = grind arith

pub fit_positive : (form : Form) (width : ℕ) → IsFit form (Fixed width) → 0 < width
fit_positive form width fit = fit.0
