use Rattle.std.proofs.Common.{◌∙◌, ℕ, ℤ, pos, List, length, MatchOption, sym, subst, ap, rules}
use Rattle.std.specs.Int.{w64}
use Rattle.std.proofs.lemmas.Int.{to_z-of_z}
use Rattle.opclass.specs.declared.types.Form.{Form}
use Rattle.opclass.specs.declared.types.Form.TheVariants.{Truth, Signed, Unsigned}
use Rattle.opclass.specs.declared.types.Width.TheVariants.{Fixed}
use Rattle.tuple_data.specs.Reading.{IsFit}
use Rattle.tuple_data.proofs.ReadNumber.{IsNotIn, IsNumberIn, are_bytes, signed_read, unsigned_read, truth_answer}
use Rattle.tuple_data.proofs.number.number_of.Goals as goal

pub returns-in-Signed : goal.returns-in-Signed
returns-in-Signed c =
    let bytes : List ℕ = c.args.bytes.now in
    let fit : IsFit Signed (Fixed (length bytes)) = subst (λ (form : Form). IsFit form (Fixed (length bytes))) c.in-Signed.is c.requires in
    subst (IsNumberIn c.args.form bytes) (sym (to_z-of_z w64 c.signed_of.result (search rules)))
    (subst (λ (form : Form). IsNumberIn form bytes c.signed_of.result) (sym c.in-Signed.is)
    (signed_read bytes c.signed_of.result (are_bytes bytes (λ k. (c.type_inv.bytes k).fits)) fit c.signed_of.ensures))

pub returns-in-Unsigned : goal.returns-in-Unsigned
returns-in-Unsigned c =
    let bytes : List ℕ = c.args.bytes.now in
    let fit : IsFit Unsigned (Fixed (length bytes)) = subst (λ (form : Form). IsFit form (Fixed (length bytes))) c.in-Unsigned.is c.requires in
    subst (IsNumberIn c.args.form bytes) (sym (to_z-of_z w64 c.from.result (search rules)))
    (subst (λ (form : Form). IsNumberIn form bytes c.from.result) (sym c.in-Unsigned.is)
    (unsigned_read bytes c.from.result (are_bytes bytes (λ k. (c.type_inv.bytes k).fits)) fit (c.from.ensures ∙ ap pos c.read_u32.ensures)))

pub returns-in-Truth : goal.returns-in-Truth
returns-in-Truth c =
    let bytes : List ℕ = c.args.bytes.now in
    let fit : IsFit Truth (Fixed (length bytes)) = subst (λ (form : Form). IsFit form (Fixed (length bytes))) c.in-Truth.is c.requires in
    subst (λ (form : Form). MatchOption c.truth_of.result ((number : ℤ) → IsNotIn form bytes number) (IsNumberIn form bytes)) (sym c.in-Truth.is)
    (truth_answer bytes c.truth_of.result (are_bytes bytes (λ k. (c.type_inv.bytes k).fits)) fit c.truth_of.ensures)
