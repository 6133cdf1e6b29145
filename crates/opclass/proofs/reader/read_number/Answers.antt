use Rattle.std.proofs.Common.{◌≡◌, refl, ap, ◌∙◌, FitsSigned, w64, take, arith}
use Rattle.std.proofs.lemmas.Int.{to_z-of_z}
use Rattle.std.proofs.lemmas.Grind.{common_steps}
use Rattle.opclass.specs.Norm.{directed_bytes}
use Rattle.opclass.proofs.Fronts.{number_front}
use Rattle.opclass.proofs.reader.read_number.Goals as goal

pub returns : goal.returns
returns c =
    let fits : FitsSigned w64 c.lower.result = record { sfits = c.lower.type_inv } in
    let copied : c.copy_from_slice.new.self ≡ take 8 c.args.bytes.now = grind (arith, common_steps, c.copy_from_slice.ensures.after) in
    rw (to_z-of_z w64 c.lower.result fits)
    (number_front c.args.part c.args.bytes.now c.direct.new.bytes c.lower.result _ c.if-bytes-lt8.false (λ k. (c.type_inv.bytes k).fits)
    (c.direct.ensures ∙ ap (directed_bytes c.args.part) copied) (c.lower.ensures ∙ c.read_u64.ensures) refl)
