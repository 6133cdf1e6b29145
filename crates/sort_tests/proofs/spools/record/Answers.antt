use Rattle.std.proofs.Common.{◌≡◌, ℤ, List, [], ◌∷◌, length, arith, ap, ◌∙◌}
use Rattle.std.specs.Prelude.{FitsSigned}
use Rattle.std.specs.Int.{w64}
use Rattle.pg_bytes.specs.declared.row_ptr.RowPtr.{RowPtr}
use Rattle.opclass.specs.declared.spec.SortPart.{SortPart}
use Rattle.opclass.specs.declared.value.KeyVal.TheVariants.{Num}
use Rattle.opclass.specs.Norm.{IsKeyValue}
use Rattle.shared_tape.specs.Stored.{IsStorable, IsPointer}
use Rattle.shared_tape.proofs.Lengths.{stored_short}
use Rattle.std.proofs.lemmas.Int.{to_z-of_z}
use Rattle.std.proofs.lemmas.List.Elements.{All-cons}
use Rattle.sort_tests.proofs.spools.record.Goals as goal

one_number : (order : List SortPart) (z : ℤ) (ptr : RowPtr) → FitsSigned w64 z → IsPointer ptr → length order ≡ 1
    → IsStorable order (record { keys = Num z ∷ []; extra = []; ptr = ptr })
one_number order z ptr fits pointer one = record {
  keys = record { columns = one; each = All-cons IsKeyValue (Num z) [] fits (λ k d inside. absurd (omega arith)) };
  extra = λ k d inside. absurd (omega arith);
  pointer = pointer;
  order_fits = omega (arith, (stored_short order (record { keys = Num z ∷ []; extra = []; ptr = ptr })).0);
  extra_fits = omega (arith, (stored_short order (record { keys = Num z ∷ []; extra = []; ptr = ptr })).1);
}

pub returns : goal.returns
returns c order one =
    let fits : FitsSigned w64 c.from.result = record { sfits = c.from.type_inv } in
    let same : c.from_vec.result ≡ Num c.from.result ∷ [] =
    c.from_vec.ensures ∙ c.in_ok-keys.ensures.items ∙ ap (λ (z : ℤ). Num z ∷ []) (to_z-of_z w64 c.from.result fits) in
    rw (same, c.new.ensures)
    (one_number order c.from.result (record { block = 0; offset = c.args.offset }) fits (omega arith, omega (arith, c.ranges.offset.fits)) one)
