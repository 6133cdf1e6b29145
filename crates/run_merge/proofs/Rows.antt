-- Records of one short key, as tests have them, are storable.
use Rattle.std.proofs.Common.{◌≡◌, ◌+◌, ◌≤◌, ℤ, [], ◌∷◌, length, sym, ap, subst, arith, All, sum_by, FitsSigned}
use Rattle.std.specs.Int.{w64}
use Rattle.std.proofs.lemmas.List.Elements.{All-nil, All-cons}
use Rattle.opclass.specs.declared.spec.SortPart.{SortPart}
use Rattle.opclass.specs.declared.value.KeyVal.{KeyVal}
use Rattle.opclass.specs.declared.value.KeyVal.TheVariants.{Nil, Num}
use Rattle.opclass.specs.Norm.{IsKeyValue}
use Rattle.shared_tape.specs.declared.stored.Record.{Record}
use Rattle.shared_tape.specs.Laws.{value_room}
use Rattle.shared_tape.specs.Stored.{IsPointer, IsStorable}
use Rattle.shared_tape.proofs.Lengths.{stored_short}

one_key_storable : (part : SortPart) (key : KeyVal) (row : Record) → IsKeyValue key → value_room key ≤ 100
    → row.keys ≡ key ∷ [] → row.extra ≡ [] → IsPointer row.ptr
    → IsStorable (part ∷ []) row
one_key_storable part key row is_key short keys extra pointer =
    let bytes = stored_short (part ∷ []) row in
    let room : sum_by value_room row.keys ≡ 0 + value_room key = ap (sum_by value_room) keys in
    let none : sum_by value_room row.extra ≡ 0 = ap (sum_by value_room) extra in record {
      keys = record {
        columns = sym (ap length keys);
        each = subst (All IsKeyValue) (sym keys) (All-cons IsKeyValue key [] is_key (All-nil IsKeyValue));
      };
      extra = subst (All IsKeyValue) (sym extra) (All-nil IsKeyValue);
      pointer = pointer;
      order_fits = omega (arith, bytes.0, room);
      extra_fits = omega (arith, bytes.1, none);
    }

pub number_storable : (part : SortPart) (number : ℤ) (row : Record) → FitsSigned w64 number
    → row.keys ≡ Num number ∷ [] → row.extra ≡ [] → IsPointer row.ptr
    → IsStorable (part ∷ []) row
number_storable part number row fits keys extra pointer = one_key_storable part (Num number) row fits (omega arith)
    keys extra pointer

pub null_storable : (part : SortPart) (row : Record) → row.keys ≡ Nil ∷ [] → row.extra ≡ [] → IsPointer row.ptr
    → IsStorable (part ∷ []) row
null_storable part row keys extra pointer = one_key_storable part Nil row tt (omega arith) keys extra pointer
