-- The values of the types that a B-tree takes as keys.
use Rattle.std.proofs.Common.{◌≡◌, inl, inr, ℕ, ◌^◌, ◌<◌, ℤ, pos, negsuc, neg_ℤ, ◌≤ℤ◌, ◌<ℤ◌, true, List, sym, arith, FitsSigned, w64}
use Rattle.std.specs.Prelude.{All}
use Rattle.std.proofs.lemmas.Int.{ints}
use mathlib.Core.Bool.{true≢false}
use Rattle.opclass.specs.declared.types.ColType.{ColType}
use Rattle.opclass.specs.declared.types.ColType.TheVariants as ty
use Rattle.opclass.specs.declared.types.Width.{Width}
use Rattle.opclass.specs.declared.types.Form.{Form}
use Rattle.opclass.specs.declared.types.Form.TheVariants as form
use Rattle.opclass.specs.declared.types.Method.TheVariants.{BTree}
use Rattle.opclass.specs.declared.value.Elem.{Elem}
use Rattle.opclass.specs.declared.value.KeyVal.{KeyVal}
use Rattle.opclass.specs.declared.value.KeyVal.TheVariants.{Nil, Num, Raw, Items}
use Rattle.opclass.specs.Types.{facts_of, takes_key}
use Rattle.opclass.specs.Values.{IsNumberOf, IsBytesOf, IsArrayOf, IsValueOf}
use Rattle.opclass.specs.Norm.{IsKeyValue}

in_range : (number : ℤ) → neg_ℤ (pos (2 ^ 63)) ≤ℤ number → number <ℤ pos (2 ^ 63) → FitsSigned w64 number
in_range (pos n) low high = record { sfits = omega (arith, ints) }
in_range (negsuc n) low high = record { sfits = omega (arith, ints) }

number_of_key : (kind : ColType) (number : ℤ) → takes_key BTree (facts_of kind).key_use ≡ true → IsNumberOf (facts_of kind).form (facts_of kind).width number
    → FitsSigned w64 number
number_of_key ty.Bool number takes (inl zero_is) = in_range number (omega (arith, ints)) (omega (arith, ints))
number_of_key ty.Bool number takes (inr one_is) = in_range number (omega (arith, ints)) (omega (arith, ints))
number_of_key ty.Int2 number takes h = in_range number (omega (arith, ints, h.0, h.1)) (omega (arith, ints, h.0, h.1))
number_of_key ty.Int4 number takes h = in_range number (omega (arith, ints, h.0, h.1)) (omega (arith, ints, h.0, h.1))
number_of_key ty.Int8 number takes h = in_range number (omega (arith, ints, h.0, h.1)) (omega (arith, ints, h.0, h.1))
number_of_key ty.Oid number takes h = in_range number (omega (arith, ints, h.0, h.1)) (omega (arith, ints, h.0, h.1))
number_of_key ty.Date number takes h = in_range number (omega (arith, ints, h.0, h.1)) (omega (arith, ints, h.0, h.1))
number_of_key ty.Timestamp number takes h = in_range number (omega (arith, ints, h.0, h.1)) (omega (arith, ints, h.0, h.1))
number_of_key ty.Timestamptz number takes h = in_range number (omega (arith, ints, h.0, h.1)) (omega (arith, ints, h.0, h.1))
number_of_key ty.Time number takes h = in_range number (omega (arith, ints, h.0, h.1)) (omega (arith, ints, h.0, h.1))
number_of_key ty.Uuid number takes h = absurd h
number_of_key ty.Text number takes h = absurd h
number_of_key ty.Varchar number takes h = absurd h
number_of_key ty.Bytea number takes h = absurd h
number_of_key ty.Float4 number takes h = absurd h
number_of_key ty.Float8 number takes h = absurd h
number_of_key ty.Numeric number takes h = absurd h
number_of_key ty.Bpchar number takes h = absurd h
number_of_key ty.Name number takes h = absurd h
number_of_key ty.Interval number takes h = absurd h
number_of_key ty.Json number takes h = absurd h
number_of_key ty.Jsonb number takes h = absurd h
number_of_key ty.Int4Array number takes h = absurd h
number_of_key ty.Int8Array number takes h = absurd h
number_of_key ty.TextArray number takes h = absurd h

bytes_of_key : (shape : Form) (width : Width) (bytes : List ℕ) → IsBytesOf shape width bytes → All (λ byte. byte < 256) bytes
bytes_of_key form.Truth width bytes h = absurd h
bytes_of_key form.Signed width bytes h = absurd h
bytes_of_key form.Unsigned width bytes h = absurd h
bytes_of_key form.Bytes width bytes h = h.0
bytes_of_key (form.Array element) width bytes h = absurd h

no_array_key : (kind : ColType) (elements : List Elem) → takes_key BTree (facts_of kind).key_use ≡ true → IsArrayOf (facts_of kind).form elements → ⊥
no_array_key ty.Bool elements takes h = absurd h
no_array_key ty.Int2 elements takes h = absurd h
no_array_key ty.Int4 elements takes h = absurd h
no_array_key ty.Int8 elements takes h = absurd h
no_array_key ty.Oid elements takes h = absurd h
no_array_key ty.Date elements takes h = absurd h
no_array_key ty.Timestamp elements takes h = absurd h
no_array_key ty.Timestamptz elements takes h = absurd h
no_array_key ty.Time elements takes h = absurd h
no_array_key ty.Uuid elements takes h = absurd h
no_array_key ty.Text elements takes h = absurd h
no_array_key ty.Varchar elements takes h = absurd h
no_array_key ty.Bytea elements takes h = absurd h
no_array_key ty.Float4 elements takes h = absurd h
no_array_key ty.Float8 elements takes h = absurd h
no_array_key ty.Numeric elements takes h = absurd h
no_array_key ty.Bpchar elements takes h = absurd h
no_array_key ty.Name elements takes h = absurd h
no_array_key ty.Interval elements takes h = absurd h
no_array_key ty.Json elements takes h = absurd h
no_array_key ty.Jsonb elements takes h = absurd h
no_array_key ty.Int4Array elements takes h = absurd (true≢false (sym takes))
no_array_key ty.Int8Array elements takes h = absurd (true≢false (sym takes))
no_array_key ty.TextArray elements takes h = absurd (true≢false (sym takes))

pub key_types_have_key_values : (kind : ColType) (value : KeyVal) → takes_key BTree (facts_of kind).key_use ≡ true → IsValueOf kind value → IsKeyValue value
key_types_have_key_values kind Nil takes h = tt
key_types_have_key_values kind (Num number) takes h = number_of_key kind number takes h
key_types_have_key_values kind (Raw bytes) takes h = bytes_of_key (facts_of kind).form (facts_of kind).width bytes h
key_types_have_key_values kind (Items elements) takes h = absurd (no_array_key kind elements takes h)
