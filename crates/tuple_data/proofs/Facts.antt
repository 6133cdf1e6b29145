-- What the table of types has for each type.
use Rattle.std.proofs.Common.{refl, inl, inr}
use Rattle.opclass.specs.declared.types.ColType.{ColType}
use Rattle.opclass.specs.declared.types.ColType.TheVariants as ty
use Rattle.opclass.specs.Types.{facts_of}
use Rattle.tuple_data.specs.Datum.{IsAlignment}

one : IsAlignment 1
one = inl refl

two : IsAlignment 2
two = inr (inl refl)

four : IsAlignment 4
four = inr (inr (inl refl))

eight : IsAlignment 8
eight = inr (inr (inr refl))

pub alignment_is_known : (kind : ColType) → IsAlignment (facts_of kind).alignment
alignment_is_known ty.Bool = one
alignment_is_known ty.Int2 = two
alignment_is_known ty.Int4 = four
alignment_is_known ty.Int8 = eight
alignment_is_known ty.Oid = four
alignment_is_known ty.Date = four
alignment_is_known ty.Timestamp = eight
alignment_is_known ty.Timestamptz = eight
alignment_is_known ty.Time = eight
alignment_is_known ty.Uuid = one
alignment_is_known ty.Text = four
alignment_is_known ty.Varchar = four
alignment_is_known ty.Bytea = four
alignment_is_known ty.Float4 = four
alignment_is_known ty.Float8 = eight
alignment_is_known ty.Numeric = four
alignment_is_known ty.Bpchar = four
alignment_is_known ty.Name = one
alignment_is_known ty.Interval = eight
alignment_is_known ty.Json = four
alignment_is_known ty.Jsonb = four
alignment_is_known ty.Int4Array = four
alignment_is_known ty.Int8Array = eight
alignment_is_known ty.TextArray = four
