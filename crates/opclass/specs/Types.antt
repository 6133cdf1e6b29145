-- The types of columns (pg_type.dat, pg_opclass.dat): one table of what is known of each.
use Rattle.std.specs.Prelude.{ℕ, Bool, true, false}
use Rattle.opclass.specs.declared.types.ColType.{ColType}
use Rattle.opclass.specs.declared.types.ColType.TheVariants as ty
use Rattle.opclass.specs.declared.types.Width.{Width}
use Rattle.opclass.specs.declared.types.Width.TheVariants.{Fixed, Variable}
use Rattle.opclass.specs.declared.types.Form.{Form}
use Rattle.opclass.specs.declared.types.Form.TheVariants.{Truth, Signed, Unsigned, Bytes, Array}
use Rattle.opclass.specs.declared.types.KeyUse.{KeyUse}
use Rattle.opclass.specs.declared.types.KeyUse.TheVariants.{Never, BTree, BTreeAndBrin, Gin}
use Rattle.opclass.specs.declared.types.Compared.{Compared}
use Rattle.opclass.specs.declared.types.Compared.TheVariants.{Never as WithNothing, WithTruth, WithNumber, WithText}
use Rattle.opclass.specs.declared.types.Method.{Method}
use Rattle.opclass.specs.declared.types.Method.TheVariants as method
use Rattle.opclass.specs.declared.types.TypeFacts.{TypeFacts}

-- a row of the table: whether COLLATE may stand there, the type's number, its width and alignment in bytes, what its
-- values are, which index methods take it as a key, and what WHERE compares it with
abbrev pub row : Bool → ℕ → Width → ℕ → Form → KeyUse → Compared → TypeFacts
row collated oid width alignment form key_use compared = record {
  oid = oid;
  width = width;
  alignment = alignment;
  form = form;
  key_use = key_use;
  compared = compared;
  collated = collated;
}

abbrev pub facts_of : ColType → TypeFacts
facts_of ty.Bool = row false 16 (Fixed 1) 1 Truth BTree WithTruth
facts_of ty.Int2 = row false 21 (Fixed 2) 2 Signed BTreeAndBrin WithNumber
facts_of ty.Int4 = row false 23 (Fixed 4) 4 Signed BTreeAndBrin WithNumber
facts_of ty.Int8 = row false 20 (Fixed 8) 8 Signed BTreeAndBrin WithNumber
facts_of ty.Oid = row false 26 (Fixed 4) 4 Unsigned BTreeAndBrin WithNumber
facts_of ty.Date = row false 1082 (Fixed 4) 4 Signed BTreeAndBrin WithNothing
facts_of ty.Timestamp = row false 1114 (Fixed 8) 8 Signed BTreeAndBrin WithNothing
facts_of ty.Timestamptz = row false 1184 (Fixed 8) 8 Signed BTreeAndBrin WithNothing
facts_of ty.Time = row false 1083 (Fixed 8) 8 Signed BTreeAndBrin WithNothing
facts_of ty.Uuid = row false 2950 (Fixed 16) 1 Bytes BTreeAndBrin WithNothing
facts_of ty.Text = row true 25 Variable 4 Bytes BTreeAndBrin WithText
facts_of ty.Varchar = row true 1043 Variable 4 Bytes BTreeAndBrin WithText
facts_of ty.Bytea = row false 17 Variable 4 Bytes BTreeAndBrin WithNothing
facts_of ty.Float4 = row false 700 (Fixed 4) 4 Bytes Never WithNothing
facts_of ty.Float8 = row false 701 (Fixed 8) 8 Bytes Never WithNothing
facts_of ty.Numeric = row false 1700 Variable 4 Bytes Never WithNothing
facts_of ty.Bpchar = row true 1042 Variable 4 Bytes Never WithNothing
facts_of ty.Name = row true 19 (Fixed 64) 1 Bytes Never WithNothing
facts_of ty.Interval = row false 1186 (Fixed 16) 8 Bytes Never WithNothing
facts_of ty.Json = row false 114 Variable 4 Bytes Never WithNothing
facts_of ty.Jsonb = row false 3802 Variable 4 Bytes Never WithNothing
facts_of ty.Int4Array = row false 1007 Variable 4 (Array ty.Int4) Gin WithNothing
facts_of ty.Int8Array = row false 1016 Variable 8 (Array ty.Int8) Gin WithNothing
facts_of ty.TextArray = row true 1009 Variable 4 (Array ty.Text) Gin WithNothing

-- the index method has an operator class for keys of this use
abbrev pub takes_key : Method → KeyUse → Bool
takes_key method.BTree BTree = true
takes_key method.BTree BTreeAndBrin = true
takes_key method.Brin BTreeAndBrin = true
takes_key method.Gin Gin = true
takes_key other key_use = false
