-- Entries of arrays and sizes of their tuples that were worked out by hand, which the definitions compute.
use Rattle.std.proofs.Common.{◌≡◌, pos, negsuc, [], ◌∷◌, refl}
use Rattle.pg_bytes.specs.Numbers.{number_bytes}
use Rattle.pg_bytes.specs.Places.{zeros}
use Rattle.opclass.specs.Norm.{norm_of}
use Rattle.opclass.specs.declared.types.ColType.TheVariants.{Int4Array}
use Rattle.opclass.specs.declared.value.Elem.TheVariants as elem
use Rattle.opclass.specs.declared.value.KeyVal.TheVariants.{Nil, Num, Raw, Items}
use Rattle.gin_entry.specs.declared.entry.Category.TheVariants.{NullKey}
use Rattle.gin_entry.specs.Entries.{entries, key_entry, placeholder}
use Rattle.gin_entry.specs.EntryOrder.{columns_of, entry_order}
use Rattle.gin_entry.specs.EntrySize.{entry_size, list_place}

-- {5,5,1}
repeated : entries (Items (elem.Num (pos 5) ∷ elem.Num (pos 5) ∷ elem.Num (pos 1) ∷ [])) ≡ key_entry (Num (pos 1)) ∷ key_entry (Num (pos 5)) ∷ []
repeated = refl

-- {}
empty : entries (Items []) ≡ record { category = 2; key = Nil } ∷ []
empty = refl

null : entries Nil ≡ record { category = 3; key = Nil } ∷ []
null = refl

-- {NULL,1}
with_null : entries (Items (elem.Null ∷ elem.Num (pos 1) ∷ [])) ≡ key_entry (Num (pos 1)) ∷ record { category = 1; key = Nil } ∷ []
with_null = refl

-- {0,-1}
negative : entries (Items (elem.Num (pos 0) ∷ elem.Num (negsuc 0) ∷ [])) ≡ key_entry (Num (negsuc 0)) ∷ key_entry (Num (pos 0)) ∷ []
negative = refl

-- {b,ba,,b}
texts : entries (Items (elem.Raw (98 ∷ []) ∷ elem.Raw (98 ∷ 97 ∷ []) ∷ elem.Raw [] ∷ elem.Raw (98 ∷ []) ∷ []))
    ≡ key_entry (Raw []) ∷ key_entry (Raw (98 ∷ [])) ∷ key_entry (Raw (98 ∷ 97 ∷ [])) ∷ []
texts = refl

-- the tuple of an int4 key, whose list begins at 16
of_number : entry_size Int4Array (key_entry (Num (pos 1))) ≡ 16
unfolding zeros number_bytes
of_number = refl

-- that of a null element, whose list begins at 18
of_null : list_place Int4Array (placeholder NullKey) ≡ 18
of_null = refl

-- the normalised key of a number's entry: 10 bytes, and so 16 with the six of a row pointer behind it
number_norm : norm_of entry_order (columns_of (key_entry (Num (pos 1)))) ≡ 0 ∷ 1 ∷ 128 ∷ 0 ∷ 0 ∷ 0 ∷ 0 ∷ 0 ∷ 0 ∷ 1 ∷ []
number_norm = refl

-- that of a null element, which stands behind all keys
null_norm : norm_of entry_order (columns_of (placeholder NullKey)) ≡ 1 ∷ 128 ∷ 0 ∷ 0 ∷ 0 ∷ 0 ∷ 0 ∷ 0 ∷ 1 ∷ 3 ∷ []
null_norm = refl
