-- The order of entries (ginCompareAttEntries of ginutil.c), and the columns by which a sort brings them into it.
use Rattle.std.specs.Prelude.{ℕ, zero, suc, pos, true, false, List, [], ◌∷◌}
use Rattle.std.specs.declared.cmp.Ordering.{Ordering}
use Rattle.std.specs.Ordering.{ordering_then, nat_cmp}
use Rattle.opclass.specs.declared.spec.SortPart.{SortPart}
use Rattle.opclass.specs.declared.value.KeyVal.{KeyVal}
use Rattle.opclass.specs.declared.value.KeyVal.TheVariants.{Nil, Num}
use Rattle.opclass.specs.Order.{column_cmp, unsaid}
use Rattle.gin_entry.specs.declared.entry.Entry.{Entry}

-- by category, and then by key
abbrev pub entry_cmp : Entry → Entry → Ordering
entry_cmp a b = ordering_then (nat_cmp a.category b.category) (column_cmp unsaid a.key b.key)

-- The column of a category: a null for that of keys, which is 0. A null takes one byte of a record where a number takes
-- nine.
abbrev pub category_column : ℕ → KeyVal
category_column zero = Nil
category_column (suc number) = Num (pos (suc number))

-- an entry as the values of two columns
abbrev pub columns_of : Entry → List KeyVal
columns_of entry = category_column entry.category ∷ entry.key ∷ []

-- how these are sorted: both ascending, a category's null first and a key's last
abbrev pub entry_order : List SortPart
entry_order = record { descending = false; nulls_first = true } ∷ unsaid ∷ []
